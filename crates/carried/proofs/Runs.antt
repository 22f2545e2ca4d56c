-- Inside a run of name bytes: a walk that stands in it comes to its end, unless a string opens at the run's last byte.
use mathlib.Core.Path.{◌≡◌, refl, ap, sym, ◌∙◌, subst}
use mathlib.Core.Bool.{Bool, true, false, cond, ◌||◌}
use mathlib.Core.List.{List, [], ◌∷◌}
use Prim.Native.Nat.{ℕ, zero, suc, ◌+◌, ◌-◌, ◌<◌, ◌≤◌}
use native.Mathlib.Omega.{arith}
use native.Mathlib.Nat.{not-suc-le-zero, add-zero}
use borrow.Author.Tests.{ne_eqb, eqb-true, ltb-true, ltb-false}
use lib.Dec.{eqb, ltb}
use lib.ListN.{length, get_or, take, drop, length-drop}
use lib.Seq.{drop-cons, drop-drop, get_or-drop}
use Rattle.classes.specs.Class.{in_range, is_digit, is_letter, is_name, is_space, begins_part, in_class}
use Rattle.classes.specs.Run.{run_len, run_end, all_of}
use Rattle.classes.proofs.All.{digit-name}
use Rattle.classes.proofs.Bools.{false-true, and_left, and_right}
use Rattle.classes.proofs.Runs.{run_short, run_inside, run_past, run_out, run_in, run-from}
use Rattle.gap.specs.Gap.{gap_end_of, Gap}
use Rattle.gap.proofs.Gaps.{gap-plain}
use Rattle.words.specs.Tables.{long_marks, double_marks, single_marks, marks}
use Rattle.classes.specs.Bytes.{begins}
use Rattle.words.specs.Search.{kind_of, longest, mark_of}
use Rattle.words.proofs.Above.{name-above}
use Rattle.tokens.specs.Answers.{refusal, token}
use Rattle.tokens.specs.Token.{find_token, number_token, opens_string}
use Rattle.tokens.specs.Calls.{text_limit, next_token}
use Rattle.tokens.specs.code.Found.{lexed_at}
use Rattle.tokens.specs.declared.Token.{Token}
use Rattle.tokens.proofs.Editions.{length_of, is_number, is-number}
use Rattle.tokens.proofs.Faults.{placed}
use Rattle.tokens.proofs.Steps.{name-at, no-mark, word-name, find-number, find-word, find-mark, next-clear}
use Rattle.tokens.proofs.Walks.{at_next}
use Rattle.std.specs.Prelude.{Ok, Err}

-- runs
module _ (f : ℕ → Bool) where
  run-rest : (s : List ℕ) (k : ℕ) → k ≤ run_len f s → run_len f s ≡ k + run_len f (drop k s)
  unfolding run_len
  run-rest s zero h = omega arith
  run-rest [] (suc k) h = absurd (not-suc-le-zero h)
  run-rest (a ∷ s) (suc k) h = go (f a) h (run-rest s k)
    where
      go : (b : Bool) → suc k ≤ cond b (suc (run_len f s)) 0 → (k ≤ run_len f s → run_len f s ≡ k + run_len f (drop k s)) → cond b (suc (run_len f s)) 0 ≡ suc k + run_len f (drop k s)
      go true g ih = omega (arith, ih (omega arith))
      go false g ih = absurd (not-suc-le-zero g)

  -- from a place inside a run it has the same end
  pub run-same : (text : List ℕ) (a b : ℕ) → a ≤ b → b ≤ run_end f text a → run_end f text b ≡ run_end f text a
  unfolding run_end
  run-same text a b h g =
      let d : a + (b - a) ≡ b = omega arith in
      let e = rw (drop-drop (b - a) a text, d) at (run-rest (drop a text) (b - a) (omega arith)) in
      omega arith

  run-covers : (n : ℕ) (s : List ℕ) → n ≤ length s → all_of f (take n s) ≡ true → n ≤ run_len f s
  unfolding run_len all_of
  run-covers zero s h g = omega arith
  run-covers (suc n) [] h g = absurd (not-suc-le-zero h)
  run-covers (suc n) (a ∷ s) h g =
      let i = run-covers n s (omega arith) (and_right (f a) (all_of f (take n s)) g) in
      rw (and_left (f a) (all_of f (take n s)) g) (omega arith)

  -- bytes that are all of the class are in the run
  pub all-inside : (text : List ℕ) (a e : ℕ) → a ≤ e → e ≤ length text → all_of f (take (e - a) (drop a text)) ≡ true → e ≤ run_end f text a
  unfolding run_end
  all-inside text a e h g q = omega (arith, run-covers (e - a) (drop a text) (omega (arith, length-drop a text)) q)

  run_end_lem : (text : List ℕ) (a : ℕ) → a ≤ length text → run_end f text a ≤ length text
  unfolding run_end
  run_end_lem text a h = omega (arith, run_short f (drop a text), length-drop a text)

  at-run : (text : List ℕ) (a : ℕ) → a < run_end f text a → f (get_or text a 0) ≡ true
  unfolding run_end
  at-run text a h = subst (λ (i : ℕ). f (get_or text i 0) ≡ true) (add-zero a) (rw get_or-drop at (run_inside f (drop a text) 0 (omega arith)))

  out-run : (text : List ℕ) (a : ℕ) → f (get_or text a 0) ≡ false → run_end f text a ≡ a
  out-run text a e = go (ltb a (length text)) refl
    where
      go : (b : Bool) → ltb a (length text) ≡ b → run_end f text a ≡ a
      go true q = run_out f text a (ltb-true a (length text) q) e
      go false q = run_past f text a (ltb-false a (length text) q)

-- a name byte is no other
other : (x c : ℕ) → is_name x ≡ true → is_name c ≡ false → eqb x c ≡ false
other x c h g = ne_eqb x c (λ e. false-true _ (sym g ∙ ap is_name (sym e) ∙ h))

-- what begins no gap: name bytes, and a quote
abbrev Plain : ℕ → Type 0
Plain x = (is_space x ≡ false) × (begins_part x ≡ false)

name-plain : (x : ℕ) → is_name x ≡ true → Plain x
unfolding is_space begins_part is_name is_letter is_digit in_range
name-plain x h = (rw (other x 32 h refl, other x 9 h refl, other x 10 h refl), rw (other x 47 h refl, other x 13 h refl))

quote-plain : (x : ℕ) → x ≡ 34 → Plain x
unfolding is_space begins_part
quote-plain x e = rw e (refl, refl)

quote-other : (x : ℕ) → x ≡ 34 → (is_digit x ≡ false) × (is_letter x ≡ false)
unfolding is_digit is_letter in_range
quote-other x e = rw e (refl, refl)

quote-mark : (s : List ℕ) → (mark_of (34 ∷ s)).len ≡ 0
unfolding mark_of longest marks long_marks double_marks single_marks begins
quote-mark s = refl

number-no-eof : (k : ℕ) → is_number k ≡ true → k ≡ 0 → ⊥
number-no-eof k h e = false-true _ (rw e at h)

-- the next token is a number in the run of name bytes
pub record NumberHere (ed : ℕ) (text : List ℕ) (at : ℕ) : Type 0 where
  pub kind : ℕ
  pub end : ℕ
  pub is : next_token ed text at ≡ Ok (token kind at end)
  pub other : (kind ≡ 0 → ⊥)
  pub takes : at < end
  pub named : end ≤ run_end is_name text at

-- the next token where no gap begins
module _ (ed : ℕ) (text : List ℕ) (at : ℕ) (l : length text ≤ text_limit) (h : at < length text) where
  here : Plain (get_or text at 0) → lexed_at at (find_token ed (drop at text)) ≡ next_token ed text at
  unfolding gap_end_of
  here p =
      next-clear ed text at at (sym (run_out is_space text at h p.0)) (placed text at l (omega arith)) at
      (ap (λ (g : Gap). gap_end_of g.last) (gap-plain text at h p.0 p.1))

  -- a name
  pub name-next : is_letter (get_or text at 0) ≡ true → opens_string (get_or text at 0) (get_or text (at + 1) 0) ≡ false
      → next_token ed text at ≡ Ok (token (kind_of (take (run_end is_name text at - at) (drop at text))) at (run_end is_name text at))
  unfolding in_class is_name
  name-next e q =
      sym (here (name-plain (get_or text at 0) (rw e))) ∙ sym (find-word ed text at h e) ∙ sym (word-name text at (get_or text (at + 1) 0) refl q)
      ∙ sym (name-at text at (run_end is_name text at) (kind_of (take (run_end is_name text at - at) (drop at text))) refl refl)

  -- a quote
  pub quote-next : get_or text at 0 ≡ 34 → next_token ed text at ≡ Err (refusal 5 at at)
  quote-next e =
      sym (here (quote-plain (get_or text at 0) e)) ∙ sym (find-mark ed text at h (quote-other (get_or text at 0) e).0 (quote-other (get_or text at 0) e).1)
      ∙ sym (no-mark at (mark_of (drop at text)) (mark_of (drop at text)) refl (rw (drop-cons text at 0 h, e) (quote-mark (drop (suc at) text))))

  -- a number: it takes bytes of names
  pub number-next : is_digit (get_or text at 0) ≡ true → NumberHere ed text at
  unfolding lexed_at
  number-next e =
      let n = is-number ed (drop at text) in
      let x : next_token ed text at ≡ Ok (token n.kind at (at + length_of (number_token ed (drop at text)))) =
      sym (here (name-plain (get_or text at 0) (digit-name (get_or text at 0) e))) ∙ sym (find-number ed text at h e) ∙ ap (lexed_at at) n.is in
      let m = number-no-eof n.kind n.numeral in
      let b = at_next ed text at (omega arith) (token n.kind at (at + length_of (number_token ed (drop at text)))) x m in
      let d : at + length_of (number_token ed (drop at text)) - at ≡ length_of (number_token ed (drop at text)) = omega arith in
      record {
        kind = n.kind;
        end = at + length_of (number_token ed (drop at text));
        is = x;
        other = m;
        takes = b.1;
        named = all-inside is_name text at (at + length_of (number_token ed (drop at text))) (omega arith) b.2 (rw d n.named);
      }

-- a string that opens in a run opens at its last byte
closed-by : (text : List ℕ) (a e : ℕ) → a < length text → run_end is_name text a ≡ e → is_letter (get_or text a 0) ≡ true → opens_string (get_or text a 0) (get_or text (a + 1) 0) ≡ true → get_or text e 0 ≡ 34
unfolding opens_string is_name is_letter is_digit in_range
closed-by text a e h q f o =
    let z : get_or text (a + 1) 0 ≡ 34 = eqb-true (get_or text (a + 1) 0) 34 (and_right (eqb (get_or text a 0) 120 || eqb (get_or text a 0) 98) (eqb (get_or text (a + 1) 0) 34) o) in
    let d : e ≡ a + 1 = sym q ∙ run_in is_name text a h (rw f) ∙ out-run is_name text (a + 1) (rw z) in
    ap (λ (i : ℕ). get_or text i 0) d ∙ z

letter-of : (x : ℕ) → is_name x ≡ true → is_digit x ≡ false → is_letter x ≡ true
unfolding is_name
letter-of x h d = go (is_letter x) refl (rw d at h)
  where
    go : (b : Bool) → is_letter x ≡ b → is_letter x || false ≡ true → is_letter x ≡ true
    go true e q = e
    go false e q = false-true _ (rw e at q)

-- a walk that stands at `at` comes to `to`
pub data Reaches (ed : ℕ) (text : List ℕ) (to : ℕ) : ℕ → Type 0 where
  there : Reaches ed text to to
  through : {at : ℕ} (t : Token) → at ≤ length text → next_token ed text at ≡ Ok t → (t.kind ≡ 0 → ⊥) → Reaches ed text to t.end → Reaches ed text to at

module _ (ed : ℕ) (text : List ℕ) (l : length text ≤ text_limit) where
  come : (a b : ℕ) → a ≡ b → Reaches ed text b a
  come a b e = subst (λ (x : ℕ). Reaches ed text x a) e there

  -- from every place of a run to its end e, where no quote stands there
  module _ (e : ℕ) (k : get_or text e 0 ≡ 34 → ⊥) where
    letter-reaches : (a : ℕ) → a < length text → run_end is_name text a ≡ e → is_letter (get_or text a 0) ≡ true → Reaches ed text e a
    letter-reaches a h q f = go (opens_string (get_or text a 0) (get_or text (a + 1) 0)) refl
      where
        go : (b : Bool) → opens_string (get_or text a 0) (get_or text (a + 1) 0) ≡ b → Reaches ed text e a
        go true o = absurd (k (closed-by text a e h q f o))
        go false o =
            through {at = a} (token (kind_of (take (run_end is_name text a - a) (drop a text))) a (run_end is_name text a)) (omega arith) (name-next ed text a l h f o)
            (λ z. absurd (omega (arith, name-above (take (run_end is_name text a - a) (drop a text))))) (come (run_end is_name text a) e q)

    reaches-by : (n a : ℕ) → a ≤ length text → e - a < n → run_end is_name text a ≡ e → Reaches ed text e a
    reaches-by zero a h i q = absurd (not-suc-le-zero i)
    reaches-by (suc n) a h i q = go (ltb a e) refl (λ b f g. reaches-by n b f g)
      where
        byte : (b : Bool) → is_digit (get_or text a 0) ≡ b → a < e → ((b : ℕ) → b ≤ length text → e - b < n → run_end is_name text b ≡ e → Reaches ed text e b) → Reaches ed text e a
        byte true d g ih =
            let x = number-next ed text a l (omega (arith, run_end_lem is_name text a h)) d in
            through (token x.kind a x.end) h x.is x.other
            (ih x.end (omega (arith, run_end_lem is_name text a h, x.named)) (omega (arith, x.takes)) (run-same is_name text a x.end (omega (arith, x.takes)) x.named ∙ q))
        byte false d g ih = letter-reaches a (omega (arith, run_end_lem is_name text a h)) q (letter-of (get_or text a 0) (at-run is_name text a (omega arith)) d)

        go : (b : Bool) → ltb a e ≡ b → ((b : ℕ) → b ≤ length text → e - b < n → run_end is_name text b ≡ e → Reaches ed text e b) → Reaches ed text e a
        go true g ih = byte (is_digit (get_or text a 0)) refl (ltb-true a e g) ih
        go false g ih = come a e (omega (arith, ltb-false a e g, run-from is_name text a))

    pub reaches : (a : ℕ) → a ≤ length text → run_end is_name text a ≡ e → Reaches ed text e a
    reaches a h q = reaches-by (suc (e - a)) a h (omega arith) q
