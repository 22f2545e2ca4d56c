-- Both walks over a text stand at the same place again and again: what edition 1 reads to EOF edition 2 reads too, and every start of a
-- token in edition 1 lies in a token of edition 2.
use mathlib.Core.Path.{◌≡◌, refl, ap, sym, ◌∙◌, subst}
use mathlib.Core.Bool.{Bool, true, false}
use mathlib.Core.List.{List}
use Prim.Native.Nat.{ℕ, zero, suc, ◌-◌, ◌<◌, ◌≤◌}
use native.Mathlib.Omega.{arith}
use native.Mathlib.Nat.{not-suc-le-zero}
use borrow.Author.Tests.{eqb-true, eqb-false, leb-true, ltb-true, le-leb, lt-ltb, ltb-false}
use lib.Dec.{eqb, leb, ltb}
use lib.ListN.{length, get_or, take, drop, get_or-eq_default}
use Rattle.classes.specs.Class.{is_name}
use Rattle.classes.specs.Run.{run_end, all_of}
use Rattle.classes.proofs.Bools.{false-true, and_left, and_right}
use Rattle.words.specs.Kinds.{EOF}
use Rattle.words.proofs.Above.{name-above}
use Rattle.tokens.specs.Answers.{refusal, token}
use Rattle.tokens.specs.Token.{Scanned, tok, bad, scan}
use Rattle.tokens.specs.Calls.{text_limit, place_fault, unless, next_token}
use Rattle.tokens.specs.Walk.{Listed, eof, refused, next, tokens_from, tokens_at}
use Rattle.tokens.specs.declared.Refusal.{Refusal}
use Rattle.tokens.specs.declared.Token.{Token}
use Rattle.tokens.proofs.Editions.{is_number, Longer, editions-same, editions-number}
use Rattle.tokens.proofs.Faults.{in_place_lem}
use Rattle.tokens.proofs.Lexing.{Good, Sound, lex-sound}
use Rattle.tokens.proofs.Walks.{at_next, at-eof, at-refused}
use Rattle.starts.specs.Allowed.{TokenOf, last, first, in_rest}
use Rattle.carried.specs.Carry.{refusal_of, covers}
use Rattle.carried.specs.Promised.{ToEOF}
use Rattle.carried.proofs.Walked.{stands, scan-found, scan-refused}
use Rattle.carried.proofs.Partings.{Parts, scan-parts}
use Rattle.carried.proofs.Runs.{run-same, all-inside, name-next, quote-next, Reaches, there, through, reaches}
use Rattle.std.specs.Prelude.{Result, Ok, Err, ⊤}

pub covers-in : (t : Token) (x : ℕ) → covers t x ≡ true → (t.start ≤ x) × (x < t.end)
unfolding covers
covers-in t x h = (leb-true t.start x (and_left (leb t.start x) (ltb x t.end) h), ltb-true x t.end (and_right (leb t.start x) (ltb x t.end) h))

pub covers-is : (t : Token) (x : ℕ) → t.start ≤ x → x < t.end → covers t x ≡ true
unfolding covers
covers-is t x h g = rw (le-leb t.start x h, lt-ltb x t.end g)

-- a list that ends with a refusal does not end at EOF
pub no-refusal : (l : Listed) (r : Refusal) → l ≡ refused r → ToEOF l → ⊥
unfolding refusal_of
no-refusal l r e h = let f : Err r ≡ (Ok tt) = sym (ap refusal_of e) ∙ h in let z : ◌≡◌ {A = ℕ} 0 1 = cc in omega arith

-- the new list ends at EOF, and each start of the old one lies in a token of it
pub record Pair (old new : Listed) : Type 0 where
  pub whole : ToEOF new
  pub covered : ((t : Token) → TokenOf t old → (t.kind ≡ EOF → ⊥) → (u : Token) × TokenOf u new × (covers u t.start ≡ true))

module _ (t : Token) where
  pair-eof : t.kind ≡ EOF → Pair (eof t) (eof t)
  unfolding refusal_of
  pair-eof z = record { whole = refl; covered = go }
    where
      go : (v : Token) → TokenOf v (eof t) → (v.kind ≡ EOF → ⊥) → (u : Token) × TokenOf u (eof t) × (covers u v.start ≡ true)
      go v last n = absurd (n z)

  module _ (u : Token) (old new : Listed) (h : covers u t.start ≡ true) where
    -- one token in both
    pair-next : Pair old new → Pair (next t old) (next u new)
    unfolding refusal_of
    pair-next p = record { whole = p.whole; covered = go }
      where
        go : (v : Token) → TokenOf v (next t old) → (v.kind ≡ EOF → ⊥) → (w : Token) × TokenOf w (next u new) × (covers w v.start ≡ true)
        go v first n = (u, first, h)
        go v (in_rest m) n = let c = p.covered v m n in (c.0, in_rest c.1, c.2)

    -- one more of edition 1
    pair-old : Pair old (next u new) → Pair (next t old) (next u new)
    unfolding refusal_of
    pair-old p = record { whole = p.whole; covered = go }
      where
        go : (v : Token) → TokenOf v (next t old) → (v.kind ≡ EOF → ⊥) → (w : Token) × TokenOf w (next u new) × (covers w v.start ≡ true)
        go v first n = (u, first, h)
        go v (in_rest m) n = p.covered v m n

  -- one more of edition 2
  pair-new : (old new : Listed) → Pair old new → Pair old (next t new)
  unfolding refusal_of
  pair-new old new p = record { whole = p.whole; covered = λ v m n. let c = p.covered v m n in (c.0, in_rest c.1, c.2) }

module _ (text : List ℕ) where
  reach-pair : (old : Listed) (e a : ℕ) → Reaches 2 text e a → Pair old (tokens_at 2 text e) → Pair old (tokens_at 2 text a)
  reach-pair old e a there p = p
  reach-pair old e a (through t h q n r) p = rw (at_next 2 text a h t q n).0 (pair-new t old (tokens_at 2 text t.end) (reach-pair old e t.end r p))

-- both walks from p on
module _ (text : List ℕ) (l : length text ≤ text_limit) where
  abbrev From : ℕ → Type 0
  From p = ToEOF (tokens_at 1 text p) → Pair (tokens_at 1 text p) (tokens_at 2 text p)

  -- where a letter stands that opens no string: in edition 1 a name follows, to the end of the run, and no quote stands there
  record Name (b : ℕ) : Type 0 where
    pub name : Token
    pub start : name.start ≡ b
    pub next : tokens_at 1 text b ≡ Listed.next name (tokens_at 1 text (run_end is_name text b))
    pub whole : ToEOF (tokens_at 1 text (run_end is_name text b))
    pub quote : (get_or text (run_end is_name text b) 0 ≡ 34 → ⊥)
    pub takes : b < run_end is_name text b
    pub within : run_end is_name text b ≤ length text

  quote-refused : (e : ℕ) → ToEOF (tokens_at 1 text e) → get_or text e 0 ≡ 34 → ⊥
  quote-refused e f q = go (ltb e (length text)) refl
    where
      go : (v : Bool) → ltb e (length text) ≡ v → ⊥
      go true i =
          let j = ltb-true e (length text) i in
          no-refusal (tokens_at 1 text e) (refusal 5 e e) (at-refused 1 text e (omega arith) (refusal 5 e e) (quote-next 1 text e l j q)) f
      go false i = omega (arith, sym q ∙ get_or-eq_default text 0 (ltb-false e (length text) i))

  follows : (b : ℕ) → b < length text → Parts text b → ToEOF (tokens_at 1 text b) → Name b
  unfolding refusal_of
  follows b h c e =
      let n = name-next 1 text b l h c.0 c.1 in
      let x = at_next 1 text b (omega arith) _ n (λ z. absurd (omega (arith, name-above (take (run_end is_name text b - b) (drop b text))))) in
      let f : ToEOF (tokens_at 1 text (run_end is_name text b)) = rw x.0 at e in
      record { name = _; start = refl; next = x.0; whole = f; quote = quote-refused (run_end is_name text b) f; takes = x.1; within = x.2 }

  module _ (p : ℕ) (h : p ≤ length text) (k a b : ℕ) (w r : List ℕ) (q : scan 1 p (drop p text) ≡ tok k a b w r) where
    old : next_token 1 text p ≡ Ok (token k a b)
    old = scan-found 1 text p l h k a b w r q

    same : is_number k ≡ false → next_token 2 text p ≡ Ok (token k a b)
    same n = scan-found 2 text p l h k a b w r (editions-same p (drop p text) k a b w r q n)

    eof-pair : k ≡ 0 → From p
    eof-pair z e = rw (at-eof 1 text p h (token k a b) old z, at-eof 2 text p h (token k a b) (same (rw z refl)) z) (pair-eof (token k a b) z)

    module _ (z : k ≡ 0 → ⊥) where
      rest-whole : ToEOF (tokens_at 1 text p) → ToEOF (tokens_at 1 text b)
      unfolding refusal_of
      rest-whole e = rw (at_next 1 text p h (token k a b) old z).0 at e

      -- a token that is no number
      same-pair : is_number k ≡ false → From b → From p
      same-pair n ih e =
          let x = at_next 1 text p h (token k a b) old z in
          let y = at_next 2 text p h (token k a b) (same n) z in
          let s = stands 1 text p (token k a b) old in
          rw (x.0, y.0)
          (pair-next (token k a b) (token k a b) (tokens_at 1 text b) (tokens_at 2 text b) (covers-is (token k a b) a (omega arith) (s.good.takes (omega arith))) (ih (rest-whole e)))

      -- a number
      module _ (g : Longer a b (scan 2 p (drop p text))) where
        new : next_token 2 text p ≡ Ok (token g.kind a g.end)
        new = scan-found 2 text p l h g.kind a g.end g.word g.rest g.is

        no-eof : g.kind ≡ 0 → ⊥
        no-eof e = false-true _ (rw e at g.numeral)

        cover : (x : ℕ) → a ≤ x → x < g.end → covers (token g.kind a g.end) x ≡ true
        cover x i j = covers-is (token g.kind a g.end) x i j

        -- as long in both
        equal-pair : g.end ≡ b → From b → From p
        equal-pair d ih e =
            let x = at_next 1 text p h (token k a b) old z in
            let y = at_next 2 text p h (token g.kind a g.end) new no-eof in
            let s = stands 1 text p (token k a b) old in
            rw (x.0, y.0, d)
            (pair-next (token k a b) (token g.kind a b) (tokens_at 1 text b) (tokens_at 2 text b) (covers-is (token g.kind a b) a (omega arith) (s.good.takes (omega arith))) (ih (rest-whole e)))

        -- longer in edition 2
        longer-pair : b < g.end → From (run_end is_name text b) → From p
        longer-pair d ih e =
            let x = at_next 1 text p h (token k a b) old z in
            let y = at_next 2 text p h (token g.kind a g.end) new no-eof in
            let s = (stands 1 text p (token k a b) old).good in
            let v : Good text p g.kind a g.end g.word g.rest = subst (Sound text p) g.is (lex-sound 2 text p h) in
            let i : g.end ≤ run_end is_name text a = all-inside is_name text a g.end v.ordered v.within (ap (all_of is_name) (sym v.spelled) ∙ g.named) in
            let j : run_end is_name text b ≡ run_end is_name text a = run-same is_name text a b s.ordered (omega arith) in
            let c = scan-parts text p k a b w r g.kind a g.end g.word g.rest q g.is d in
            let u : Token = token g.kind a g.end in
            let f = follows b (omega (arith, v.within)) c (rest-whole e) in
            let m = reaches 2 text l (run_end is_name text b) f.quote g.end v.within (run-same is_name text a g.end v.ordered i ∙ sym j) in
            rw (x.0, f.next, y.0)
            (pair-old (token k a b) u (next f.name (tokens_at 1 text (run_end is_name text b))) (tokens_at 2 text g.end) (cover a (omega arith) (omega (arith, s.ordered)))
            (pair-old f.name u (tokens_at 1 text (run_end is_name text b)) (tokens_at 2 text g.end) (rw f.start (cover b s.ordered d))
            (pair-new u (tokens_at 1 text (run_end is_name text b)) (tokens_at 2 text g.end)
            (reach-pair text (tokens_at 1 text (run_end is_name text b)) (run_end is_name text b) g.end m (ih f.whole)))))

  -- by the bytes that are left
  module _ (n : ℕ) (ih : (e : ℕ) → e ≤ length text → length text - e < n → From e) (p : ℕ) (h : p ≤ length text) (i : length text - p < suc n) where
    token-pair : (k a b : ℕ) (w r : List ℕ) (q : scan 1 p (drop p text) ≡ tok k a b w r) → From p
    token-pair k a b w r q = go (eqb k 0) refl
      where
        number : (z : k ≡ 0 → ⊥) (g : Longer a b (scan 2 p (drop p text))) → p < b → b ≤ length text → (v : Bool) → ltb b g.end ≡ v → From p
        number z g x y true d e =
            let c = scan-parts text p k a b w r g.kind a g.end g.word g.rest q g.is (ltb-true b g.end d) in
            let v : Good text p g.kind a g.end g.word g.rest = subst (Sound text p) g.is (lex-sound 2 text p h) in
            let f = follows b (omega (arith, v.within, ltb-true b g.end d)) c (rest-whole p h k a b w r q z e) in
            longer-pair p h k a b w r q z g (ltb-true b g.end d) (ih (run_end is_name text b) f.within (omega (arith, f.takes, f.within))) e
        number z g x y false d e = equal-pair p h k a b w r q z g (omega (arith, ltb-false b g.end d, g.long)) (ih b y (omega arith)) e

        kinds : (z : k ≡ 0 → ⊥) → p < b → b ≤ length text → (v : Bool) → is_number k ≡ v → From p
        kinds z x y true n e = let g = editions-number p (drop p text) k a b w r q n in number z g x y (ltb b g.end) refl e
        kinds z x y false n e = same-pair p h k a b w r q z n (ih b y (omega arith)) e

        go : (v : Bool) → eqb k 0 ≡ v → From p
        go true z e = eof-pair p h k a b w r q (eqb-true k 0 z) e
        go false z e =
            let m = eqb-false k 0 z in
            let x = at_next 1 text p h (token k a b) (old p h k a b w r q) m in
            kinds m x.1 x.2 (is_number k) refl e

    pair-by : (s : Scanned) → scan 1 p (drop p text) ≡ s → From p
    pair-by (tok k a b w r) q e = token-pair k a b w r q e
    pair-by (bad r) q e = absurd (no-refusal (tokens_at 1 text p) r (at-refused 1 text p h r (scan-refused 1 text p l h r q)) e)

  together : (n p : ℕ) → p ≤ length text → length text - p < n → From p
  together zero p h i e = absurd (not-suc-le-zero i)
  together (suc n) p h i e = pair-by n (together n) p h i (scan 1 p (drop p text)) refl e

-- what is so of a text that edition 1 reads to EOF
pub read_short : (ed : ℕ) (text : List ℕ) → ToEOF (tokens_at ed text 0) → length text ≤ text_limit
unfolding tokens_at unless refusal_of
read_short ed text e = go (place_fault text 0) refl e
  where
    go : (f : Result ⊤ Refusal) → place_fault text 0 ≡ f → refusal_of (unless refused f (tokens_from ed 0 (drop 0 text))) ≡ Ok tt → length text ≤ text_limit
    go (Ok tt) q g = (in_place_lem text 0 q).0
    go (Err r) q g = let z : ◌≡◌ {A = ℕ} 0 1 = cc in absurd (omega arith)

pub read-pair : (text : List ℕ) → ToEOF (tokens_at 1 text 0) → Pair (tokens_at 1 text 0) (tokens_at 2 text 0)
read-pair text e = together text (read_short 1 text e) (suc (length text)) 0 (omega arith) (omega arith) e
