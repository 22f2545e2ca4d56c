-- The list of tokens, one token after the other. As many steps as there are bytes are enough: n bytes end within n + 1 steps.
use mathlib.Core.Path.{◌≡◌, refl, ap, sym, ◌∙◌}
use mathlib.Core.Bool.{Bool, true, false, cond}
use mathlib.Core.List.{List, []}
use Prim.Native.Nat.{ℕ, zero, suc, ◌+◌, ◌-◌, ◌<◌, ◌≤◌}
use native.Mathlib.Omega.{arith}
use native.Mathlib.Nat.{add-zero}
use borrow.Author.Tests.{eq-eqb, ne_eqb, eqb-true, eqb-false}
use lib.Dec.{eqb}
use lib.ListN.{length, drop, drop_of_length-le, length-drop}
use Rattle.gap.specs.Gap.{gap}
use Rattle.words.specs.Kinds.{EOF}
use Rattle.tokens.specs.Answers.{token}
use Rattle.tokens.specs.Token.{find_token, Scanned, tok, bad, placed, behind_gap, scan}
use Rattle.tokens.specs.Calls.{text_limit, place_fault, unless, lexed, next_token}
use Rattle.tokens.specs.Walk.{Listed, eof, refused, next, listed, walk, tokens_from, tokens_at, tokens_of, entries, Ends}
use Rattle.tokens.specs.declared.Refusal.{Refusal}
use Rattle.tokens.specs.declared.Token.{Token}
use Rattle.tokens.proofs.Lexing.{Sound, lex-sound}
use Rattle.tokens.proofs.Faults.{each-any, unless-sure, in_place_lem, admits}
use Rattle.tokens.proofs.Again.{found-fits}
use Rattle.std.specs.Prelude.{Result, Ok, Err, ⊤}

injective : {a b : Refusal} → ◌≡◌ {A = Result Token Refusal} (Err a) (Err b) → a ≡ b
injective p = cc

no-rest : (text : List ℕ) (at : ℕ) → length text - at ≤ 0 → drop at text ≡ []
no-rest text at h = drop_of_length-le text {i = at} (omega arith)

-- where no byte is left, EOF comes
module _ (ed : ℕ) where
  none_left : (p : ℕ) (f : ℕ → List ℕ → Listed) → listed (scan ed p []) f ≡ eof (token 0 p (p + 0))
  unfolding scan gap behind_gap placed find_token
  none_left p f = refl

  empty : (n at : ℕ) → walk ed n (scan ed at []) ≡ eof (token 0 at (at + 0))
  unfolding walk
  empty zero at = none_left at (λ e r. eof (token 0 e e))
  empty (suc n) at = none_left at (λ e r. walk ed n (scan ed e r))

-- lists that go on alike are alike
listed_same : (text : List ℕ) (at : ℕ) (l : Scanned) (f g : ℕ → List ℕ → Listed) → Sound text at l
    → ((e : ℕ) → at < e → e ≤ length text → f e (drop e text) ≡ g e (drop e text)) → listed l f ≡ listed l g
listed_same text at (bad r) f g h k = refl
listed_same text at (tok d s e w r) f g h k = go (eqb d 0) refl
  where
    go : (b : Bool) → eqb d 0 ≡ b → cond b (eof (token d s e)) (next (token d s e) (f e r)) ≡ cond b (eof (token d s e)) (next (token d s e) (g e r))
    go true q = refl
    go false q =
        let t : s < e = h.takes (omega (arith, eqb-false d 0 q)) in
        rw h.behind (ap (next (token d s e)) (k e (omega (arith, h.from)) h.within))

module _ (ed : ℕ) (text : List ℕ) where
  enough : (n m at : ℕ) → at ≤ length text → length text - at ≤ n → length text - at ≤ m → walk ed n (scan ed at (drop at text)) ≡ walk ed m (scan ed at (drop at text))
  unfolding walk
  enough zero m at h i j = rw (no-rest text at i) (empty ed zero at ∙ sym (empty ed m at))
  enough (suc n) zero at h i j = rw (no-rest text at j) (empty ed (suc n) at ∙ sym (empty ed zero at))
  enough (suc n) (suc m) at h i j =
      listed_same text at (scan ed at (drop at text)) (λ e r. walk ed n (scan ed e r)) (λ e r. walk ed m (scan ed e r)) (lex-sound ed text at h)
      (λ e f g. enough n m e g (omega arith) (omega arith))

  pub walk_ends : (n at : ℕ) → at ≤ length text → length text - at ≤ n → walk ed n (scan ed at (drop at text)) ≡ tokens_from ed at (drop at text)
  unfolding tokens_from
  walk_ends n at h i = enough n (length (drop at text)) at h i (omega (arith, length-drop at text))

-- the list from an offset on, by the token call's answer there
module _ (ed : ℕ) (text : List ℕ) (at : ℕ) (h : at ≤ length text) where
  scanned : length text ≤ text_limit → next_token ed text at ≡ lexed (scan ed at (drop at text))
  unfolding next_token
  scanned g = admits text at Err _ g h

  admitted-list : length text ≤ text_limit → tokens_at ed text at ≡ tokens_from ed at (drop at text)
  unfolding tokens_at
  admitted-list g = admits text at refused _ g h

  listing : length text ≤ text_limit → tokens_at ed text at ≡ walk ed (suc (length text)) (scan ed at (drop at text))
  listing g = admitted-list g ∙ sym (walk_ends ed text (suc (length text)) at h (omega arith))

  refused-by : (r : Refusal) (l : Scanned) (n : ℕ) → lexed l ≡ Err r → walk ed (suc n) l ≡ refused r
  unfolding lexed walk
  refused-by r (tok k s e w u) n q = let z : ◌≡◌ {A = ℕ} 0 1 = cc in absurd (omega arith)
  refused-by r (bad u) n q = let v : u ≡ r = cc in ap refused v

  pub at-refused : (r : Refusal) → next_token ed text at ≡ Err r → tokens_at ed text at ≡ refused r
  unfolding tokens_at next_token unless
  at-refused r e = go (place_fault text at) refl e
    where
      go : (f : Result ⊤ Refusal) → place_fault text at ≡ f → unless Err f (lexed (scan ed at (drop at text))) ≡ Err r → unless refused f (tokens_from ed at (drop at text)) ≡ refused r
      go (Err q) i e = ap refused (injective e)
      go (Ok tt) i e =
          let g = (in_place_lem text at i).0 in
          sym (admitted-list g) ∙ listing g ∙ refused-by r (scan ed at (drop at text)) (length text) e

  found-short : (t : Token) → next_token ed text at ≡ Ok t → length text ≤ text_limit
  found-short t e = (found-fits ed text at t e).0

  eof-by : (t : Token) (l : Scanned) (n : ℕ) → lexed l ≡ Ok t → t.kind ≡ 0 → walk ed (suc n) l ≡ eof t
  unfolding lexed walk
  eof-by t (tok k s e w u) n q z =
      let v : token k s e ≡ t = cc in
      let d : k ≡ 0 = ap (λ (x : Token). x.kind) v ∙ z in
      rw (eq-eqb k 0 d) (ap eof v)
  eof-by t (bad u) n q z = let y : ◌≡◌ {A = ℕ} 0 1 = cc in absurd (omega arith)

  pub at-eof : (t : Token) → next_token ed text at ≡ Ok t → t.kind ≡ 0 → tokens_at ed text at ≡ eof t
  at-eof t e z =
      let g = found-short t e in
      listing g ∙ eof-by t (scan ed at (drop at text)) (length text) (sym (scanned g) ∙ e) z

  next-by : (t : Token) (l : Scanned) (n : ℕ) → lexed l ≡ Ok t → (t.kind ≡ 0 → ⊥) → Sound text at l
      → (walk ed (suc n) l ≡ next t (walk ed n (scan ed t.end (drop t.end text)))) × (at < t.end) × (t.end ≤ length text)
  unfolding lexed walk
  next-by t (tok k s e w u) n q z m =
      let v : token k s e ≡ t = cc in
      let d : k ≡ 0 → ⊥ = λ p. z (sym (ap (λ (x : Token). x.kind) v) ∙ p) in
      let f : e ≡ t.end = ap (λ (x : Token). x.end) v in
      let y : s < e = m.takes (omega arith) in
      (rw (ne_eqb k 0 d, m.behind) (ap (λ (x : Token). next x (walk ed n (scan ed x.end (drop x.end text)))) v), omega (arith, m.from), omega (arith, m.within))
  next-by t (bad u) n q z m = let y : ◌≡◌ {A = ℕ} 0 1 = cc in absurd (omega arith)

pub at_next : (ed : ℕ) (text : List ℕ) (at : ℕ) → at ≤ length text → (t : Token) → next_token ed text at ≡ Ok t → (t.kind ≡ 0 → ⊥)
    → (tokens_at ed text at ≡ next t (tokens_at ed text t.end)) × (at < t.end) × (t.end ≤ length text) × (length text ≤ text_limit)
at_next ed text at h t e z =
    let g = found-short ed text at h t e in
    let r = next-by ed text at h t (scan ed at (drop at text)) (length text) (sym (scanned ed text at h g) ∙ e) z (lex-sound ed text at h) in
    (listing ed text at h g ∙ r.0 ∙ ap (next t) (walk_ends ed text (length text) t.end r.2 (omega arith) ∙ sym (admitted-list ed text t.end r.2 g)), r.1, r.2, g)

-- every token but EOF takes a byte: from `at` on at most as many entries as there are bytes left, and one more; the last is EOF at
-- the text's end, or a refusal
abbrev Ended : List ℕ → ℕ → Listed → Type 0
Ended text at l = (entries l ≤ suc (length text - at)) × Ends (length text) l

eof-at : (at n : ℕ) → at ≡ n → token EOF at (at + 0) ≡ token EOF n n
eof-at at n e = rw (add-zero at, e) refl

module _ (text : List ℕ) where
  listed-ended : (at : ℕ) (l : Scanned) (f : ℕ → List ℕ → Listed) → Sound text at l
      → ((e : ℕ) → at < e → e ≤ length text → Ended text e (f e (drop e text))) → Ended text at (listed l f)
  unfolding entries Ends
  listed-ended at (bad r) f h k = (omega arith, tt)
  listed-ended at (tok d s e w r) f h k = go (eqb d 0) refl
    where
      go : (b : Bool) → eqb d 0 ≡ b → Ended text at (cond b (eof (token d s e)) (next (token d s e) (f e r)))
      go true q =
          let z : d ≡ 0 = eqb-true d 0 q in
          let l = h.last z in
          (omega arith, rw (z, l.0, l.1) refl)
      go false q =
          let t : s < e = h.takes (omega (arith, eqb-false d 0 q)) in
          let g : Ended text e (f e r) = rw h.behind (k e (omega (arith, h.from)) h.within) in
          (omega (arith, g.0, h.from, h.within), g.1)

module _ (ed : ℕ) (text : List ℕ) where
  walk-ended : (n at : ℕ) → at ≤ length text → length text - at ≤ n → Ended text at (walk ed n (scan ed at (drop at text)))
  unfolding walk entries Ends
  walk-ended zero at h i = rw (no-rest text at i, empty ed zero at) (omega arith, eof-at at (length text) (omega arith))
  walk-ended (suc n) at h i =
      listed-ended text at (scan ed at (drop at text)) (λ e r. walk ed n (scan ed e r)) (lex-sound ed text at h) (λ e f g. walk-ended n e g (omega arith))

  -- n bytes end within n + 1 steps: from any offset on, and for the whole text
  pub tokens-end : (at : ℕ) → (entries (tokens_at ed text at) ≤ suc (length text - at)) × Ends (length text) (tokens_at ed text at)
  unfolding tokens_at entries Ends
  tokens-end at =
      unless-sure refused (Ended text at) (place_fault text at) _ (each-any _ (place_fault text at) (λ _. (omega arith, tt)))
      (λ f. let h = (in_place_lem text at f).1 in rw (← walk_ends ed text (length text) at h (omega arith)) (walk-ended (length text) at h (omega arith)))

module _ (text : List ℕ) where
  pub text-ends : (entries (tokens_of text) ≤ suc (length text)) × Ends (length text) (tokens_of text)
  unfolding tokens_of
  text-ends = let e = tokens-end 1 text 0 in (omega (arith, e.0), e.1)
