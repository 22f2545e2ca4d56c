-- The list of tokens from an offset on, token by token: each is reached from the end of the one before, and the list behind it is that of
-- its end.
use mathlib.Core.Path.{◌≡◌, refl, sym, ◌∙◌, subst}
use mathlib.Core.Bool.{Bool, true, false}
use mathlib.Core.List.{List}
use Prim.Native.Nat.{ℕ, zero, suc, ◌-◌, ◌<◌, ◌≤◌}
use native.Mathlib.Omega.{arith}
use borrow.Author.Tests.{eqb-true, eqb-false}
use lib.Dec.{eqb}
use lib.ListN.{length, drop}
use Rattle.tokens.specs.Answers.{token}
use Rattle.tokens.specs.Token.{Scanned, tok, bad, scan}
use Rattle.tokens.specs.Calls.{text_limit, lexed, next_token}
use Rattle.tokens.specs.Walk.{Listed, eof, refused, next, tokens_at}
use Rattle.tokens.specs.declared.Token.{Token}
use Rattle.tokens.proofs.Lexing.{Sound, lex-sound}
use Rattle.tokens.proofs.Faults.{admits}
use Rattle.tokens.proofs.Walks.{at_next, at-eof, at-refused}
use Rattle.tokens.specs.declared.Refusal.{Refusal}
use Rattle.std.specs.Prelude.{Result, Ok, Err}

-- a token starts behind the offset and takes a byte
found-by : (text : List ℕ) (at : ℕ) (t : Token) (x : Scanned) → Sound text at x → lexed x ≡ Ok t → (t.kind ≡ 0 → ⊥) → (at ≤ t.start) × (t.start < t.end)
unfolding lexed
found-by text at t (tok k s e w r) h q z =
    let v : token k s e ≡ t = cc in
    subst (λ (u : Token). (u.kind ≡ 0 → ⊥) → (at ≤ u.start) × (u.start < u.end)) v (λ y. (h.from, h.takes (positive k y))) z
  where
    positive : (k : ℕ) → (k ≡ 0 → ⊥) → 0 < k
    positive zero y = absurd (y refl)
    positive (suc k) y = omega arith
found-by text at t (bad r) h q z = let y : ◌≡◌ {A = ℕ} 0 1 = cc in absurd (omega arith)

module _ (ed : ℕ) (text : List ℕ) where
  pub found-sound : (at : ℕ) (t : Token) → length text ≤ text_limit → at ≤ length text → next_token ed text at ≡ Ok t → (t.kind ≡ 0 → ⊥) → (at ≤ t.start) × (t.start < t.end)
  unfolding next_token
  found-sound at t g h e z =
      found-by text at t (scan ed at (drop at text)) (lex-sound ed text at h) (sym (admits text at Err (lexed (scan ed at (drop at text))) g h) ∙ e) z

  -- l is the list of a place in the text
  abbrev pub ListOf : ℕ → Listed → Type 0
  ListOf at l = (at ≤ length text) × (l ≡ tokens_at ed text at)

  abbrev pub Walks : ℕ → Listed → Type 0
  Walks at (eof t) = ListOf at (eof t)
  Walks at (refused r) = ListOf at (refused r)
  Walks at (next t l) = ListOf at (next t l) × (at ≤ t.start) × (t.start < t.end) × Walks t.end l

  pub list_of : (at : ℕ) (l : Listed) → Walks at l → ListOf at l
  list_of at (eof t) w = w
  list_of at (refused r) w = w
  list_of at (next t l) w = w.0

  step-walks : (at : ℕ) → length text ≤ text_limit → at ≤ length text → ((e : ℕ) → at < e → e ≤ length text → Walks e (tokens_at ed text e)) → Walks at (tokens_at ed text at)
  step-walks at g h go = by (next_token ed text at) refl
    where
      to : (l : Listed) → tokens_at ed text at ≡ l → Walks at l → Walks at (tokens_at ed text at)
      to l e w = rw e w

      kind : (t : Token) (b : Bool) → eqb t.kind 0 ≡ b → next_token ed text at ≡ Ok t → Walks at (tokens_at ed text at)
      kind t true z e = let q = at-eof ed text at h t e (eqb-true t.kind 0 z) in to (eof t) q (h, sym q)
      kind t false z e =
          let n = at_next ed text at h t e (eqb-false t.kind 0 z) in
          let s = found-sound at t g h e (eqb-false t.kind 0 z) in
          to (next t (tokens_at ed text t.end)) n.0 ((h, sym n.0), s.0, s.1, go t.end n.1 n.2)

      by : (x : Result Token Refusal) → next_token ed text at ≡ x → Walks at (tokens_at ed text at)
      by (Ok t) e = kind t (eqb t.kind 0) refl e
      by (Err r) e = let q = at-refused ed text at h r e in to (refused r) q (h, sym q)

  within : (n at : ℕ) → length text ≤ text_limit → at ≤ length text → length text - at ≤ n → Walks at (tokens_at ed text at)
  within zero at g h i = step-walks at g h (λ e j k. absurd (omega arith))
  within (suc n) at g h i = step-walks at g h (λ e j k. within n e g k (omega arith))

  pub walks : (at : ℕ) → length text ≤ text_limit → at ≤ length text → Walks at (tokens_at ed text at)
  walks at g h = within (length text) at g h (omega arith)
