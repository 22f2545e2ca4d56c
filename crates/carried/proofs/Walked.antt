-- The tokens of a text from an offset on, one after the other: each starts where the one before it ends or behind, takes a byte, and
-- ends in the text; EOF stands at the text's end, and a refusal is that of the token call there.
use mathlib.Core.Path.{◌≡◌, refl, ap, sym, ◌∙◌, subst}
use mathlib.Core.Bool.{Bool, true, false}
use mathlib.Core.List.{List}
use Prim.Native.Nat.{ℕ, zero, suc, ◌-◌, ◌<◌, ◌≤◌}
use native.Mathlib.Omega.{arith}
use native.Mathlib.Nat.{not-suc-le-zero}
use borrow.Author.Tests.{eqb-true, eqb-false}
use lib.Dec.{eqb}
use lib.ListN.{length, drop}
use Rattle.words.specs.Kinds.{EOF}
use Rattle.tokens.specs.Answers.{token}
use Rattle.tokens.specs.Token.{Scanned, tok, bad, scan}
use Rattle.tokens.specs.Calls.{text_limit, lexed, next_token}
use Rattle.tokens.specs.Walk.{Listed, eof, refused, next, tokens_at}
use Rattle.tokens.specs.declared.Refusal.{Refusal}
use Rattle.tokens.specs.declared.Token.{Token}
use Rattle.tokens.proofs.Again.{found-fits}
use Rattle.tokens.proofs.Faults.{admits}
use Rattle.tokens.proofs.Lexing.{Good, Sound, lex-sound}
use Rattle.tokens.proofs.Walks.{at_next, at-eof, at-refused}
use Rattle.std.specs.Prelude.{Result, Ok, Err}

-- the next token is a scanned one
pub record Stands (ed : ℕ) (text : List ℕ) (at : ℕ) (t : Token) : Type 0 where
  pub word : List ℕ
  pub rest : List ℕ
  pub is : scan ed at (drop at text) ≡ tok t.kind t.start t.end word rest
  pub good : Good text at t.kind t.start t.end word rest

module _ (ed : ℕ) (text : List ℕ) (at : ℕ) where
  stands_by : (t : Token) (l : Scanned) → scan ed at (drop at text) ≡ l → Sound text at l → lexed l ≡ Ok t → Stands ed text at t
  unfolding lexed
  stands_by t (tok k s e w r) q m f =
      let v : token k s e ≡ t = cc in
      subst (Stands ed text at) v (record { word = w; rest = r; is = q; good = m })
  stands_by t (bad r) q m f = let z : ◌≡◌ {A = ℕ} 0 1 = cc in absurd (omega arith)

  scanned : length text ≤ text_limit → at ≤ length text → next_token ed text at ≡ lexed (scan ed at (drop at text))
  unfolding next_token
  scanned g h = admits text at Err _ g h

  pub stands : (t : Token) → next_token ed text at ≡ Ok t → Stands ed text at t
  stands t e =
      let f = found-fits ed text at t e in
      stands_by t (scan ed at (drop at text)) refl (lex-sound ed text at f.1) (sym (scanned f.0 f.1) ∙ e)

  module _ (g : length text ≤ text_limit) (h : at ≤ length text) where
    pub scan-found : (k s e : ℕ) (w r : List ℕ) → scan ed at (drop at text) ≡ tok k s e w r → next_token ed text at ≡ Ok (token k s e)
    unfolding lexed
    scan-found k s e w r q = scanned g h ∙ ap lexed q

    pub scan-refused : (r : Refusal) → scan ed at (drop at text) ≡ bad r → next_token ed text at ≡ Err r
    unfolding lexed
    scan-refused r q = scanned g h ∙ ap lexed q

-- a list from `at` on
pub data Walked (ed : ℕ) (text : List ℕ) : ℕ → Listed → Type 0 where
  over : {at : ℕ} {t : Token} → at ≤ t.start → t.start ≡ length text → t.end ≡ length text → t.kind ≡ EOF → Walked ed text at (eof t)
  stopped : {at : ℕ} {r : Refusal} → at ≤ length text → next_token ed text at ≡ Err r → Walked ed text at (refused r)
  going : {at : ℕ} {t : Token} {l : Listed} → next_token ed text at ≡ Ok t → at ≤ t.start → t.start < t.end → t.end ≤ length text → (t.kind ≡ EOF → ⊥)
      → Walked ed text t.end l → Walked ed text at (next t l)

module _ (ed : ℕ) (text : List ℕ) where
  walked_by : (n at : ℕ) → at ≤ length text → length text - at < n → Walked ed text at (tokens_at ed text at)
  walked_by zero at h i = absurd (not-suc-le-zero i)
  walked_by (suc n) at h i = go (next_token ed text at) refl (λ e f g. walked_by n e f g)
    where
      more : (t : Token) (b : Bool) → eqb t.kind 0 ≡ b → next_token ed text at ≡ Ok t → ((e : ℕ) → e ≤ length text → length text - e < n → Walked ed text e (tokens_at ed text e)) → Walked ed text at (tokens_at ed text at)
      more t true q e ih =
          let z = eqb-true t.kind 0 q in
          let s = stands ed text at t e in
          rw (at-eof ed text at h t e z) (over s.good.from (s.good.last z).0 (s.good.last z).1 z)
      more t false q e ih =
          let z = eqb-false t.kind 0 q in
          let s = stands ed text at t e in
          let a = at_next ed text at h t e z in
          rw a.0 (going e s.good.from (s.good.takes (omega arith)) a.2 z (ih t.end a.2 (omega arith)))

      go : (x : Result Token Refusal) → next_token ed text at ≡ x → ((e : ℕ) → e ≤ length text → length text - e < n → Walked ed text e (tokens_at ed text e)) → Walked ed text at (tokens_at ed text at)
      go (Err r) e ih = rw (at-refused ed text at h r e) (stopped h e)
      go (Ok t) e ih = more t (eqb t.kind 0) refl e ih

  pub walked : (at : ℕ) → at ≤ length text → Walked ed text at (tokens_at ed text at)
  walked at h = walked_by (suc (length text - at)) at h (omega arith)
