-- The tokens of a list stand in order: each starts no earlier than the one before it ends, and each but EOF takes a byte.
use mathlib.Core.Path.{◌≡◌, refl, subst}
use mathlib.Core.Bool.{Bool, true, false, cond}
use mathlib.Core.List.{List}
use Prim.Native.Nat.{ℕ, zero, suc, ◌<◌, ◌≤◌}
use native.Mathlib.Omega.{arith}
use borrow.Author.Tests.{eqb-false}
use lib.Dec.{eqb}
use lib.ListN.{length, drop}
use Rattle.words.specs.Kinds.{EOF}
use Rattle.tokens.specs.Answers.{token}
use Rattle.tokens.specs.Token.{Scanned, tok, bad, scan}
use Rattle.tokens.specs.Calls.{place_fault}
use Rattle.tokens.specs.Walk.{Listed, eof, refused, next, listed, walk, tokens_at}
use Rattle.tokens.proofs.Lexing.{Sound, lex-sound}
use Rattle.tokens.proofs.Faults.{each-any, unless-sure, in_place_lem}
use Rattle.tokens.proofs.Walks.{walk_ends}

-- behind p
abbrev pub Ordered : ℕ → Listed → Type 0
Ordered p (eof t) = (p ≤ t.start) × (t.start ≤ t.end)
Ordered p (refused r) = Unit {0}
Ordered p (next t l) = (p ≤ t.start) × (t.start < t.end) × Ordered t.end l

module _ (text : List ℕ) where
  listed-ordered : (at : ℕ) (l : Scanned) (f : ℕ → List ℕ → Listed) → Sound text at l
      → ((e : ℕ) → e ≤ length text → Ordered e (f e (drop e text))) → Ordered at (listed l f)
  listed-ordered at (bad r) f h k = tt
  listed-ordered at (tok d s e w r) f h k = go (eqb d EOF) refl
    where
      go : (b : Bool) → eqb d EOF ≡ b → Ordered at (cond b (eof (token d s e)) (next (token d s e) (f e r)))
      go true q = (h.from, h.ordered)
      go false q = (h.from, h.takes (omega (arith, eqb-false d EOF q)), rw h.behind (k e h.within))

module _ (ed : ℕ) (text : List ℕ) where
  walk-ordered : (n at : ℕ) → at ≤ length text → Ordered at (walk ed n (scan ed at (drop at text)))
  unfolding walk
  walk-ordered zero at h = listed-ordered text at (scan ed at (drop at text)) (λ e r. eof (token EOF e e)) (lex-sound ed text at h) (λ e g. (omega arith, omega arith))
  walk-ordered (suc n) at h = listed-ordered text at (scan ed at (drop at text)) (λ e r. walk ed n (scan ed e r)) (lex-sound ed text at h) (λ e g. walk-ordered n e g)

  pub tokens-ordered : (at : ℕ) → Ordered at (tokens_at ed text at)
  unfolding tokens_at
  tokens-ordered at =
      unless-sure refused (Ordered at) (place_fault text at) _ (each-any _ (place_fault text at) (λ _. tt))
      (λ f. let h = (in_place_lem text at f).1 in subst (Ordered at) (walk_ends ed text (length text) at h (omega arith)) (walk-ordered (length text) at h))
