-- The same bytes from a later place have the same next token, with all places raised.
use mathlib.Core.Path.{◌≡◌, refl, ap, ◌∙◌}
use Prim.Native.Nat.{ℕ, ◌+◌, ◌-◌}
use native.Mathlib.Omega.{arith}
use native.Mathlib.Nat.{add_assoc}
use lib.ListN.{drop}
use Rattle.tokens.specs.Token.{Scanned, tok as found, bad as faulty, scan}
use Rattle.tokens.specs.Raise.{raise_scanned as raise_lexing}
use Rattle.tokens.proofs.Shift.{lex-up}
use Rattle.sources.specs.Source.{Source, moved, past, scanned, lex}
use Rattle.sources.specs.Raise.{raise_source}
use Rattle.sources.specs.code.Raise.{raise_scanned}

module _ (k : ℕ) where
  pub past-raised : (n : ℕ) (u : Source) → past n (raise_source k u) ≡ raise_source k (past n u)
  past-raised n u = ap (λ (p : ℕ). moved u p (drop n u.rest)) (add_assoc k u.at n)

  scanned-raised : (u : Source) (l : Scanned) → scanned (raise_source k u) (raise_lexing k l) ≡ raise_scanned k (scanned u l)
  unfolding scanned
  scanned-raised u (found d s e w r) =
      let z : k + s - (k + u.at) ≡ s - u.at = omega arith in
      let y : k + e - (k + s) ≡ e - s = omega arith in
      rw (z, y, past-raised (s - u.at) u)
  scanned-raised u (faulty r) = refl

  pub lex-raised : (u : Source) → lex (raise_source k u) ≡ raise_scanned k (lex u)
  unfolding lex
  lex-raised u = ap (scanned (raise_source k u)) (lex-up u.edition k u.at u.rest) ∙ scanned-raised u (scan u.edition u.at u.rest)
