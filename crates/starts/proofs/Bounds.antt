-- The tests of the code, by the ways through them.
use mathlib.Core.Path.{◌≡◌}
use mathlib.Core.Bool.{true}
use Prim.Native.Nat.{ℕ, ◌<◌, ◌≤◌}
use borrow.Author.Tests.{eq-eqb, ne_eqb, lt-ltb, le-ltb}
use Rattle.tokens.specs.Refusals.{CommentNotClosed}
use Rattle.tokens.specs.declared.Refusal.{Refusal}
use Rattle.starts.specs.Beginning.{by_refusal}
use Rattle.std.specs.Prelude.{true, Ok, Err}

module _ (r : Refusal) (q offset : ℕ) where
  pub refusal-before : q < offset → Err r ≡ by_refusal r q offset
  unfolding by_refusal
  refusal-before h = rw (lt-ltb q offset h)

  module _ (h : offset ≤ q) where
    pub refusal-at : offset ≡ q → (r.number ≡ CommentNotClosed → ⊥) → (Ok true) ≡ by_refusal r q offset
    unfolding by_refusal
    refusal-at e n = rw (le-ltb q offset h, eq-eqb offset q e, ne_eqb r.number CommentNotClosed n)
