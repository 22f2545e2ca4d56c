-- The text of a line comment, at a place of the text.
use mathlib.Core.Path.{◌≡◌}
use mathlib.Core.Bool.{cond}
use mathlib.Core.List.{List}
use Prim.Native.Nat.{ℕ, ◌+◌, ◌<◌, ◌≤◌}
use native.Mathlib.Numerals.{add-one}
use borrow.Author.Tests.{eq-eqb, ne_eqb}
use lib.Dec.{eqb}
use lib.ListN.{length, get_or, drop, drop_of_length-le}
use lib.Seq.{drop-cons}
use Rattle.gap.specs.Comments.{line_text}

module _ (text : List ℕ) (t i : ℕ) where
  pub text-over : length text ≤ i → line_text t i (drop i text) ≡ t
  unfolding line_text
  text-over h = rw (drop_of_length-le text h)

  module _ (h : i < length text) where
    pub text-stops : get_or text i 0 ≡ 10 → line_text t i (drop i text) ≡ t
    unfolding line_text
    text-stops e = rw (drop-cons text i 0 h, eq-eqb (get_or text i 0) 10 e)

    pub text-goes-on : (get_or text i 0 ≡ 10 → ⊥) → (u : ℕ) → u ≡ cond (eqb (get_or text i 0) 13) t (i + 1)
        → line_text t i (drop i text) ≡ line_text u (i + 1) (drop (i + 1) text)
    unfolding line_text
    text-goes-on e u q = rw (drop-cons text i 0 h, ne_eqb (get_or text i 0) 10 e, q, add-one i)
