-- Bytes compared with those at a place of a text, one by one.
use mathlib.Core.Path.{◌≡◌, refl, ◌∙◌}
use mathlib.Core.Bool.{Bool, true, false, ◌&&◌}
use mathlib.Core.List.{List, [], ◌∷◌}
use Prim.Native.Nat.{ℕ, suc, ◌+◌, ◌<◌, ◌≤◌}
use native.Mathlib.Omega.{arith}
use native.Mathlib.Numerals.{add-one}
use native.Mathlib.Nat.{not-suc-le-zero, le_of_suc-le-suc}
use borrow.Author.Tests.{eq-eqb, ne_eqb}
use lib.Dec.{eqb}
use lib.ListN.{length, get_or, take, drop, drop_of_length-le, length-drop}
use lib.Seq.{drop-cons, length-take-le, get_or-take, get_or-drop}
use Rattle.classes.specs.Bytes.{begins}
use Rattle.classes.proofs.Bools.{and-false}

-- the byte behind the place i
pub behind : (s : List ℕ) (i : ℕ) → get_or (drop (suc i) s) 0 0 ≡ get_or s (i + 1) 0
behind s i = let e : suc i + 0 ≡ i + 1 = omega arith in get_or-drop (suc i) s 0 0 ∙ rw e

-- a list does not begin with more bytes than it has
begins-past : (w s : List ℕ) → length s < length w → begins w s ≡ false
unfolding begins
begins-past [] s h = absurd (not-suc-le-zero h)
begins-past (a ∷ w) [] h = refl
begins-past (a ∷ w) (b ∷ s) h = rw (begins-past w s (le_of_suc-le-suc h)) (and-false (eqb b a))

-- the first n bytes of w beside those of s from `at` on, from the byte j on
unfoldable pub from : List ℕ → ℕ → List ℕ → ℕ → ℕ → Bool
from s at w n j = begins (drop j (take n w)) (drop (at + j) s)

pub from_start : (s : List ℕ) (at : ℕ) (w : List ℕ) (n : ℕ) → begins (take n w) (drop at s) ≡ from s at w n 0
unfolding from
from_start s at w n = let e : at + 0 ≡ at = omega arith in rw e

module _ (s : List ℕ) (at : ℕ) (w : List ℕ) (n : ℕ) (hw : n ≤ length w) where
  long : length (take n w) ≡ n
  long = length-take-le n w hw

  -- there is no room for them
  pub no_room_lem : 0 < n → length s < at + n → begins (take n w) (drop at s) ≡ false
  no_room_lem g h = begins-past (take n w) (drop at s) (rw (long, length-drop) (omega arith))

  pub from_end : (j : ℕ) → n ≤ j → from s at w n j ≡ true
  unfolding from begins
  from_end j h = rw (drop_of_length-le (take n w) {i = j} (omega (arith, long)))

  module _ (hs : at + n ≤ length s) (j : ℕ) (h : j < n) where
    one : from s at w n j ≡ eqb (get_or s (at + j) 0) (get_or w j 0) && from s at w n (j + 1)
    unfolding from begins
    one =
        let e : at + (j + 1) ≡ suc (at + j) = omega arith in
        rw (drop-cons (take n w) j 0 (omega (arith, long)), drop-cons s (at + j) 0 (omega arith), get_or-take n w j 0 h, e, add-one j)

    pub from-miss : (get_or s (at + j) 0 ≡ get_or w j 0 → ⊥) → from s at w n j ≡ false
    from-miss g = one ∙ rw (ne_eqb (get_or s (at + j) 0) (get_or w j 0) g)

    pub from_step : get_or s (at + j) 0 ≡ get_or w j 0 → from s at w n j ≡ from s at w n (j + 1)
    from_step g = one ∙ rw (eq-eqb (get_or s (at + j) 0) (get_or w j 0) g)
