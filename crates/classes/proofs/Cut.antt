-- Runs and beginnings of a list that is cut off.
use mathlib.Core.Path.{◌≡◌, refl}
use mathlib.Core.Bool.{Bool, true, false, cond}
use mathlib.Core.List.{List, [], ◌∷◌}
use Prim.Native.Nat.{ℕ, zero, suc, ◌+◌, ◌≤◌, min}
use native.Mathlib.Omega.{arith}
use native.Mathlib.Nat.{not-suc-le-zero, le_of_suc-le-suc}
use lib.Dec.{eqb}
use lib.ListN.{length, take, drop}
use lib.Seq.{take-nil}
use Rattle.classes.specs.Bytes.{begins}
use Rattle.classes.specs.Run.{run_len}
use Rattle.classes.proofs.Bools.{false-true, and_left, and_right}

-- what bytes begin with is no longer than they are
pub begins-short : (w s : List ℕ) → begins w s ≡ true → length w ≤ length s
unfolding begins
begins-short [] s h = omega arith
begins-short (a ∷ w) [] h = false-true _ h
begins-short (a ∷ w) (b ∷ s) h = let r : length w ≤ length s = begins-short w s (and_right (eqb b a) (begins w s) h) in omega arith

-- a cut behind it leaves it; and a cut adds nothing
pub begins-cut : (w s : List ℕ) (n : ℕ) → length w ≤ n → begins w s ≡ true → begins w (take n s) ≡ true
unfolding begins
begins-cut [] s n g h = refl
begins-cut (a ∷ w) s zero g h = absurd (not-suc-le-zero g)
begins-cut (a ∷ w) [] (suc n) g h = h
begins-cut (a ∷ w) (b ∷ s) (suc n) g h =
    rw (and_left (eqb b a) (begins w s) h) (begins-cut w s n (le_of_suc-le-suc g) (and_right (eqb b a) (begins w s) h))

pub begins-uncut : (w s : List ℕ) (n : ℕ) → begins w (take n s) ≡ true → begins w s ≡ true
unfolding begins
begins-uncut [] s n h = refl
begins-uncut (a ∷ w) [] zero h = h
begins-uncut (a ∷ w) [] (suc n) h = h
begins-uncut (a ∷ w) (b ∷ s) zero h = false-true _ h
begins-uncut (a ∷ w) (b ∷ s) (suc n) h = rw (and_left (eqb b a) (begins w (take n s)) h) (begins-uncut w s n (and_right (eqb b a) (begins w (take n s)) h))

run_step : (n m k : ℕ) (b : Bool) → k ≡ min n m → cond b (suc k) 0 ≡ min (suc n) (cond b (suc m) 0)
run_step n m k true e = omega arith
run_step n m k false e = omega arith

pub run-cut : (f : ℕ → Bool) (s : List ℕ) (n : ℕ) → run_len f (take n s) ≡ min n (run_len f s)
unfolding run_len
run-cut f [] zero = omega arith
run-cut f [] (suc n) = omega arith
run-cut f (a ∷ s) zero = omega arith
run-cut f (a ∷ s) (suc n) = run_step n (run_len f s) (run_len f (take n s)) (f a) (run-cut f s n)

-- what is left of a cut list
pub drop-cut : (m n : ℕ) (s : List ℕ) → drop m (take (m + n) s) ≡ take n (drop m s)
drop-cut zero n s = let e : 0 + n ≡ n = omega arith in rw e
drop-cut (suc m) n [] = rw (take-nil (suc m + n), take-nil n)
drop-cut (suc m) n (a ∷ s) = let e : suc m + n ≡ suc (m + n) = omega arith in rw e (drop-cut m n s)
