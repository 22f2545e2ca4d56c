-- A run ends at its first outsider: proved once, over the class.
use mathlib.Core.Path.{◌≡◌, refl}
use mathlib.Core.Bool.{Bool, true, false, cond}
use mathlib.Core.List.{List, [], ◌∷◌}
use Prim.Native.Nat.{ℕ, zero, suc, ◌+◌, ◌<◌, ◌≤◌}
use native.Mathlib.Omega.{arith}
use native.Mathlib.Numerals.{add-one}
use native.Mathlib.Nat.{add-zero, not-suc-le-zero}
use lib.ListN.{length, get_or, drop_of_length-le}
use lib.Seq.{drop-cons}
use Rattle.classes.specs.Run.{run_len, run_end}

-- at a place of a text, in the code's own words
module _ (f : ℕ → Bool) (text : List ℕ) (i : ℕ) where
  pub run_past : length text ≤ i → run_end f text i ≡ i
  unfolding run_end run_len
  run_past h = rw (drop_of_length-le text h, add-zero)

  pub run_out : i < length text → f (get_or text i 0) ≡ false → run_end f text i ≡ i
  unfolding run_end run_len
  run_out h e = rw (drop-cons text i 0 h, e, add-zero)

  pub run_in : i < length text → f (get_or text i 0) ≡ true → run_end f text i ≡ run_end f text (i + 1)
  unfolding run_end run_len
  run_in h e = rw (add-one, drop-cons text i 0 h, e) (omega arith)

-- the run at the front of a list: no longer than the list, all of its bytes of the class, and the byte behind it an outsider
module _ (f : ℕ → Bool) where
  le_step : (n m : ℕ) (b : Bool) → n ≤ m → cond b (suc n) 0 ≤ suc m
  le_step n m true h = omega arith
  le_step n m false h = omega arith

  pub run_short : (s : List ℕ) → run_len f s ≤ length s
  unfolding run_len
  run_short [] = omega arith
  run_short (a ∷ s) = le_step (run_len f s) (length s) (f a) (run_short s)

  stop_step : (a : ℕ) (s : List ℕ) (b : Bool) → f a ≡ b
      → (run_len f s < length s → f (get_or s (run_len f s) 0) ≡ false)
      → cond b (suc (run_len f s)) 0 < suc (length s)
      → f (get_or (a ∷ s) (cond b (suc (run_len f s)) 0) 0) ≡ false
  stop_step a s true e ih h = ih (omega arith)
  stop_step a s false e ih h = e

  pub run-stops : (s : List ℕ) → run_len f s < length s → f (get_or s (run_len f s) 0) ≡ false
  unfolding run_len
  run-stops [] h = absurd (not-suc-le-zero h)
  run-stops (a ∷ s) h = stop_step a s (f a) refl (run-stops s) h

  inside-step : (a : ℕ) (s : List ℕ) (b : Bool) → f a ≡ b
      → ((k : ℕ) → k < run_len f s → f (get_or s k 0) ≡ true)
      → (k : ℕ) → k < cond b (suc (run_len f s)) 0 → f (get_or (a ∷ s) k 0) ≡ true
  inside-step a s true e ih zero h = e
  inside-step a s true e ih (suc k) h = ih k (omega arith)
  inside-step a s false e ih k h = absurd (not-suc-le-zero h)

  pub run_inside : (s : List ℕ) (k : ℕ) → k < run_len f s → f (get_or s k 0) ≡ true
  unfolding run_len
  run_inside [] k h = absurd (not-suc-le-zero h)
  run_inside (a ∷ s) k h = inside-step a s (f a) refl (run_inside s) k h

-- the same from a place of a text
module _ (f : ℕ → Bool) (text : List ℕ) (at : ℕ) where
  pub run-from : at ≤ run_end f text at
  unfolding run_end
  run-from = omega arith

-- two tests that agree have the same runs
module _ (f g : ℕ → Bool) (e : (b : ℕ) → f b ≡ g b) where
  pub len-same : (s : List ℕ) → run_len f s ≡ run_len g s
  unfolding run_len
  len-same [] = refl
  len-same (a ∷ s) = rw (e a, len-same s)
