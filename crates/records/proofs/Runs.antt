-- Runs of stores, one below another.
use mathlib.Core.Path.{◌≡◌, refl, ◌∙◌}
use mathlib.Core.List.{List, [], ◌∷◌}
use Prim.Native.Nat.{ℕ, suc, ◌+◌, ◌<◌, ◌≤◌}
use native.Mathlib.Omega.{arith}
use lib.ListN.{length, set}
use lib.Seq.{sets, set_comm}
pub use Rattle.buffer.proofs.Sets.{sets-front}

-- one store below a run of stores, made before or after it; and one run below another
set_below : (vs l : List ℕ) (i k v : ℕ) → k < i → set (sets l i vs) k v ≡ sets (set l k v) i vs
set_below [] l i k v h = refl
set_below (x ∷ vs) l i k v h = set_below vs (set l i x) (suc i) k v (omega arith) ∙ rw (set_comm l i k x v (λ e. omega arith))

pub sets_below : (zs ys l : List ℕ) (i j : ℕ) → i + length zs ≤ j → sets (sets l j ys) i zs ≡ sets (sets l i zs) j ys
sets_below [] ys l i j h = refl
sets_below (z ∷ zs) ys l i j h = rw (set_below ys l j i z (omega arith)) (sets_below zs ys (set l i z) (suc i) j (omega arith))
