-- The bound of the recursion does not matter where it is not under the bytes left.
use mathlib.Core.Path.{◌≡◌, refl}
use mathlib.Core.Bool.{Bool, true, false, cond, ◌||◌}
use mathlib.Core.List.{List}
use Prim.Native.Nat.{ℕ, zero, suc, ◌+◌, ◌-◌, ◌<◌, ◌≤◌}
use native.Mathlib.Omega.{arith}
use lib.Dec.{eqb}
use Rattle.records.specs.Kinds.{RecField}
use Rattle.forms.specs.Forms.{is_narrow, head_size}
use Rattle.saved.specs.Heads.{head_at}
use Rattle.saved.specs.Open.{Opened, whole, damaged, onward, tested, Parent, parent, child_fault, level_of, level_fault, children_at}
use Rattle.saved.specs.Theorems.{BoundEnough}
use Rattle.saved.specs.declared.Head.{Head}
use Rattle.saved.proofs.Heads.{unfit-false}
use Rattle.saved.proofs.Scan.{fault-fits}

tested-same : {A : Type 0} (n o : ℕ) (f g : Unit {0} → Opened A) → (n ≡ 0 → f tt ≡ g tt) → tested n o f ≡ tested n o g
unfolding tested
tested-same zero o f g h = h refl
tested-same (suc n) o f g h = refl

onward-same : {A B : Type 0} (X Y : Opened A) (f g : A → Opened B) → X ≡ Y → ((a : A) → f a ≡ g a) → onward X f ≡ onward Y g
unfolding onward
onward-same (whole a) Y f g e h = rw (← e) (h a)
onward-same (damaged r) Y f g e h = rw (← e) refl

module _ (f : ℕ) (bytes : List ℕ) (positive : 0 < head_size f) where
  same : (m n : ℕ) (P : Parent) (index : ℕ) (field : Bool) (p room : ℕ) → room ≤ m → room ≤ n → children_at f bytes m P index field p room ≡ children_at f bytes n P index field p room
  unfolding children_at
  same zero zero P index field p room h g = refl
  same zero (suc n) P index field p zero h g = refl
  same zero (suc n) P index field p (suc room) h g = absurd (omega arith)
  same (suc m) zero P index field p zero h g = refl
  same (suc m) zero P index field p (suc room) h g = absurd (omega arith)
  same (suc m) (suc n) P index field p zero h g = refl
  same (suc m) (suc n) P index field p (suc room) h g =
      let k : Head = head_at f bytes p in
      tested-same (child_fault f P index field (suc room) k) p _ _ λ ok.
      let w = unfit-false f (suc room) k (fault-fits f P index field (suc room) k ok) in
      tested-same (level_fault (level_of P k)) p _ _ λ _.
      onward-same _ _ _ _ (same m n (parent p k (level_of P k)) 0 false (p + head_size f) (k.len - head_size f) (omega (arith, w.1, w.2, positive)) (omega (arith, w.1, w.2, positive))) λ ts.
      onward-same _ _ _ _ (same m n P (suc index) (field || eqb k.kind RecField) (p + k.len) (suc room - k.len) (omega (arith, w.1, positive)) (omega (arith, w.1, positive))) λ us.
      refl

pub bound-enough : BoundEnough
unfolding head_size
bound-enough f h = λ bytes. same f bytes (rw h (go (is_narrow f)))
  where
    go : (b : Bool) → 0 < cond b 8 14
    go true = omega arith
    go false = omega arith
