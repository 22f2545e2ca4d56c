-- Runs of stores: one after the other, and what they leave of a buffer that has room for them.
use mathlib.Core.Path.{◌≡◌, refl, sym, ap, ◌∙◌}
use mathlib.Core.List.{List, [], ◌∷◌, ◌++◌}
use Prim.Native.Nat.{ℕ, suc, ◌+◌, ◌≤◌, min}
use native.Mathlib.Omega.{arith}
use native.Mathlib.Nat.{add-zero, add-suc, suc-add, add_assoc}
use mathlib.Core.Bool.{Bool, true, false}
use borrow.Author.Tests.{ltb-true, ltb-false}
use lib.Dec.{ltb}
use lib.ListN.{length, set, drop, length-append, drop_of_length-le}
use lib.Seq.{sets, set_out, length-sets}
use Rattle.buffer.specs.code.Written.{Written}

pub sets-append : (xs ys l : List ℕ) (i : ℕ) → sets l i (xs ++ ys) ≡ sets (sets l i xs) (i + length xs) ys
sets-append [] ys l i = rw add-zero
sets-append (x ∷ xs) ys l i =
    sets-append xs ys (set l i x) (suc i) ∙ ap (λ (k : ℕ). sets (sets l i (x ∷ xs)) k ys) (suc-add i (length xs) ∙ sym (add-suc i (length xs)))

-- a run past the end changes nothing
pub sets-out : (vs l : List ℕ) (i : ℕ) → length l ≤ i → sets l i vs ≡ l
sets-out [] l i h = refl
sets-out (v ∷ vs) l i h = let e : set l i v ≡ l = set_out l i v h in rw e (sets-out vs l (suc i) (omega arith))

-- a run behind a first byte
pub sets-front : (vs : List ℕ) (a : ℕ) (l : List ℕ) (i : ℕ) → sets (a ∷ l) (suc i) vs ≡ a ∷ sets l i vs
sets-front [] a l i = refl
sets-front (v ∷ vs) a l i = sets-front vs a (set l i v) (suc i)

-- a run that has reached its end or the buffer's
pub sets-done : (xs l m : List ℕ) (i n : ℕ) → n ≡ min (length l) (length xs) → length m ≡ length l → n ≤ i → sets m i (drop i xs) ≡ m
sets-done xs l m i n e h g = go (ltb i (length xs)) refl
  where
    go : (b : Bool) → ltb i (length xs) ≡ b → sets m i (drop i xs) ≡ m
    go true f = sets-out (drop i xs) m i (omega (arith, ltb-true i (length xs) f))
    go false f = rw (drop_of_length-le xs {i = i} (ltb-false i (length xs) f))

-- nothing written
pub written_none : (l : List ℕ) (i : ℕ) → Written l i [] i l
written_none l i = record { ends = sym (add-zero i); holds = refl }

-- one byte
pub written_one : (l m : List ℕ) (i b : ℕ) → m ≡ set l i b → Written l i (b ∷ []) (i + 1) m
written_one l m i b e = record { ends = refl; holds = e }

-- one run behind the other
pub written_both : (l m n xs ys : List ℕ) (i j k : ℕ) → Written l i xs j m → Written m j ys k n → Written l i (xs ++ ys) k n
written_both l m n xs ys i j k f g =
    record {
      ends = g.ends ∙ rw (f.ends, length-append, add_assoc);
      holds = g.holds ∙ rw (f.holds, f.ends, sets-append xs ys l i);
    }

-- the buffer keeps its length
pub written-long : (l m xs : List ℕ) (i j : ℕ) → Written l i xs j m → length m ≡ length l
written-long l m xs i j f = ap length f.holds ∙ length-sets l i xs
