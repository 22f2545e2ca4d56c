-- A search through a part of the table, step by step.
use mathlib.Core.Path.{◌≡◌, refl, ap, sym, ◌∙◌}
use mathlib.Core.Bool.{Bool, true, false, ◌&&◌, not, cond}
use mathlib.Core.List.{List, [], ◌∷◌}
use Prim.Native.Nat.{ℕ, zero, suc, ◌+◌, ◌*◌, ◌/◌, ◌<◌, ◌≤◌, ◌%◌, ◌^◌}
use borrow.Author.Tests.{leb-true, leb-false, ltb-true, ltb-false, eqb-true, eqb-false, lt-ltb, le-ltb, le-leb, lt-leb, ne_eqb}
use native.Mathlib.Omega.{arith}
use native.Mathlib.Nat.{not-suc-le-zero, le_of_suc-le-suc}
use lib.Dec.{eqb, leb, ltb}
use lib.ListN.{length, get_or}
use Rattle.std.specs.Int.Bits.{bit_and}
use Rattle.std.proofs.lemmas.Nat.{pow_pos, and_mask}
use Rattle.std.proofs.lemmas.Nat.Bits.{and_pow}
use Rattle.std.proofs.Math.Pow.{pow_mono}
use Rattle.classes.specs.Table.{class_table, bit, entry_of, tells, properties, nth, property}
use Rattle.classes.specs.code.Search.{among, bits_in, known}
use Rattle.classes.specs.Class.{in_class}
use Rattle.classes.proofs.Bools.{false-true}
use Rattle.classes.proofs.Table.{told, class-told}

-- what is read past the end does not matter before it
get_d_any : (xs : List ℕ) (i d e : ℕ) → i < length xs → get_or xs i d ≡ get_or xs i e
get_d_any [] i d e h = absurd (not-suc-le-zero h)
get_d_any (x ∷ xs) zero d e h = refl
get_d_any (x ∷ xs) (suc i) d e h = get_d_any xs i d e (le_of_suc-le-suc h)

pub entry_read : (t : List ℕ) (i : ℕ) → t ≡ class_table → i < 256 → get_or t i 0 ≡ entry_of i
unfolding entry_of class_table
entry_read t i e h = rw e (get_d_any class_table i 0 16 h)

-- b among the numbers from i up to hi
module _ (i hi b : ℕ) where
  among-end : hi ≤ i → among i hi b ≡ false
  unfolding among
  among-end h = go (leb i b) refl
    where
      go : (v : Bool) → leb i b ≡ v → (v && ltb b hi) ≡ false
      go true e = le-ltb b hi (omega (arith, leb-true i b e))
      go false e = refl

  among-is : i ≤ b → b < hi → among i hi b ≡ true
  unfolding among
  among-is g h = rw (le-leb i b g, lt-ltb b hi h)

  among_next : (i ≡ b → ⊥) → among i hi b ≡ among (i + 1) hi b
  unfolding among
  among_next h = ap (λ (v : Bool). v && ltb b hi) (go (leb i b) refl)
    where
      more : i ≤ b → i + 1 ≤ b
      more g = step (leb (i + 1) b) refl
        where
          step : (v : Bool) → leb (i + 1) b ≡ v → i + 1 ≤ b
          step true e = leb-true (i + 1) b e
          step false e = absurd (h (omega (arith, g, leb-false (i + 1) b e)))

      go : (v : Bool) → leb i b ≡ v → v ≡ leb (i + 1) b
      go true e = sym (le-leb (i + 1) b (more (leb-true i b e)))
      go false e = sym (lt-leb (i + 1) b (omega (arith, leb-false i b e)))

  among-from-next : i ≡ b → among (i + 1) hi b ≡ false
  unfolding among
  among-from-next e = rw (lt-leb (i + 1) b (omega (arith, e)))

-- one step of a search: x is the entry at i
module _ (i hi b x m : ℕ) (s : i < hi) (r : x ≡ entry_of i) where
  bits_here : i ≡ b → bits_in i hi m b ≡ bit_and x m
  unfolding bits_in
  bits_here e = rw (among-is i hi b (omega (arith, e)) (omega (arith, s, e)), sym e, r)

  pub bits-hit : (bit_and (cond (eqb i b) x 0) m ≡ 0 → ⊥) → bits_in i hi m b ≡ bit_and (cond (eqb i b) x 0) m
  bits-hit h = go (eqb i b) refl h
    where
      go : (v : Bool) → eqb i b ≡ v → (bit_and (cond v x 0) m ≡ 0 → ⊥) → bits_in i hi m b ≡ bit_and (cond v x 0) m
      go true e g = bits_here (eqb-true i b e)
      go false e g = absurd (g refl)

  pub bits-off : bit_and (cond (eqb i b) x 0) m ≡ 0 → bits_in i hi m b ≡ bits_in (i + 1) hi m b
  unfolding bits_in
  bits-off h = go (eqb i b) refl h
    where
      go : (v : Bool) → eqb i b ≡ v → bit_and (cond v x 0) m ≡ 0 → cond (among i hi b) (bit_and (entry_of b) m) 0 ≡ cond (among (i + 1) hi b) (bit_and (entry_of b) m) 0
      go true e g = bits_here (eqb-true i b e) ∙ g ∙ sym (ap (λ (w : Bool). cond w (bit_and (entry_of b) m) 0) (among-from-next i hi b (eqb-true i b e)))
      go false e g = ap (λ (w : Bool). cond w (bit_and (entry_of b) m) 0) (among_next i hi b (eqb-false i b e))

-- a search has no more to look at
pub bits-end : (i hi m b : ℕ) → hi ≤ i → bits_in i hi m b ≡ 0
unfolding bits_in
bits-end i hi m b h = rw (among-end i hi b h)

-- a search that is cut in two at m
module _ (lo m hi b : ℕ) (g : lo ≤ m) (h : m ≤ hi) where
  among-front : among lo m b ≡ true → among lo hi b ≡ true
  unfolding among
  among-front e = go (leb lo b) (ltb b m) refl refl e
    where
      go : (u v : Bool) → leb lo b ≡ u → ltb b m ≡ v → (u && v) ≡ true → (leb lo b && ltb b hi) ≡ true
      go true true p q r = rw (p, lt-ltb b hi (omega (arith, h, ltb-true b m q)))
      go true false p q r = false-true _ r
      go false v p q r = false-true _ r

  among-behind : among lo m b ≡ false → among lo hi b ≡ among m hi b
  unfolding among
  among-behind e = go (leb lo b) (ltb b m) refl refl e
    where
      go : (u v : Bool) → leb lo b ≡ u → ltb b m ≡ v → (u && v) ≡ false → (leb lo b && ltb b hi) ≡ (leb m b && ltb b hi)
      go true true p q r = false-true _ (sym r)
      go true false p q r = rw (p, le-leb m b (ltb-false b m q))
      go false v p q r = rw (p, lt-leb m b (omega (arith, g, leb-false lo b p)))

  pub bits-front : (k : ℕ) → (bits_in lo m k b ≡ 0 → ⊥) → bits_in lo hi k b ≡ bits_in lo m k b
  unfolding bits_in
  bits-front k e = go (among lo m b) refl e
    where
      go : (v : Bool) → among lo m b ≡ v → (cond v (bit_and (entry_of b) k) 0 ≡ 0 → ⊥) → cond (among lo hi b) (bit_and (entry_of b) k) 0 ≡ cond v (bit_and (entry_of b) k) 0
      go true p q = rw (among-front p)
      go false p q = absurd (q refl)

  pub bits-behind : (k : ℕ) → bits_in lo m k b ≡ 0 → bits_in lo hi k b ≡ bits_in m hi k b
  unfolding bits_in
  bits-behind k e = go (among lo m b) refl e
    where
      zeros : bit_and (entry_of b) k ≡ 0 → (v : Bool) → cond v (bit_and (entry_of b) k) 0 ≡ 0
      zeros q true = q
      zeros q false = refl

      go : (v : Bool) → among lo m b ≡ v → cond v (bit_and (entry_of b) k) 0 ≡ 0 → cond (among lo hi b) (bit_and (entry_of b) k) 0 ≡ cond (among m hi b) (bit_and (entry_of b) k) 0
      go true p q = zeros q (among lo hi b) ∙ sym (zeros q (among m hi b))
      go false p q = ap (λ (w : Bool). cond w (bit_and (entry_of b) k) 0) (among-behind p)

-- the whole table, cut in two
module _ (b : ℕ) (h : b < 256) (m x : ℕ) (r : x ≡ bits_in 0 128 m b) where
  all-bits : bits_in 0 256 m b ≡ bit_and (entry_of b) m
  unfolding bits_in
  all-bits = rw (among-is 0 256 b (omega arith) h)

  pub bits-low : (x ≡ 0 → ⊥) → x ≡ bit_and (entry_of b) m
  bits-low e = r ∙ sym (bits-front 0 128 256 b (omega arith) (omega arith) m (λ z. e (r ∙ z))) ∙ all-bits

  pub bits-high : (y : ℕ) → x ≡ 0 → y ≡ bits_in 128 256 m b → y ≡ bit_and (entry_of b) m
  bits-high y e s = s ∙ sym (bits-behind 0 128 256 b (omega arith) (omega arith) m (sym r ∙ e)) ∙ all-bits

-- one bit of a number, cut out by a mask
cut : (q p : ℕ) → q < 2 → 0 < p → not (eqb (q * p) 0) ≡ eqb q 1
cut zero p h g = let z : 0 * p ≡ 0 = omega arith in rw z
cut (suc zero) p h g = rw (ne_eqb (1 * p) 0 (λ e. absurd (omega arith)))
cut (suc (suc q)) p h g = absurd (omega arith)

bit-cut : (k x : ℕ) → k < 16 → not (eqb (bit_and x (2 ^ k)) 0) ≡ bit k x
unfolding bit
bit-cut k x h =
    let e : k % 16 ≡ k = omega arith in
    rw (and_pow x k, e) (cut (x / 2 ^ k % 2) (2 ^ k) (omega arith) (pow_pos k))

-- the bit of the property k, or nothing where k is no property's number, tells whether a byte has the property
pub told-bit : (k b m : ℕ) → k ≤ 13 → m ≡ 1 * 2 ^ k % 65536 → not (eqb (bit_and (entry_of b) m) 0) ≡ property k b
unfolding tells
told-bit k b m h e =
    let p : 2 ^ k ≤ 2 ^ 13 = pow_mono h in
    let z : m ≡ 2 ^ k = omega arith in rw z (bit-cut k (entry_of b) (omega arith)) ∙ told k b (omega arith)

none-past : (fs : List (ℕ → Bool)) (k b : ℕ) → length fs ≤ k → nth fs k b ≡ false
none-past [] k b h = refl
none-past (f ∷ fs) zero b h = absurd (omega arith)
none-past (f ∷ fs) (suc k) b h = none-past fs k b (le_of_suc-le-suc h)

pub told-none : (k b m : ℕ) → 13 < k → m ≡ 0 → not (eqb (bit_and (entry_of b) m) 0) ≡ property k b
told-none k b m h e =
    let z : bit_and (entry_of b) 0 ≡ 0 = and_mask (entry_of b) 0 ∙ omega arith in
    rw (e, z) (sym (none-past properties k b h))

-- what the class of a byte tells of a class with a number
pub class-bit : (p k b : ℕ) (x : ℕ) (v : Bool) → p ≡ known k → x ≡ entry_of b → v ≡ bit p x → v ≡ in_class k b
unfolding tells
class-bit p k b x v f e r = r ∙ rw (e, f) (class-told k b)
