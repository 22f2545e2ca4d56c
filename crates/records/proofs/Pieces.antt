-- A number, written byte by byte, and a record's head, written number by number.
use mathlib.Core.Path.{◌≡◌, refl, sym, ◌∙◌}
use mathlib.Core.List.{List, ◌++◌}
use Prim.Native.Nat.{ℕ, suc, ◌+◌, ◌-◌, ◌*◌, ◌/◌, ◌%◌, ◌<◌, ◌≤◌}
use native.Mathlib.Omega.{arith}
use lib.ListN.{length, set}
use lib.Seq.{sets}
use Rattle.buffer.proofs.Sets.{sets-append}
use Rattle.records.specs.Stored.{little_endian, head_of}
use Rattle.records.specs.code.Narrow.{two, span, header}
use Rattle.records.proofs.Numbers.{number-long}

-- of a number in w bytes from p on, the byte i and those behind it; and no byte
pub number-step : (w v p i : ℕ) (l : List ℕ) → i < w
    → sets l (p + i) (little_endian (w - i) v) ≡ sets (set l (p + i) (v % 256)) (p + (i + 1)) (little_endian (w - (i + 1)) (v / 256))
unfolding little_endian
number-step w v p i l h =
    let a : w - i ≡ suc (w - (i + 1)) = omega arith in
    let b : suc (p + i) ≡ p + (i + 1) = omega arith in rw (a, ← b)

pub number-done : (w v p i : ℕ) (l : List ℕ) → w ≤ i → sets l p (little_endian (w - i) v) ≡ l
unfolding little_endian
number-done w v p i l h = let a : w - i ≡ 0 = omega arith in rw a

pub both : (l m n xs ys : List ℕ) (i : ℕ) → m ≡ sets l i xs → n ≡ sets m (i + length xs) ys → n ≡ sets l i (xs ++ ys)
both l m n xs ys i e f = f ∙ rw e (sym (sets-append xs ys l i))

-- the same behind a number
behind-number : (w v : ℕ) (l m n ys : List ℕ) (i j : ℕ) → m ≡ sets l i (little_endian w v) → i + w ≡ j → n ≡ sets m j ys → n ≡ sets l i (little_endian w v ++ ys)
behind-number w v l m n ys i j e a f = both l m n (little_endian w v) ys i e (rw (number-long w v, a) f)

-- where the bytes of a number, u, are said by w too
pub head-pieces : (u w : ℕ) → u ≡ w → (l m n o q : List ℕ) (i len k s e : ℕ) → m ≡ sets l i (little_endian w len) → n ≡ sets m (i + u) (little_endian 2 k)
    → o ≡ sets n (i + u + 2) (little_endian w s) → q ≡ sets o (i + 2 * u + 2) (little_endian w e) → q ≡ sets l i (head_of w len k s e)
unfolding head_of
head-pieces u w z l m n o q i len k s e f g h j =
    behind-number w len l m q (little_endian 2 k ++ (little_endian w s ++ little_endian w e)) i (i + u) f (omega arith)
    (behind-number 2 k m n q (little_endian w s ++ little_endian w e) (i + u) (i + u + 2) g refl
    (behind-number w s n o q (little_endian w e) (i + u + 2) (i + 2 * u + 2) h (omega arith) j))

-- the head of a wide record
pub wide-pieces : (l m n o q : List ℕ) (i len k s e : ℕ) → m ≡ sets l i (little_endian 4 len) → n ≡ sets m (i + 4) (little_endian 2 k)
    → o ≡ sets n (i + 6) (little_endian 4 s) → q ≡ sets o (i + 10) (little_endian 4 e) → q ≡ sets l i (head_of 4 len k s e)
wide-pieces l m n o q i len k s e f g h j =
    let a : i + 4 + 2 ≡ i + 6 = omega arith in
    let b : i + 2 * 4 + 2 ≡ i + 10 = omega arith in head-pieces 4 4 refl l m n o q i len k s e f g (rw a h) (rw b j)

-- the narrow head in its own words
pub head-narrow : (len k s e : ℕ) → head_of 2 len k s e ≡ header len k s e
unfolding head_of little_endian header span two
head-narrow len k s e = refl
