-- Numbers in bytes: how many bytes they have, and what these tell.
use mathlib.Core.Path.{◌≡◌, refl, ap, ◌∙◌}
use mathlib.Core.List.{List, [], ◌∷◌, ◌++◌}
use Prim.Native.Nat.{ℕ, zero, suc, ◌+◌, ◌*◌, ◌/◌, ◌%◌, ◌^◌, ◌<◌}
use native.Mathlib.Omega.{arith}
use native.Mathlib.Nat.{pow-succ', mul_assoc}
use lib.ListN.{length, get_or, drop, length-append}
use Rattle.records.specs.Stored.{little_endian, head_of}

pub number-long : (w v : ℕ) → length (little_endian w v) ≡ w
unfolding little_endian
number-long zero v = refl
number-long (suc w) v = ap suc (number-long w (v / 256))

-- what the bytes have no room for leaves no trace in them
pub number-turns : (w v q : ℕ) → little_endian w (v + 256 ^ w * q) ≡ little_endian w v
unfolding little_endian
number-turns zero v q = refl
number-turns (suc w) v q =
    let z : 256 ^ suc w * q ≡ 256 * (256 ^ w * q) = ap (λ (x : ℕ). x * q) (pow-succ' 256 w) ∙ mul_assoc 256 (256 ^ w) q in
    let a : (v + 256 * (256 ^ w * q)) % 256 ≡ v % 256 = low v (256 ^ w * q) in
    let b : (v + 256 * (256 ^ w * q)) / 256 ≡ v / 256 + 256 ^ w * q = high v (256 ^ w * q) in
    rw (z, a, b) (ap (◌∷◌ (v % 256)) (number-turns w (v / 256) q))
  where
    low : (v y : ℕ) → (v + 256 * y) % 256 ≡ v % 256
    low v y = omega arith

    high : (v y : ℕ) → (v + 256 * y) / 256 ≡ v / 256 + y
    high v y = omega arith

-- equal fronts of equal length
pub split : (xs ys us vs : List ℕ) → length xs ≡ length ys → xs ++ us ≡ ys ++ vs → (xs ≡ ys) × (us ≡ vs)
split [] [] us vs h p = (refl, p)
split [] (y ∷ ys) us vs h p = absurd (omega arith)
split (x ∷ xs) [] us vs h p = absurd (omega arith)
split (x ∷ xs) (y ∷ ys) us vs h p =
    let q = split xs ys us vs (omega arith) (ap (drop 1) p) in
    (ap (λ (z : ℕ). z ∷ xs) (ap (λ (l : List ℕ). get_or l 0 0) p) ∙ ap (◌∷◌ y) q.0, q.1)

-- a number that they have room for is told by them
pub number_same : (w v u : ℕ) → v < 256 ^ w → u < 256 ^ w → little_endian w v ≡ little_endian w u → v ≡ u
unfolding little_endian
number_same zero v u h g p = omega arith
number_same (suc w) v u h g p =
    let z : 256 ^ suc w ≡ 256 * 256 ^ w = pow-succ' 256 w in
    let a : v % 256 ≡ u % 256 = ap (λ (l : List ℕ). get_or l 0 0) p in
    let b : v / 256 ≡ u / 256 = number_same w (v / 256) (u / 256) (omega (arith, z)) (omega (arith, z)) (ap (drop 1) p) in
    omega (arith, a, b)

-- the head of a record
pub head-long : (w n k s e : ℕ) → length (head_of w n k s e) ≡ 2 + 3 * w
unfolding head_of
head-long w n k s e =
    let a = length-append (little_endian w n) (little_endian 2 k ++ (little_endian w s ++ little_endian w e)) in
    let b = length-append (little_endian 2 k) (little_endian w s ++ little_endian w e) in
    let c = length-append (little_endian w s) (little_endian w e) in
    omega (arith, a, b, c, number-long w n, number-long 2 k, number-long w s, number-long w e)

-- its numbers, in bytes
pub record SameHead (w n k s e n₂ k₂ s₂ e₂ : ℕ) (xs ys : List ℕ) : Type 0 where
  pub size : little_endian w n ≡ little_endian w n₂
  pub kind : little_endian 2 k ≡ little_endian 2 k₂
  pub start : little_endian w s ≡ little_endian w s₂
  pub end : little_endian w e ≡ little_endian w e₂
  pub rest : xs ≡ ys

pub head-same : (w n k s e n₂ k₂ s₂ e₂ : ℕ) (xs ys : List ℕ) → head_of w n k s e ++ xs ≡ head_of w n₂ k₂ s₂ e₂ ++ ys → SameHead w n k s e n₂ k₂ s₂ e₂ xs ys
unfolding head_of
head-same w n k s e n₂ k₂ s₂ e₂ xs ys p =
    let a = split (head_of w n k s e) (head_of w n₂ k₂ s₂ e₂) xs ys (omega (arith, head-long w n k s e, head-long w n₂ k₂ s₂ e₂)) p in
    let b = split (little_endian w n) (little_endian w n₂) (little_endian 2 k ++ (little_endian w s ++ little_endian w e)) (little_endian 2 k₂ ++ (little_endian w s₂ ++ little_endian w e₂)) (omega (arith, number-long w n, number-long w n₂)) a.0 in
    let c = split (little_endian 2 k) (little_endian 2 k₂) (little_endian w s ++ little_endian w e) (little_endian w s₂ ++ little_endian w e₂) (omega (arith, number-long 2 k, number-long 2 k₂)) b.1 in
    let d = split (little_endian w s) (little_endian w s₂) (little_endian w e) (little_endian w e₂) (omega (arith, number-long w s, number-long w s₂)) c.1 in
    record { size = b.0; kind = c.0; start = d.0; end = d.1; rest = a.1 }
