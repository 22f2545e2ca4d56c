-- The bytes of a name, and bytes packed into a number, from the last to the first.
use mathlib.Core.Path.{◌≡◌, refl, ap, sym, ◌∙◌}
use mathlib.Core.Bool.{Bool, true, false}
use mathlib.Core.List.{List, [], ◌∷◌}
use Prim.Native.Nat.{ℕ, zero, suc, ◌+◌, ◌-◌, ◌*◌, ◌/◌, ◌%◌, ◌^◌, ◌<◌, ◌≤◌}
use native.Mathlib.Omega.{arith}
use native.Mathlib.Nat.{mul_assoc, pow-suc, pow-succ', mod-eq_of_lt, add-mul-mod_self_left}
use borrow.Author.Tests.{ltb-true, ltb-false}
use lib.Dec.{ltb}
use lib.ListN.{length, get_or, take, drop, length-take, length-drop, drop_of_length-le, get_or-eq_default}
use lib.Pow.{pow-add, field, shl-shr}
use lib.Seq.{take-nil, take-take, get_or-take, get_or-drop}
use Rattle.words.specs.code.Rows.{number}

-- bytes
abbrev pub Small : List ℕ → Type 0
Small w = (i : ℕ) → get_or w i 0 < 256

-- the n bytes from `at`
module _ (s : List ℕ) (at n : ℕ) where
  pub byte-in : (j : ℕ) → j < n → get_or s (at + j) 0 ≡ get_or (take n (drop at s)) j 0
  byte-in j h = rw (get_or-take n (drop at s) j 0 h, get_or-drop at s j 0)

  pub byte_past : (j : ℕ) → n ≤ j → 0 ≡ get_or (take n (drop at s)) j 0
  byte_past j h = sym (get_or-eq_default (take n (drop at s)) 0 {n = j} (rw length-take (omega arith)))

  pub part_small : Small s → Small (take n (drop at s))
  part_small h j = go (ltb j n) refl
    where
      go : (b : Bool) → ltb j n ≡ b → get_or (take n (drop at s)) j 0 < 256
      go true p = rw (← byte-in j (ltb-true j n p)) (h (at + j))
      go false p = rw (← byte_past j (ltb-false j n p)) (omega arith)

-- at most seven bytes, packed
few : (k : ℕ) (w : List ℕ) → Small w → length w ≤ k → number w < 256 ^ k
unfolding number
few zero [] h l = omega arith
few zero (b ∷ w) h l = absurd (omega arith)
few (suc k) [] h l = let r : 0 < 256 ^ k = few k [] h (omega arith) in omega arith
few (suc k) (b ∷ w) h l =
    let r : number w < 256 ^ k = few k w (λ i. h (suc i)) (omega arith) in
    let q : b < 256 = h 0 in omega arith

small-from : (w : List ℕ) (j : ℕ) → Small w → Small (drop j w)
small-from w j h i = rw (get_or-drop j w i 0) (h (j + i))

-- from the byte j on: that byte and those behind it
pub number_step : (w : List ℕ) (j : ℕ) → number (drop j w) ≡ number (drop (suc j) w) * 256 + get_or w j 0
unfolding number
number_step [] zero = refl
number_step [] (suc j) = refl
number_step (b ∷ w) zero = omega arith
number_step (b ∷ w) (suc j) = number_step w j

-- the code's loop over at most nine bytes, from the last on
module _ (w : List ℕ) (h : length w ≤ 9) where
  pub pack-start : 0 ≡ number (drop 9 w)
  unfolding number
  pack-start = rw (drop_of_length-le w {i = 9} h)

  module _ (j v : ℕ) (g : 1 < j) (e : v ≡ number (drop j w)) where
    pub pack-small : Small w → v < 256 ^ 7
    pack-small p = rw e (few 7 (drop j w) (small-from w j p) (rw length-drop (omega arith)))

    pub pack-step : (b : ℕ) → b ≡ get_or w (j - 1) 0 → v * 256 + b ≡ number (drop (j - 1) w)
    pack-step b q =
        let z : suc (j - 1) ≡ j = omega arith in
        rw (e, q) (sym (number_step w (j - 1) ∙ rw z))

-- bytes in two parts: the number of the first k is the rest by 256 ^ k of the number of all
number-parts : (k : ℕ) (w : List ℕ) → number w ≡ number (take k w) + 256 ^ k * number (drop k w)
unfolding number
number-parts zero w = omega arith
number-parts (suc k) [] = omega arith
number-parts (suc k) (b ∷ w) =
    let r : number w ≡ number (take k w) + 256 ^ k * number (drop k w) = number-parts k w in
    let p : 256 ^ suc k * number (drop k w) ≡ 256 * (256 ^ k * number (drop k w)) = rw (pow-succ' 256 k) (mul_assoc 256 (256 ^ k) (number (drop k w))) in
    omega arith

number-first : (k : ℕ) (w : List ℕ) → Small w → number w % 256 ^ k ≡ number (take k w)
number-first k w h =
    ap (λ (x : ℕ). x % 256 ^ k) (number-parts k w) ∙ add-mul-mod_self_left (number (take k w)) (256 ^ k) (number (drop k w))
    ∙ mod-eq_of_lt (few k (take k w) (part_small w 0 k h) (rw length-take (omega arith)))

-- of the nine bytes from `at`, the n of a name, without the first
behind-first : (n : ℕ) (s : List ℕ) → 1 < n → n ≤ 9 → take (n - 1) (drop 1 (take 9 s)) ≡ drop 1 (take n s)
behind-first zero s g h = absurd (omega arith)
behind-first (suc n) [] g h = take-nil (suc n - 1)
behind-first (suc n) (b ∷ s) g h = let e : suc n - 1 ≡ n = omega arith in rw e (take-take n 8 s (omega arith))

pub name-first : (s : List ℕ) (at n : ℕ) → Small s → 1 < n → n ≤ 9 → (v : ℕ) → v ≡ number (drop 1 (take 9 (drop at s)))
    → (r : ℕ) → r ≡ v % 256 ^ (n - 1) → r ≡ number (drop 1 (take n (drop at s)))
name-first s at n p g h v e r q =
    q ∙ rw (e, ← behind-first n (drop at s) g h)
    (number-first (n - 1) (drop 1 (take 9 (drop at s))) (small-from (take 9 (drop at s)) 1 (part_small s at 9 p)))

-- a byte is eight bits; the code shifts out all bytes but the first n
byte-bits : (n : ℕ) → 2 ^ (n * 8) ≡ 256 ^ n
byte-bits zero = refl
byte-bits (suc n) =
    let e : suc n * 8 ≡ n * 8 + 8 = omega arith in
    ap (λ (k : ℕ). 2 ^ k) e ∙ pow-add 2 (n * 8) 8 ∙ ap (λ (k : ℕ). k * 256) (byte-bits n) ∙ sym (pow-suc 256 n)

pub shifted-out : (v n : ℕ) → n ≤ 8 → (v * 2 ^ (64 - n * 8)) % 2 ^ 64 / 2 ^ (64 - n * 8) ≡ v % 256 ^ n
shifted-out v n h =
    let e : 64 ≡ n * 8 + (64 - n * 8) = omega arith in
    ap (λ (k : ℕ). (v * 2 ^ (64 - n * 8)) % 2 ^ k / 2 ^ (64 - n * 8)) e ∙ field (v * 2 ^ (64 - n * 8)) (n * 8) (64 - n * 8)
    ∙ ap (λ (x : ℕ). x % 2 ^ (n * 8)) (shl-shr v (64 - n * 8)) ∙ ap (λ (m : ℕ). v % m) (byte-bits n)
