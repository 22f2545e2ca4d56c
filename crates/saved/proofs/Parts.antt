-- Parts of bytes: a number's, a head's; and what a head of known bytes reads as.
use mathlib.Core.Path.{◌≡◌, refl, ap, sym, ◌∙◌}
use mathlib.Core.Bool.{true}
use mathlib.Core.List.{List, [], ◌∷◌, ◌++◌}
use Prim.Native.Nat.{ℕ, zero, suc, ◌+◌, ◌/◌, ◌%◌, ◌^◌, ◌<◌, ◌≤◌}
use native.Mathlib.Omega.{arith}
use native.Mathlib.Numerals.{add-one}
use native.Mathlib.Nat.{pow-succ'}
use borrow.Author.Tests.{eqb-true}
use lib.Dec.{eqb}
use lib.ListN.{length, get_or, take, drop, length-drop}
use lib.Seq.{take-add, drop-drop, drop-cons, length-take-le}
use Rattle.classes.specs.Bytes.{begins}
use Rattle.classes.proofs.Bools.{false-true, and_left, and_right}
use Rattle.records.specs.Stored.{little_endian, head_of}
use Rattle.records.proofs.Numbers.{number_same, head-same}
use Rattle.saved.specs.Heads.{number_at, head_in}
use Rattle.saved.specs.Theorems.{Bytes}
use Rattle.saved.proofs.Heads.{number_step, number-none}

-- so many bytes from p on
abbrev pub part : List ℕ → (p n : ℕ) → List ℕ
part l p n = take n (drop p l)

pub part-add : (l : List ℕ) (p a b : ℕ) → part l p (a + b) ≡ part l p a ++ part l (p + a) b
part-add l p a b = take-add a b (drop p l) ∙ ap (λ (x : List ℕ). part l p a ++ take b x) (drop-drop a p l)

pub part-long : (l : List ℕ) (p n : ℕ) → p + n ≤ length l → length (part l p n) ≡ n
part-long l p n h = length-take-le n (drop p l) (omega (arith, length-drop p l))

-- a list begins with the bytes that it is told to begin with
pub begins-take : (w l : List ℕ) → begins w l ≡ true → take (length w) l ≡ w
unfolding begins
begins-take [] l h = refl
begins-take (a ∷ w) [] h = false-true (_ ≡ _) h
begins-take (a ∷ w) (b ∷ l) h =
    let x : b ≡ a = eqb-true b a (and_left (eqb b a) (begins w l) h) in
    ap (λ (y : ℕ). y ∷ take (length w) l) x ∙ ap (◌∷◌ a) (begins-take w l (and_right (eqb b a) (begins w l) h))

module _ (l : List ℕ) (small : Bytes l) where
  -- a number has the bytes that it is read from, and is below what these can count
  pub number-bytes : (w p : ℕ) → p + w ≤ length l → little_endian w (number_at w l p) ≡ part l p w
  unfolding little_endian
  number-bytes zero p h = refl
  number-bytes (suc w) p h =
      let s = number_step w l p in
      let a : number_at (suc w) l p % 256 ≡ get_or l p 0 = omega (arith, s, small p) in
      let b : number_at (suc w) l p / 256 ≡ number_at w l (p + 1) = omega (arith, s, small p) in
      let c : drop p l ≡ get_or l p 0 ∷ drop (p + 1) l = drop-cons l p 0 (omega arith) ∙ ap (λ (n : ℕ). get_or l p 0 ∷ drop n l) (sym (add-one p)) in
      rw (a, b, c) (ap (◌∷◌ (get_or l p 0)) (number-bytes w (p + 1) (omega arith)))

  pub number-below : (w p : ℕ) → number_at w l p < 256 ^ w
  number-below zero p = omega (arith, number-none l p)
  number-below (suc w) p = omega (arith, number_step w l p, small p, number-below w (p + 1), pow-succ' 256 w)

  -- the bytes of a head
  pub head_bytes : (w p : ℕ) → p + (w + (2 + (w + w))) ≤ length l
      → head_of w (head_in w l p).len (head_in w l p).kind (head_in w l p).start (head_in w l p).end ≡ part l p (w + (2 + (w + w)))
  unfolding head_of head_in
  head_bytes w p h =
      ap (λ (x : List ℕ). x ++ (little_endian 2 (number_at 2 l (p + w)) ++ (little_endian w (number_at w l (p + w + 2)) ++ little_endian w (number_at w l (p + w + 2 + w))))) (number-bytes w p (omega arith))
      ∙ ap (λ (x : List ℕ). part l p w ++ (x ++ (little_endian w (number_at w l (p + w + 2)) ++ little_endian w (number_at w l (p + w + 2 + w))))) (number-bytes 2 (p + w) (omega arith))
      ∙ ap (λ (x : List ℕ). part l p w ++ (part l (p + w) 2 ++ (x ++ little_endian w (number_at w l (p + w + 2 + w))))) (number-bytes w (p + w + 2) (omega arith))
      ∙ ap (λ (x : List ℕ). part l p w ++ (part l (p + w) 2 ++ (part l (p + w + 2) w ++ x))) (number-bytes w (p + w + 2 + w) (omega arith))
      ∙ ap (λ (x : List ℕ). part l p w ++ (part l (p + w) 2 ++ x)) (sym (part-add l (p + w + 2) w w))
      ∙ ap (λ (x : List ℕ). part l p w ++ x) (sym (part-add l (p + w) 2 (w + w)))
      ∙ sym (part-add l p w (2 + (w + w)))

  -- a head that was written with numbers that its bytes have room for is read as these
  pub head_read : (w p n k s e : ℕ) → p + (w + (2 + (w + w))) ≤ length l → part l p (w + (2 + (w + w))) ≡ head_of w n k s e → n < 256 ^ w → k < 65536 → s < 256 ^ w → e < 256 ^ w
      → head_in w l p ≡ record { len = n; kind = k; start = s; end = e }
  unfolding head_in
  head_read w p n k s e h q a b c d =
      let m : ℕ = number_at w l p in
      let j : ℕ = number_at 2 l (p + w) in
      let x : ℕ = number_at w l (p + w + 2) in
      let y : ℕ = number_at w l (p + w + 2 + w) in
      let z = head-same w m j x y n k s e [] [] (ap (λ (u : List ℕ). u ++ []) (head_bytes w p h ∙ q)) in
      rw (number_same w m n (number-below w p) a z.size, number_same 2 j k (number-below 2 (p + w)) b z.kind, number_same w x s (number-below w (p + w + 2)) c z.start, number_same w y e (number-below w (p + w + 2 + w)) d z.end)
