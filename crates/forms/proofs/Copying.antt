-- Copying a token's bytes.
use mathlib.Core.Path.{◌≡◌, refl, ap, sym, ◌∙◌}
use mathlib.Core.Bool.{Bool, true, false, cond}
use mathlib.Core.List.{List, [], ◌∷◌, ◌++◌, append-nil}
use Prim.Native.Nat.{ℕ, zero, suc, ◌-◌, ◌<◌, ◌≤◌}
use native.Mathlib.Omega.{arith}
use borrow.Author.Tests.{ltb-true, ltb-false}
use lib.Dec.{ltb}
use borrow.Rule.Slice.PartMut.{mid_of, post_of, put_mid}
use lib.ListN.{length, take, drop, length-drop, drop_of_length-le}
use lib.Seq.{sets, take_all, length-take-le}
use Rattle.buffer.proofs.Sets.{sets-out}
use Rattle.records.proofs.Runs.{sets-front}
use Rattle.forms.specs.code.Spots.{moved_by, Placed}
use Rattle.forms.specs.declared.Spot.{Spot}
use Rattle.forms.proofs.Placing.{placed-as}

-- a run of stores into the part of a buffer that starts at i
sets-part : (i : ℕ) (l vs : List ℕ) → take i l ++ sets (drop i l) 0 vs ≡ sets l i vs
sets-part zero l vs = refl
sets-part (suc i) [] vs = sets-out vs [] 0 (omega arith) ∙ sym (sets-out vs [] (suc i) (omega arith))
sets-part (suc i) (a ∷ l) vs = ap (◌∷◌ a) (sets-part i l vs) ∙ sym (sets-front vs a l i)

-- the same, as the caller has it back: what stands before the part, the part, and nothing behind it
pub sets-mid : (i : ℕ) (l m vs : List ℕ) → i ≤ length l → m ≡ sets (mid_of i (length l - i) l) 0 vs → put_mid i (length l - i) l m ≡ sets l i vs
sets-mid i l m vs h e =
    let a : mid_of i (length l - i) l ≡ drop i l = take_all (length l - i) (drop i l) (omega (arith, length-drop i l)) in
    let b : post_of i (length l - i) l ≡ [] = drop_of_length-le (drop i l) {i = length l - i} (omega (arith, length-drop i l)) in
    rw (b, append-nil m, e, a) (sets-part i l vs)

-- the bytes of a span that the text has
module _ (text : List ℕ) (s e q : ℕ) (c : q ≡ cond (ltb e (length text)) e (length text)) where
  clipped-word : take (q - s) (drop s text) ≡ take (e - s) (drop s text)
  clipped-word = go (ltb e (length text)) refl
    where
      go : (b : Bool) → ltb e (length text) ≡ b → take (q - s) (drop s text) ≡ take (e - s) (drop s text)
      go true f = let z : q ≡ e = c ∙ rw f in rw z
      go false f =
          let z : q ≡ length text = c ∙ rw f in
          let g = ltb-false e (length text) f in
          take_all (q - s) (drop s text) (omega (arith, length-drop s text)) ∙ sym (take_all (e - s) (drop s text) (omega (arith, length-drop s text)))

  pub clipped-inside : q ≤ length text
  clipped-inside = go (ltb e (length text)) refl
    where
      go : (b : Bool) → ltb e (length text) ≡ b → q ≤ length text
      go true f = let z : q ≡ e = c ∙ rw f in omega (arith, ltb-true e (length text) f)
      go false f = let z : q ≡ length text = c ∙ rw f in omega arith

  module _ (l m : List ℕ) (i j : Spot) where
    pub word_none : q ≤ s → j ≡ moved_by i 0 → Placed l i (take (e - s) (drop s text)) j l
    word_none g f = let z : q - s ≡ 0 = omega arith in placed-as l l [] (take (e - s) (drop s text)) i j (sym (ap (λ (n : ℕ). take n (drop s text)) z) ∙ clipped-word) (record { ends = f; holds = refl })

    pub word_some : s < q → j ≡ moved_by i (q - s) → m ≡ sets l i.pos (take (q - s) (drop s text)) → Placed l i (take (e - s) (drop s text)) j m
    word_some g f w =
        placed-as l m (take (q - s) (drop s text)) (take (e - s) (drop s text)) i j clipped-word
        (record { ends = f ∙ ap (moved_by i) (sym (length-take-le (q - s) (drop s text) (omega (arith, length-drop s text, clipped-inside)))); holds = w })
