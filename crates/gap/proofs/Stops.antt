-- Where a gap ends before some bytes, these begin no part of a gap; and neither does what is left of them when they are cut off.
use Rattle.gap.specs.declared.GapPart.{GapPart}
use Rattle.gap.specs.declared.Unclosed.{Unclosed}
use Rattle.gap.specs.declared.GapPart.TheVariants.{Pass, Doc}
use mathlib.Core.Path.{◌≡◌, refl, subst}
use mathlib.Core.Bool.{Bool, true, false, cond, ◌&&◌, ◌||◌}
use mathlib.Core.List.{List, [], ◌∷◌}
use Prim.Native.Nat.{ℕ, zero, suc, ◌+◌, ◌-◌}
use native.Mathlib.Omega.{arith}
use lib.Dec.{eqb}
use lib.ListN.{get_or, take, drop}
use Rattle.classes.specs.Class.{in_line}
use Rattle.classes.specs.Run.{run_len}
use Rattle.classes.proofs.Bools.{and-false}
use Rattle.gap.specs.Marks.{is_space, is_blank, slashes, opens, doc_line, doc_block}
use Rattle.gap.specs.Comments.{inside, line_text, line_comment, block_comment, part_at}
use Rattle.gap.specs.Gap.{End, clear, Gap, gap_from, gap}
use Rattle.std.specs.Prelude.{Result, Ok, Err, ℕ, Option, Some, None}

module _ (q a : ℕ) (u : List ℕ) where
  abbrev Stop : End → Type 0
  Stop e = e ≡ clear q (a ∷ u) → part_at q (a ∷ u) ≡ Ok None

  from-stops : (p : ℕ) (s : List ℕ) (x : Result (Option GapPart) Unclosed) (go : ℕ → Gap) → part_at p s ≡ x → ((k : ℕ) → Stop (go k).last) → Stop (gap_from x p s go).last
  from-stops p s (Ok (Some (Pass e))) go h ih f = ih (e - suc p) f
  from-stops p s (Ok (Some (Doc c))) go h ih f = ih (c.end - suc p) f
  from-stops p s (Err w) go h ih f = let z : ◌≡◌ {A = ℕ} 0 1 = cc in absurd (omega arith)
  from-stops p s (Ok None) go h ih f = let i : p ≡ q = cc in let j : s ≡ a ∷ u = cc in rw (i, j) at h

  pub gap-stops : (s : List ℕ) (k p : ℕ) → Stop (gap k p s).last
  unfolding gap
  gap-stops [] k p f = let z : ◌≡◌ {A = ℕ} 0 1 = cc in absurd (omega arith)
  gap-stops (b ∷ s) (suc k) p f = gap-stops s k (suc p) f
  gap-stops (b ∷ s) zero p f = from-stops p (b ∷ s) (part_at p (b ∷ s)) (λ k. gap k (suc p) s) refl (λ k. gap-stops s k (suc p)) f

-- the tests that leave no part of a gap
abbrev Plain : ℕ → ℕ → Type 0
Plain a b = (is_blank a b ≡ false) × (slashes a b ≡ false) × (opens a b ≡ false)

is-other : Result (Option GapPart) Unclosed → Bool
is-other (Ok (Some (Pass e))) = false
is-other (Ok (Some (Doc c))) = false
is-other (Err w) = false
is-other (Ok None) = true

line_other : (p : ℕ) (s : List ℕ) → is-other (line_comment p s) ≡ false
unfolding is-other line_comment
line_other p s = go (doc_line (get_or s 2 0) (get_or s 3 0))
  where
    go : (b : Bool) → is-other (cond b (Ok (Some (Doc (record { start = p; end = p + run_len in_line s; from = p + 3; to = line_text p p s })))) (Ok (Some (Pass (p + run_len in_line s))))) ≡ false
    go true = refl
    go false = refl

block-other : (d : Bool) (p : ℕ) (b : Result ℕ ℕ) → is-other (block_comment d p b) ≡ false
unfolding is-other block_comment
block-other true p (Ok e) = refl
block-other false p (Ok e) = refl
block-other true p (Err o) = refl
block-other false p (Err o) = refl

differ : (A : Type 0) (x : Result (Option GapPart) Unclosed) → is-other x ≡ false → x ≡ Ok None → A
unfolding is-other
differ A x h e = let z : is-other (Ok None) ≡ false = subst (λ (y : Result (Option GapPart) Unclosed). is-other y ≡ false) e h in let y : ◌≡◌ {A = ℕ} 0 1 = cc in absurd (omega arith)

plain_by : (p a : ℕ) (s : List ℕ) (v w x : Bool) → is_blank a (get_or s 0 0) ≡ v → slashes a (get_or s 0 0) ≡ w → opens a (get_or s 0 0) ≡ x
    → cond v (Ok (Some (Pass (p + 1)))) (cond w (line_comment p (a ∷ s)) (cond x (block_comment (doc_block (get_or (a ∷ s) 2 0) (get_or (a ∷ s) 3 0)) p (inside false (p ∷ []) (p + 2) (drop 2 (a ∷ s)))) (Ok None))) ≡ Ok None
    → Plain a (get_or s 0 0)
unfolding is-other
plain_by p a s true w x e f g h = differ _ (Ok (Some (Pass (p + 1)))) refl h
plain_by p a s false true x e f g h = differ _ (line_comment p (a ∷ s)) (line_other p (a ∷ s)) h
plain_by p a s false false true e f g h = differ _ _ (block-other (doc_block (get_or (a ∷ s) 2 0) (get_or (a ∷ s) 3 0)) p (inside false (p ∷ []) (p + 2) (drop 2 (a ∷ s)))) h
plain_by p a s false false false e f g h = (e, f, g)

plain : (p a : ℕ) (s : List ℕ) → part_at p (a ∷ s) ≡ Ok None → Plain a (get_or s 0 0)
unfolding part_at
plain p a s h = plain_by p a s (is_blank a (get_or s 0 0)) (slashes a (get_or s 0 0)) (opens a (get_or s 0 0)) refl refl refl h

no-blank : (a b : ℕ) → is_blank a b ≡ false → is_blank a 0 ≡ false
unfolding is_blank
no-blank a b = go (is_space a) (eqb a 13)
  where
    go : (u x : Bool) → u || (x && eqb b 10) ≡ false → u || (x && false) ≡ false
    go true x h = h
    go false x h = and-false x

other-by : (p a : ℕ) (s : List ℕ) → Plain a (get_or s 0 0) → part_at p (a ∷ s) ≡ Ok None
unfolding part_at
other-by p a s h = rw (h.0, h.1, h.2)

cut-plain : (a : ℕ) (s : List ℕ) (n : ℕ) → Plain a (get_or s 0 0) → Plain a (get_or (take n s) 0 0)
unfolding slashes opens
cut-plain a s zero h = (no-blank a (get_or s 0 0) h.0, and-false (eqb a 47), and-false (eqb a 47))
cut-plain a [] (suc n) h = h
cut-plain a (b ∷ s) (suc n) h = h

-- the gap before bytes that are cut off behind their first is empty, where it was
pub gap-none : (p q a : ℕ) (s : List ℕ) (n : ℕ) → part_at q (a ∷ s) ≡ Ok None → (gap 0 p (take (suc n) (a ∷ s))).last ≡ clear p (take (suc n) (a ∷ s))
unfolding gap
gap-none p q a s n h = rw (other-by p a (take n s) (cut-plain a s n (plain q a s h)))
