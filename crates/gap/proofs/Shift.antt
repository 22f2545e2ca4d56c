-- The gap of the same bytes at a place k further on is the same gap with all places raised by k.
use Rattle.gap.specs.declared.GapPart.{GapPart}
use Rattle.gap.specs.declared.Unclosed.{Unclosed}
use Rattle.gap.specs.Marks.{unclosed}
use Rattle.gap.specs.declared.GapPart.TheVariants.{Pass, Doc}
use mathlib.Core.Path.{◌≡◌, refl, ap, sym, ◌∙◌}
use mathlib.Core.Bool.{Bool, true, false, cond}
use mathlib.Core.List.{List, [], ◌∷◌, map}
use Prim.Native.Nat.{ℕ, zero, suc, ◌+◌, ◌-◌, ◌<◌}
use native.Mathlib.Omega.{arith}
use native.Mathlib.Nat.{add-suc, add_assoc, not-suc-le-zero}
use borrow.Author.Tests.{eqb-true, eqb-false, eq-eqb, ne_eqb}
use lib.Dec.{eqb}
use lib.ListN.{length, get_or, drop}
use Rattle.classes.proofs.Bools.{false-true, and_right}
use Rattle.classes.specs.Class.{in_line}
use Rattle.classes.specs.Run.{run_len}
use Rattle.gap.specs.Marks.{is_blank, slashes, opens, closes, doc_line, doc_block}
use Rattle.gap.specs.Comments.{inside_step, inside, line_text, line_comment, block_comment, part_at}
use Rattle.gap.specs.Gap.{Gap, noted, gap_from, gap}
use Rattle.gap.specs.Raise.{raise_comment, raise_gap}
use Rattle.gap.proofs.Inside.{Within, inside-within}
use Rattle.std.specs.Prelude.{Result, Ok, Err, ℕ, Option, Some, None}

module _ (k : ℕ) where
  abbrev raise_block : Result ℕ ℕ → Result ℕ ℕ
  raise_block (Ok e) = Ok (k + e)
  raise_block (Err o) = Err (k + o)

  abbrev raise_part : Result (Option GapPart) Unclosed → Result (Option GapPart) Unclosed
  raise_part (Ok (Some (Pass e))) = Ok (Some (Pass (k + e)))
  raise_part (Ok (Some (Doc c))) = Ok (Some (Doc (raise_comment k c)))
  raise_part (Err w) = Err (unclosed (k + w.start) (k + w.end))
  raise_part (Ok None) = Ok None

  abbrev up : List ℕ → List ℕ
  up os = map (λ (o : ℕ). k + o) os

  same_test : (o p : ℕ) → eqb (k + o) (k + p) ≡ eqb o p
  same_test o p = go (eqb o p) refl
    where
      go : (b : Bool) → eqb o p ≡ b → eqb (k + o) (k + p) ≡ eqb o p
      go true e = eq-eqb (k + o) (k + p) (ap (λ (n : ℕ). k + n) (eqb-true o p e)) ∙ sym e
      go false e = ne_eqb (k + o) (k + p) (λ q. eqb-false o p e (omega arith)) ∙ sym e

  step-up : (i : ℕ) (s : List ℕ) (v w : Bool) (os : List ℕ) → ((b : Bool) (os : List ℕ) → 0 < length os → inside b (up os) (k + suc i) s ≡ raise_block (inside b os (suc i) s))
      → 0 < length os → inside_step v w (up os) (k + i) (λ b os. inside b os (suc (k + i)) s) ≡ raise_block (inside_step v w os i (λ b os. inside b os (suc i) s))
  step-up i s true w os ih h = rw (← add-suc) (ih true (i ∷ os) (omega arith))
  step-up i s false true [] ih h = absurd (not-suc-le-zero h)
  step-up i s false true (o ∷ []) ih h = ap Ok (add_assoc k i 2)
  step-up i s false true (o ∷ q ∷ os) ih h = rw (← add-suc) (ih true (q ∷ os) (omega arith))
  step-up i s false false os ih h = rw (← add-suc) (ih false os h)

  inside-up : (s : List ℕ) (b : Bool) (os : List ℕ) (i : ℕ) → 0 < length os → inside b (up os) (k + i) s ≡ raise_block (inside b os i s)
  unfolding inside
  inside-up [] b [] i h = absurd (not-suc-le-zero h)
  inside-up [] b (o ∷ os) i h = refl
  inside-up (a ∷ s) true os i h = rw (← add-suc) (inside-up s false os (suc i) h)
  inside-up (a ∷ s) false os i h = step-up i s (opens a (get_or s 0 0)) (closes a (get_or s 0 0)) os (λ b os. inside-up s b os (suc i)) h

  text-step : (s : List ℕ) (t i : ℕ) (b c : Bool) → ((t : ℕ) → line_text (k + t) (k + suc i) s ≡ k + line_text t (suc i) s)
      → cond b (k + t) (line_text (cond c (k + t) (suc (k + i))) (suc (k + i)) s) ≡ k + cond b t (line_text (cond c t (suc i)) (suc i) s)
  text-step s t i true c ih = refl
  text-step s t i false true ih = rw (← add-suc) (ih t)
  text-step s t i false false ih = rw (← add-suc) (ih (suc i))

  text-up : (s : List ℕ) (t i : ℕ) → line_text (k + t) (k + i) s ≡ k + line_text t i s
  unfolding line_text
  text-up [] t i = refl
  text-up (a ∷ s) t i = text-step s t i (eqb a 10) (eqb a 13) (λ t. text-up s t (suc i))

  pick : (b : Bool) (x y : Result (Option GapPart) Unclosed) (v w : Result (Option GapPart) Unclosed) → v ≡ raise_part x → w ≡ raise_part y → cond b v w ≡ raise_part (cond b x y)
  pick true x y v w e f = e
  pick false x y v w e f = f

  pick-if : (b : Bool) (x y : Result (Option GapPart) Unclosed) (v w : Result (Option GapPart) Unclosed) → (b ≡ true → v ≡ raise_part x) → w ≡ raise_part y → cond b v w ≡ raise_part (cond b x y)
  pick-if true x y v w e f = e refl
  pick-if false x y v w e f = f

  line-up : (p : ℕ) (s : List ℕ) → line_comment (k + p) s ≡ raise_part (line_comment p s)
  unfolding line_comment
  line-up p s =
      pick (doc_line (get_or s 2 0) (get_or s 3 0)) (Ok (Some (Doc (record { start = p; end = p + run_len in_line s; from = p + 3; to = line_text p p s })))) (Ok (Some (Pass (p + run_len in_line s)))) _ _
      (rw (text-up s p p, add_assoc k p (run_len in_line s), add_assoc k p 3)) (ap (λ (n : ℕ). Ok (Some (Pass n))) (add_assoc k p (run_len in_line s)))

  block_up : (d : Bool) (p : ℕ) (b : Result ℕ ℕ) (i last : ℕ) → Within last i b → block_comment d (k + p) (raise_block b) ≡ raise_part (block_comment d p b)
  unfolding block_comment
  block_up true p (Ok e) i last h =
      let q : k + e - 2 ≡ k + (e - 2) = omega arith in
      rw (q, add_assoc k p 3)
  block_up false p (Ok e) i last h = refl
  block_up true p (Err o) i last h = rw (same_test o p) (ap (λ (n : ℕ). Err (unclosed (k + o) n)) (add_assoc k o (cond (eqb o p) 3 2)))
  block_up false p (Err o) i last h = ap (λ (n : ℕ). Err (unclosed (k + o) n)) (add_assoc k o 2)

  opened_up : (p a : ℕ) (s : List ℕ) (d : Bool) → opens a (get_or s 0 0) ≡ true
      → block_comment d (k + p) (inside false ((k + p) ∷ []) (k + p + 2) (drop 2 (a ∷ s))) ≡ raise_part (block_comment d p (inside false (p ∷ []) (p + 2) (drop 2 (a ∷ s))))
  unfolding opens
  opened_up p a [] d h = false-true _ (and_right (eqb a 47) false h)
  opened_up p a (b ∷ s) d h =
      rw (add_assoc k p 2, inside-up s false (p ∷ []) (p + 2) (omega arith))
      (block_up d p (inside false (p ∷ []) (p + 2) s) (p + 2) (p + 2 + length s)
      (inside-within s false (p ∷ []) (p + 2) (p + 2 + length s) refl (omega arith) (omega arith, tt)))

  part_up : (p a : ℕ) (s : List ℕ) → part_at (k + p) (a ∷ s) ≡ raise_part (part_at p (a ∷ s))
  unfolding part_at
  part_up p a s =
      pick (is_blank a (get_or s 0 0)) _ _ _ _ (ap (λ (n : ℕ). Ok (Some (Pass n))) (add_assoc k p 1))
      (pick (slashes a (get_or s 0 0)) _ _ _ _ (line-up p (a ∷ s))
      (pick-if (opens a (get_or s 0 0)) _ _ _ _ (opened_up p a s (doc_block (get_or (a ∷ s) 2 0) (get_or (a ∷ s) 3 0))) refl))

  from_up : (p : ℕ) (s : List ℕ) (x : Result (Option GapPart) Unclosed) (go go_up : ℕ → Gap) → ((j : ℕ) → go_up j ≡ raise_gap k (go j)) → gap_from (raise_part x) (k + p) s go_up ≡ raise_gap k (gap_from x p s go)
  from_up p s (Ok (Some (Pass e))) go go_up ih =
      let q : k + e - suc (k + p) ≡ e - suc p = omega arith in
      rw q (ih (e - suc p))
  from_up p s (Ok (Some (Doc c))) go go_up ih =
      let q : k + c.end - suc (k + p) ≡ c.end - suc p = omega arith in
      rw q (ap (noted (raise_comment k c)) (ih (c.end - suc p)))
  from_up p s (Err w) go go_up ih = refl
  from_up p s (Ok None) go go_up ih = refl

  pub gap_up : (s : List ℕ) (j p : ℕ) → gap j (k + p) s ≡ raise_gap k (gap j p s)
  unfolding gap
  gap_up [] j p = refl
  gap_up (a ∷ s) (suc j) p = rw (← add-suc) (gap_up s j (suc p))
  gap_up (a ∷ s) zero p =
      rw (part_up p a s)
      (from_up p (a ∷ s) (part_at p (a ∷ s)) (λ j. gap j (suc p) s) (λ j. gap j (suc (k + p)) s) (λ j. rw (← add-suc) (gap_up s j (suc p))))
