-- A block comment with its stack of openers is what the two scans with a depth find; and where it ends.
use mathlib.Core.Path.{◌≡◌, refl, ap, sym, ◌∙◌}
use mathlib.Core.Bool.{Bool, true, false, cond, ◌&&◌}
use mathlib.Core.List.{List, [], ◌∷◌}
use Prim.Native.Nat.{ℕ, suc, pred, ◌+◌, ◌-◌, ◌<◌, ◌≤◌}
use native.Mathlib.Omega.{arith}
use native.Mathlib.Nat.{not-suc-le-zero}
use borrow.Author.Tests.{lt-leb, eqb-true, eqb-false}
use lib.Dec.{eqb}
use lib.ListN.{length, get_or, drop}
use Rattle.classes.proofs.Bools.{false-true, and_right}
use Rattle.gap.specs.Marks.{opens, closes}
use Rattle.gap.specs.Comments.{innermost, inside_step, inside}
use Rattle.gap.specs.code.Blocks.{depth_step, depth_scan, depth_at, opener_step, opener_scan, opener_at}
use Rattle.std.specs.Prelude.{Result, Ok, Err, ℕ}

-- two answers of the first scan that cannot be the same
not-both : (A : Type 0) (e n : ℕ) → ◌≡◌ {A = Result ℕ ℕ} (Ok e) (Err n) → A
not-both A e n h = let z : ◌≡◌ {A = ℕ} 0 1 = cc in absurd (omega arith)

deep_is : (n d : ℕ) → ◌≡◌ {A = Result ℕ ℕ} (Err n) (Err d) → n ≡ d
deep_is n d e = cc

-- where the first scan ends, the comment ends
module _ (e : ℕ) where
  abbrev Ends : Bool → List ℕ → ℕ → List ℕ → Type 0
  Ends b os i s = 0 < length os → depth_scan b (length os) i s ≡ Ok e → inside b os i s ≡ Ok e

  ends-step : (i : ℕ) (s : List ℕ) (v w : Bool) (os : List ℕ) → ((b : Bool) (os : List ℕ) → Ends b os (suc i) s) → 0 < length os
      → depth_step v w (length os) i (λ b n. depth_scan b n (suc i) s) ≡ Ok e → inside_step v w os i (λ b os. inside b os (suc i) s) ≡ Ok e
  ends-step i s true w os ih h q = ih true (i ∷ os) (omega arith) q
  ends-step i s false true [] ih h q = absurd (not-suc-le-zero h)
  ends-step i s false true (o ∷ []) ih h q = let r : i + 2 ≡ e = cc in ap Ok r
  ends-step i s false true (o ∷ p ∷ os) ih h q =
      let g : pred (suc (suc (length os))) ≡ suc (length os) = omega arith in
      ih true (p ∷ os) (omega arith) (rw (lt-leb (suc (suc (length os))) 1 (omega arith), g) at q)
  ends-step i s false false os ih h q = ih false os h q

  pub ends : (s : List ℕ) (b : Bool) (os : List ℕ) (i : ℕ) → Ends b os i s
  unfolding inside depth_scan
  ends [] b os i h q = not-both _ e (length os) (sym q)
  ends (a ∷ s) true os i h q = ends s false os (suc i) h q
  ends (a ∷ s) false os i h q = ends-step i s (opens a (get_or s 0 0)) (closes a (get_or s 0 0)) os (λ b os. ends s b os (suc i)) h q

-- p is the opener of depth d, where that is open
abbrev OpenerOfDepth : ℕ → List ℕ → ℕ → Type 0
OpenerOfDepth d os p = 0 < d → d ≤ length os → p ≡ get_or os (length os - d) 0

opener-push : (d i p : ℕ) (os : List ℕ) (t : Bool) → eqb (suc (length os)) d ≡ t → OpenerOfDepth d os p → OpenerOfDepth d (i ∷ os) (cond t i p)
opener-push d i p os true e m h k =
    let q : suc (length os) - d ≡ 0 = omega (arith, eqb-true (suc (length os)) d e) in
    rw q
opener-push d i p os false e m h k =
    let g : d ≤ length os = omega (arith, eqb-false (suc (length os)) d e) in
    let q : suc (length os - d) ≡ suc (length os) - d = omega arith in
    m h g ∙ ap (λ (j : ℕ). get_or (i ∷ os) j 0) q

opener-pop : (d o p : ℕ) (os : List ℕ) → OpenerOfDepth d (o ∷ os) p → OpenerOfDepth d os p
opener-pop d o p os m h k =
    let q : suc (length os) - d ≡ suc (length os - d) = omega arith in
    m h (omega arith) ∙ ap (λ (j : ℕ). get_or (o ∷ os) j 0) q

opener-top : (d p : ℕ) (os : List ℕ) → 0 < length os → length os ≡ d → OpenerOfDepth d os p → p ≡ innermost os
opener-top d p [] h e m = absurd (not-suc-le-zero h)
opener-top d p (o ∷ os) h e m =
    let q : suc (length os) - d ≡ 0 = omega arith in
    m (omega arith) (omega arith) ∙ ap (λ (j : ℕ). get_or (o ∷ os) j 0) q

-- where the first scan leaves d comments open, the second finds the innermost opener
module _ (d : ℕ) where
  abbrev Left : Bool → List ℕ → ℕ → ℕ → List ℕ → Type 0
  Left b os p i s = 0 < length os → depth_scan b (length os) i s ≡ Err d → OpenerOfDepth d os p → inside b os i s ≡ Err (opener_scan d b (length os) p i s)

  left_step : (i : ℕ) (s : List ℕ) (v w : Bool) (os : List ℕ) (p : ℕ) → ((b : Bool) (os : List ℕ) (p : ℕ) → Left b os p (suc i) s) → 0 < length os
      → depth_step v w (length os) i (λ b n. depth_scan b n (suc i) s) ≡ Err d → OpenerOfDepth d os p
      → inside_step v w os i (λ b os. inside b os (suc i) s) ≡ Err (opener_step d v w (length os) p i (λ b n p. opener_scan d b n p (suc i) s))
  left_step i s true w os p ih h e m =
      ih true (i ∷ os) (cond (eqb (suc (length os)) d) i p) (omega arith) e (opener-push d i p os (eqb (suc (length os)) d) refl m)
  left_step i s false true [] p ih h e m = absurd (not-suc-le-zero h)
  left_step i s false true (o ∷ []) p ih h e m = not-both _ (i + 2) d e
  left_step i s false true (o ∷ q ∷ os) p ih h e m =
      let g : pred (suc (suc (length os))) ≡ suc (length os) = omega arith in
      rw g (ih true (q ∷ os) p (omega arith) (rw (lt-leb (suc (suc (length os))) 1 (omega arith), g) at e) (opener-pop d o p (q ∷ os) m))
  left_step i s false false os p ih h e m = ih false os p h e m

  pub left_open : (s : List ℕ) (b : Bool) (os : List ℕ) (p i : ℕ) → Left b os p i s
  unfolding inside depth_scan opener_scan
  left_open [] b os p i h e m = ap Err (sym (opener-top d p os h (deep_is (length os) d e) m))
  left_open (a ∷ s) true os p i h e m = left_open s false os p (suc i) h e m
  left_open (a ∷ s) false os p i h e m = left_step i s (opens a (get_or s 0 0)) (closes a (get_or s 0 0)) os p (λ b os p. left_open s b os p (suc i)) h e m

-- the same for the comment whose opener stands at p of a text
module _ (text : List ℕ) (p : ℕ) where
  pub block_closed : (e : ℕ) → depth_at text (p + 2) 1 ≡ Ok e → inside false (p ∷ []) (p + 2) (drop (p + 2) text) ≡ Ok e
  unfolding depth_at
  block_closed e h = ends e (drop (p + 2) text) false (p ∷ []) (p + 2) (omega arith) h

  pub block-open : (d : ℕ) → depth_at text (p + 2) 1 ≡ Err d
      → inside false (p ∷ []) (p + 2) (drop (p + 2) text) ≡ Err (opener_at d text (p + 2) 1 p)
  unfolding depth_at opener_at
  block-open d h = left_open d (drop (p + 2) text) false (p ∷ []) p (p + 2) (omega arith) h only
    where
      only : OpenerOfDepth d (p ∷ []) p
      only g k = let q : 1 - d ≡ 0 = omega arith in rw q

-- where a comment can end, and where a blamed opener can stand: each is in the text
module _ (last : ℕ) where
  abbrev pub Below : List ℕ → Type 0
  Below [] = Unit {0}
  Below (o ∷ os) = (o + 2 ≤ last) × Below os

  abbrev pub Within : ℕ → Result ℕ ℕ → Type 0
  Within i (Ok e) = (i + 1 < e) × (e ≤ last)
  Within i (Err o) = o + 2 ≤ last

  looser : (i : ℕ) (k : Result ℕ ℕ) → Within (suc i) k → Within i k
  looser i (Ok e) h = (omega arith, h.1)
  looser i (Err o) h = h

  within_step : (i : ℕ) (s : List ℕ) (v w : Bool) (os : List ℕ) → ((b : Bool) (os : List ℕ) → 0 < length os → Below os → Within (suc i) (inside b os (suc i) s))
      → (v ≡ true → i + 2 ≤ last) → (w ≡ true → i + 2 ≤ last) → 0 < length os → Below os → Within i (inside_step v w os i (λ b os. inside b os (suc i) s))
  within_step i s true w os ih c d g k = looser i (inside true (i ∷ os) (suc i) s) (ih true (i ∷ os) (omega arith) (c refl, k))
  within_step i s false true [] ih c d g k = absurd (not-suc-le-zero g)
  within_step i s false true (o ∷ []) ih c d g k = (omega arith, d refl)
  within_step i s false true (o ∷ q ∷ os) ih c d g k = looser i (inside true (q ∷ os) (suc i) s) (ih true (q ∷ os) (omega arith) k.1)
  within_step i s false false os ih c d g k = looser i (inside false os (suc i) s) (ih false os g k)

-- a mark has two bytes
pub two-left : (m n i a : ℕ) (s : List ℕ) → eqb 0 n ≡ false → eqb a m && eqb (get_or s 0 0) n ≡ true → i + 2 ≤ i + length (a ∷ s)
two-left m n i a [] z e = false-true _ (and_right (eqb a m) false (rw z at e))
two-left m n i a (b ∷ s) z e = omega arith

pub inside-within : (s : List ℕ) (b : Bool) (os : List ℕ) (i : ℕ) (last : ℕ) → i + length s ≡ last → 0 < length os → Below last os → Within last i (inside b os i s)
unfolding inside opens closes
inside-within [] b [] i last e g h = absurd (not-suc-le-zero g)
inside-within [] b (o ∷ os) i last e g h = h.0
inside-within (a ∷ s) true os i last e g h = looser last i (inside false os (suc i) s) (inside-within s false os (suc i) last (omega arith) g h)
inside-within (a ∷ s) false os i last e g h =
    within_step last i s (opens a (get_or s 0 0)) (closes a (get_or s 0 0)) os (λ b os. inside-within s b os (suc i) last (omega arith))
    (λ c. rw e at (two-left 47 42 i a s refl c)) (λ c. rw e at (two-left 42 47 i a s refl c)) g h
