-- Where the closed parts of a gap end: one part after the other, at a place of a text; and what stands there.
use Rattle.gap.specs.declared.GapPart.{GapPart}
use Rattle.gap.specs.declared.Unclosed.{Unclosed}
use Rattle.gap.specs.Marks.{unclosed}
use Rattle.gap.specs.declared.GapPart.TheVariants.{Pass, Doc}
use Rattle.std.specs.Prelude.{Result, Ok, Err, Option, Some, None}
use mathlib.Core.Path.{◌≡◌, refl, ap, sym, ◌∙◌}
use mathlib.Core.List.{List, [], ◌∷◌}
use Prim.Native.Nat.{ℕ, zero, suc, ◌+◌, ◌-◌, ◌<◌, ◌≤◌}
use native.Mathlib.Omega.{arith}
use native.Mathlib.Nat.{add-zero, not-suc-le-zero, le_of_suc-le-suc}
use lib.ListN.{length, drop, drop_of_length-le, length-drop}
use lib.Seq.{drop-cons, drop-drop}
use Rattle.gap.specs.Comments.{part_at}
use Rattle.gap.specs.Gap.{clear, broken, Gap, gap_from, gap}
use Rattle.gap.specs.PartsEnd.{parts_from, parts_end}
use Rattle.gap.specs.code.Ends.{end_of_part}
use Rattle.gap.proofs.Gaps.{Held, held}
use Rattle.gap.proofs.Places.{tail_at}

-- bytes passed over
passed : (k p : ℕ) (s : List ℕ) → k ≤ length s → parts_end k p s ≡ parts_end 0 (p + k) (drop k s)
unfolding parts_end
passed zero p [] h = rw add-zero
passed (suc k) p [] h = absurd (not-suc-le-zero h)
passed zero p (a ∷ s) h = rw add-zero
passed (suc k) p (a ∷ s) h = passed k (suc p) s (le_of_suc-le-suc h) ∙ ap (λ (n : ℕ). parts_end 0 n (drop k s)) (omega arith)

-- at a place of a text
pub parts-over : (text : List ℕ) (i : ℕ) → length text ≤ i → parts_end 0 i (drop i text) ≡ i
unfolding parts_end
parts-over text i h = rw (drop_of_length-le text h)

module _ (text : List ℕ) (i : ℕ) (h : i < length text) where
  step : parts_end 0 i (drop i text) ≡ parts_from (part_at i (drop i text)) i (λ k. parts_end k (suc i) (drop (suc i) text))
  unfolding parts_end
  step = rw (drop-cons text i 0 h)

  on : (e : ℕ) → i < e → e ≤ length text → parts_end (e - suc i) (suc i) (drop (suc i) text) ≡ parts_end 0 e (drop e text)
  on e f g =
      let q : suc i + (e - suc i) ≡ e = omega arith in
      passed (e - suc i) (suc i) (drop (suc i) text) (omega (arith, length-drop (suc i) text)) ∙ rw (drop-drop (e - suc i) (suc i) text, q)

  past_by : (x : Result (Option GapPart) Unclosed) (e : ℕ) → part_at i (drop i text) ≡ x → Held i (length text) x → end_of_part x ≡ Ok (Some e)
      → (parts_end 0 i (drop i text) ≡ parts_end 0 e (drop e text)) × (i < e)
  unfolding end_of_part
  past_by (Ok (Some (Pass d))) e q r f = let k : d ≡ e = cc in (step ∙ rw q (on d r.0 r.1) ∙ ap (λ (n : ℕ). parts_end 0 n (drop n text)) k, omega arith)
  past_by (Ok (Some (Doc c))) e q r f = let k : c.end ≡ e = cc in (step ∙ rw q (on c.end r.0 r.1) ∙ ap (λ (n : ℕ). parts_end 0 n (drop n text)) k, omega arith)
  past_by (Err w) e q r f = let z : ◌≡◌ {A = ℕ} 0 1 = cc in absurd (omega arith)
  past_by (Ok None) e q r f = let z : ◌≡◌ {A = ℕ} 0 1 = cc in absurd (omega arith)

  pub parts-past : (e : ℕ) → end_of_part (part_at i (drop i text)) ≡ Ok (Some e) → (parts_end 0 i (drop i text) ≡ parts_end 0 e (drop e text)) × (i < e)
  parts-past e f = past_by (part_at i (drop i text)) e refl (held text i h) f

  unended-by : (x : Result (Option GapPart) Unclosed) (o e : ℕ) → part_at i (drop i text) ≡ x → end_of_part x ≡ Err (unclosed o e) → parts_end 0 i (drop i text) ≡ i
  unfolding end_of_part
  unended-by (Ok (Some (Pass d))) o e q f = let z : ◌≡◌ {A = ℕ} 0 1 = cc in absurd (omega arith)
  unended-by (Ok (Some (Doc c))) o e q f = let z : ◌≡◌ {A = ℕ} 0 1 = cc in absurd (omega arith)
  unended-by (Err w) o e q f = step ∙ rw q
  unended-by (Ok None) o e q f = let z : ◌≡◌ {A = ℕ} 0 1 = cc in absurd (omega arith)

  pub parts-unended : (o e : ℕ) → end_of_part (part_at i (drop i text)) ≡ Err (unclosed o e) → parts_end 0 i (drop i text) ≡ i
  parts-unended o e f = unended-by (part_at i (drop i text)) o e refl f

  none-by : (x : Result (Option GapPart) Unclosed) → part_at i (drop i text) ≡ x → end_of_part x ≡ Ok None → parts_end 0 i (drop i text) ≡ i
  unfolding end_of_part
  none-by (Ok (Some (Pass d))) q f = let z : ◌≡◌ {A = ℕ} 0 1 = cc in absurd (omega arith)
  none-by (Ok (Some (Doc c))) q f = let z : ◌≡◌ {A = ℕ} 0 1 = cc in absurd (omega arith)
  none-by (Err w) q f = let z : ◌≡◌ {A = ℕ} 0 1 = cc in absurd (omega arith)
  none-by (Ok None) q f = step ∙ rw q

  pub parts_none : end_of_part (part_at i (drop i text)) ≡ Ok None → parts_end 0 i (drop i text) ≡ i
  parts_none f = none-by (part_at i (drop i text)) refl f

-- no earlier than where they begin
from-later : (x : Result (Option GapPart) Unclosed) (p : ℕ) (go : ℕ → ℕ) → ((k : ℕ) → suc p ≤ go k) → p ≤ parts_from x p go
from-later (Ok (Some (Pass e))) p go ih = omega (arith, ih (e - suc p))
from-later (Ok (Some (Doc c))) p go ih = omega (arith, ih (c.end - suc p))
from-later (Err w) p go ih = omega arith
from-later (Ok None) p go ih = omega arith

pub parts-later : (s : List ℕ) (k p : ℕ) → p ≤ parts_end k p s
unfolding parts_end
parts-later [] k p = omega arith
parts-later (a ∷ s) (suc k) p = omega (arith, parts-later s k (suc p))
parts-later (a ∷ s) zero p = from-later (part_at p (a ∷ s)) p (λ k. parts_end k (suc p) s) (λ k. parts-later s k (suc p))

-- the end of a gap that ends clear
module _ (q : ℕ) (u : List ℕ) where
  from-clear : (x : Result (Option GapPart) Unclosed) (p : ℕ) (s : List ℕ) (go : ℕ → Gap) (to : ℕ → ℕ) → ((k : ℕ) → (go k).last ≡ clear q u → to k ≡ q)
      → (gap_from x p s go).last ≡ clear q u → parts_from x p to ≡ q
  from-clear (Ok (Some (Pass e))) p s go to ih h = ih (e - suc p) h
  from-clear (Ok (Some (Doc c))) p s go to ih h = ih (c.end - suc p) h
  from-clear (Err w) p s go to ih h = let z : ◌≡◌ {A = ℕ} 0 1 = cc in absurd (omega arith)
  from-clear (Ok None) p s go to ih h = cc

  pub parts-clear : (s : List ℕ) (k p : ℕ) → (gap k p s).last ≡ clear q u → parts_end k p s ≡ q
  unfolding gap parts_end
  parts-clear [] k p h = cc
  parts-clear (a ∷ s) (suc k) p h = parts-clear s k (suc p) h
  parts-clear (a ∷ s) zero p h = from-clear (part_at p (a ∷ s)) p (a ∷ s) (λ k. gap k (suc p) s) (λ k. parts_end k (suc p) s) (λ k. parts-clear s k (suc p)) h

-- the comment that is not closed, of a gap that is broken
module _ (text : List ℕ) (o e : ℕ) where
  from-broken : (x : Result (Option GapPart) Unclosed) (p : ℕ) (s : List ℕ) (go : ℕ → Gap) (to : ℕ → ℕ) → part_at p (drop p text) ≡ x
      → ((k : ℕ) → (go k).last ≡ broken o e → part_at (to k) (drop (to k) text) ≡ Err (unclosed o e))
      → (gap_from x p s go).last ≡ broken o e → part_at (parts_from x p to) (drop (parts_from x p to) text) ≡ Err (unclosed o e)
  from-broken (Ok (Some (Pass d))) p s go to q ih h = ih (d - suc p) h
  from-broken (Ok (Some (Doc c))) p s go to q ih h = ih (c.end - suc p) h
  from-broken (Err w) p s go to q ih h = let x : w.start ≡ o = cc in let y : w.end ≡ e = cc in q ∙ rw (x, y)
  from-broken (Ok None) p s go to q ih h = let z : ◌≡◌ {A = ℕ} 0 1 = cc in absurd (omega arith)

  pub parts-broken : (s : List ℕ) (k p : ℕ) → s ≡ drop p text → (gap k p s).last ≡ broken o e → part_at (parts_end k p s) (drop (parts_end k p s) text) ≡ Err (unclosed o e)
  unfolding gap parts_end
  parts-broken [] k p q h = let z : ◌≡◌ {A = ℕ} 0 1 = cc in absurd (omega arith)
  parts-broken (a ∷ s) (suc k) p q h = parts-broken s k (suc p) (tail_at text p a s q) h
  parts-broken (a ∷ s) zero p q h =
      from-broken (part_at p (a ∷ s)) p (a ∷ s) (λ k. gap k (suc p) s) (λ k. parts_end k (suc p) s) (ap (part_at p) (sym q)) (λ k. parts-broken s k (suc p) (tail_at text p a s q)) h
