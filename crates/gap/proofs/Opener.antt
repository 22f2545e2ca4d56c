-- The second scan of a block comment, at a place of the text.
use mathlib.Core.Path.{◌≡◌, refl}
use mathlib.Core.Bool.{Bool, true, false, cond}
use mathlib.Core.List.{List, [], ◌∷◌}
use Prim.Native.Nat.{ℕ, suc, pred, ◌+◌, ◌-◌, ◌<◌, ◌≤◌}
use native.Mathlib.Numerals.{add-one, add-two, sub-one}
use lib.Dec.{eqb}
use lib.ListN.{length, get_or, drop, drop_of_length-le}
use lib.Seq.{drop-cons}
use Rattle.gap.specs.Marks.{opens, closes}
use Rattle.gap.specs.code.Blocks.{opener_step, opener_scan, opener_at}
use Rattle.gap.proofs.Places.{behind, behind-two}

skipped : (d n p i : ℕ) (s : List ℕ) → opener_scan d true n p i s ≡ opener_scan d false n p (suc i) (drop 1 s)
unfolding opener_scan
skipped d n p i [] = refl
skipped d n p i (a ∷ s) = refl

pub opener-end : (d : ℕ) (text : List ℕ) (i n p : ℕ) → length text ≤ i → opener_at d text i n p ≡ p
unfolding opener_at opener_scan
opener-end d text i n p h = rw (drop_of_length-le text h)

-- what is left behind the byte at i
module _ (d : ℕ) (text : List ℕ) (i : ℕ) where
  after : Bool → ℕ → ℕ → ℕ
  after c m q = opener_scan d c m q (suc i) (drop (suc i) text)

  two-on : (m q : ℕ) → after true m q ≡ opener_at d text (i + 2) m q
  unfolding after opener_at
  two-on m q = rw (skipped d m q (suc i) (drop (suc i) text), behind-two text i, add-two i)

  one_on : (m q : ℕ) → after false m q ≡ opener_at d text (i + 1) m q
  unfolding after opener_at
  one_on m q = rw (add-one i)

module _ (d : ℕ) (text : List ℕ) (i n p b : ℕ) (h : i < length text) (eb : b ≡ get_or text (i + 1) 0) where
  step : opener_at d text i n p ≡ opener_step d (opens (get_or text i 0) b) (closes (get_or text i 0) b) n p i (after d text i)
  unfolding after opener_at opener_scan
  step = rw (eb, drop-cons text i 0 h, behind text i)

  pub opened : (q : ℕ) → q ≡ cond (eqb (n + 1) d) i p → opens (get_or text i 0) b ≡ true → opener_at d text i n p ≡ opener_at d text (i + 2) (n + 1) q
  opened q g e = rw (step, e, g, add-one n, two-on d text i (suc n) (cond (eqb (suc n) d) i p))

  module _ (e : opens (get_or text i 0) b ≡ false) where
    pub closed : (m : ℕ) → m ≡ n - 1 → closes (get_or text i 0) b ≡ true → opener_at d text i n p ≡ opener_at d text (i + 2) m p
    closed m g f = rw (step, e, f, g, sub-one n, two-on d text i (pred n) p)

    pub passed : closes (get_or text i 0) b ≡ false → opener_at d text i n p ≡ opener_at d text (i + 1) n p
    passed f = rw (step, e, f, one_on d text i n p)
