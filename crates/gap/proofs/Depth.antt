-- The first scan of a block comment, at a place of the text: one law for each way through the code's loop.
use mathlib.Core.Path.{◌≡◌, refl}
use mathlib.Core.Bool.{Bool, true, false, ◌||◌}
use mathlib.Core.List.{List, [], ◌∷◌}
use Prim.Native.Nat.{ℕ, suc, pred, ◌+◌, ◌-◌, ◌<◌, ◌≤◌}
use native.Mathlib.Numerals.{add-one, add-two, sub-one}
use borrow.Author.Tests.{le-leb, lt-leb}
use lib.Dec.{eqb}
use lib.ListN.{length, get_or, drop, drop_of_length-le}
use lib.Seq.{drop-cons}
use Rattle.classes.specs.Class.{mark_or_line_feed}
use Rattle.classes.proofs.Bools.{or_left, or_right}
use Rattle.gap.specs.Marks.{opens, closes}
use Rattle.gap.specs.code.Blocks.{depth_step, depth_scan, depth_at}
use Rattle.gap.proofs.Places.{behind, behind-two}
use Rattle.std.specs.Prelude.{Result, Ok, Err, ℕ}

-- a byte that begins no mark neither opens nor closes
pub no-mark : (a b : ℕ) → mark_or_line_feed a ≡ false → (opens a b ≡ false) × (closes a b ≡ false)
unfolding opens closes mark_or_line_feed
no-mark a b h =
    let g : eqb a 47 || eqb a 42 ≡ false = or_left (eqb a 47 || eqb a 42) (eqb a 10) h in
    (rw (or_left (eqb a 47) (eqb a 42) g), rw (or_right (eqb a 47) (eqb a 42) g))

-- the second byte of a mark is passed over
skipped : (n i : ℕ) (s : List ℕ) → depth_scan true n i s ≡ depth_scan false n (suc i) (drop 1 s)
unfolding depth_scan
skipped n i [] = refl
skipped n i (a ∷ s) = refl

pub depth-end : (text : List ℕ) (i n : ℕ) → length text ≤ i → depth_at text i n ≡ Err n
unfolding depth_at depth_scan
depth-end text i n h = rw (drop_of_length-le text h)

-- what is left behind the byte at i
module _ (text : List ℕ) (i : ℕ) where
  after : Bool → ℕ → Result ℕ ℕ
  after c m = depth_scan c m (suc i) (drop (suc i) text)

  two-on : (m : ℕ) → after true m ≡ depth_at text (i + 2) m
  unfolding after depth_at
  two-on m = rw (skipped m (suc i) (drop (suc i) text), behind-two text i, add-two i)

  one_on : (m : ℕ) → after false m ≡ depth_at text (i + 1) m
  unfolding after depth_at
  one_on m = rw (add-one i)

module _ (text : List ℕ) (i n b : ℕ) (h : i < length text) (eb : b ≡ get_or text (i + 1) 0) where
  step : depth_at text i n ≡ depth_step (opens (get_or text i 0) b) (closes (get_or text i 0) b) n i (after text i)
  unfolding after depth_at depth_scan
  step = rw (eb, drop-cons text i 0 h, behind text i)

  pub opened : opens (get_or text i 0) b ≡ true → depth_at text i n ≡ depth_at text (i + 2) (n + 1)
  opened e = rw (step, e, two-on text i (suc n), add-one n)

  module _ (e : opens (get_or text i 0) b ≡ false) where
    pub shut : closes (get_or text i 0) b ≡ true → n ≤ 1 → depth_at text i n ≡ Ok (i + 2)
    shut f g = rw (step, e, f, le-leb n 1 g)

    pub closed : closes (get_or text i 0) b ≡ true → 1 < n → depth_at text i n ≡ depth_at text (i + 2) (n - 1)
    closed f g = rw (step, e, f, lt-leb n 1 g, two-on text i (pred n), sub-one n)

    pub passed : closes (get_or text i 0) b ≡ false → depth_at text i n ≡ depth_at text (i + 1) n
    passed f = rw (step, e, f, one_on text i n)

  pub passed-plain : mark_or_line_feed (get_or text i 0) ≡ false → depth_at text i n ≡ depth_at text (i + 1) n
  passed-plain e = let r = no-mark (get_or text i 0) b e in passed r.0 r.1
