use mathlib.Core.Path.{◌≡◌}
use Prim.Native.Nat.{◌-◌, ◌≤◌}
use lib.ListN.{length, drop}
use Rattle.gap.specs.Gap.{gap, gap_end_of}
use Rattle.gap.specs.LineFeed.{line_feed}
use Rattle.gap.proofs.gap_scan.Given as goal

abbrev pub invariant-loop-i : goal.invariant-loop-i
invariant-loop-i l = (gap_end_of (gap 0 l.at (drop l.at l.text)).last ≡ gap_end_of (gap 0 l.i (drop l.i l.text)).last) × (l.at ≤ l.i) × (l.feed ≡ line_feed l.text l.at l.i)

abbrev pub decreases-loop-i : goal.decreases-loop-i
decreases-loop-i l = length l.text - l.i
