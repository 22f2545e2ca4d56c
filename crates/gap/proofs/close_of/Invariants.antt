use mathlib.Core.Path.{◌≡◌}
use Prim.Native.Nat.{◌-◌, ◌+◌, ◌≤◌}
use lib.ListN.{length}
use Rattle.gap.specs.LineFeed.{line_feed}
use Rattle.gap.specs.code.Blocks.{depth_at}
use Rattle.gap.proofs.close_of.Given as goal

abbrev pub invariant-loop-i : goal.invariant-loop-i
invariant-loop-i l = (l.n ≤ l.i + 1) × (depth_at l.text l.at 1 ≡ depth_at l.text l.i l.n) × (l.at ≤ l.i) × (l.feed ≡ line_feed l.text l.at l.i)

abbrev pub decreases-loop-i : goal.decreases-loop-i
decreases-loop-i l = length l.text - l.i
