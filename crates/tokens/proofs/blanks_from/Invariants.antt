use mathlib.Core.Path.{◌≡◌}
use Prim.Native.Nat.{◌-◌, ◌≤◌}
use lib.ListN.{length}
use Rattle.classes.specs.Class.{is_space}
use Rattle.classes.specs.Run.{run_end}
use Rattle.gap.specs.LineFeed.{line_feed}
use Rattle.tokens.proofs.blanks_from.Given as goal

abbrev pub invariant-loop-i : goal.invariant-loop-i
invariant-loop-i l = (run_end is_space l.text l.at ≡ run_end is_space l.text l.i) × (l.at ≤ l.i) × (l.feed ≡ line_feed l.text l.at l.i)

abbrev pub decreases-loop-i : goal.decreases-loop-i
decreases-loop-i l = length l.text - l.i
