use mathlib.Core.Path.{◌≡◌}
use Prim.Native.Nat.{◌-◌, ◌+◌, ◌≤◌}
use lib.ListN.{length}
use Rattle.gap.specs.code.Blocks.{opener_at}
use Rattle.gap.proofs.opener_of.Given as goal

abbrev pub invariant-loop-i : goal.invariant-loop-i
invariant-loop-i l = (l.n ≤ l.i + 1) × (opener_at l.d l.text l.at 1 l.p ≡ opener_at l.d l.text l.i l.n l.last)

abbrev pub decreases-loop-i : goal.decreases-loop-i
decreases-loop-i l = length l.text - l.i
