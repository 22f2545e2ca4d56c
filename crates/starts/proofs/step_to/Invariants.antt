use mathlib.Core.Path.{◌≡◌}
use Prim.Native.Nat.{◌-◌}
use lib.ListN.{length}
use Rattle.starts.specs.code.Step.{step_to}
use Rattle.starts.proofs.step_to.Given as goal

abbrev pub invariant-loop-t : goal.invariant-loop-t
invariant-loop-t l = step_to l.edition l.text l.from l.limit ≡ step_to l.edition l.text l.at l.limit

abbrev pub decreases-loop-t : goal.decreases-loop-t
decreases-loop-t l = length l.text - l.at
