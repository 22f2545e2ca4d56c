use Prim.Native.Nat.{◌+◌, ◌-◌}
use lib.ListN.{length}
use Rattle.carried.specs.code.Passes.{Movable}
use Rattle.carried.proofs.Passes.{Moving}
use Rattle.carried.proofs.move_notes.Given as goal

abbrev pub invariant-loop-k : goal.invariant-loop-k
invariant-loop-k l = (m : Movable l.text l.initial.notes) → Moving l.text l.initial.notes m l.at l.p l.notes

abbrev pub decreases-loop-k : goal.decreases-loop-k
decreases-loop-k l = length l.text + 1 - l.p
