use Rattle.carried.specs.code.Passes.{LeastOf}
use Rattle.carried.proofs.least_from.Given as goal

abbrev pub invariant-loop-i : goal.invariant-loop-i
invariant-loop-i l = LeastOf l.p l.notes l.i l.k
