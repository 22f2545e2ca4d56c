use Rattle.std.proofs.lemmas.Grind.{common_steps}
use native.Mathlib.Omega.{arith}
use Rattle.starts.specs.Beginning.{bounds}
use Rattle.starts.proofs.is_bound.Goals as goal

pub returns-then-offset-t-2 : goal.returns-then-offset-t-2
unfolding bounds
returns-then-offset-t-2 c = grind (arith, common_steps)

pub returns-then-t-eq-GREATER_GREATER : goal.returns-then-t-eq-GREATER_GREATER
unfolding bounds
returns-then-t-eq-GREATER_GREATER c = grind (arith, common_steps)

pub returns-else-t-eq-GREATER_GREATER : goal.returns-else-t-eq-GREATER_GREATER
unfolding bounds
returns-else-t-eq-GREATER_GREATER c = grind (arith, common_steps)
