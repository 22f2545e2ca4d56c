use Rattle.std.proofs.lemmas.Grind.{common_steps}
use native.Mathlib.Omega.{arith}
use Rattle.gap.specs.Marks.{is_blank}
use Rattle.gap.proofs.is_blank.Goals as goal

pub returns-then-is : goal.returns-then-is
unfolding is_blank
returns-then-is c = grind (arith, common_steps)

pub returns-then-a-eq13 : goal.returns-then-a-eq13
unfolding is_blank
returns-then-a-eq13 c = grind (arith, common_steps)

pub returns-else-a-eq13 : goal.returns-else-a-eq13
unfolding is_blank
returns-else-a-eq13 c = grind (arith, common_steps)
