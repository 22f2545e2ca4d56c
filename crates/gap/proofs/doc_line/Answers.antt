use Rattle.std.proofs.lemmas.Grind.{common_steps}
use native.Mathlib.Omega.{arith}
use Rattle.gap.specs.Marks.{doc_line}
use Rattle.gap.proofs.doc_line.Goals as goal

pub returns-then-a-eq47 : goal.returns-then-a-eq47
unfolding doc_line
returns-then-a-eq47 c = grind (arith, common_steps)

pub returns-else-a-eq47 : goal.returns-else-a-eq47
unfolding doc_line
returns-else-a-eq47 c = grind (arith, common_steps)
