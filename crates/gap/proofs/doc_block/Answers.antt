use Rattle.std.proofs.lemmas.Grind.{common_steps}
use native.Mathlib.Omega.{arith}
use Rattle.gap.specs.Marks.{doc_block}
use Rattle.gap.proofs.doc_block.Goals as goal

pub returns-then-b-ne42 : goal.returns-then-b-ne42
unfolding doc_block
returns-then-b-ne42 c = grind (arith, common_steps)

pub returns-else-b-ne42 : goal.returns-else-b-ne42
unfolding doc_block
returns-else-b-ne42 c = grind (arith, common_steps)
