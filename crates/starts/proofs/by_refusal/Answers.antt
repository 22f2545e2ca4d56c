use Rattle.std.proofs.lemmas.Grind.{common_steps}
use native.Mathlib.Omega.{arith}
use Rattle.starts.specs.Beginning.{by_refusal}
use Rattle.starts.proofs.by_refusal.Goals as goal

pub returns-then-start-offset : goal.returns-then-start-offset
unfolding by_refusal
returns-then-start-offset c = grind (arith, common_steps)

pub returns-then-offset-start : goal.returns-then-offset-start
unfolding by_refusal
returns-then-offset-start c = grind (arith, common_steps)

pub returns-else-offset-start : goal.returns-else-offset-start
unfolding by_refusal
returns-else-offset-start c = grind (arith, common_steps)
