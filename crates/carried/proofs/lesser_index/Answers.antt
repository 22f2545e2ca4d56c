use Rattle.std.proofs.lemmas.Grind.{common_steps}
use native.Mathlib.Omega.{arith}
use Rattle.carried.specs.code.Passes.{lesser}
use Rattle.carried.proofs.lesser_index.Goals as goal

pub returns-then-x-notes : goal.returns-then-x-notes
unfolding lesser
returns-then-x-notes c = grind (arith, common_steps)

pub returns : goal.returns
unfolding lesser
returns c = grind (arith, common_steps)
