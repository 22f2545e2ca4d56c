use Rattle.carried.specs.code.Passes.{lower}
use Rattle.carried.proofs.lower_index.Goals as goal

pub returns-then-good : goal.returns-then-good
unfolding lower
returns-then-good c = rw c.if-good.true

pub returns : goal.returns
unfolding lower
returns c = rw c.if-good.false c.min.ensures
