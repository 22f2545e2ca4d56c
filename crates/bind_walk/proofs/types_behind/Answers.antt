use Rattle.bind_walk.proofs.Structs.{behind-none, behind-types}
use Rattle.bind_walk.proofs.types_behind.Goals as goal

pub returns-then-p-ne-LESS : goal.returns-then-p-ne-LESS
returns-then-p-ne-LESS c = behind-none _ _ _ _ c.if-p-ne-LESS.true

pub returns : goal.returns
returns c = behind-types _ _ _ _ _ _ c.if-p-ne-LESS.false c.types_at.ensures
