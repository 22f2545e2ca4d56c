use Rattle.classes.specs.Table.{bit}
use borrow.Author.Rules.{rules}
use Rattle.classes.proofs.has.Goals as goal

pub returns : goal.returns
unfolding bit
returns c = search rules
