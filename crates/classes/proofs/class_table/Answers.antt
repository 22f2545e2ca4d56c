use Rattle.classes.specs.Table.{class_table}
use borrow.Author.Rules.{rules}
use Rattle.classes.proofs.class_table.Goals as goal

pub returns : goal.returns
unfolding class_table
returns c = search rules
