use Rattle.std.proofs.Common.{rules}
use Rattle.tokens.specs.code.Found.{with_doc}
use Rattle.tokens.proofs.with_doc.Goals as goal

pub returns-in-Ok : goal.returns-in-Ok
unfolding with_doc
returns-in-Ok c = search rules

pub returns-in-Err : goal.returns-in-Err
unfolding with_doc
returns-in-Err c = search rules
