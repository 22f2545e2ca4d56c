use Rattle.std.proofs.Common.{rules}
use Rattle.tokens.specs.code.Found.{flagged}
use Rattle.tokens.proofs.with_flag.Goals as goal

pub returns-in-Ok : goal.returns-in-Ok
unfolding flagged
returns-in-Ok c = search rules

pub returns-in-Err : goal.returns-in-Err
unfolding flagged
returns-in-Err c = search rules
