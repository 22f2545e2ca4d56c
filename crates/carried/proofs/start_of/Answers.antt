use mathlib.Core.Path.{sym, ap}
use Rattle.carried.specs.code.Passes.{start_of}
use borrow.Author.Rules.{rules}
use Rattle.carried.proofs.start_of.Goals as goal

pub returns-in-Ok : goal.returns-in-Ok
unfolding start_of
returns-in-Ok c = sym (ap start_of c.in-Ok.is)

pub returns-in-Err : goal.returns-in-Err
unfolding start_of
returns-in-Err c = search rules
