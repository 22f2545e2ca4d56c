use Rattle.std.proofs.Common.{rules}
use Rattle.starts.specs.Beginning.{beginning_fault, start_fault}
use Rattle.starts.proofs.start_fault.Goals as goal

pub returns-in_err-beginning_at : goal.returns-in_err-beginning_at
unfolding start_fault beginning_fault
returns-in_err-beginning_at c = search rules

pub returns-then-branch : goal.returns-then-branch
unfolding start_fault beginning_fault
returns-then-branch c = search rules

pub returns : goal.returns
unfolding start_fault beginning_fault
returns c = search rules
