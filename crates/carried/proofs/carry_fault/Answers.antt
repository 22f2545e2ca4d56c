use Rattle.std.proofs.Common.{rules}
use Rattle.tokens.specs.Calls.{◌or_else◌}
use Rattle.carried.specs.Carry.{carry_fault}
use Rattle.carried.proofs.carry_fault.Goals as goal

pub returns-in_err-walk_fault : goal.returns-in_err-walk_fault
unfolding carry_fault ◌or_else◌
returns-in_err-walk_fault c = search rules

pub returns-in_err-walk_fault-2 : goal.returns-in_err-walk_fault-2
unfolding carry_fault ◌or_else◌
returns-in_err-walk_fault-2 c = search rules

pub returns : goal.returns
unfolding carry_fault ◌or_else◌
returns c = search rules
