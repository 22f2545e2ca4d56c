use Rattle.std.proofs.Common.{rules}
use Rattle.tokens.specs.Calls.{call_fault, ◌or_else◌}
use Rattle.tokens.proofs.call_fault.Goals as goal

pub returns-in_err-place_fault : goal.returns-in_err-place_fault
unfolding call_fault ◌or_else◌
returns-in_err-place_fault c = search rules

pub returns : goal.returns
unfolding call_fault ◌or_else◌
returns c = search rules
