use Rattle.std.proofs.Common.{rules}
use Rattle.carried.proofs.Passes.{walk-met}
use Rattle.carried.proofs.walk_fault.Goals as goal

pub returns-in_err-step_to : goal.returns-in_err-step_to
returns-in_err-step_to c = let h = walk-met _ _ _ c.step_to.ensures _ c.in_err-step_to.was in search rules

pub returns : goal.returns
returns c = let h = walk-met _ _ _ c.step_to.ensures _ c.in_ok-step_to.was in search rules
