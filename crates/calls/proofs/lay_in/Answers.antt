use Rattle.parts.proofs.Contracts.{handed-on}
use Rattle.calls.specs.code.Given.{answer_of, buffer_of}
use Rattle.calls.proofs.lay_in.Goals as goal

pub returns-in_err-d : goal.returns-in_err-d
unfolding answer_of buffer_of
returns-in_err-d g c = let h = handed-on _ _ c.from_residual.ensures in rw h c.in_err-d.ensures
