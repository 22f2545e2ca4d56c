use Rattle.forms.proofs.Placing.{moved_by_lem}
use Rattle.forms.proofs.move_by.Goals as goal

-- `forms::move_by` meets its contract.

pub returns : goal.returns
returns c = moved_by_lem c.args.s _ _ c.behind-p.ensures
