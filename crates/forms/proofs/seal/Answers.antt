use Rattle.forms.proofs.Placing.{sealed-by}
use Rattle.forms.proofs.seal.Goals as goal

pub returns : goal.returns
returns c = sealed-by _ _ _ _ c.args.s c.args.b _ _ _ _ c.step_inside.ensures c.size_between-n.ensures c.put_head.ensures
