use Rattle.saved.proofs.Heads.{head_made}
use Rattle.saved.proofs.Saved.head_in.Goals as goal

pub returns : goal.returns
returns g c = head_made _ _ _ _ _ _ _ c.number_at.ensures c.number_at-2.ensures c.number_at-3.ensures c.number_at-4.ensures
