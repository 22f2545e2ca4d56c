use Rattle.classes.proofs.Search.{entry_read}
use Rattle.classes.proofs.class_by.Goals as goal

pub returns : goal.returns
returns c = rw c.from.ensures (entry_read _ _ c.requires c.ranges.b.fits)
