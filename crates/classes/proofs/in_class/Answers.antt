use Rattle.classes.proofs.Search.{class-bit}
use Rattle.classes.proofs.in_class.Goals as goal

pub returns : goal.returns
returns c = class-bit _ _ _ _ _ c.property_of.ensures c.class_of.ensures c.has.ensures
