use borrow.Author.Tests.{le-leb, lt-leb}
use Rattle.classes.specs.code.Search.{known}
use Rattle.classes.proofs.property_of.Goals as goal

pub returns-then-k-le-HEX_OR_UNDERSCORE : goal.returns-then-k-le-HEX_OR_UNDERSCORE
unfolding known
returns-then-k-le-HEX_OR_UNDERSCORE c = rw (le-leb _ _ c.if-k-le-HEX_OR_UNDERSCORE.true)

pub returns-else-k-le-HEX_OR_UNDERSCORE : goal.returns-else-k-le-HEX_OR_UNDERSCORE
unfolding known
returns-else-k-le-HEX_OR_UNDERSCORE c = rw (lt-leb _ _ c.if-k-le-HEX_OR_UNDERSCORE.false)
