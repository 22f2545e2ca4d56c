use borrow.Author.Tests.{eq-eqb, ne_eqb}
use Rattle.tokens.specs.code.Found.{hex_class}
use Rattle.tokens.proofs.more_hex.Goals as goal

pub returns-then-edition-eq-EDITION_2 : goal.returns-then-edition-eq-EDITION_2
unfolding hex_class
returns-then-edition-eq-EDITION_2 c = rw (eq-eqb _ _ c.if-edition-eq-EDITION_2.true)

pub returns : goal.returns
unfolding hex_class
returns c = rw (ne_eqb _ _ c.if-edition-eq-EDITION_2.false)
