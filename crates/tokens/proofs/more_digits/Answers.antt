use borrow.Author.Tests.{eq-eqb, ne_eqb}
use Rattle.tokens.specs.code.Found.{digits_class}
use Rattle.tokens.proofs.more_digits.Goals as goal

pub returns-then-edition-eq-EDITION_2 : goal.returns-then-edition-eq-EDITION_2
unfolding digits_class
returns-then-edition-eq-EDITION_2 c = rw (eq-eqb _ _ c.if-edition-eq-EDITION_2.true)

pub returns : goal.returns
unfolding digits_class
returns c = rw (ne_eqb _ _ c.if-edition-eq-EDITION_2.false)
