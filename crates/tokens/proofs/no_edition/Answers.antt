use borrow.Author.Tests.{eq-eqb, ne_eqb}
use Rattle.tokens.proofs.no_edition.Goals as goal

pub returns-then-edition-eq0 : goal.returns-then-edition-eq0
returns-then-edition-eq0 c = rw (eq-eqb _ _ c.if-edition-eq0.true)

pub returns-else-edition-eq0 : goal.returns-else-edition-eq0
returns-else-edition-eq0 c = rw (ne_eqb _ _ c.if-edition-eq0.false)
