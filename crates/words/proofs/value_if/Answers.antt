use borrow.Author.Tests.{eq-eqb, ne_eqb}
use Rattle.words.specs.code.Rows.{value_if}
use Rattle.words.proofs.value_if.Goals as goal

pub returns-then-a-b : goal.returns-then-a-b
unfolding value_if
returns-then-a-b c = rw (eq-eqb _ _ c.if-a-b.true)

pub returns-else-a-b : goal.returns-else-a-b
unfolding value_if
returns-else-a-b c = rw (ne_eqb _ _ c.if-a-b.false)
