use borrow.Author.Tests.{eq-eqb, ne_eqb}
use Rattle.tokens.proofs.opens_hex.Goals as goal

pub returns-then-a-eq48 : goal.returns-then-a-eq48
returns-then-a-eq48 c = rw (eq-eqb _ _ c.if-a-eq48.true)

pub returns-else-a-eq48 : goal.returns-else-a-eq48
returns-else-a-eq48 c = rw (ne_eqb _ _ c.if-a-eq48.false)
