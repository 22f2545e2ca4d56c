use borrow.Author.Tests.{eq-eqb, ne_eqb}
use Rattle.tokens.specs.Token.{string_refusal}
use Rattle.tokens.proofs.string_refusal.Goals as goal

pub returns-then-a-eq120 : goal.returns-then-a-eq120
unfolding string_refusal
returns-then-a-eq120 c = rw (eq-eqb _ _ c.if-a-eq120.true)

pub returns : goal.returns
unfolding string_refusal
returns c = rw (ne_eqb _ _ c.if-a-eq120.false)
