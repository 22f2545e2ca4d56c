use Rattle.tokens.proofs.Steps.{untyped, with-type}
use Rattle.tokens.proofs.typed_at.Goals as goal

pub returns-then-n-eq0 : goal.returns-then-n-eq0
returns-then-n-eq0 c = untyped _ _ _ c.if-n-eq0.true

pub returns : goal.returns
returns c = with-type _ _ _ c.if-n-eq0.false
