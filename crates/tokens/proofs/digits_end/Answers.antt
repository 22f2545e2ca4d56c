use mathlib.Core.Path.{◌∙◌}
use Rattle.tokens.proofs.Digits.{begun-low, begun-run}
use Rattle.tokens.proofs.digits_end.Goals as goal

pub returns-then-byte_at-eq95 : goal.returns-then-byte_at-eq95
returns-then-byte_at-eq95 c = begun-low _ _ _ _ c.byte_at.ensures c.if-byte_at-eq95.true

pub returns : goal.returns
returns c = c.run_end.ensures ∙ begun-run _ _ _ _ c.byte_at.ensures c.if-byte_at-eq95.false
