use mathlib.Core.Path.{◌∙◌, sym, ap}
use Rattle.gap.specs.Marks.{slashes}
use Rattle.gap.specs.code.Ends.{textless}
use Rattle.gap.proofs.Spans.{span-line}
use Rattle.gap.proofs.part_span.Goals as goal

pub returns-then-pair : goal.returns-then-pair
unfolding slashes
returns-then-pair c = c.line_span.ensures ∙ span-line _ _ _ c.byte_at-b.ensures (sym c.pair.ensures ∙ c.if-pair.true)

pub returns : goal.returns
returns c = ap textless c.part_at.ensures
