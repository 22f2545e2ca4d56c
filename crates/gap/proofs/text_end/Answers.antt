use mathlib.Core.Path.{◌∙◌, sym}
use Rattle.std.proofs.lemmas.Grind.{common_steps}
use Rattle.std.proofs.Common.{arith, rules}
use Rattle.gap.proofs.Lines.{text-over, text-stops, text-goes-on}
use Rattle.gap.proofs.text_end.Goals as goal

pub returns-then-a-eq10 : goal.returns-then-a-eq10
returns-then-a-eq10 c = sym (c.loop-i.invariant ∙ text-stops _ _ _ (search rules) c.if-a-eq10.true)

pub loop-i-preserved : goal.loop-i-preserved
loop-i-preserved c = c.loop-i.invariant ∙ text-goes-on _ _ _ (search rules) c.if-a-eq10.false _ (grind (arith, common_steps))

pub returns : goal.returns
returns c = sym (c.loop-i.invariant ∙ text-over _ _ _ (search rules))
