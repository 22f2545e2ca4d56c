use mathlib.Core.Path.{◌∙◌, sym, refl}
use native.Mathlib.Omega.{arith}
use Rattle.std.proofs.lemmas.Grind.{common_steps}
use Rattle.gap.specs.Marks.{opens, closes}
use Rattle.gap.proofs.Opener.{opener-end, opened, closed, passed}
use borrow.Author.Rules.{rules}
use Rattle.gap.proofs.opener_of.Goals as goal

pub loop-i-init : goal.loop-i-init
loop-i-init c = (search rules, refl)

pub loop-i-preserved-then-pair : goal.loop-i-preserved-then-pair
unfolding opens
loop-i-preserved-then-pair c = (search rules, c.loop-i.invariant.1 ∙ opened _ _ _ _ _ _ (search rules) c.byte_at-b.ensures _ (grind (arith, common_steps)) (sym c.pair.ensures ∙ c.if-pair.true))

pub loop-i-preserved-then-pair-2 : goal.loop-i-preserved-then-pair-2
unfolding opens closes
loop-i-preserved-then-pair-2 c = (search rules, c.loop-i.invariant.1 ∙ closed _ _ _ _ _ _ (search rules) c.byte_at-b.ensures (sym c.pair.ensures ∙ c.if-pair.false) _ c.saturating_sub-n.ensures (sym c.pair-else-pair.ensures ∙ c.if-pair-2.true))

pub loop-i-preserved : goal.loop-i-preserved
unfolding opens closes
loop-i-preserved c = (search rules, c.loop-i.invariant.1 ∙ passed _ _ _ _ _ _ (search rules) c.byte_at-b.ensures (sym c.pair.ensures ∙ c.if-pair.false) (sym c.pair-else-pair.ensures ∙ c.if-pair-2.false))

pub returns : goal.returns
returns c = sym (c.loop-i.invariant.1 ∙ opener-end _ _ _ _ _ (search rules))
