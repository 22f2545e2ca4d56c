use mathlib.Core.Path.{◌∙◌, sym, refl}
use Rattle.words.proofs.Rows.{tables}
use Rattle.words.proofs.Found.{fit-end, single-hit, single-miss}
use Rattle.words.proofs.single_mark.Goals as goal

pub loop-k-init : goal.loop-k-init
unfolding tables
loop-k-init c = refl

pub returns-then-kind-ne0-clause-fit : goal.returns-then-kind-ne0-clause-fit
unfolding tables
returns-then-kind-ne0-clause-fit c = sym (c.loop-k.invariant ∙ single-hit _ c.loop-k.k c.loop-k.auto.k c.loop-k-test.true _ c.value_if-kind.ensures c.if-kind-ne0.true)

pub loop-k-preserved : goal.loop-k-preserved
unfolding tables
loop-k-preserved c = c.loop-k.invariant ∙ single-miss _ c.loop-k.k c.loop-k.auto.k c.loop-k-test.true _ c.value_if-kind.ensures c.if-kind-ne0.false

pub returns-clause-fit : goal.returns-clause-fit
unfolding tables
returns-clause-fit c = sym (c.loop-k.invariant ∙ fit-end 37 c.loop-k.k _ c.loop-k-test.false)
