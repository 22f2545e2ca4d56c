use mathlib.Core.Path.{◌∙◌, sym, refl}
use Rattle.words.proofs.double_mark.Goals.{then-rows-k+else-kind-ne0, else-rows-k}
use Rattle.words.proofs.Rows.{tables}
use Rattle.words.proofs.Found.{fit-end, double-other, double-hit, double-miss}
use Rattle.words.proofs.double_mark.Goals as goal

pub loop-k-init : goal.loop-k-init
unfolding tables
loop-k-init c = refl

pub returns-then-kind-ne0-clause-fit : goal.returns-then-kind-ne0-clause-fit
unfolding tables
returns-then-kind-ne0-clause-fit c =
    sym (c.loop-k.invariant
    ∙ double-hit _ _ c.loop-k.k c.loop-k.auto.k c.loop-k-test.true
    c.if-rows-k.true _ c.value_if-kind.ensures c.if-kind-ne0.true)

pub loop-k-preserved : goal.loop-k-preserved
unfolding tables
loop-k-preserved c =
    c.loop-k.invariant
    ∙ elim c.if-rows-k.branch [
      | then-rows-k+else-kind-ne0 w ↦ double-miss _ _ c.loop-k.k c.loop-k.auto.k c.loop-k-test.true w.if-rows-k.true _ w.value_if-kind.ensures w.if-kind-ne0.false
      | else-rows-k w ↦ double-other _ _ c.loop-k.k c.loop-k.auto.k c.loop-k-test.true w.if-rows-k.false
    ]

pub returns-clause-fit : goal.returns-clause-fit
unfolding tables
returns-clause-fit c = sym (c.loop-k.invariant ∙ fit-end 13 c.loop-k.k _ c.loop-k-test.false)
