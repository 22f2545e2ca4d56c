use mathlib.Core.Path.{◌∙◌, sym, refl}
use Rattle.words.proofs.long_mark.Goals.{then-rows-k+in_default, else-rows-k}
use Rattle.words.proofs.Rows.{tables}
use Rattle.words.proofs.Found.{fit-end, place, long-room, long-other, long-hit, long-miss}
use Rattle.words.proofs.long_mark.Goals as goal

pub loop-k-init : goal.loop-k-init
unfolding tables
loop-k-init c = refl

pub row_fit-requires : goal.row_fit-requires
unfolding tables
row_fit-requires c = long-room _ c.loop-k-test.true

pub returns-in-Some-clause-fit : goal.returns-in-Some-clause-fit
unfolding tables
returns-in-Some-clause-fit c = sym (c.loop-k.invariant ∙ long-hit c.loop-k.k c.loop-k-test.true _ _ c.in-Some.ensures.fit c.in-Some.ensures.some)

pub loop-k-preserved : goal.loop-k-preserved
unfolding tables
loop-k-preserved c =
    c.loop-k.invariant
    ∙ elim c.if-rows-k.branch [
      | then-rows-k+in_default w ↦ long-miss c.loop-k.k c.loop-k-test.true _ w.in_default.ensures.fit
      | else-rows-k w ↦ long-other c.loop-k.k c.loop-k-test.true _ (λ p. w.if-rows-k.false (p ∙ sym (place c.args.text.now c.args.at) ∙ sym c.requires))
    ]

pub returns-clause-fit : goal.returns-clause-fit
unfolding tables
returns-clause-fit c = sym (c.loop-k.invariant ∙ fit-end 3 c.loop-k.k _ c.loop-k-test.false)
