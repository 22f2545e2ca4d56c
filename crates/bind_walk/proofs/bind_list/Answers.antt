use mathlib.Core.Path.{◌∙◌, ap}
use native.Mathlib.Omega.{arith}
use Rattle.forms.proofs.Placing.{placed-long}
use Rattle.lists.proofs.Listing.{going-first, step-stopped, step-closes, step-last, step-on, step-goes}
use Rattle.lists.proofs.Contracts.{list-handed}
use Rattle.std.specs.Prelude.{Ok}
use Rattle.bind_walk.proofs.bind_list.Goals as goal

pub loop-q-init : goal.loop-q-init
loop-q-init c = going-first _ _ _ _ _ _ _ _ c.move_by-to.ensures _ (omega (arith, c.well_formed.1.1.1.1.0.0))

pub shape_of-out-in_err-q : goal.shape_of-out-in_err-q
shape_of-out-in_err-q c =
    c.bind_step.auto.out ∙ placed-long _ _ _ _ _ c.loop-q.invariant.bytes

pub returns-in_err-q : goal.returns-in_err-q
returns-in_err-q c =
    list-handed _ _ c.from_residual.ensures (step-stopped _ _ _ _ _ _ _ _ c.move_by-to.ensures _ (omega (arith, c.well_formed.1.1.1.1.0.0)) _ _ _ _ c.loop-q.invariant _ _ _ c.bind_step.ensures c.in_err-q.was)

pub shape_of-out-in-Closes : goal.shape_of-out-in-Closes
shape_of-out-in-Closes c =
    c.bind_step.auto.out ∙ placed-long _ _ _ _ _ c.loop-q.invariant.bytes

pub returns-in-Closes : goal.returns-in-Closes
returns-in-Closes c =
    step-closes _ _ _ _ _ _ _ _ c.move_by-to.ensures _ (omega (arith, c.well_formed.1.1.1.1.0.0)) _ _ _ _ c.loop-q.invariant _ _ _ _ c.bind_step.ensures
    (c.in_ok-q.was ∙ ap Ok c.in-Closes.is) c.close_list.ensures

pub shape_of-out-in-Last : goal.shape_of-out-in-Last
shape_of-out-in-Last c =
    c.bind_step.auto.out ∙ placed-long _ _ _ _ _ c.loop-q.invariant.bytes

pub returns-in-Last : goal.returns-in-Last
returns-in-Last c =
    step-last _ _ _ _ _ _ _ _ c.move_by-to.ensures _ (omega (arith, c.well_formed.1.1.1.1.0.0)) _ _ _ _ c.loop-q.invariant _ _ _ _ _ c.count_more.ensures
    c.bind_step.ensures _ (c.in_ok-q.was ∙ ap Ok c.in-Last.is) c.close_list-in-Last.ensures

pub loop-q-smaller : goal.loop-q-smaller
loop-q-smaller c =
    let d = step-on _ _ _ _ _ _ _ _ c.move_by-to.ensures _ (omega (arith, c.well_formed.1.1.1.1.0.0)) _ _ _ _ c.loop-q.invariant _ _ _ _ _ c.count_more-count.ensures
    c.bind_step.ensures (c.in_ok-q.was ∙ ap Ok c.in-Goes.is) in
    omega (arith, d.0, d.1)

pub loop-q-preserved : goal.loop-q-preserved
loop-q-preserved c =
    step-goes _ _ _ _ _ _ _ _ c.move_by-to.ensures _ (omega (arith, c.well_formed.1.1.1.1.0.0)) _ _ _ _ c.loop-q.invariant _ _ _ _ _ c.count_more-count.ensures
    c.bind_step.ensures (c.in_ok-q.was ∙ ap Ok c.in-Goes.is)
