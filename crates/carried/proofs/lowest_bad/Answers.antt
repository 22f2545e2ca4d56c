use mathlib.Core.Path.{refl}
use native.Mathlib.Omega.{arith}
use Rattle.carried.proofs.Passes.{steps_next, bad-none, bad-all, bad-next, bad_last}
use Rattle.carried.proofs.lowest_bad.Goals as goal

pub loop-k-init : goal.loop-k-init
loop-k-init c = (λ y h. refl, bad-none _ _)

pub returns-in_default : goal.returns-in_default
returns-in_default c = bad-all _ _ _ _ _ c.loop-k.invariant.1 c.in_default.ensures.least (omega arith)

pub returns-then-x : goal.returns-then-x
returns-then-x c =
    let inv = c.loop-k.invariant in
    bad_last _ _ _ _ (bad-next _ _ _ _ _ _ inv.0 inv.1 c.in-Some.ensures.least c.in-Some.ensures.inside _ c.step_to-s.ensures _ c.begins_at.ensures _ c.lower_index-bad.ensures)
    (λ i. omega (arith, c.shared_slice_known-in-loop-k-1.given i, c.if-x.true))

pub overflow_add-p : goal.overflow_add-p
overflow_add-p c =
    omega (arith, c.shared_slice_known-in-loop-k-1.given c.in-Some.k, c.if-x.false)

pub loop-k-smaller : goal.loop-k-smaller
loop-k-smaller c =
    omega (arith, c.shared_slice_known-in-loop-k-1.given c.in-Some.k, c.in-Some.ensures.least.found c.in-Some.ensures.inside)

pub loop-k-preserved : goal.loop-k-preserved
loop-k-preserved c =
    let inv = c.loop-k.invariant in (
      steps_next _ _ _ _ _ inv.0 (c.in-Some.ensures.least.found c.in-Some.ensures.inside).1 _ c.step_to-s.ensures,
      bad-next _ _ _ _ _ _ inv.0 inv.1 c.in-Some.ensures.least c.in-Some.ensures.inside _ c.step_to-s.ensures _ c.begins_at.ensures _ c.lower_index-bad.ensures,
    )
