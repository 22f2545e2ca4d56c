use native.Mathlib.Omega.{arith}
use Rattle.carried.proofs.Passes.{moving-none, moving-length, moving-done, moving-within, moving-step}
use Rattle.carried.proofs.move_notes.Goals as goal

pub loop-k-init : goal.loop-k-init
loop-k-init c = λ m. moving-none _ _ m

pub shape_of-notes-in_default : goal.shape_of-notes-in_default
shape_of-notes-in_default c =
    moving-length _ _ c.requires _ _ _ (c.loop-k.invariant c.requires)

pub returns-in_default : goal.returns-in_default
returns-in_default c =
    moving-done _ _ c.requires _ _ _ (c.loop-k.invariant c.requires) _ c.in_default.ensures.least (omega arith)

pub offset_bounds-notes-k : goal.offset_bounds-notes-k
offset_bounds-notes-k c =
    let pre = c.requires in
    omega (arith, moving-length _ _ pre _ _ _ (c.loop-k.invariant pre), c.well_formed, c.in-Some.ensures.inside)

pub overflow_add-p : goal.overflow_add-p
overflow_add-p c =
    let pre = c.requires in
    omega (arith, moving-within _ _ pre _ _ _ (c.loop-k.invariant pre) _ c.in-Some.ensures.least c.in-Some.ensures.inside, c.well_formed)

pub loop-k-smaller : goal.loop-k-smaller
loop-k-smaller c =
    let pre = c.requires in
    omega (arith, moving-within _ _ pre _ _ _ (c.loop-k.invariant pre) _ c.in-Some.ensures.least c.in-Some.ensures.inside, c.in-Some.ensures.least.found c.in-Some.ensures.inside)

pub loop-k-preserved : goal.loop-k-preserved
loop-k-preserved c =
    λ m. moving-step _ _ m _ _ _ (c.loop-k.invariant m) _ c.in-Some.ensures.least c.in-Some.ensures.inside _ c.step_to-s.ensures _ c.start_of.ensures _ c.replace.ensures
