use mathlib.Core.Path.{◌∙◌, ap}
use Prim.Native.Nat.{◌-◌}
use native.Mathlib.Omega.{arith}
use lib.ListN.{length}
use Rattle.std.specs.Prelude.{Option, Ok}
use Rattle.saved.specs.Heads.{form_told}
use Rattle.saved.specs.declared.SavedRecord.{SavedRecord}
use Rattle.saved.proofs.Heads.{fits_told, unfit-told}
use Rattle.saved.proofs.Calls.{child-nowhere, starts-inside, child-cut, child-found}
use Rattle.saved.proofs.opened_child.Goals as goal

pub returns-then-not-can_start : goal.returns-then-not-can_start
returns-then-not-can_start c = child-nowhere c.args.tree.now c.args.offset c.args.index _ (rw c.new-saved.ensures at c.can_start.ensures) c.if-not-can_start.true

pub overflow_sub-tree : goal.overflow_sub-tree
overflow_sub-tree c = omega (arith, (starts-inside c.args.tree.now c.args.offset c.args.index _ (rw c.new-saved.ensures at c.can_start.ensures) c.if-not-can_start.false).1)

pub head_within-requires : goal.head_within-requires
head_within-requires c = rw c.new-saved.ensures (omega (arith, (starts-inside c.args.tree.now c.args.offset c.args.index _ (rw c.new-saved.ensures at c.can_start.ensures) c.if-not-can_start.false).1))

pub returns-in_err-h : goal.returns-in_err-h
returns-in_err-h c =
    let tree = c.args.tree.now in
    let u = unfit-told (form_told tree) tree c.args.offset (length tree - c.args.offset) _ (rw c.new-saved.ensures at c.head_within.ensures.value) c.in_err-h.was in
    ap (λ (r : Option SavedRecord). Ok r) c.from_residual.ensures ∙ child-cut tree c.args.offset c.args.index _ (rw c.new-saved.ensures at c.can_start.ensures) c.if-not-can_start.false u

pub returns : goal.returns
returns c =
    let tree = c.args.tree.now in
    let t = fits_told (form_told tree) tree c.args.offset (length tree - c.args.offset) _ _ (rw c.new-saved.ensures at c.head_within.ensures.value) c.in_ok-h.was in
    child-found tree c.args.offset c.args.index _ (rw c.new-saved.ensures at c.can_start.ensures) c.if-not-can_start.false _ t _ (rw c.new-saved.ensures at c.head_size-size.ensures.value) _ (rw c.new-saved.ensures at c.child_from.ensures)
