use mathlib.Core.Path.{sym, refl}
use native.Mathlib.Omega.{arith}
use borrow.Author.Tests.{lt-ltb, le-ltb}
use Rattle.saved.specs.Heads.{form_told}
use Rattle.saved.specs.Open.{parent}
use Rattle.saved.proofs.Heads.{size_least, fits_told, unfit-told}
use Rattle.saved.proofs.Scan.{runs-stop, fault-unfit}
use Rattle.saved.proofs.Loops.{number-some, number-none-of, runs-from, child-number, runs-next, runs_last}
use Rattle.saved.proofs.Saved.children_fault.Goals as goal

pub returns-in_default : goal.returns-in_default
returns-in_default c =
    let l = c.loop-room in
    let tree = c.args.self.now.tree.now in
    let f = form_told tree in
    let P = parent c.args.at c.args.h 0 in
    let u = unfit-told f tree l.p l.room _ c.head_within.ensures.value c.in_default.is in
    rw c.of.ensures (runs-from f tree P c.args.at c.args.h.len _ _ c.head_size-size.ensures.value (l.invariant.runs _ (runs-stop f tree P l.index l.field l.p l.room c.loop-room-test.true _ (fault-unfit f P l.index l.field l.room _ u) (omega arith))))

pub returns-in-Some-child_fault : goal.returns-in-Some-child_fault
returns-in-Some-child_fault c =
    let l = c.loop-room in
    let tree = c.args.self.now.tree.now in
    let f = form_told tree in
    let P = parent c.args.at c.args.h 0 in
    let t = fits_told f tree l.p l.room _ _ c.head_within.ensures.value c.in-Some.is in
    let n = number-some _ _ _ c.child_fault.ensures c.in-Some-child_fault.is in
    rw c.of-in-Some-child_fault.ensures (runs-from f tree P c.args.at c.args.h.len _ _ c.head_size-size.ensures.value (l.invariant.runs _ (runs-stop f tree P l.index l.field l.p l.room c.loop-room-test.true _ (child-number f tree P l.index l.field l.p l.room _ t _ _ c.of-row.ensures c.slot.ensures _ (sym n.0)) (omega (arith, n.0, n.1)))))

pub loop-room-preserved : goal.loop-room-preserved
loop-room-preserved c =
    let l = c.loop-room in
    let tree = c.args.self.now.tree.now in
    let f = form_told tree in
    let P = parent c.args.at c.args.h 0 in
    let t = fits_told f tree l.p l.room _ _ c.head_within.ensures.value c.in-Some.is in
    let n = number-none-of _ _ c.child_fault.ensures c.in_default-child_fault.is in
    record {
      inside = omega (arith, t.long, l.invariant.inside);
      counted = omega (arith, t.long, t.short, size_least tree, l.invariant.counted);
      runs = λ r x. l.invariant.runs r (runs-next f tree P l.index l.field l.p l.room _ t c.loop-room-test.true (child-number f tree P l.index l.field l.p l.room _ t _ _ c.of-row.ensures c.slot.ensures _ (sym n)) (omega (arith, size_least tree)) _ refl r x);
    }

pub returns-then-index-row : goal.returns-then-index-row
returns-then-index-row c =
    let l = c.loop-room in
    let tree = c.args.self.now.tree.now in
    let f = form_told tree in
    let P = parent c.args.at c.args.h 0 in
    runs-from f tree P c.args.at c.args.h.len _ _ c.head_size-size.ensures.value (l.invariant.runs _ (runs_last f tree P l.index l.field l.p l.room (omega (arith, c.loop-room-test.false)) _ c.of-row.ensures _ (rw (lt-ltb _ _ c.if-index-row.true))))

pub returns : goal.returns
returns c =
    let l = c.loop-room in
    let tree = c.args.self.now.tree.now in
    let f = form_told tree in
    let P = parent c.args.at c.args.h 0 in
    runs-from f tree P c.args.at c.args.h.len _ _ c.head_size-size.ensures.value (l.invariant.runs _ (runs_last f tree P l.index l.field l.p l.room (omega (arith, c.loop-room-test.false)) _ c.of-row.ensures _ (rw (le-ltb _ _ c.if-index-row.false))))
