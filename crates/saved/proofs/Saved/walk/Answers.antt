use mathlib.Core.Bool.{false}
use mathlib.Core.Path.{sym}
use native.Mathlib.Omega.{arith}
use Rattle.saved.specs.code.Scan.{stop}
use Rattle.saved.specs.Heads.{form_told}
use Rattle.saved.specs.Open.{parent}
use Rattle.saved.proofs.Heads.{size_least, fits_told, unfit-told}
use Rattle.saved.proofs.Scan.{open-take, earlier-inside, walks-end, walks-unfit}
use Rattle.saved.proofs.Loops.{walks_from, walks_next, walks-stop, runs-inside, Kept, kept-found, kept-behind, kept-none}
use Rattle.forms.specs.Forms.{head_size}
use Rattle.saved.proofs.Saved.walk.Goals.{in-Some-children_fault+then-found-end, in-Some-children_fault+else-found-end, in_default-children_fault}
use Rattle.saved.proofs.Saved.walk.Goals as goal
use lib.ListN.{length}
use Prim.Native.Nat.{◌+◌, ◌-◌, ◌<◌, ◌≤◌}

pub returns-in_default : goal.returns-in_default
returns-in_default c =
    let l = c.loop-i in
    let tree = c.args.self.now.tree.now in
    let f = form_told tree in
    let u = unfit-told f tree l.i (length tree - l.i) _ c.head_within.ensures.value c.in_default.is in
    walks_from f tree _ _ c.args.outermost _ _ _ c.deepening_of-depth.ensures.value (l.invariant.walks _ (walks-unfit f tree l.ends l.depth l.i l.kept (omega (arith, c.loop-i-test.true, l.invariant.stops)) (omega (arith, l.invariant.stops, l.invariant.inside)) u))

pub returns-then-deep-gt-LEVELS : goal.returns-then-deep-gt-LEVELS
returns-then-deep-gt-LEVELS c =
    let l = c.loop-i in
    let tree = c.args.self.now.tree.now in
    let f = form_told tree in
    let t = fits_told f tree l.i (length tree - l.i) _ _ c.head_within.ensures.value c.in-Some.is in
    rw c.of.ensures (walks_from f tree _ _ c.args.outermost _ _ _ c.deepening_of-depth.ensures.value
    (l.invariant.walks _ (walks-stop f tree l.ends l.depth l.i l.kept (omega (arith, c.loop-i-test.true, l.invariant.stops)) (omega (arith, l.invariant.stops, l.invariant.inside)) _ t _ (open-take l.ends l.depth l.i _ (omega (arith, l.invariant.few)) c.still_open-open.ensures.value) _ c.deepening_of.ensures.value c.if-deep-gt-LEVELS.true)))

pub loop-i-preserved : goal.loop-i-preserved
loop-i-preserved c =
    let l = c.loop-i in
    let m = c.match-children_fault in
    let tree = c.args.self.now.tree.now in
    let f = form_told tree in
    let h = c.in-Some.h in
    let lo = l.i + head_size f in
    let positive : 0 < head_size f = omega (arith, size_least tree) in
    let t = fits_told f tree l.i (length tree - l.i) _ _ c.head_within.ensures.value c.in-Some.is in
    let here : l.i < stop (length tree) l.kept = omega (arith, c.loop-i-test.true, l.invariant.stops) in
    let inside : stop (length tree) l.kept ≤ length tree = omega (arith, l.invariant.stops, l.invariant.inside) in
    let found = runs-inside f tree positive (parent l.i h 0) 0 false lo (h.len - head_size f) _ (omega (arith, t.short, t.long, here, inside)) c.children_fault.ensures in
    let K : Kept (length tree) l.kept c.children_fault.result m.kept m.end = elim m.branch [
      | in-Some-children_fault+then-found-end w ↦ kept-found (length tree) lo l.end _ _ _ _ l.invariant.stops found _ w.in-Some-children_fault.is w.if-found-end.true w.kept-is w.end-is
      | in-Some-children_fault+else-found-end w ↦ kept-behind (length tree) lo l.end _ _ _ _ l.invariant.stops found _ w.in-Some-children_fault.is w.if-found-end.false w.kept-is w.end-is
      | in_default-children_fault w ↦ kept-none (length tree) lo l.end _ _ _ _ l.invariant.stops found w.in_default-children_fault.is w.kept-is w.end-is
    ] in
    let kept-inside = earlier-inside (length tree) lo l.kept c.children_fault.result inside found in
    record {
      stops = K.ends;
      inside = omega (arith, K.ends, rw (sym K.is) at kept-inside);
      few = omega (arith, c.if-deep-gt-LEVELS.false);
      walks = λ r x. l.invariant.walks r (walks_next f tree l.ends l.depth l.i l.kept here inside _ t _ (open-take l.ends l.depth l.i _ (omega (arith, l.invariant.few)) c.still_open-open.ensures.value) _ c.deepening_of.ensures.value c.if-deep-gt-LEVELS.false positive _ c.children_fault.ensures _ K.is _ c.head_size-size.ensures.value r x);
    }

pub returns : goal.returns
returns c =
    let l = c.loop-i in
    let tree = c.args.self.now.tree.now in
    let f = form_told tree in
    walks_from f tree _ _ c.args.outermost _ _ _ c.deepening_of-depth.ensures.value (l.invariant.walks _ (walks-end f tree l.ends l.depth l.i l.kept (omega (arith, c.loop-i-test.false, l.invariant.stops))))
