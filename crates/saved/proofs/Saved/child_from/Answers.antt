use mathlib.Core.Path.{◌≡◌, ◌∙◌, sym, ap}
use Prim.Native.Nat.{ℕ, ◌+◌, ◌-◌}
use native.Mathlib.Omega.{arith}
use Rattle.std.specs.Prelude.{Option, Ok}
use Rattle.saved.specs.Heads.{form_told}
use Rattle.saved.specs.Child.{child_from}
use Rattle.saved.specs.declared.SavedRecord.{SavedRecord}
use Rattle.saved.proofs.Heads.{fits_told, unfit-told}
use Rattle.saved.proofs.Scan.{child-unfit}
use Rattle.saved.proofs.Loops.{child-next, child-last}
use Rattle.saved.proofs.Saved.child_from.Goals as goal

pub loop-preserved : goal.loop-preserved
loop-preserved c =
    let l = c.loop in
    let tree = c.args.self.now.tree.now in
    let f = form_told tree in
    let t = fits_told f tree l.at l.left _ _ c.head_within.ensures.value c.in_ok-h.was in
    let n : c.args.index - l.counter - 1 ≡ c.args.index - (l.counter + 1) = omega arith in
    record {
      inside = omega (arith, t.long, l.invariant.inside);
      same = l.invariant.same ∙ child-next f tree (c.args.index - l.counter) l.at l.left _ t (omega (arith, c.loop-test.true)) ∙ ap (λ (i : ℕ). child_from f tree i (l.at + c.in_ok-h.h.len) (l.left - c.in_ok-h.h.len)) n;
    }

pub returns-in_err-h : goal.returns-in_err-h
returns-in_err-h c =
    let l = c.loop in
    let tree = c.args.self.now.tree.now in
    let f = form_told tree in
    ap (λ (r : Option SavedRecord). Ok r) c.from_residual.ensures ∙ child-unfit f tree l.at l.left (c.args.index - l.counter) (unfit-told f tree l.at l.left _ c.head_within.ensures.value c.in_err-h.was) ∙ sym l.invariant.same

pub returns-in_err-h-2 : goal.returns-in_err-h-2
returns-in_err-h-2 c =
    let l = c.loop in
    let tree = c.args.self.now.tree.now in
    let f = form_told tree in
    ap (λ (r : Option SavedRecord). Ok r) c.from_residual-in_err-h-2.ensures ∙ child-unfit f tree l.at l.left (c.args.index - l.counter) (unfit-told f tree l.at l.left _ c.head_within-2.ensures.value c.in_err-h-2.was) ∙ sym l.invariant.same

pub returns : goal.returns
returns c =
    let l = c.loop in
    let tree = c.args.self.now.tree.now in
    let f = form_told tree in
    let t = fits_told f tree l.at l.left _ _ c.head_within-2.ensures.value c.in_ok-h-2.was in
    child-last f tree (c.args.index - l.counter) l.at l.left _ t (omega (arith, c.loop-test.false)) _ c.at.ensures ∙ sym l.invariant.same
