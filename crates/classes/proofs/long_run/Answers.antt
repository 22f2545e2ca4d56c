use borrow.Author.Tests.{not-true, not-false}
use mathlib.Core.Path.{◌≡◌, ◌∙◌, sym, refl, ap}
use mathlib.Core.Bool.{Bool, true, false}
use mathlib.Core.List.{List}
use Prim.Native.Nat.{ℕ, ◌+◌, ◌<◌, ◌≤◌}
use native.Mathlib.Omega.{arith}
use lib.ListN.{length, get_or}
use Rattle.classes.specs.Class.{in_class}
use Rattle.classes.specs.Run.{run_end}
use Rattle.classes.proofs.Runs.{run_past, run_out, run_in}
use Rattle.classes.proofs.Search.{class-bit}
use Rattle.classes.proofs.long_run.Goals.{else-i-text-via-then-i-text+else-has, else-i-text-via-else-i-text}
use Rattle.classes.proofs.long_run.Goals as goal

-- a byte of the class, and what its neighbour says; the test is v, or w of the neighbour

module _ (k : ℕ) (text : List ℕ) (i : ℕ) (h : i < length text) (v : Bool) (e : v ≡ in_class k (get_or text i 0)) where
  at-end : v ≡ false → run_end (in_class k) text i ≡ i
  at-end f = run_out (in_class k) text i h (sym e ∙ f)

  last-in : v ≡ true → length text ≤ i + 1 → run_end (in_class k) text i ≡ i + 1
  last-in f l = run_in (in_class k) text i h (sym e ∙ f) ∙ run_past (in_class k) text (i + 1) l

  module _ (g : i + 1 < length text) (w : Bool) (d : w ≡ in_class k (get_or text (i + 1) 0)) (f : v ≡ true) where
    one_in : w ≡ false → run_end (in_class k) text i ≡ i + 1
    one_in q = run_in (in_class k) text i h (sym e ∙ f) ∙ run_out (in_class k) text (i + 1) g (sym d ∙ q)

    two_in : w ≡ true → run_end (in_class k) text i ≡ run_end (in_class k) text (i + 2)
    two_in q =
        let s : (i + 1) + 1 ≡ i + 2 = omega arith in
        run_in (in_class k) text i h (sym e ∙ f) ∙ run_in (in_class k) text (i + 1) g (sym d ∙ q) ∙ ap (run_end (in_class k) text) s

pub class_by-requires : goal.class_by-requires
class_by-requires c = c.class_table-t.ensures

pub class_by-requires-in-loop-i : goal.class_by-requires-in-loop-i
class_by-requires-in-loop-i c = c.class_table-t.ensures

pub class_by-requires-then-i-text : goal.class_by-requires-then-i-text
class_by-requires-then-i-text c = c.class_table-t.ensures

pub returns-then-not-has : goal.returns-then-not-has
returns-then-not-has c =
    let text = c.args.text.now in
    sym (c.loop-i.invariant
    ∙ at-end _ text _ (omega (arith, c.loop-i-test.true, c.saturating_sub-last.ensures)) _
    (class-bit _ _ _ _ _ c.property_of-p.ensures c.class_by.ensures c.has.ensures) (not-true _ c.if-not-has.true-raw))

pub returns-then-not-has-2 : goal.returns-then-not-has-2
returns-then-not-has-2 c =
    let text = c.args.text.now in
    sym (c.loop-i.invariant
    ∙ one_in _ text _ (omega (arith, c.loop-i-test.true, c.saturating_sub-last.ensures)) _
    (class-bit _ _ _ _ _ c.property_of-p.ensures c.class_by.ensures c.has.ensures)
    (omega (arith, c.loop-i-test.true, c.saturating_sub-last.ensures)) _
    (class-bit _ _ _ _ _ c.property_of-p.ensures c.class_by-in-loop-i.ensures c.has-in-loop-i.ensures) (not-false _ c.if-not-has.false-raw) (not-true _ c.if-not-has-2.true-raw))

pub loop-i-preserved : goal.loop-i-preserved
loop-i-preserved c =
    let text = c.args.text.now in
    c.loop-i.invariant
    ∙ two_in _ text _ (omega (arith, c.loop-i-test.true, c.saturating_sub-last.ensures)) _
    (class-bit _ _ _ _ _ c.property_of-p.ensures c.class_by.ensures c.has.ensures)
    (omega (arith, c.loop-i-test.true, c.saturating_sub-last.ensures)) _
    (class-bit _ _ _ _ _ c.property_of-p.ensures c.class_by-in-loop-i.ensures c.has-in-loop-i.ensures) (not-false _ c.if-not-has.false-raw) (not-false _ c.if-not-has-2.false-raw)

pub returns-then-has : goal.returns-then-has
returns-then-has c =
    let text = c.args.text.now in
    sym (c.loop-i.invariant
    ∙ last-in _ text _ c.if-i-text.true _
    (class-bit _ _ _ _ _ c.property_of-p.ensures c.class_by-then-i-text.ensures c.has-then-i-text.ensures) c.if-has.true (omega (arith, c.loop-i-test.false, c.saturating_sub-last.ensures)))

pub returns : goal.returns
returns c = elim c.else-i-text.branch [
  | else-i-text-via-then-i-text+else-has w ↦ (
      let text = c.args.text.now in
      sym (c.loop-i.invariant
      ∙ at-end _ text _ w.if-i-text.true _
      (class-bit _ _ _ _ _ c.property_of-p.ensures w.class_by-then-i-text.ensures w.has-then-i-text.ensures) w.if-has.false))
  | else-i-text-via-else-i-text w ↦ sym (c.loop-i.invariant ∙ run_past (in_class _) _ _ w.if-i-text.false)
]

pub loop-i-init : goal.loop-i-init
loop-i-init c = refl
