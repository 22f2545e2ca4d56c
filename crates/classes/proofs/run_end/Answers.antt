use mathlib.Core.Path.{◌∙◌, sym}
use native.Mathlib.Omega.{arith}
use Rattle.classes.specs.Class.{in_class}
use Rattle.classes.proofs.Runs.{run_past, run_out, run_in}
use Rattle.classes.proofs.run_end.Goals as goal

pub returns-then-text-at : goal.returns-then-text-at
returns-then-text-at c = sym (run_past (in_class _) _ _ c.if-text-at.true)

pub returns-then-not-in_class : goal.returns-then-not-in_class
returns-then-not-in_class c =
    sym (c.loop-end.invariant ∙ run_out (in_class c.args.k) c.args.text.now c.loop-end.end (omega arith) (sym c.in_class.ensures ∙ c.if-not-in_class.true))

pub loop-end-preserved : goal.loop-end-preserved
loop-end-preserved c =
    c.loop-end.invariant ∙ run_in (in_class c.args.k) c.args.text.now c.loop-end.end (omega arith) (sym c.in_class.ensures ∙ c.if-not-in_class.false)
