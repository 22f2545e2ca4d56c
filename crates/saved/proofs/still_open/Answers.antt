use mathlib.Core.Path.{◌∙◌, sym}
use native.Mathlib.Omega.{arith}
use Rattle.saved.proofs.Scan.{open-here, open-below, open_none}
use Rattle.saved.proofs.still_open.Goals as goal

pub returns-then-i-ends-clause-value : goal.returns-then-i-ends-clause-value
returns-then-i-ends-clause-value c = omega (arith, c.loop-d.invariant, open-here c.args.ends.now c.loop-d.d c.args.i c.loop-d-test.true c.if-i-ends.true)

pub loop-d-preserved : goal.loop-d-preserved
loop-d-preserved c = c.loop-d.invariant ∙ open-below _ _ _ c.loop-d-test.true c.if-i-ends.false

pub returns-clause-value : goal.returns-clause-value
returns-clause-value c = sym (c.loop-d.invariant ∙ open_none _ _ _ (omega arith))
