use mathlib.Core.Path.{ap}
use Rattle.std.specs.Prelude.{Err}
use native.Mathlib.Omega.{arith}
use Rattle.calls.specs.code.Given.{sought}
use Rattle.calls.proofs.Answers.{widened-long, widened-done}
use Rattle.calls.proofs.lay_wide.Goals as goal

pub returns-then-out-wide : goal.returns-then-out-wide
returns-then-out-wide c =
    let x = c.args in
    widened-long (sought x.q) x.a x.n x.next x.out.now (omega arith) _ c.widened-wide.ensures _ c.if-out-wide.true (ap Err c.refuse.ensures)

pub returns : goal.returns
returns c =
    let x = c.args in
    widened-done (sought x.q) x.a x.n x.next x.out.now (omega arith) _ c.widened-wide.ensures _ _ c.if-out-wide.false c.lay_down.ensures
