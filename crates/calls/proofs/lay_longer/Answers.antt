use mathlib.Core.Path.{ap}
use Rattle.std.specs.Prelude.{Err}
use native.Mathlib.Omega.{arith}
use Rattle.calls.specs.code.Given.{sought}
use Rattle.calls.proofs.Answers.{longer-wide, longer-long, longer-done}
use Rattle.calls.proofs.lay_longer.Goals as goal

pub returns-then-outgrown : goal.returns-then-outgrown
returns-then-outgrown c =
    let x = c.args in
    longer-wide x.form (sought x.q) x.a x.n x.next x.out.now (omega arith) _ c.outgrown.ensures _ _ c.if-outgrown.true c.lay_wide.ensures

pub returns-then-room_in-n : goal.returns-then-room_in-n
returns-then-room_in-n c =
    let x = c.args in
    longer-long x.form (sought x.q) x.a x.n x.next x.out.now (omega arith) _ c.outgrown.ensures _ c.room_in.ensures c.if-outgrown.false _ c.if-room_in-n.true (ap Err c.refuse.ensures)

pub returns : goal.returns
returns c =
    let x = c.args in
    longer-done x.form (sought x.q) x.a x.n x.next x.out.now (omega arith) _
    c.outgrown.ensures _ c.room_in.ensures c.if-outgrown.false _ _ c.if-room_in-n.false c.lay_down.ensures
