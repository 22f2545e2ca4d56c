use mathlib.Core.Path.{refl, ap}
use Rattle.std.specs.Prelude.{Err}
use Rattle.calls.specs.code.Given.{sought, answer_of, buffer_of}
use Rattle.calls.proofs.Answers.{lays-handed, lay-refused, lay-longer, lay-long, lay_done}
use Rattle.calls.proofs.lay_over.Goals as goal

pub returns-in_err-p : goal.returns-in_err-p
returns-in_err-p c =
    let x = c.args in
    lays-handed x.form (sought x.q) x.a _ _ _ _ _ c.from_residual.ensures
    (lay-refused x.form (sought x.q) x.a x.made.now _ x.out.now _ _ c.lay_down.ensures c.in_err-p.was)

pub returns-in_err-longer : goal.returns-in_err-longer
returns-in_err-longer c =
    let x = c.args in
    lays-handed x.form (sought x.q) x.a _ _ _ _ _ c.from_residual-in_err-longer.ensures
    (lay-longer x.form (sought x.q) x.a x.made.now _ x.out.now _ _ c.lay_down.ensures c.in_ok-p.was _ _ c.in_err-longer.ensures)

pub returns-then-made-len : goal.returns-then-made-len
unfolding answer_of buffer_of
returns-then-made-len c =
    let x = c.args in
    lay-longer x.form (sought x.q) x.a x.made.now _ x.out.now _ _ c.lay_down.ensures c.in_ok-p.was _ _ c.in_ok-longer.ensures

pub returns-then-out-len : goal.returns-then-out-len
unfolding answer_of buffer_of
returns-then-out-len c =
    let x = c.args in
    lay-long x.form (sought x.q) x.a x.made.now _ x.out.now _ _ c.lay_down.ensures c.in_ok-p.was c.requires c.lay_down.auto.out
    c.if-made-len.false _ c.if-out-len.true (ap Err c.refuse.ensures)

pub returns : goal.returns
unfolding answer_of buffer_of
returns c =
    let x = c.args in
    lay_done x.form (sought x.q) x.a x.made.now _ x.out.now _ _ c.lay_down.ensures c.in_ok-p.was c.requires c.lay_down.auto.out
    c.if-made-len.false _ c.if-out-len.false refl
