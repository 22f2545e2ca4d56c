use mathlib.Core.Path.{ap}
use native.Mathlib.Omega.{arith}
use Rattle.parts.proofs.Contracts.{reads-handed}
use Rattle.bind_walk.proofs.Outermost.{lambda-other, lambda-refused, lambda-read}
use Rattle.std.specs.Prelude.{Err}
use Rattle.bind_walk.proofs.parse_lambda_bind_list.Goals as goal

pub returns-then-a-ne-PIPE : goal.returns-then-a-ne-PIPE
returns-then-a-ne-PIPE c =
    let x = c.args in
    lambda-other x.w.form x.w.edition x.text.now x.a x.s x.out.now _ _ c.if-a-ne-PIPE.true (ap Err c.unexpected.ensures)

pub returns-in_err-n : goal.returns-in_err-n
returns-in_err-n c =
    let x = c.args in
    reads-handed _ _ c.from_residual.ensures
    (lambda-refused x.w.form x.w.edition x.text.now x.a x.s x.out.now c.if-a-ne-PIPE.false _ _ _ _ c.bind_list.ensures _ c.in_err-n.was)

pub returns : goal.returns
returns c =
    let x = c.args in
    lambda-read x.w.form x.w.edition x.text.now x.a x.s x.out.now c.if-a-ne-PIPE.false _ _ _ _ c.bind_list.ensures _ (omega (arith, c.well_formed.1.1.1.0.0)) c.step_inside-i.ensures
    c.put_mark-p.ensures _ c.in_ok-n.was _ _ _ c.close_bars-to.ensures c.seal.ensures
