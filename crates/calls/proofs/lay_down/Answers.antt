use native.Mathlib.Omega.{arith}
use Rattle.calls.specs.code.Given.{sought}
use Rattle.calls.proofs.Answers.{laid-down}
use Rattle.calls.proofs.lay_down.Goals as goal

pub returns : goal.returns
returns c =
    let x = c.args in
    laid-down x.form (sought x.q) x.a x.out.now _ _ _ _ _ (omega arith) c.at_start.ensures c.put_front-s.ensures c.parse_item.ensures
