use Rattle.calls.specs.code.Given.{asks}
use Rattle.calls.proofs.Answers.{calls-handed, call-faulty, call-bad, call-found}
use Rattle.calls.proofs.call.Goals as goal

pub returns-in_err-kind : goal.returns-in_err-kind
returns-in_err-kind c =
    let x = c.args in
    calls-handed _ _ _ _ _ _ _ c.from_residual.ensures (call-faulty x.form (asks x.q) x.first x.out.now _ c.in_err-kind.ensures)

pub returns-in_err-first : goal.returns-in_err-first
returns-in_err-first c =
    let x = c.args in
    calls-handed _ _ _ _ _ _ _ c.from_residual-in_err-first.ensures (call-bad x.form (asks x.q) x.first x.out.now c.in_ok-kind.ensures.0 _ c.in_err-first.was)

pub returns : goal.returns
returns c =
    let x = c.args in
    call-found x.form (asks x.q) x.first x.out.now c.in_ok-kind.ensures.0 _ c.in_ok-kind.ensures.1 _ _ _ c.in_ok-first.was c.lay_item.ensures
