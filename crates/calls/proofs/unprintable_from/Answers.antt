use mathlib.Core.Path.{◌∙◌, sym, ap}
use Rattle.calls.specs.code.Given.{asks}
use Rattle.calls.proofs.Answers.{said_of, unprintable-given}
use Rattle.calls.proofs.unprintable_from.Goals as goal

pub returns-in-Ok : goal.returns-in-Ok
returns-in-Ok c =
    let x = c.args in
    unprintable-given (asks x.q) x.first x.u _ _ _ _ c.call.ensures (ap (said_of x.u) (sym c.in-Ok.is))

pub returns-in-Err : goal.returns-in-Err
returns-in-Err c =
    let x = c.args in
    unprintable-given (asks x.q) x.first x.u _ _ _ _ c.call.ensures (c.replaced.ensures ∙ ap (said_of x.u) (sym c.in-Err.is))
