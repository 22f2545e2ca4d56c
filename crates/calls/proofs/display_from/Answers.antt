use mathlib.Core.Path.{◌∙◌, sym, ap}
use Rattle.parts.proofs.Contracts.{handed-on}
use Rattle.calls.specs.code.Given.{asks}
use Rattle.calls.proofs.Answers.{line_of, display-given, display-unprintable}
use Rattle.calls.proofs.display_from.Goals as goal

pub returns-in-Some : goal.returns-in-Some
returns-in-Some c =
    let x = c.args in
    display-unprintable (asks x.q) x.first x.line.now _ (sym c.in-Some.is ∙ c.unprintable_at.ensures.place) _ c.refuse-u.ensures _ c.unprintable_from.ensures

pub returns-in_err-call : goal.returns-in_err-call
returns-in_err-call c =
    let x = c.args in
    display-given (asks x.q) x.first x.line.now _ (sym c.in_default.is ∙ c.unprintable_at.ensures.place) _ _ c.call.ensures (handed-on _ _ c.from_residual.ensures ∙ ap line_of (sym c.in_err-call.was))

pub returns : goal.returns
returns c =
    let x = c.args in
    display-given (asks x.q) x.first x.line.now _ (sym c.in_default.is ∙ c.unprintable_at.ensures.place) _ _ c.call.ensures (ap line_of (sym c.in_ok-call.was))
