use mathlib.Core.Path.{sym, ◌∙◌, ap}
use Rattle.std.specs.Prelude.{Err}
use Rattle.parts.proofs.Contracts.{reads-handed}
use Rattle.chains.proofs.Names.{second-bad, second-other, second-name}
use Rattle.chains.proofs.second_part.Goals as goal

pub returns : goal.returns
returns c =
    let x = c.args in
    second-name x.w.form x.w.edition x.text.now x.s x.out.now _ x.a x.d _ _
    (sym c.behind.ensures ∙ c.in_ok-b.was)
    c.if-b-ne-IDENTIFIER.false c.third_part.ensures

pub returns-in_err-b : goal.returns-in_err-b
returns-in_err-b c =
    let x = c.args in
    reads-handed _ _ c.from_residual.ensures
    (second-bad x.w.form x.w.edition x.text.now x.s x.out.now _ x.a x.d _ (sym c.behind.ensures ∙ c.in_err-b.was))

pub returns-then-b-ne-IDENTIFIER : goal.returns-then-b-ne-IDENTIFIER
returns-then-b-ne-IDENTIFIER c =
    let x = c.args in
    second-other x.w.form x.w.edition x.text.now x.s x.out.now _ x.a x.d _ _
    (sym c.behind.ensures ∙ c.in_ok-b.was) c.if-b-ne-IDENTIFIER.true
    (ap Err c.unexpected.ensures)
