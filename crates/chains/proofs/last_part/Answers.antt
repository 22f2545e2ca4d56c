use mathlib.Core.Path.{sym, ◌∙◌, ap}
use Rattle.std.specs.Prelude.{Err}
use Rattle.parts.proofs.Contracts.{reads-handed}
use Rattle.chains.proofs.Names.{last-bad, last-other, last-three}
use Rattle.chains.proofs.last_part.Goals as goal

pub returns-then-c-ne-IDENTIFIER : goal.returns-then-c-ne-IDENTIFIER
returns-then-c-ne-IDENTIFIER c =
    let x = c.args in
    last-other x.w.form x.w.edition x.text.now x.s x.out.now _ x.a x.b x.d _ _
    (sym c.behind.ensures ∙ c.in_ok-c.was) c.if-c-ne-IDENTIFIER.true
    (ap Err c.unexpected.ensures)

pub returns-in_err-c : goal.returns-in_err-c
returns-in_err-c c =
    let x = c.args in
    reads-handed _ _ c.from_residual.ensures
    (last-bad x.w.form x.w.edition x.text.now x.s x.out.now _ x.a x.b x.d _ (sym c.behind.ensures ∙ c.in_err-c.was))

pub returns : goal.returns
returns c =
    let x = c.args in
    last-three x.w.form x.w.edition x.text.now x.s x.out.now _ x.a x.b x.d _ _ _
    (sym c.behind.ensures ∙ c.in_ok-c.was)
    c.if-c-ne-IDENTIFIER.false c.put_three-to.ensures c.finish.ensures
