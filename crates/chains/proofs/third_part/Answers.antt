use mathlib.Core.Path.{sym, ◌∙◌}
use Rattle.parts.proofs.Contracts.{reads-handed}
use Rattle.chains.proofs.Names.{third-bad, third-more, third-two}
use Rattle.chains.proofs.third_part.Goals as goal

pub returns-then-d-eq-COLON_COLON : goal.returns-then-d-eq-COLON_COLON
returns-then-d-eq-COLON_COLON c =
    let x = c.args in
    third-more x.w.form x.w.edition x.text.now x.s x.out.now _ x.a x.b _ _
    (sym c.behind.ensures ∙ c.in_ok-d.was)
    c.if-d-eq-COLON_COLON.true c.last_part.ensures

pub returns-in_err-d : goal.returns-in_err-d
returns-in_err-d c =
    let x = c.args in
    reads-handed _ _ c.from_residual.ensures
    (third-bad x.w.form x.w.edition x.text.now x.s x.out.now _ x.a x.b _ (sym c.behind.ensures ∙ c.in_err-d.was))

pub returns : goal.returns
returns c =
    let x = c.args in
    third-two x.w.form x.w.edition x.text.now x.s x.out.now _ x.a x.b _ _
    (sym c.behind.ensures ∙ c.in_ok-d.was)
    c.if-d-eq-COLON_COLON.false c.put_pair-to.ensures
