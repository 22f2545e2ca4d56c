use mathlib.Core.Path.{sym, ◌∙◌, ap}
use borrow.Author.Tests.{not-true, not-false}
use Rattle.std.specs.Prelude.{Err}
use Rattle.parts.proofs.Contracts.{reads-handed}
use Rattle.chains.proofs.Values.{address-bad, address-other, address_read}
use Rattle.chains.proofs.address_value.Goals as goal

pub returns-then-not-is_first : goal.returns-then-not-is_first
returns-then-not-is_first c =
    let x = c.args in
    address-other x.w.form x.w.edition x.text.now x.s x.out.now _ x.a _ (sym c.behind.ensures ∙ c.in_ok-b.was) _ c.is_first.ensures _
    (not-true _ c.if-not-is_first.true-raw) (ap Err c.unexpected.ensures)

pub returns-in_err-b : goal.returns-in_err-b
returns-in_err-b c =
    let x = c.args in
    reads-handed _ _ c.from_residual.ensures
    (address-bad x.w.form x.w.edition x.text.now x.s x.out.now _ x.a _ (sym c.behind.ensures ∙ c.in_err-b.was))

pub returns : goal.returns
returns c =
    let x = c.args in
    address_read x.w.form x.w.edition x.text.now x.s x.out.now _ x.a _ (sym c.behind.ensures ∙ c.in_ok-b.was) _ c.is_first.ensures _ _
    (not-false _ c.if-not-is_first.false-raw) c.put_address-to.ensures c.finish.ensures
