use mathlib.Core.Path.{sym, ◌∙◌, ap}
use borrow.Author.Tests.{not-true, not-false}
use Rattle.std.specs.Prelude.{Err}
use Rattle.parts.proofs.Contracts.{reads-handed}
use Rattle.chains.proofs.Names.{chain-other, chain-bad}
use Rattle.chains.proofs.parse_name_access_chain.Goals as goal

pub returns-then-not-is_first : goal.returns-then-not-is_first
returns-then-not-is_first c =
    let x = c.args in
    chain-other x.w.form x.w.edition x.text.now x.s x.out.now _ x.a _ _ c.is_first.ensures (not-true _ c.if-not-is_first.true-raw) (ap Err c.unexpected.ensures)

pub returns-in_err-d : goal.returns-in_err-d
returns-in_err-d c =
    let x = c.args in
    reads-handed _ _ c.from_residual.ensures
    (chain-bad x.w.form x.w.edition x.text.now x.s x.out.now _ x.a _ c.is_first.ensures (not-false _ c.if-not-is_first.false-raw) _
    (sym c.behind.ensures ∙ c.in_err-d.was))

pub returns : goal.returns
returns c =
    c.name_behind.ensures.reads (sym c.behind.ensures ∙ c.in_ok-d.was) (sym c.is_first.ensures ∙ not-false _ c.if-not-is_first.false-raw)
