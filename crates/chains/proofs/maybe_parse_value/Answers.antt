use mathlib.Core.Path.{refl, sym, ◌∙◌, ap}
use Rattle.std.specs.Prelude.{Err}
use Rattle.parts.proofs.Contracts.{reads-handed}
use Rattle.chains.proofs.Values.{none-kind, some-kind-is, value-address, value_none, value-bad, value-colons, value-leaf}
use Rattle.chains.proofs.maybe_parse_value.Goals as goal

pub returns-then-a-eq-AT_SIGN : goal.returns-then-a-eq-AT_SIGN
returns-then-a-eq-AT_SIGN c =
    let x = c.args in
    value-address x.w.form x.w.edition x.text.now x.s x.out.now _ x.a _ c.if-a-eq-AT_SIGN.true c.address_value.ensures

pub returns-in_default : goal.returns-in_default
returns-in_default c =
    let x = c.args in
    value_none x.w.form x.w.edition x.text.now x.s x.out.now _ x.a c.if-a-eq-AT_SIGN.false _ _ c.byte_at-b.ensures (none-kind _ _ c.leaf_kind.ensures c.in_default.is) _
    refl (ap Err c.no_value.ensures)

pub returns-then-before_colons : goal.returns-then-before_colons
returns-then-before_colons c =
    let x = c.args in
    value-colons x.w.form x.w.edition x.text.now x.s x.out.now _ x.a
    c.if-a-eq-AT_SIGN.false _ _ c.byte_at-b.ensures (some-kind-is _ _ _ c.leaf_kind.ensures c.in-Some.is).0
    (some-kind-is _ _ _ c.leaf_kind.ensures c.in-Some.is).1 _ (sym c.behind.ensures ∙ c.in_ok-d.was) _ c.before_colons.ensures _ c.if-before_colons.true (ap Err c.no_value-then-before_colons.ensures)

pub returns-in_err-d : goal.returns-in_err-d
returns-in_err-d c =
    let x = c.args in
    reads-handed _ _ c.from_residual.ensures
    (value-bad x.w.form x.w.edition x.text.now x.s x.out.now _ x.a c.if-a-eq-AT_SIGN.false _ _ c.byte_at-b.ensures (some-kind-is _ _ _ c.leaf_kind.ensures c.in-Some.is).0
    (some-kind-is _ _ _ c.leaf_kind.ensures c.in-Some.is).1 _ (sym c.behind.ensures ∙ c.in_err-d.was))

pub returns : goal.returns
returns c =
    let x = c.args in
    value-leaf x.w.form x.w.edition x.text.now x.s x.out.now _ x.a
    c.if-a-eq-AT_SIGN.false _ _ c.byte_at-b.ensures (some-kind-is _ _ _ c.leaf_kind.ensures c.in-Some.is).0
    (some-kind-is _ _ _ c.leaf_kind.ensures c.in-Some.is).1 _ (sym c.behind.ensures ∙ c.in_ok-d.was) _ c.before_colons.ensures _
    c.if-before_colons.false c.put_leaf-to.ensures
