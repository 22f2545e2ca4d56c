use mathlib.Core.Path.{sym, ◌∙◌, refl, ap}
use native.Mathlib.Omega.{arith}
use Rattle.parts.proofs.Held.{next-found}
use Rattle.bind_walk.proofs.Binds.{bound-short, bound-bad, bound-bind, bind-deep, bind-unnamed, bind-refused, bind-one, bind-unpack, field-deep, field-other, field-bad, field_bound}
use Rattle.lists.proofs.Listing.{going-first, step-stopped, step-closes, step-last, step-on, step-goes, steps-refused, steps-closes, steps-item, item-there}
use Rattle.bind_walk.proofs.Structs.{fields-other, fields-enclosed, unpack-unnamed, unpack-bad, unpack-fields}
use borrow.Author.Tests.{not-true, not-false}
use Rattle.chains.proofs.Names.{past-read}
use Rattle.parts.proofs.Contracts.{handed-on, reads-handed}
use Rattle.lists.proofs.Contracts.{list-handed, part-all, part-broken}
use Rattle.bind_walk.proofs.Parted.{ending-refused, closing-refused, closing-read}
use Rattle.std.specs.Prelude.{Ok, Err}
use Rattle.bind_walk.proofs.+binds.Goals as goal

pub field_bind-returns-then-n-ne-COLON : goal.field_bind-returns-then-n-ne-COLON
field_bind-returns-then-n-ne-COLON t c =
    let x = c.args in
    λ e. bound-short x.w.form x.w.edition x.text.now x.s x.out.now _ x.w.left x.a x.n e _ c.if-n-ne-COLON.true c.put_leaf-to.ensures

pub field_bind-parse_bind-requires : goal.field_bind-parse_bind-requires
field_bind-parse_bind-requires t c =
    let d = next-found _ _ _ _ (sym c.behind.ensures ∙ c.in_ok-b.was) in
    (omega (arith, c.decreases, c.if-n-ne-COLON.false, d.from, d.fits.1), tt)

pub field_bind-returns-in_err-b : goal.field_bind-returns-in_err-b
field_bind-returns-in_err-b t c =
    let x = c.args in
    λ e. reads-handed _ _ c.from_residual.ensures (bound-bad x.w.form x.w.edition x.text.now x.s x.out.now _ x.w.left x.a x.n e c.if-n-ne-COLON.false _ (sym c.behind.ensures ∙ c.in_err-b.was))

pub field_bind-returns : goal.field_bind-returns
field_bind-returns t c =
    let x = c.args in
    λ e. bound-bind x.w.form x.w.edition x.text.now x.s x.out.now _ x.w.left x.a x.n e c.if-n-ne-COLON.false _ (sym c.behind.ensures ∙ c.in_ok-b.was) _ c.parse_bind.ensures

pub field_list-loop-q-init : goal.field_list-loop-q-init
field_list-loop-q-init t c = going-first _ _ _ _ _ _ _ _ c.move_by-to.ensures _ (omega (arith, c.well_formed.1.1.1.0.0))

pub field_list-field_step-requires : goal.field_list-field_step-requires
field_list-field_step-requires t c = (omega (arith, c.decreases, c.loop-q.invariant.after), tt)

pub field_list-returns-in_err-q : goal.field_list-returns-in_err-q
field_list-returns-in_err-q t c =
    list-handed _ _ c.from_residual.ensures (step-stopped _ _ _ _ _ _ _ _ c.move_by-to.ensures _ (omega (arith, c.well_formed.1.1.1.0.0)) _ _ _ _ c.loop-q.invariant _ _ _ c.field_step.ensures c.in_err-q.was)

pub field_list-returns-in-Closes : goal.field_list-returns-in-Closes
field_list-returns-in-Closes t c =
    step-closes _ _ _ _ _ _ _ _ c.move_by-to.ensures _ (omega (arith, c.well_formed.1.1.1.0.0)) _ _ _ _ c.loop-q.invariant _ _ _ _ c.field_step.ensures
    (c.in_ok-q.was ∙ ap Ok c.in-Closes.is) c.close_list.ensures

pub field_list-returns-in-Last : goal.field_list-returns-in-Last
field_list-returns-in-Last t c =
    step-last _ _ _ _ _ _ _ _ c.move_by-to.ensures _ (omega (arith, c.well_formed.1.1.1.0.0)) _ _ _ _ c.loop-q.invariant _ _ _ _ _ c.count_more.ensures
    c.field_step.ensures _ (c.in_ok-q.was ∙ ap Ok c.in-Last.is) c.close_list-in-Last.ensures

pub field_list-loop-q-smaller : goal.field_list-loop-q-smaller
field_list-loop-q-smaller t c =
    let d = step-on _ _ _ _ _ _ _ _ c.move_by-to.ensures _ (omega (arith, c.well_formed.1.1.1.0.0)) _ _ _ _ c.loop-q.invariant _ _ _ _ _ c.count_more-count.ensures
    c.field_step.ensures (c.in_ok-q.was ∙ ap Ok c.in-Goes.is) in
    omega (arith, d.0, d.1)

pub field_list-loop-q-preserved : goal.field_list-loop-q-preserved
field_list-loop-q-preserved t c =
    step-goes _ _ _ _ _ _ _ _ c.move_by-to.ensures _ (omega (arith, c.well_formed.1.1.1.0.0)) _ _ _ _ c.loop-q.invariant _ _ _ _ _ c.count_more-count.ensures
    c.field_step.ensures (c.in_ok-q.was ∙ ap Ok c.in-Goes.is)

pub field_step-parse_bind_field-t-requires : goal.field_step-parse_bind_field-t-requires
field_step-parse_bind_field-t-requires t c =
    let d = item-there _ _ _ _ _ (sym c.next_item.ensures ∙ c.in_ok-q.was ∙ ap Ok c.in-Item.is) in
    (omega (arith, c.decreases, d.from, d.fits.1), tt)

pub field_step-returns-in_err-q : goal.field_step-returns-in_err-q
field_step-returns-in_err-q t c = steps-refused _ _ _ _ _ _ _ _ _ _ _ _ (sym c.next_item.ensures ∙ c.in_err-q.was) (handed-on _ _ c.from_residual.ensures)

pub field_step-returns-in-Closes : goal.field_step-returns-in-Closes
field_step-returns-in-Closes t c = steps-closes _ _ _ _ _ _ _ _ _ _ _ (sym c.next_item.ensures ∙ c.in_ok-q.was ∙ ap Ok c.in-Closes.is)

pub field_step-returns-in-Item : goal.field_step-returns-in-Item
field_step-returns-in-Item t c =
    steps-item _ _ _ _ _ _ _ _ _ _ _ _ _ (sym c.next_item.ensures ∙ c.in_ok-q.was ∙ ap Ok c.in-Item.is)
    (record { from = _; parted = _; between = c.put_between-p.ensures; part = _; reads = c.parse_bind_field-t.ensures; is = c.after_item.ensures })

pub fields_at-returns-then-b-ne-L_BRACE : goal.fields_at-returns-then-b-ne-L_BRACE
fields_at-returns-then-b-ne-L_BRACE t c =
    let x = c.args in
    fields-other x.w.form x.w.edition x.text.now x.w.left x.b x.s x.out.now _ _ c.if-b-ne-L_BRACE.true (ap Err c.unexpected.ensures)

pub fields_at-field_list-requires : goal.fields_at-field_list-requires
fields_at-field_list-requires t c = (omega (arith, c.decreases), tt)

pub fields_at-returns-in_err-l : goal.fields_at-returns-in_err-l
fields_at-returns-in_err-l t c =
    let x = c.args in
    reads-handed _ _ c.from_residual.ensures
    (fields-enclosed x.w.form x.w.edition x.text.now x.w.left x.b x.s x.out.now _ _ _ _ _ _ _ (omega (arith, c.well_formed.1.1.1.0.0)) c.if-b-ne-L_BRACE.false
    c.put_marks-p.ensures c.field_list.ensures (sym (part-broken _ _ c.in_err-l.was)) (ending-refused _ _ _ _ _ refl))

pub fields_at-returns : goal.fields_at-returns
fields_at-returns t c =
    let x = c.args in
    fields-enclosed x.w.form x.w.edition x.text.now x.w.left x.b x.s x.out.now _ _ _ _ _ _ _ (omega (arith, c.well_formed.1.1.1.0.0)) c.if-b-ne-L_BRACE.false
    c.put_marks-p.ensures c.field_list.ensures (sym (part-all _ _ c.in_ok-l.was)) (c.end_part.ensures.answer, c.end_part.ensures.bytes)

pub parse_bind-returns-then-w-eq0 : goal.parse_bind-returns-then-w-eq0
parse_bind-returns-then-w-eq0 t c =
    let x = c.args in
    bind-deep x.w.form x.w.edition x.text.now x.s x.out.now _ x.a x.w.left _ c.if-w-eq0.true (ap Err c.too_deep.ensures)

pub parse_bind-returns-then-not-is_first : goal.parse_bind-returns-then-not-is_first
parse_bind-returns-then-not-is_first t c =
    let x = c.args in
    bind-unnamed x.w.form x.w.edition x.text.now x.s x.out.now _ x.a x.w.left (omega arith) _ (sym c.is_first.ensures ∙ not-true _ c.if-not-is_first.true-raw) (ap Err c.unexpected.ensures)

pub parse_bind-returns-then-is_variable : goal.parse_bind-returns-then-is_variable
parse_bind-returns-then-is_variable t c =
    let x = c.args in
    bind-one x.w.form x.w.edition x.text.now x.s x.out.now _ x.a x.w.left (omega arith) _ (sym c.behind.ensures ∙ c.in_ok-n.was) _
    c.is_variable.ensures _ c.if-is_variable.true c.put_leaf-to.ensures

pub parse_bind-unpack_at-requires : goal.parse_bind-unpack_at-requires
parse_bind-unpack_at-requires t c =
    let d = next-found _ _ _ _ (sym c.behind.ensures ∙ c.in_ok-n.was) in
    (omega (arith, c.decreases, d.from, d.fits.1), tt)

pub parse_bind-returns-in_err-n : goal.parse_bind-returns-in_err-n
parse_bind-returns-in_err-n t c =
    let x = c.args in
    reads-handed _ _ c.from_residual.ensures (bind-refused x.w.form x.w.edition x.text.now x.s x.out.now _ x.a x.w.left (omega arith) _ (sym c.is_first.ensures ∙ not-false _ c.if-not-is_first.false-raw) (sym c.behind.ensures ∙ c.in_err-n.was))

pub parse_bind-returns : goal.parse_bind-returns
parse_bind-returns t c =
    let x = c.args in
    let e = sym c.behind.ensures ∙ c.in_ok-n.was in
    bind-unpack x.w.form x.w.edition x.text.now x.s x.out.now _ x.a x.w.left (omega arith) _ e _ c.is_variable.ensures _ c.if-is_variable.false
    (c.unpack_at.ensures e (sym c.is_first.ensures ∙ not-false _ c.if-not-is_first.false-raw))

pub parse_bind_field-returns-then-w-eq0 : goal.parse_bind_field-returns-then-w-eq0
parse_bind_field-returns-then-w-eq0 t c =
    let x = c.args in
    field-deep x.w.form x.w.edition x.text.now x.s x.out.now _ x.a x.w.left _ c.if-w-eq0.true (ap Err c.too_deep.ensures)

pub parse_bind_field-returns-then-a-ne-IDENTIFIER : goal.parse_bind_field-returns-then-a-ne-IDENTIFIER
parse_bind_field-returns-then-a-ne-IDENTIFIER t c =
    let x = c.args in
    field-other x.w.form x.w.edition x.text.now x.s x.out.now _ x.a x.w.left (omega arith) _ c.if-a-ne-IDENTIFIER.true (ap Err c.unexpected.ensures)

pub parse_bind_field-field_bind-requires : goal.parse_bind_field-field_bind-requires
parse_bind_field-field_bind-requires t c =
    let d = next-found _ _ _ _ (sym c.behind.ensures ∙ c.in_ok-n.was) in
    (omega (arith, c.decreases, d.from, d.fits.1, d.fits.2), tt)

pub parse_bind_field-returns-in_err-n : goal.parse_bind_field-returns-in_err-n
parse_bind_field-returns-in_err-n t c =
    let x = c.args in
    reads-handed _ _ c.from_residual.ensures (field-bad x.w.form x.w.edition x.text.now x.s x.out.now _ x.a x.w.left (omega arith) c.if-a-ne-IDENTIFIER.false _ (sym c.behind.ensures ∙ c.in_err-n.was))

pub parse_bind_field-returns-in_err-f : goal.parse_bind_field-returns-in_err-f
parse_bind_field-returns-in_err-f t c =
    let x = c.args in
    let e = sym c.behind.ensures ∙ c.in_ok-n.was in
    reads-handed _ _ c.from_residual-in_err-f.ensures
    (field_bound x.w.form x.w.edition x.text.now x.s x.out.now _ x.a x.w.left (omega arith) c.if-a-ne-IDENTIFIER.false _ e (omega (arith, c.well_formed.1.1.1.0.0)) _ _ _ _ _
    c.put_field_name-p.ensures (c.field_bind.ensures e) (closing-refused _ _ _ _ _ _ _ c.in_err-f.was))

pub parse_bind_field-returns : goal.parse_bind_field-returns
parse_bind_field-returns t c =
    let x = c.args in
    let e = sym c.behind.ensures ∙ c.in_ok-n.was in
    field_bound x.w.form x.w.edition x.text.now x.s x.out.now _ x.a x.w.left (omega arith) c.if-a-ne-IDENTIFIER.false _ e (omega (arith, c.well_formed.1.1.1.0.0)) _ _ _ _ _
    c.put_field_name-p.ensures (c.field_bind.ensures e) (closing-read _ _ _ _ _ _ _ _ c.in_ok-f.was c.seal.ensures)

pub unpack_at-fields_at-requires : goal.unpack_at-fields_at-requires
unpack_at-fields_at-requires t c =
    (omega (arith, c.decreases, past-read _ _ c.name_inside.ensures.past _ c.in_ok-p.was, past-read _ _ c.types_behind.ensures.past _ c.in_ok-q.was), tt)

pub unpack_at-returns-in_err-p : goal.unpack_at-returns-in_err-p
unpack_at-returns-in_err-p t c =
    let x = c.args in
    λ h k. reads-handed _ _ c.from_residual.ensures (unpack-unnamed x.w.form x.w.edition x.text.now x.w.left x.a x.s _ x.out.now _ _ (c.name_inside.ensures.reads h k) _ c.in_err-p.was)

pub unpack_at-returns-in_err-q : goal.unpack_at-returns-in_err-q
unpack_at-returns-in_err-q t c =
    let x = c.args in
    λ h k. reads-handed _ _ c.from_residual-in_err-q.ensures (unpack-bad x.w.form x.w.edition x.text.now x.w.left x.a x.s _ x.out.now _ _ (c.name_inside.ensures.reads h k) _ c.in_ok-p.was _ _
    c.types_behind.ensures _ c.in_err-q.was)

pub unpack_at-returns-in_err-f : goal.unpack_at-returns-in_err-f
unpack_at-returns-in_err-f t c =
    let x = c.args in
    λ h k. reads-handed _ _ c.from_residual-in_err-f.ensures
    (unpack-fields x.w.form x.w.edition x.text.now x.w.left x.a x.s _ x.out.now _ _ (c.name_inside.ensures.reads h k) _ c.in_ok-p.was _ _
    c.types_behind.ensures (omega (arith, c.well_formed.1.1.1.1.0.0)) refl _ c.struct_kind-kind.ensures _ c.in_ok-q.was _ _ _ _
    c.fields_at.ensures (closing-refused _ _ _ _ _ _ _ c.in_err-f.was))

pub unpack_at-returns : goal.unpack_at-returns
unpack_at-returns t c =
    let x = c.args in
    λ h k. unpack-fields x.w.form x.w.edition x.text.now x.w.left x.a x.s _ x.out.now _ _ (c.name_inside.ensures.reads h k) _ c.in_ok-p.was _ _
    c.types_behind.ensures (omega (arith, c.well_formed.1.1.1.1.0.0)) refl _ c.struct_kind-kind.ensures _ c.in_ok-q.was _ _ _ _
    c.fields_at.ensures (closing-read _ _ _ _ _ _ _ _ c.in_ok-f.was c.seal.ensures)
