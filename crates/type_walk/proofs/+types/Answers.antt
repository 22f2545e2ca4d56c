use native.Mathlib.Omega.{arith}
use Rattle.type_walk.proofs.Types.{brackets-refused, brackets-read, function-refused, result-refused, function-read, begins-reference, no-reference, no-reference-mut, marked-brackets, marked-reference, marked-function, marked_other, named-refused, named-alone, arguments-refused, named-read, type-deep, type-over, begins-some, begun-bad, begun-named, reference-bad, reference-refused, reference-read}
use mathlib.Core.Path.{◌∙◌, sym, ap}
use Rattle.parts.proofs.Held.{next-found}
use Rattle.parts.proofs.Contracts.{handed-on, reads-handed}
use Rattle.lists.proofs.Contracts.{all-goes, list-handed}
use Rattle.chains.proofs.Names.{past-read}
use borrow.Author.Tests.{not-true, not-false}
use Rattle.lists.proofs.Listing.{going-first, step-stopped, step-closes, step-last, step-on, step-goes, steps-refused, steps-closes, steps-item, item-there}
use Rattle.std.specs.Prelude.{Ok, Err}
use Rattle.type_walk.proofs.+types.Goals as goal

pub brackets_at-type_list-requires : goal.brackets_at-type_list-requires
brackets_at-type_list-requires t c = (omega (arith, c.decreases), tt)

pub brackets_at-returns-in_err-n : goal.brackets_at-returns-in_err-n
brackets_at-returns-in_err-n t c = reads-handed _ _ c.from_residual.ensures (brackets-refused _ _ _ _ _ _ _ _ _ _ _ c.type_list.ensures _ c.in_err-n.was)

pub brackets_at-returns : goal.brackets_at-returns
brackets_at-returns t c =
    brackets-read _ _ _ _ _ _ _ _ _ _ _ c.type_list.ensures _ c.in_ok-n.was (omega (arith, c.well_formed.1.1.1.0.0)) _
    c.step_inside-i.ensures c.put_mark-p.ensures _ _ _ _ c.put_mark-to.ensures
    c.brackets_kind.ensures c.seal.ensures

pub marked_at-brackets_at-requires : goal.marked_at-brackets_at-requires
marked_at-brackets_at-requires t c = (omega (arith, c.decreases, c.if-a-eq-L_PAREN.true), tt)

pub marked_at-returns-then-a-eq-L_PAREN : goal.marked_at-returns-then-a-eq-L_PAREN
marked_at-returns-then-a-eq-L_PAREN t c = λ _. marked-brackets _ _ _ _ _ _ _ _ _ c.if-a-eq-L_PAREN.true c.brackets_at.ensures

pub marked_at-reference_at-requires : goal.marked_at-reference_at-requires
marked_at-reference_at-requires t c =
    (omega (arith, c.decreases, begins-reference c.args.a.kind _ c.is_reference.ensures c.if-is_reference.true), tt)

pub marked_at-returns-then-is_reference : goal.marked_at-returns-then-is_reference
marked_at-returns-then-is_reference t c =
    λ _. marked-reference _ _ _ _ _ _ _ _ _ c.if-a-eq-L_PAREN.false _ c.is_reference.ensures c.if-is_reference.true c.reference_at.ensures

pub marked_at-function_at-requires : goal.marked_at-function_at-requires
marked_at-function_at-requires t c =
    (omega (arith, c.decreases, c.if-a-eq-PIPE.true), tt)

pub marked_at-returns-then-a-eq-PIPE : goal.marked_at-returns-then-a-eq-PIPE
marked_at-returns-then-a-eq-PIPE t c =
    let e = c.is_reference.ensures in
    λ _. marked-function _ _ _ _ _ _ _ _ _ c.if-a-eq-L_PAREN.false (no-reference _ _ e c.if-is_reference.false) (no-reference-mut _ _ e c.if-is_reference.false) c.if-a-eq-PIPE.true
    c.function_at.ensures

pub marked_at-returns : goal.marked_at-returns
marked_at-returns t c =
    let e = c.is_reference.ensures in
    λ k. marked_other _ _ _ _ _ _ _ _ _ c.if-a-eq-L_PAREN.false (no-reference _ _ e c.if-is_reference.false) (no-reference-mut _ _ e c.if-is_reference.false) c.if-a-eq-PIPE.false k
    (ap Err c.unexpected.ensures)

pub named_at-returns-then-p-ne-LESS : goal.named_at-returns-then-p-ne-LESS
named_at-returns-then-p-ne-LESS t c =
    λ h k. named-alone _ _ _ _ _ _ _ _ _ _ (c.name_behind.ensures.reads h k) _ c.in_ok-p.was c.if-p-ne-LESS.true
    (omega (arith, c.well_formed.1.1.1.1.0.0)) c.step_inside-i.ensures _ c.seal.ensures

pub named_at-type_list-requires : goal.named_at-type_list-requires
named_at-type_list-requires t c = (omega (arith, c.decreases, past-read _ _ c.name_behind.ensures.past _ c.in_ok-p.was), tt)

pub named_at-returns-in_err-p : goal.named_at-returns-in_err-p
named_at-returns-in_err-p t c =
    λ h k. reads-handed _ _ c.from_residual.ensures (named-refused _ _ _ _ _ _ _ _ _ _ (c.name_behind.ensures.reads h k) _ c.in_err-p.was)

pub named_at-returns-in_err-m : goal.named_at-returns-in_err-m
named_at-returns-in_err-m t c =
    λ h k. reads-handed _ _ c.from_residual-in_err-m.ensures (arguments-refused _ _ _ _ _ _ _ _ _ _ (c.name_behind.ensures.reads h k) _ c.in_ok-p.was c.if-p-ne-LESS.false _ _ _
    c.type_list.ensures _ c.in_err-m.was)

pub named_at-returns : goal.named_at-returns
named_at-returns t c =
    λ h k. named-read _ _ _ _ _ _ _ _ _ _ (c.name_behind.ensures.reads h k) _ c.in_ok-p.was c.if-p-ne-LESS.false _ _ _
    c.type_list.ensures _ c.in_ok-m.was (omega (arith, c.well_formed.1.1.1.1.0.0)) c.step_inside-i.ensures
    c.step_angle-j.ensures _ _ _ c.close_angles-to.ensures c.seal-2.ensures

pub parse_type-returns-then-w-eq0 : goal.parse_type-returns-then-w-eq0
parse_type-returns-then-w-eq0 t c = type-deep _ _ _ _ _ _ _ _ _ c.if-w-eq0.true (ap Err c.too_deep.ensures)

pub parse_type-marked_at-requires : goal.parse_type-marked_at-requires
parse_type-marked_at-requires t c =
    (omega (arith, c.decreases), tt)

pub parse_type-returns-then-not-is_first : goal.parse_type-returns-then-not-is_first
parse_type-returns-then-not-is_first t c =
    type-over _ _ _ _ _ _ _ _ _ (omega (arith, c.if-w-eq0.false)) (c.marked_at.ensures (sym c.is_first.ensures ∙ not-true _ c.if-not-is_first.true-raw))

pub parse_type-named_at-requires : goal.parse_type-named_at-requires
parse_type-named_at-requires t c =
    let d = next-found _ _ _ _ (sym c.behind.ensures ∙ c.in_ok-n.was) in
    let k = begins-some c.args.a (sym c.is_first.ensures ∙ not-false _ c.if-not-is_first.false-raw) in
    (omega (arith, c.decreases, d.from, d.fits.1, k), tt)

pub parse_type-returns-in_err-n : goal.parse_type-returns-in_err-n
parse_type-returns-in_err-n t c =
    reads-handed _ _ c.from_residual.ensures
    (type-over _ _ _ _ _ _ _ _ _ (omega (arith, c.if-w-eq0.false))
    (begun-bad _ _ _ _ _ _ _ _ _ (sym c.is_first.ensures ∙ not-false _ c.if-not-is_first.false-raw) (sym c.behind.ensures ∙ c.in_err-n.was)))

pub parse_type-returns : goal.parse_type-returns
parse_type-returns t c =
    let k = sym c.is_first.ensures ∙ not-false _ c.if-not-is_first.false-raw in
    type-over _ _ _ _ _ _ _ _ _ (omega (arith, c.if-w-eq0.false))
    (begun-named _ _ _ _ _ _ _ _ _ k (c.named_at.ensures (sym c.behind.ensures ∙ c.in_ok-n.was) k))

pub type_item-parse_type-t-requires : goal.type_item-parse_type-t-requires
type_item-parse_type-t-requires t c =
    (omega (arith, c.decreases), tt)

pub type_item-returns : goal.type_item-returns
type_item-returns t c =
    record { from = _; parted = _; between = c.put_between-p.ensures; part = _; reads = c.parse_type-t.ensures; is = c.after_item.ensures }

pub type_list-loop-q-init : goal.type_list-loop-q-init
type_list-loop-q-init t c = going-first _ _ _ _ _ _ _ _ c.move_by-to.ensures _ (omega (arith, c.well_formed.1.1.1.1.0.0))

pub type_list-type_step-requires : goal.type_list-type_step-requires
type_list-type_step-requires t c = (omega (arith, c.decreases, c.loop-q.invariant.after), tt)

pub type_list-returns-in_err-q : goal.type_list-returns-in_err-q
type_list-returns-in_err-q t c =
    list-handed _ _ c.from_residual.ensures
    (step-stopped _ _ _ _ _ _ _ _ c.move_by-to.ensures _ (omega (arith, c.well_formed.1.1.1.1.0.0)) _ _ _ _ c.loop-q.invariant _ _ _ c.type_step.ensures c.in_err-q.was)

pub type_list-returns-in-Closes : goal.type_list-returns-in-Closes
type_list-returns-in-Closes t c =
    step-closes _ _ _ _ _ _ _ _ c.move_by-to.ensures _ (omega (arith, c.well_formed.1.1.1.1.0.0)) _ _ _ _ c.loop-q.invariant _ _ _ _ c.type_step.ensures
    (c.in_ok-q.was ∙ ap Ok c.in-Closes.is) c.close_list.ensures

pub type_list-returns-in-Last : goal.type_list-returns-in-Last
type_list-returns-in-Last t c =
    step-last _ _ _ _ _ _ _ _ c.move_by-to.ensures _ (omega (arith, c.well_formed.1.1.1.1.0.0)) _ _ _ _ c.loop-q.invariant _ _ _ _ _ c.count_more.ensures
    c.type_step.ensures _ (c.in_ok-q.was ∙ ap Ok c.in-Last.is) c.close_list-in-Last.ensures

pub type_list-loop-q-smaller : goal.type_list-loop-q-smaller
type_list-loop-q-smaller t c =
    let d = step-on _ _ _ _ _ _ _ _ c.move_by-to.ensures _ (omega (arith, c.well_formed.1.1.1.1.0.0)) _ _ _ _ c.loop-q.invariant _ _ _ _ _ c.count_more-count.ensures
    c.type_step.ensures (c.in_ok-q.was ∙ ap Ok c.in-Goes.is) in
    omega (arith, d.0, d.1)

pub type_list-loop-q-preserved : goal.type_list-loop-q-preserved
type_list-loop-q-preserved t c =
    step-goes _ _ _ _ _ _ _ _ c.move_by-to.ensures _ (omega (arith, c.well_formed.1.1.1.1.0.0)) _ _ _ _ c.loop-q.invariant _ _ _ _ _ c.count_more-count.ensures
    c.type_step.ensures (c.in_ok-q.was ∙ ap Ok c.in-Goes.is)

pub type_step-type_item-requires : goal.type_step-type_item-requires
type_step-type_item-requires t c =
    let d = item-there _ _ _ _ _ (sym c.next_item.ensures ∙ c.in_ok-q.was ∙ ap Ok c.in-Item.is) in
    (omega (arith, c.decreases, d.from, d.fits.1, d.fits.2), tt)

pub type_step-returns-in_err-q : goal.type_step-returns-in_err-q
type_step-returns-in_err-q t c = steps-refused _ _ _ _ _ _ _ _ _ _ _ _ (sym c.next_item.ensures ∙ c.in_err-q.was) (handed-on _ _ c.from_residual.ensures)

pub type_step-returns-in-Closes : goal.type_step-returns-in-Closes
type_step-returns-in-Closes t c = steps-closes _ _ _ _ _ _ _ _ _ _ _ (sym c.next_item.ensures ∙ c.in_ok-q.was ∙ ap Ok c.in-Closes.is)

pub type_step-returns-in-Item : goal.type_step-returns-in-Item
type_step-returns-in-Item t c =
    steps-item _ _ _ _ _ _ _ _ _ _ _ _ _ (sym c.next_item.ensures ∙ c.in_ok-q.was ∙ ap Ok c.in-Item.is) c.type_item.ensures

pub function_at-type_list-l-requires : goal.function_at-type_list-l-requires
function_at-type_list-l-requires t c = (omega (arith, c.decreases), tt)

pub function_at-parse_type-t-requires : goal.function_at-parse_type-t-requires
function_at-parse_type-t-requires t c =
    let g = all-goes c.type_list-l.ensures _ c.in-Ok.is in
    let d = next-found _ _ _ _ g.1 in
    (omega (arith, c.decreases, g.0, d.from, d.fits.1, d.fits.2), tt)

pub function_at-returns-in-Err : goal.function_at-returns-in-Err
function_at-returns-in-Err t c = function-refused _ _ _ _ _ _ _ _ _ _ _ c.type_list-l.ensures _ c.in-Err.is

pub function_at-returns-in-Err-t : goal.function_at-returns-in-Err-t
function_at-returns-in-Err-t t c =
    result-refused _ _ _ _ _ _ _ _ _ _ _ c.type_list-l.ensures _ c.in-Ok.is _ _ _ _ c.parse_type-t.ensures _ c.in-Err-t.is

pub function_at-returns-in-Ok-t : goal.function_at-returns-in-Ok-t
function_at-returns-in-Ok-t t c =
    function-read _ _ _ _ _ _ _ _ _ _ _ c.type_list-l.ensures _ c.in-Ok.is _ _ _ _ c.parse_type-t.ensures _ c.in-Ok-t.is
    (omega (arith, c.well_formed.1.1.1.0.0)) _ _ _ c.step_inside-i.ensures c.put_mark-q.ensures c.close_bars-c.ensures
    c.put_mark-d.ensures _ c.seal.ensures

pub reference_at-parse_type-t-requires : goal.reference_at-parse_type-t-requires
reference_at-parse_type-t-requires t c =
    let d = next-found _ _ _ _ (sym c.behind-l.ensures ∙ c.in-Ok.is) in
    (omega (arith, c.decreases, d.from, d.fits.1, d.fits.2), tt)

pub reference_at-returns-in-Err : goal.reference_at-returns-in-Err
reference_at-returns-in-Err t c =
    reference-bad _ _ _ _ _ _ _ c.args.mutable _ _ (sym c.behind-l.ensures ∙ c.in-Err.is)

pub reference_at-returns-in-Err-t : goal.reference_at-returns-in-Err-t
reference_at-returns-in-Err-t t c =
    reference-refused _ _ _ _ _ _ _ c.args.mutable _ (sym c.behind-l.ensures ∙ c.in-Ok.is) _ _ _ _
    c.parse_type-t.ensures _ c.in-Err-t.is

pub reference_at-returns-in-Ok-t : goal.reference_at-returns-in-Ok-t
reference_at-returns-in-Ok-t t c =
    reference-read _ _ _ _ _ _ _ c.args.mutable _ (sym c.behind-l.ensures ∙ c.in-Ok.is) _ _ _ _ c.parse_type-t.ensures
    _ c.in-Ok-t.is (omega (arith, c.well_formed.1.1.1.1.0.0)) _ c.step_inside-i.ensures
    c.put_reference-q.ensures _ _ c.reference_kind-kind.ensures c.seal.ensures
