use mathlib.Core.Path.{refl, sym}
use native.Mathlib.Omega.{arith}
use Rattle.parts.proofs.Contracts.{reads-handed}
use Rattle.lists.proofs.Contracts.{part-all, part-broken}
use Rattle.bind_walk.proofs.Parted.{ending-refused, ending-as, closing-refused, closing-read}
use Rattle.bind_walk.proofs.Outermost.{binds-one, binds-many}
use Rattle.bind_walk.proofs.parse_bind_list.Goals as goal

pub returns-in_err-b : goal.returns-in_err-b
returns-in_err-b c =
    let x = c.args in
    reads-handed _ _ c.from_residual.ensures
    (binds-one x.w.form x.w.edition x.text.now x.a x.s _ x.out.now _ (omega (arith, c.well_formed.1.1.1.0.0)) c.step_inside-i.ensures c.if-a-ne-L_PAREN.true _ _ _ _ _ _ _
    c.put_mark-p.ensures c.parse_bind.ensures (ending-refused _ _ _ _ _ c.in_err-b.was) (closing-refused _ _ _ _ _ _ _ refl))

pub returns-then-a-ne-L_PAREN : goal.returns-then-a-ne-L_PAREN
returns-then-a-ne-L_PAREN c =
    let x = c.args in
    binds-one x.w.form x.w.edition x.text.now x.a x.s _ x.out.now _ (omega (arith, c.well_formed.1.1.1.0.0)) c.step_inside-i.ensures c.if-a-ne-L_PAREN.true _ _ _ _ _ _ _
    c.put_mark-p.ensures c.parse_bind.ensures
    (ending-as _ _ _ _ _ c.in_ok-b.was c.end_part-c.ensures.answer c.end_part-c.ensures.bytes)
    (closing-read _ _ _ _ _ _ _ _ refl c.seal.ensures)

pub returns-in_err-l : goal.returns-in_err-l
returns-in_err-l c =
    let x = c.args in
    reads-handed _ _ c.from_residual-in_err-l.ensures
    (binds-many x.w.form x.w.edition x.text.now x.a x.s _ x.out.now _ (omega (arith, c.well_formed.1.1.1.0.0)) c.step_inside-i.ensures c.if-a-ne-L_PAREN.false _ _ _ _ _ _ _ _
    c.put_mark-p.ensures c.bind_list.ensures (sym (part-broken _ _ c.in_err-l.was)) (ending-refused _ _ _ _ _ refl) (closing-refused _ _ _ _ _ _ _ refl))

pub returns : goal.returns
returns c =
    let x = c.args in
    binds-many x.w.form x.w.edition x.text.now x.a x.s _ x.out.now _ (omega (arith, c.well_formed.1.1.1.0.0)) c.step_inside-i.ensures c.if-a-ne-L_PAREN.false _ _ _ _ _ _ _ _
    c.put_mark-p.ensures c.bind_list.ensures (sym (part-all _ _ c.in_ok-l.was)) (c.end_part-c-2.ensures.answer, c.end_part-c-2.ensures.bytes)
    (closing-read _ _ _ _ _ _ _ _ refl c.seal-2.ensures)
