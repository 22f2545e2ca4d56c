use mathlib.Core.Path.{refl, sym}
use native.Mathlib.Omega.{arith}
use Rattle.parts.proofs.Contracts.{reads-handed}
use Rattle.lists.proofs.Contracts.{part-all, part-broken}
use Rattle.bind_walk.proofs.Parted.{ending-refused}
use Rattle.bind_walk.proofs.Structs.{types-enclosed}
use Rattle.bind_walk.proofs.types_at.Goals as goal

pub returns-in_err-l : goal.returns-in_err-l
returns-in_err-l c =
    let x = c.args in
    reads-handed _ _ c.from_residual.ensures
    (types-enclosed x.w.form x.w.edition x.text.now x.w.left x.o x.s _ x.out.now _ _ _ _ _ _ (omega (arith, c.well_formed.1.1.1.0.0)) c.put_mark-p.ensures
    c.parse_type_args.ensures (sym (part-broken _ _ c.in_err-l.was)) (ending-refused _ _ _ _ _ refl))

pub returns : goal.returns
returns c =
    let x = c.args in
    types-enclosed x.w.form x.w.edition x.text.now x.w.left x.o x.s _ x.out.now _ _ _ _ _ _ (omega (arith, c.well_formed.1.1.1.0.0)) c.put_mark-p.ensures
    c.parse_type_args.ensures (sym (part-all _ _ c.in_ok-l.was)) (c.end_part.ensures.answer, c.end_part.ensures.bytes)
