use native.Mathlib.Omega.{arith}
use Rattle.chains.proofs.Names.{pair-placed}
use Rattle.chains.proofs.put_pair.Goals as goal

pub returns : goal.returns
returns c =
    let x = c.args in
    pair-placed x.w.form x.text.now x.kind _ x.a x.b x.out.now _ _ _ _ x.s _ _ _ _
    (omega (arith, c.well_formed.1.1.1.1.1.0.0))
    c.step_inside-i.ensures
    c.first_kind.ensures
    c.put_leaf-p.ensures
    c.put_marks-q.ensures
    c.put_leaf-r.ensures c.seal.ensures
