use native.Mathlib.Omega.{arith}
use Rattle.chains.proofs.Names.{three-placed}
use Rattle.chains.proofs.put_three.Goals as goal

pub returns : goal.returns
returns c =
    let x = c.args in
    three-placed x.w.form x.text.now x.a x.b x.c x.out.now _ _ _ _ x.s _ _ _ _
    (omega (arith, c.well_formed.1.1.1.1.1.0.0))
    c.step_inside-i.ensures
    c.put_pair-p.ensures
    c.put_marks-q.ensures
    c.put_leaf-r.ensures c.seal.ensures
