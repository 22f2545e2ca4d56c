use native.Mathlib.Omega.{arith}
use Rattle.bind_walk.proofs.Laying.{name-placed}
use Rattle.bind_walk.proofs.put_field_name.Goals as goal

pub returns : goal.returns
returns c =
    let x = c.args in
    name-placed x.w.form x.text.now x.a x.out.now _ _ x.s _ _ _ (omega (arith, c.well_formed.1.1.1.0.0))
    c.step_inside-i.ensures c.put_leaf-p.ensures c.put_marks.ensures
