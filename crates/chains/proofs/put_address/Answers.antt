use native.Mathlib.Omega.{arith}
use Rattle.chains.proofs.Values.{address-placed}
use Rattle.chains.proofs.put_address.Goals as goal

pub returns : goal.returns
returns c =
    let x = c.args in
    address-placed x.w.form x.text.now _ x.a x.b x.out.now _ _ _ x.s _ _ _ (omega (arith, c.well_formed.1.1.1.1.0.0))
    c.step_inside-i.ensures c.put_mark-p.ensures c.first_kind.ensures
    c.put_leaf-r.ensures c.seal.ensures
