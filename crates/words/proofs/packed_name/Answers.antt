use mathlib.Core.Path.{◌≡◌}
use Prim.Native.Nat.{◌+◌, ◌-◌}
use native.Mathlib.Omega.{arith}
use Rattle.words.proofs.Numbers.{name-first}
use Rattle.words.proofs.packed_name.Goals as goal

pub returns-then-text-at-ge9 : goal.returns-then-text-at-ge9
returns-then-text-at-ge9 c =
    let e : (c.args.at + 9) - c.args.at ≡ 9 = omega arith in
    name-first c.args.text.now c.args.at c.args.n (λ i. (c.type_inv.text i).fits) c.requires.1 c.requires.2 _
    (rw e at c.packed.ensures) _ c.first_bytes.ensures
