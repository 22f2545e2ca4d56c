use mathlib.Core.Path.{◌∙◌, ap}
use mathlib.Core.Bool.{not}
use Prim.Native.Nat.{ℕ}
use lib.Dec.{eqb}
use Rattle.classes.proofs.Search.{bits-low, bits-high, told-bit, told-none}
use Rattle.classes.proofs.is.Goals.{then-this-le-NONE, else-this-le-NONE}
use Rattle.classes.proofs.is.Goals as goal

pub returns-then-bits-ne0 : goal.returns-then-bits-ne0
returns-then-bits-ne0 g c =
    let found = bits-low _ c.ranges.b.fits _ _ c.bits.ensures c.if-bits-ne0.true in
    ap (λ (x : ℕ). not (eqb x 0)) found
    ∙ elim c.if-this-le-NONE.branch [
      | then-this-le-NONE w ↦ told-bit _ _ _ w.if-this-le-NONE.true w.mask-is
      | else-this-le-NONE w ↦ told-none _ _ _ w.if-this-le-NONE.false w.mask-is
    ]

pub returns-else-bits-ne0 : goal.returns-else-bits-ne0
returns-else-bits-ne0 g c =
    let found = bits-high _ c.ranges.b.fits _ _ c.bits.ensures _ c.if-bits-ne0.false c.bits-else-bits-ne0.ensures in
    ap (λ (x : ℕ). not (eqb x 0)) found
    ∙ elim c.if-this-le-NONE.branch [
      | then-this-le-NONE w ↦ told-bit _ _ _ w.if-this-le-NONE.true w.mask-is
      | else-this-le-NONE w ↦ told-none _ _ _ w.if-this-le-NONE.false w.mask-is
    ]
