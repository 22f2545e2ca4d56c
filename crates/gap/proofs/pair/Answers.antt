use mathlib.Core.Path.{◌≡◌, refl}
use mathlib.Core.Bool.{Bool, true, false, ◌&&◌}
use Prim.Native.Nat.{ℕ, ◌+◌, ◌*◌, ◌<◌}
use native.Mathlib.Omega.{arith}
use lib.Dec.{eqb}
use borrow.Author.Rules.{rules}
use borrow.Author.Tests.{eqb-true, eqb-false, eq-eqb, ne_eqb}
use Rattle.gap.proofs.pair.Goals as goal

-- two bytes are two others exactly where both numbers are one

both : (a b x y : ℕ) → b < 256 → y < 256 → (u v : Bool) → eqb a x ≡ u → eqb b y ≡ v → eqb (a * 256 + b) (x * 256 + y) ≡ (u && v)
both a b x y h g true true e f = eq-eqb (a * 256 + b) (x * 256 + y) (omega (arith, eqb-true a x e, eqb-true b y f))
both a b x y h g true false e f = ne_eqb (a * 256 + b) (x * 256 + y) (λ q. eqb-false b y f (omega (arith, eqb-true a x e, q)))
both a b x y h g false v e f = ne_eqb (a * 256 + b) (x * 256 + y) (λ q. eqb-false a x e (omega (arith, h, g, q)))

pub returns : goal.returns
returns c =
    let given = c.args in
    rw (c.two_bytes.ensures, c.two_bytes-2.ensures)
    (both given.a given.b given.x given.y (search rules) (search rules) _ _ refl refl)
