use native.Mathlib.Omega.{arith}
use Rattle.saved.proofs.Heads.{size-told, width-told}
use Rattle.saved.proofs.Saved.head_at.Goals as goal

pub head_in-requires : goal.head_in-requires
head_in-requires c = let z = size-told _ _ c.args.self.now.told in let y = c.requires in record { few = omega arith; inside = omega (arith, rw c.if-self.true at z, y) }

pub head_in-requires-else-self : goal.head_in-requires-else-self
head_in-requires-else-self c = let z = size-told _ _ c.args.self.now.told in let y = c.requires in record { few = omega arith; inside = omega (arith, rw c.if-self.false at z, y) }

pub returns-then-self : goal.returns-then-self
returns-then-self c = rw (width-told _ _ c.args.self.now.told, c.if-self.true) c.head_in.ensures

pub returns-else-self : goal.returns-else-self
returns-else-self c = rw (width-told _ _ c.args.self.now.told, c.if-self.false) c.head_in-else-self.ensures
