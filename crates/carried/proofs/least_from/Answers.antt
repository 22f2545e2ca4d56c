use mathlib.Core.Path.{subst, sym}
use Prim.Native.Nat.{ℕ, ◌<◌}
use lib.ListN.{length}
use lib.Dec.{ltb}
use Rattle.std.specs.Prelude.{Option, unwrap_or, IfSome}
use Rattle.std.specs.Bool.{then_some}
use native.Mathlib.Omega.{arith}
use Rattle.carried.specs.code.Passes.{LeastOf}
use Rattle.carried.proofs.Passes.{least-none, least_step, least-answer}
use Rattle.carried.proofs.least_from.Goals as goal

pub loop-i-init : goal.loop-i-init
loop-i-init c = least-none _ _

pub loop-i-preserved : goal.loop-i-preserved
loop-i-preserved c = least_step _ _ _ _ c.loop-i.invariant c.loop-i-test.true _ c.lesser_index-k.ensures

kept : (c : goal.After-then_some) → (LeastOf c.args.p c.args.notes.now (length c.args.notes.now) (unwrap_or (then_some (ltb c.loop-i.k (length c.args.notes.now)) c.loop-i.k) (length c.args.notes.now)))
    × IfSome (then_some (ltb c.loop-i.k (length c.args.notes.now)) c.loop-i.k) (λ k. k < length c.args.notes.now)
kept c =
    let n = c.args.notes.now in
    least-answer c.args.p n c.loop-i.k (subst (λ (i : ℕ). LeastOf c.args.p n i c.loop-i.k) (omega (arith, c.loop-i.auto.i-end, c.loop-i-test.false)) c.loop-i.invariant)

pub returns-clause-least : goal.returns-clause-least
returns-clause-least c = subst (λ (r : Option ℕ). LeastOf c.args.p c.args.notes.now (length c.args.notes.now) (unwrap_or r (length c.args.notes.now))) (sym c.then_some.ensures) (kept c).0

pub returns-clause-inside : goal.returns-clause-inside
returns-clause-inside c = subst (λ (r : Option ℕ). IfSome r (λ k. k < length c.args.notes.now)) (sym c.then_some.ensures) (kept c).1
