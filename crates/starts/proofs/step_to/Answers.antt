use mathlib.Core.Path.{◌∙◌, sym, ap}
use Rattle.starts.specs.code.Step.{step}
use native.Mathlib.Omega.{arith}
use Rattle.starts.proofs.Steps.{step-refused, step-eof, step-behind, step-on}
use borrow.Author.Rules.{rules}
use Rattle.starts.proofs.step_to.Goals as goal
use Rattle.starts.proofs.step_to.Goals.{then-limit-t-via-then-limit-t, then-limit-t-via-else-limit-t+then-t-eq-EOF}

pub returns-in_default : goal.returns-in_default
returns-in_default c =
    ap (step _) c.in_default.is ∙ step-refused _ _ _ _ _ (sym c.next_token-met.ensures ∙ c.in_default.is) ∙ sym c.loop-t.invariant

pub returns-then-limit-t : goal.returns-then-limit-t
returns-then-limit-t c = elim c.then-limit-t.branch [
  | then-limit-t-via-then-limit-t w ↦ step-behind _ _ _ _ _ (sym c.next_token-met.ensures ∙ c.in-Ok.is) w.if-limit-t.true ∙ sym c.loop-t.invariant
  | then-limit-t-via-else-limit-t+then-t-eq-EOF w ↦ step-eof _ _ _ _ _ (sym c.next_token-met.ensures ∙ c.in-Ok.is) w.if-t-eq-EOF.true ∙ sym c.loop-t.invariant
]

pub loop-t-smaller : goal.loop-t-smaller
loop-t-smaller c =
    let r = step-on _ _ _ c.args.limit _ (sym c.next_token-met.ensures ∙ c.in-Ok.is) c.if-t-eq-EOF.false (search rules) in
    omega arith

pub loop-t-preserved : goal.loop-t-preserved
loop-t-preserved c =
    c.loop-t.invariant ∙ (step-on _ _ _ _ _ (sym c.next_token-met.ensures ∙ c.in-Ok.is) c.if-t-eq-EOF.false (search rules)).0
