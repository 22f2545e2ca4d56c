use mathlib.Core.Path.{◌∙◌, ap}
use Rattle.std.specs.Prelude.{Ok}
use Rattle.starts.proofs.Beginnings.{begins-zero, begins-refused, begins-found}
use Rattle.starts.proofs.beginning_at.Goals as goal

pub returns-then-offset-eq0 : goal.returns-then-offset-eq0
returns-then-offset-eq0 c = begins-zero _ _ _ c.if-offset-eq0.true

pub returns-in-Err : goal.returns-in-Err
returns-in-Err c =
    c.by_refusal.ensures ∙ begins-refused _ _ _ c.if-offset-eq0.false _ c.step_to-s.ensures _ c.in-Err.is _ c.parts_end.ensures

pub returns-in-Ok : goal.returns-in-Ok
returns-in-Ok c = ap Ok c.is_bound.ensures ∙ begins-found _ _ _ c.if-offset-eq0.false _ c.step_to-s.ensures _ c.in-Ok.is
