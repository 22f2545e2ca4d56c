use mathlib.Core.Path.{◌∙◌, sym, ap}
use Rattle.tokens.proofs.Faults.{too_long, past_end, placed}
use Rattle.tokens.proofs.place_fault.Goals as goal
use Rattle.std.specs.Prelude.{Err}

pub returns-then-text-gt-TEXT_LIMIT : goal.returns-then-text-gt-TEXT_LIMIT
returns-then-text-gt-TEXT_LIMIT c = ap Err c.refuse.ensures ∙ too_long _ _ c.if-text-gt-TEXT_LIMIT.true

pub returns-then-text-at : goal.returns-then-text-at
returns-then-text-at c = ap Err c.refuse-then-text-at.ensures ∙ past_end _ _ c.if-text-gt-TEXT_LIMIT.false c.if-text-at.true

pub returns : goal.returns
returns c = sym (placed _ _ c.if-text-gt-TEXT_LIMIT.false c.if-text-at.false)
