use mathlib.Core.Path.{refl, ◌∙◌, ap}
use native.Mathlib.Omega.{arith}
use Rattle.tokens.proofs.Steps.{no-mark, some-mark, mark-room}
use borrow.Author.Rules.{rules}
use Rattle.tokens.proofs.mark_at.Goals as goal
use Rattle.std.specs.Prelude.{Err}

pub returns-in_default : goal.returns-in_default
returns-in_default c = ap Err c.refuse.ensures ∙ no-mark _ _ _ c.in_default.ensures.fit refl

pub overflow_add-result : goal.overflow_add-result
overflow_add-result c = let r = mark-room c.args.text.now c.args.at _ c.in-Some.ensures.fit (search rules) in omega arith

pub returns : goal.returns
returns c = some-mark _ _ _ c.in-Some.ensures.fit c.in-Some.ensures.some
