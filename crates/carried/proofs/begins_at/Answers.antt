use mathlib.Core.Path.{sym, ap}
use Rattle.carried.specs.code.Passes.{begins_at}
use borrow.Author.Rules.{rules}
use Rattle.carried.proofs.begins_at.Goals as goal
use Rattle.tokens.specs.declared.Token.{Token}
use Rattle.tokens.specs.declared.Refusal.{Refusal}
use Rattle.std.specs.Prelude.{Result}

pub returns-in-Ok : goal.returns-in-Ok
unfolding begins_at
returns-in-Ok c = sym (ap (λ (l : Result Token Refusal). begins_at l c.args.x) c.in-Ok.is)

pub returns-in-Err : goal.returns-in-Err
unfolding begins_at
returns-in-Err c = search rules
