use mathlib.Core.Path.{ap}
use Rattle.tokens.specs.Calls.{refused_call}
use Rattle.tokens.proofs.refused_answer.Goals as goal

pub returns : goal.returns
returns c = ap refused_call c.refuse.ensures
