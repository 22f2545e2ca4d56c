use mathlib.Core.Path.{ap}
use Rattle.tokens.specs.Calls.{advanced}
use Rattle.tokens.specs.declared.Advanced.{Advanced}
use Rattle.tokens.proofs.next_token.Goals as goal

pub returns : goal.returns
unfolding advanced
returns c = ap (λ (a : Advanced). a.lexed) c.advance.ensures
