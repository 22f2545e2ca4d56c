use mathlib.Core.Path.{sym, ◌∙◌}
use Rattle.buffer.proofs.Sets.{sets-done}
use Rattle.buffer.proofs.copy.Goals as goal

pub returns : goal.returns
returns c = sym (sets-done c.args.from.now c.args.out.now _ _ _ c.min-i-end.ensures c.loop-i.invariant.1 c.loop-i-test.false) ∙ c.loop-i.invariant.0
