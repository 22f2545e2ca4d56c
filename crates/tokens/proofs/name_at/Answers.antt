use mathlib.Core.Path.{◌∙◌}
use Prim.Native.Nat.{◌+◌}
use native.Mathlib.Omega.{arith}
use Rattle.classes.specs.Class.{in_class}
use Rattle.classes.proofs.Runs.{run-from}
use Rattle.tokens.proofs.Steps.{name-run, name-at}
use Rattle.tokens.proofs.name_at.Goals as goal

pub overflow_sub-e : goal.overflow_sub-e
overflow_sub-e c = omega (arith, run-from (in_class 0) c.args.text.now (c.args.at + 1), c.run_end-e.ensures)

pub returns : goal.returns
returns c =
    name-at _ _ _ _ (c.run_end-e.ensures ∙ name-run c.args.text.now c.args.at c.requires.0 c.requires.1) c.name_kind-k.ensures
