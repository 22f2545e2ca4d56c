use Rattle.std.proofs.Common.{◌≡◌}
use Rattle.classes.specs.Class.{in_class}
use Rattle.classes.specs.Run.{run_end}
use Rattle.classes.proofs.run_end.Given as goal

abbrev pub invariant-loop-end : goal.invariant-loop-end
invariant-loop-end l = run_end (in_class l.k) l.text l.at ≡ run_end (in_class l.k) l.text l.end
