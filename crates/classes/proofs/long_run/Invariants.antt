use mathlib.Core.Path.{◌≡◌}
use Prim.Native.Nat.{◌-◌}
use lib.ListN.{length}
use Rattle.classes.specs.Class.{in_class}
use Rattle.classes.specs.Run.{run_end}
use Rattle.classes.proofs.long_run.Given as goal

abbrev pub invariant-loop-i : goal.invariant-loop-i
invariant-loop-i l = run_end (in_class l.k) l.text l.at ≡ run_end (in_class l.k) l.text l.i

abbrev pub decreases-loop-i : goal.decreases-loop-i
decreases-loop-i l = length l.text - l.i
