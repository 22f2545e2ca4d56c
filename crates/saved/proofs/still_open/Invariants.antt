use mathlib.Core.Path.{◌≡◌}
use lib.ListN.{length}
use Rattle.saved.specs.code.Scan.{still_open}
use Rattle.saved.proofs.still_open.Given as goal

abbrev pub invariant-loop-d : goal.invariant-loop-d
invariant-loop-d l = still_open l.ends (length l.ends) l.i ≡ still_open l.ends l.d l.i
