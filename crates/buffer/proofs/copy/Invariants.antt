use lib.Seq.{sets}
use lib.ListN.{length, drop}
use mathlib.Core.Path.{◌≡◌}
use Rattle.buffer.proofs.copy.Given as goal

abbrev pub invariant-loop-i : goal.invariant-loop-i
invariant-loop-i l = (sets l.out l.i (drop l.i l.from) ≡ sets l.initial.out 0 l.from) × (length l.out ≡ length l.initial.out)
