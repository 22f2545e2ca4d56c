use mathlib.Core.Path.{◌≡◌}
use Prim.Native.Nat.{◌-◌}
use lib.ListN.{length, drop}
use Rattle.gap.specs.Gap.{gap}
use Rattle.gap.specs.code.Ends.{doc_scan}
use Rattle.gap.proofs.doc_scan.Given as goal

abbrev pub invariant-loop-i : goal.invariant-loop-i
invariant-loop-i l = doc_scan 0 0 (gap 0 l.at (drop l.at l.text)) ≡ doc_scan l.from l.to (gap 0 l.i (drop l.i l.text))

abbrev pub decreases-loop-i : goal.decreases-loop-i
decreases-loop-i l = length l.text - l.i
