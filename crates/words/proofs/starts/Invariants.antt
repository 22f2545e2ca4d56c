use mathlib.Core.Path.{◌≡◌}
use lib.ListN.{take, drop}
use Rattle.classes.specs.Bytes.{begins}
use Rattle.words.proofs.Places.{from}
use Rattle.words.proofs.starts.Given as goal

abbrev pub invariant-loop-j : goal.invariant-loop-j
invariant-loop-j l = begins (take l.n l.w) (drop l.at l.text) ≡ from l.text l.at l.w l.n l.j
