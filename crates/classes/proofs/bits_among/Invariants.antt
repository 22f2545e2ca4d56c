use Rattle.std.proofs.Common.{◌≡◌}
use Rattle.classes.specs.code.Search.{bits_in}
use Rattle.classes.proofs.bits_among.Given as goal

abbrev pub invariant-loop-i : goal.invariant-loop-i
invariant-loop-i l = bits_in l.lo l.hi l.mask l.b ≡ bits_in l.i l.hi l.mask l.b
