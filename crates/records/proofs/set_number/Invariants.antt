use Rattle.std.proofs.Common.{◌≡◌, ◌+◌, ◌-◌}
use Rattle.std.proofs.lemmas.List.Edits.{sets}
use Rattle.records.specs.Stored.{little_endian}
use Rattle.records.proofs.set_number.Given as goal

abbrev pub invariant-loop-i : goal.invariant-loop-i
invariant-loop-i g l = sets l.out (l.pos + l.i) (little_endian (l.i-end - l.i) l.rest) ≡ sets l.initial.out l.pos (little_endian l.i-end l.v)
