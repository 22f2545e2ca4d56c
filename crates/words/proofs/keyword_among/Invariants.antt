use mathlib.Core.Path.{◌≡◌}
use lib.Seq.{slice}
use Rattle.words.specs.Tables.{keywords}
use Rattle.words.specs.code.Rows.{packed_kind}
use Rattle.words.proofs.keyword_among.Given as goal

abbrev pub invariant-loop-k : goal.invariant-loop-k
invariant-loop-k l = packed_kind (slice l.lo l.hi keywords) l.a l.v l.n ≡ packed_kind (slice l.k l.hi keywords) l.a l.v l.n
