use mathlib.Core.Path.{◌≡◌}
use lib.ListN.{drop}
use lib.Seq.{slice}
use Rattle.words.specs.Tables.{long_marks, marks}
use Rattle.words.specs.Search.{first_fit}
use Rattle.words.proofs.long_mark.Given as goal

abbrev pub invariant-loop-k : goal.invariant-loop-k
invariant-loop-k l = first_fit long_marks (drop l.at l.text) ≡ first_fit (slice l.k 3 marks) (drop l.at l.text)
