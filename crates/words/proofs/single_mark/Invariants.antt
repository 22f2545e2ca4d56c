use mathlib.Core.Path.{◌≡◌}
use mathlib.Core.List.{[], ◌∷◌}
use lib.Seq.{slice}
use Rattle.words.specs.Tables.{single_marks, marks}
use Rattle.words.specs.Search.{first_fit}
use Rattle.words.proofs.single_mark.Given as goal

abbrev pub invariant-loop-k : goal.invariant-loop-k
invariant-loop-k l = first_fit single_marks (l.a ∷ []) ≡ first_fit (slice l.k 37 marks) (l.a ∷ [])
