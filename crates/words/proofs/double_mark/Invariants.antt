use mathlib.Core.Path.{◌≡◌}
use mathlib.Core.List.{[], ◌∷◌}
use lib.Seq.{slice}
use Rattle.words.specs.Tables.{double_marks, marks}
use Rattle.words.specs.Search.{first_fit}
use Rattle.words.proofs.double_mark.Given as goal

abbrev pub invariant-loop-k : goal.invariant-loop-k
invariant-loop-k l = first_fit double_marks (l.a ∷ l.b ∷ []) ≡ first_fit (slice l.k 13 marks) (l.a ∷ l.b ∷ [])
