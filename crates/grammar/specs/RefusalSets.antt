-- The numbers that only the faults of a call have.
use Rattle.std.specs.Prelude.{ℕ, List, [], ◌∷◌}
use Rattle.tokens.specs.Refusals.{TextTooLong, StartPastEnd, NoSuchKind, NoSuchEdition, NothingStarts}

abbrev pub fault_refusals : List ℕ
fault_refusals = TextTooLong ∷ StartPastEnd ∷ NoSuchKind ∷ NoSuchEdition ∷ NothingStarts ∷ []
