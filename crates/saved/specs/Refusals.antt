-- The numbers of the refusals that saved trees alone can meet, by the specification, and all that opening one can meet.
use Rattle.std.specs.Prelude.{ℕ, List, [], ◌∷◌}
use Rattle.tokens.specs.Refusals.{TextTooLong, TooDeep}

-- a record that its bytes have no room for
abbrev pub RecordUnfit : ℕ
RecordUnfit = 15

-- a number that is no record's kind
abbrev pub NoRecordKind : ℕ
NoRecordKind = 16

-- a child or a span that is not allowed, or a child that is missing
abbrev pub NotAllowed : ℕ
NotAllowed = 17

abbrev pub open_refusals : List ℕ
open_refusals = TextTooLong ∷ TooDeep ∷ RecordUnfit ∷ NoRecordKind ∷ NotAllowed ∷ []
