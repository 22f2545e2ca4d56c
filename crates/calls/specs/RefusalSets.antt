-- The refusals that a read and a display can meet.
use Rattle.std.specs.Prelude.{ℕ, List, [], ◌∷◌, ◌++◌}
use Rattle.tokens.specs.Refusals.{NoRoom, NoToken, CommentNotClosed, HexStringNotClosed, ByteStringNotClosed, StringNotAscii, UnexpectedToken, CommaForItem, ListNotClosed, NoValue, TooDeep, LineUnprintable}
use Rattle.grammar.specs.RefusalSets.{fault_refusals}

-- all that a read can meet; a display meets one more
abbrev pub item_refusals : List ℕ
item_refusals =
    fault_refusals
    ++ (NoRoom ∷ NoToken ∷ CommentNotClosed ∷ HexStringNotClosed ∷ ByteStringNotClosed ∷ StringNotAscii
    ∷ UnexpectedToken ∷ CommaForItem ∷ ListNotClosed ∷ NoValue ∷ TooDeep ∷ [])

abbrev pub display_refusals : List ℕ
display_refusals = LineUnprintable ∷ item_refusals
