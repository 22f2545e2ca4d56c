-- Sets of refusals, and those that a token call and a comment call can meet.
use Rattle.std.specs.Prelude.{ℕ, Bool, false, ◌||◌, List, [], ◌∷◌, eqb}
use Rattle.tokens.specs.Refusals.{TextTooLong, StartPastEnd, NoToken, CommentNotClosed, HexStringNotClosed, ByteStringNotClosed, StringNotAscii, NoSuchEdition}

-- whether a number is one of a set of them
unfoldable pub among : List ℕ → ℕ → Bool
among [] n = false
among (m ∷ ms) n = eqb m n || among ms n

-- what the bytes of a text can say of their next token; with what the caller can be told, all that a token call meets
abbrev pub lex_refusals : List ℕ
lex_refusals = NoToken ∷ CommentNotClosed ∷ HexStringNotClosed ∷ ByteStringNotClosed ∷ StringNotAscii ∷ []

abbrev pub token_refusals : List ℕ
token_refusals = TextTooLong ∷ StartPastEnd ∷ NoSuchEdition ∷ lex_refusals

-- all that a comment call meets
abbrev pub comment_refusals : List ℕ
comment_refusals = TextTooLong ∷ StartPastEnd ∷ NoSuchEdition ∷ CommentNotClosed ∷ []
