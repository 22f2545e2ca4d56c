-- What the lexer finds, as the token call answers it.
use Rattle.sources.specs.Source.{LexResult, tok, bad, token_of}
use Rattle.tokens.specs.declared.Token.{Token}
use Rattle.tokens.specs.declared.Refusal.{Refusal}
use Rattle.std.specs.Prelude.{Result, Ok, Err}

unfoldable pub answer_of : LexResult → Result Token Refusal
answer_of (tok t) = Ok (token_of t)
answer_of (bad r) = Err r
