-- What the lexer finds, with all places raised by k.
use Rattle.std.specs.Prelude.{ℕ}
use Rattle.tokens.specs.Raise.{raise_refusal}
use Rattle.sources.specs.Source.{LexResult, tok, bad}
use Rattle.sources.specs.Raise.{raise_token}

abbrev pub raise_scanned : ℕ → LexResult → LexResult
raise_scanned k (tok t) = tok (raise_token k t)
raise_scanned k (bad r) = bad (raise_refusal k r)
