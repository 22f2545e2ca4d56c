-- A source is where reading goes on: the edition, a place of the text and the bytes from there on. A token holds the source at its
-- first byte.
use Rattle.std.specs.Prelude.{ℕ, ◌+◌, ◌-◌, List, take, drop}
use Rattle.tokens.specs.Answers.{token}
use Rattle.tokens.specs.Token.{Scanned, tok as found, bad as faulty, scan}
use Rattle.tokens.specs.declared.Refusal.{Refusal}
use Rattle.tokens.specs.declared.Token.{Token as Answer}

pub record Source : Type 0 where
  pub edition : ℕ
  pub at : ℕ
  pub rest : List ℕ

-- the source of a text in an edition, from an offset on
abbrev pub opened : ℕ → List ℕ → ℕ → Source
opened ed text p = record { edition = ed; at = p; rest = drop p text }

-- the same source at another place: the one definition that names every field when a source is moved on
abbrev pub moved : Source → ℕ → List ℕ → Source
moved u p s = record { edition = u.edition; at = p; rest = s }

-- n bytes on
abbrev pub past : ℕ → Source → Source
past n u = moved u (u.at + n) (drop n u.rest)

pub record Lexeme : Type 0 where
  pub kind : ℕ
  pub here : Source
  pub len : ℕ

abbrev pub start : Lexeme → ℕ
start t = t.here.at

abbrev pub end : Lexeme → ℕ
end t = t.here.at + t.len

-- the bytes of a token
abbrev pub word : Lexeme → List ℕ
word t = take t.len t.here.rest

-- where reading goes on behind a token, and behind the first byte of `>>`
abbrev pub after : Lexeme → Source
after t = past t.len t.here

abbrev pub split : Lexeme → Source
split t = past 1 t.here

pub data LexResult : Type 0 where
  tok : Lexeme → LexResult
  bad : Refusal → LexResult

-- what the lexer finds in a source
unfoldable pub scanned : Source → Scanned → LexResult
scanned u (found k s e w r) = tok (record { kind = k; here = past (s - u.at) u; len = e - s })
scanned u (faulty r) = bad r

-- the next token of a source, in its edition
unfoldable pub lex : Source → LexResult
lex u = scanned u (scan u.edition u.at u.rest)

-- a token as the calls answer it: its kind and its span
abbrev pub token_of : Lexeme → Answer
token_of t = token t.kind (start t) (end t)
