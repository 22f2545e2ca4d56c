-- What the private functions of the lexer answer: what stands at the front of the bytes, at its place in the text.
use Rattle.std.specs.Prelude.{ℕ, ◌+◌, Bool, false, cond, ◌&&◌, not, List, eqb, ltb, length, drop, Result, Ok, Err}
use Rattle.classes.specs.Class.{in_class}
use Rattle.words.specs.Kinds.{NumValue, NumTypedValue}
use Rattle.tokens.specs.Answers.{place, refusal, token}
use Rattle.words.specs.Search.{is_edition2}
use Rattle.tokens.specs.Refusals.{TextTooLong, StartPastEnd, NoSuchEdition}
use Rattle.tokens.specs.Token.{Front, sized, fault, digits_len}
use Rattle.tokens.specs.Calls.{text_limit}
use Rattle.tokens.specs.declared.Advanced.{Advanced}
use Rattle.tokens.specs.declared.Documented.{Documented}
use Rattle.tokens.specs.declared.Place.{Place}
use Rattle.tokens.specs.declared.Token.{Token}
use Rattle.tokens.specs.declared.Refusal.{Refusal}

-- the numbers of the classes that decimal digits and hex digits go on with
unfoldable pub digits_class : ℕ → ℕ
digits_class ed = cond (is_edition2 ed) 6 1

unfoldable pub hex_class : ℕ → ℕ
hex_class ed = cond (is_edition2 ed) 7 2

-- what digits of the class k begin with: every byte of it but `_`
unfoldable pub begun : ℕ → ℕ → Bool
begun k x = in_class k x && not (eqb x 95)

-- where the digits of a text from `at` on end
unfoldable pub digits_end : (ℕ → Bool) → (ℕ → Bool) → List ℕ → ℕ → ℕ
digits_end f g text at = at + digits_len f g (drop at text)

-- what is found at a place
unfoldable pub lexed_at : ℕ → Front → Result Token Refusal
lexed_at p (sized k n) = Ok (token k p (p + n))
lexed_at p (fault m i j) = Err (refusal m (p + i) (p + j))

-- the number at p whose digits end at e, with a type of v bytes
unfoldable pub typed_at : ℕ → ℕ → ℕ → Result Token Refusal
typed_at p e v = Ok (token (cond (eqb v 0) NumValue NumTypedValue) p (e + v))

-- what is found, and whether LF stands before it
unfoldable pub flagged : Result Token Refusal → Bool → Advanced
flagged (Ok t) f = record { lexed = Ok t; feed = f }
flagged (Err r) f = record { lexed = Err r; feed = false }

-- what is found, and the last doc comment before it
unfoldable pub with_doc : Result Token Refusal → Place → Documented
with_doc (Ok t) p = record { lexed = Ok t; doc = p }
with_doc (Err r) p = record { lexed = Err r; doc = place 0 0 }

-- the refusal of a call whose edition is none
unfoldable pub edition_refusal : List ℕ → ℕ → ℕ
edition_refusal text at = cond (ltb text_limit (length text)) TextTooLong (cond (ltb (length text) at) StartPastEnd NoSuchEdition)
