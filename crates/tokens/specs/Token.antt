-- What the next token is.
use Rattle.std.specs.Prelude.{ℕ, suc, ◌+◌, Bool, false, cond, ◌&&◌, ◌||◌, List, [], ◌∷◌, eqb, ltb, get_or, take, drop, Ok, Err}
use Rattle.tokens.specs.Refusals.{NoToken, CommentNotClosed, HexStringNotClosed, ByteStringNotClosed, StringNotAscii}
use Rattle.classes.specs.Bytes.{bytes, begins}
use Rattle.classes.specs.Class.{is_digit, is_hex, is_letter, is_name, is_ascii, is_digit_or_underscore, is_hex_or_underscore}
use Rattle.classes.specs.Run.{run_len}
use Rattle.gap.specs.Gap.{End, clear, broken, gap}
use Rattle.words.specs.Kinds.{EOF, NumValue, NumTypedValue, ByteStringValue}
use Rattle.words.specs.Search.{kind_of, mark_of, is_edition2, suffix_len}
use Rattle.words.specs.Quote.{Quote, quote_from}
use Rattle.words.specs.declared.Fit.{Fit}
use Rattle.tokens.specs.Answers.{refusal}
use Rattle.tokens.specs.declared.Refusal.{Refusal}

-- what stands at the front of the bytes: a token's kind and length; or a refusal's number and its place, counted from there
pub data Front : Type 0 where
  sized : (kind len : ℕ) → Front
  fault : (number from to : ℕ) → Front

-- a number of n bytes with a type of v bytes behind it
unfoldable pub typed : ℕ → ℕ → Front
typed n v = sized (cond (eqb v 0) NumValue NumTypedValue) (n + v)

-- digits: a byte of the class f, and behind it those of the class g; none where the first byte is not of f
unfoldable pub digits_len : (ℕ → Bool) → (ℕ → Bool) → List ℕ → ℕ
digits_len f g [] = 0
digits_len f g (a ∷ s) = cond (f a) (suc (run_len g s)) 0

-- what decimal digits and hex digits go on with: in edition 2 with `_` too; every other number is read as edition 1
unfoldable pub more_digits : ℕ → ℕ → Bool
more_digits ed x = cond (is_edition2 ed) (is_digit_or_underscore x) (is_digit x)

unfoldable pub more_hex : ℕ → ℕ → Bool
more_hex ed x = cond (is_edition2 ed) (is_hex_or_underscore x) (is_hex x)

unfoldable pub decimal_len : ℕ → List ℕ → ℕ
decimal_len ed s = digits_len is_digit (more_digits ed) s

-- digits, and a type or none
unfoldable pub decimal : ℕ → List ℕ → Front
decimal ed s = typed (decimal_len ed s) (suffix_len ed (drop (decimal_len ed s) s))

-- `0x` and n - 2 hex digits, with a type of v bytes; with neither it is the number 0
unfoldable pub hex_typed : ℕ → ℕ → Front
hex_typed n v = cond (eqb (n + v) 2) (sized NumValue 1) (typed n v)

unfoldable pub hex_len : ℕ → List ℕ → ℕ
hex_len ed s = 2 + digits_len is_hex (more_hex ed) (drop 2 s)

unfoldable pub hex_number : ℕ → List ℕ → Front
hex_number ed s = hex_typed (hex_len ed s) (suffix_len ed (drop (hex_len ed s) s))

unfoldable pub number_token : ℕ → List ℕ → Front
number_token ed s = cond (begins (bytes "0x") s) (hex_number ed s) (decimal ed s)

-- a string by its closing quote, which is at q, or by the end of its line; m is the refusal where there is none, and h the
-- first byte of 128 or more behind the opening quote
unfoldable pub string_by : ℕ → ℕ → Quote → Front
string_by m h (Err e) = fault m 0 e
string_by m h (Ok q) = cond (ltb h q) (fault StringNotAscii h (h + 1)) (sized ByteStringValue (q + 1))

unfoldable pub string : ℕ → List ℕ → Front
string m s = string_by m (2 + run_len is_ascii (drop 2 s)) (quote_from false 2 (drop 2 s))

-- `x"` or `b"`; refusals 7 and 8
unfoldable pub opens_string : ℕ → ℕ → Bool
opens_string a b = (eqb a 120 || eqb a 98) && eqb b 34

unfoldable pub string_refusal : ℕ → ℕ
string_refusal a = cond (eqb a 120) HexStringNotClosed ByteStringNotClosed

unfoldable pub name : List ℕ → Front
name s = sized (kind_of (take (run_len is_name s) s)) (run_len is_name s)

-- what a letter begins
unfoldable pub word_token : List ℕ → Front
word_token s = cond (opens_string (get_or s 0 0) (get_or s 1 0)) (string (string_refusal (get_or s 0 0)) s) (name s)

-- the mark that fits, or refusal 5
unfoldable pub mark : Fit → Front
mark f = cond (eqb f.len 0) (fault NoToken 0 0) (sized f.kind f.len)

-- the token at the front of the bytes, in an edition
unfoldable pub find_token : ℕ → List ℕ → Front
find_token ed [] = sized EOF 0
find_token ed (a ∷ s) =
    cond (is_digit a) (number_token ed (a ∷ s))
    (cond (is_letter a) (word_token (a ∷ s)) (mark (mark_of (a ∷ s))))

-- a token with its word and the bytes behind it; or a refusal
pub data Scanned : Type 0 where
  tok : (kind start end : ℕ) (word rest : List ℕ) → Scanned
  bad : Refusal → Scanned

-- what stands at the front of the bytes s, whose first is at p
unfoldable pub placed : ℕ → List ℕ → Front → Scanned
placed p s (sized k n) = tok k p (p + n) (take n s) (drop n s)
placed p s (fault m i j) = bad (refusal m (p + i) (p + j))

-- the token behind a gap
unfoldable pub behind_gap : ℕ → End → Scanned
behind_gap ed (clear p s) = placed p s (find_token ed s)
behind_gap ed (broken o q) = bad (refusal CommentNotClosed o q)

-- the next token of the bytes s, whose first is at p, in an edition
unfoldable pub scan : ℕ → ℕ → List ℕ → Scanned
scan ed p s = behind_gap ed (gap 0 p s).last
