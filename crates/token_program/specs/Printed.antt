-- What the token program prints: a line for each token, EOF last, or a refusal's line behind the tokens before it; of an input that is
-- too long, that refusal alone.
use Rattle.std.specs.Prelude.{ℕ, ◌+◌, ◌/◌, ◌%◌, cond, List, [], ◌∷◌, ◌++◌, leb, ltb, length}
use Rattle.classes.specs.Bytes.{bytes}
use Rattle.tokens.specs.Refusals.{TextTooLong}
use Rattle.tokens.specs.Answers.{refusal}
use Rattle.tokens.specs.Walk.{Listed, eof, refused, next, tokens_of}
use Rattle.tokens.specs.declared.Refusal.{Refusal}
use Rattle.tokens.specs.declared.Token.{Token}

-- the digit of n that counts u's, where n reaches it
unfoldable pub digit : ℕ → ℕ → List ℕ
digit u n = cond (leb u n) ((48 + n / u % 10) ∷ []) []

-- a number below 100,000 in decimal
unfoldable pub in_decimal : ℕ → List ℕ
in_decimal n = digit 10000 n ++ (digit 1000 n ++ (digit 100 n ++ (digit 10 n ++ ((48 + n % 10) ∷ []))))

-- three numbers with single blanks, and LF
unfoldable pub three_line : ℕ → ℕ → ℕ → List ℕ
three_line a b c = in_decimal a ++ ((32 ∷ []) ++ (in_decimal b ++ ((32 ∷ []) ++ (in_decimal c ++ (10 ∷ [])))))

unfoldable pub token_line : Token → List ℕ
token_line t = three_line t.kind t.start t.end

-- `refused`, the number, and the place
unfoldable pub refused_line : Refusal → List ℕ
refused_line r = bytes "refused " ++ three_line r.number r.place.start r.place.end

unfoldable pub printed : Listed → List ℕ
printed (eof t) = token_line t
printed (refused r) = refused_line r
printed (next t l) = token_line t ++ printed l

-- the longest input, which is shorter than the longest text
abbrev pub input_limit : ℕ
input_limit = 65535

unfoldable pub output : List ℕ → List ℕ
output text = cond (ltb input_limit (length text)) (refused_line (refusal TextTooLong 0 0)) (printed (tokens_of text))
