-- The closing quote of a string, from behind its opening quote: the first of the line that no backslash escapes.
use Rattle.std.specs.Prelude.{ℕ, suc, ◌+◌, Bool, true, false, ◌&&◌, ◌||◌, List, [], ◌∷◌, eqb, get_or, Result, Ok, Err}

-- the place of the closing quote, or of the end of the line
abbrev pub Quote : Type 0
Quote = Result ℕ ℕ

-- the line ends before x, behind which y stands: x is LF, or CR before LF
unfoldable pub ends_line : ℕ → ℕ → Bool
ends_line x y = eqb x 10 || (eqb x 13 && eqb y 10)

-- what a byte at i does: ends the line; is passed over behind a backslash; is a backslash; is the quote; or is any other
abbrev pub turn : Bool → Bool → Bool → Bool → ℕ → (Bool → Quote) → Quote
turn true b s q i go = Err i
turn false true s q i go = go false
turn false false true q i go = go true
turn false false false true i go = Ok i
turn false false false false i go = go false

-- the quote, or the end of the line where there is none; b: a backslash stands before the bytes, whose first is at i
unfoldable pub quote_from : Bool → ℕ → List ℕ → Quote
quote_from b i [] = Err i
quote_from b i (a ∷ s) = turn (ends_line a (get_or s 0 0)) b (eqb a 92) (eqb a 34) i (λ b. quote_from b (suc i) s)

-- the same answer with its place raised by k
abbrev pub raised : ℕ → Quote → Quote
raised k (Ok q) = Ok (k + q)
raised k (Err e) = Err (k + e)
