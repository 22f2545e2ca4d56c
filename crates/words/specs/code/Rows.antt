-- What the searches of the code compare and answer.
use Rattle.std.specs.Prelude.{ℕ, suc, ◌+◌, ◌-◌, ◌*◌, cond, ◌&&◌, List, [], ◌∷◌, ◌++◌, map, eqb, length, get_or, take, drop, replicate}
use Rattle.classes.specs.Bytes.{bytes, begins}
use Rattle.words.specs.Kinds.{Identifier}
use Rattle.words.specs.Tables.{Entry, keywords}
use Rattle.words.specs.Search.{no_fit}
use Rattle.words.specs.declared.Fit.{Fit}

-- bytes as one number, the first byte the lowest
unfoldable pub number : List ℕ → ℕ
number [] = 0
number (b ∷ w) = b + 256 * number w

-- how many bytes of a row stand before its first zero
unfoldable pub row_len : List ℕ → ℕ
row_len [] = 0
row_len (b ∷ row) = cond (eqb b 0) 0 (suc (row_len row))

-- a word, filled up with zeros to n bytes
unfoldable pub filled : ℕ → List ℕ → List ℕ
filled n w = w ++ replicate (n - length w) 0

-- the rows of the code's table of keywords, and their kinds
unfoldable pub keyword_rows : List (List ℕ)
keyword_rows = map (λ (e : Entry). filled 9 e.word) keywords

unfoldable pub keyword_kinds : List ℕ
keyword_kinds = map (λ (e : Entry). e.kind) keywords

-- the kind of the entry of n bytes whose first byte is a and whose others are the number v, or an identifier
unfoldable pub packed_kind : List Entry → ℕ → ℕ → ℕ → ℕ
packed_kind [] a v n = Identifier
packed_kind (e ∷ es) a v n =
    cond (eqb (get_or e.word 0 0) a && (eqb (number (drop 1 e.word)) v && eqb (length e.word) n))
    e.kind (packed_kind es a v n)

-- v where a is b, else 0
unfoldable pub value_if : ℕ → ℕ → ℕ → ℕ
value_if a b v = cond (eqb a b) v 0

-- the mark of a row of the code, five bytes, the length and the kind, where s begins with it
unfoldable pub row_fit : List ℕ → List ℕ → Fit
row_fit row s = cond (begins (take (get_or row 5 0) row) s) (record { len = get_or row 5 0; kind = get_or row 6 0 }) no_fit

-- the types behind a number that edition 2 adds
unfoldable pub added_suffixes : List (List ℕ)
added_suffixes = bytes "u16" ∷ bytes "u32" ∷ bytes "u256" ∷ []
