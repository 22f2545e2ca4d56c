-- What a search through a part of the table gives.
use Rattle.std.specs.Prelude.{ℕ, Bool, ◌&&◌, cond, leb, ltb, bit_and}
use Rattle.classes.specs.Table.{entry_of}

-- b is one of the numbers from lo up to hi
unfoldable pub among : ℕ → ℕ → ℕ → Bool
among lo hi b = leb lo b && ltb b hi

-- the entry of b, its bits that m has, where b is one of the entries from lo up to hi, else 0
unfoldable pub bits_in : ℕ → ℕ → ℕ → ℕ → ℕ
bits_in lo hi m b = cond (among lo hi b) (bit_and (entry_of b) m) 0

-- the property of the class that has the number k; any other number has that of no byte
unfoldable pub known : ℕ → ℕ
known k = cond (leb k 7) k 13
