-- How large a tree a type can make: how many bytes a type has, the most records that a type of so many bytes can have, a type that has
-- them, and the room for its tree.
use Rattle.std.specs.Prelude.{Bool, cond, ◌||◌, List, [], ◌++◌, ℕ, zero, suc, ◌+◌, ◌-◌, ◌*◌, ◌/◌, ◌%◌, eqb, ltb}
use Rattle.classes.specs.Bytes.{bytes}
use Rattle.records.specs.Tree.{Tree}
use Rattle.records.specs.Spans.{start_of, end_of}
use Rattle.forms.specs.Forms.{narrow_limit}

-- n, the bytes that a tree spans: from its first byte to its last. Gaps and comments inside count, what is before and behind does not
unfoldable pub bytes_of : Tree → ℕ
bytes_of t = end_of t - start_of t

-- `,a`, k times
unfoldable pub further_arguments : ℕ → List ℕ
further_arguments zero = []
further_arguments (suc k) = bytes ",a" ++ further_arguments k

-- `|`, then `&` where it is asked for, then `a`, then `,a` k times, then `|a`
unfoldable pub function_type : Bool → ℕ → List ℕ
function_type amp k = bytes "|" ++ (cond amp (bytes "&") [] ++ (bytes "a" ++ (further_arguments k ++ bytes "|a")))

-- the construction, for n from 4 on: with `&` where n is odd, and with `,a` as often as fits so that n bytes result
unfoldable pub largest : ℕ → List ℕ
largest n = function_type (eqb (n % 2) 1) ((n - 4) / 2)

-- the most records of a type of n bytes
unfoldable pub most : ℕ → ℕ
most n = cond (eqb n 3) 3 (n + 1)

-- a type of at most so many bytes has at most 65,528 bytes of narrow tree
abbrev pub narrow_bytes : ℕ
narrow_bytes = 8190

-- room for the tree of a type of n bytes in a text of `len` bytes: narrow where neither has too many bytes for that, else wide
unfoldable pub type_room : (len n : ℕ) → ℕ
type_room len n = cond (ltb narrow_limit len || ltb narrow_bytes n) (4 + 14 * (n + 1)) (8 * (n + 1))
