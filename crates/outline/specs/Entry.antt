-- An entry of the outline, and its record: length, keyword, the name's span and the comment's.
use Rattle.std.specs.Prelude.{ℕ, ◌+◌, ◌*◌, ◌/◌, cond, List, [], ◌∷◌, ◌++◌, ltb, length}
use Rattle.tokens.specs.declared.Place.{Place}
use Rattle.records.specs.Stored.{little_endian, head_of}

-- the keyword's token kind, the name's span, and the span of its doc comment, (0,0) where there is none
pub record Entry : Type 0 where
  pub keyword : ℕ
  pub name : Place
  pub comment : Place

abbrev pub entry : (keyword : ℕ) (name comment : Place) → Entry
entry k n c = record { keyword = k; name = n; comment = c }

-- the whole text tells the layout: where it has more bytes than this, each number of a record but the keyword has four bytes, else two
abbrev pub narrow_text : ℕ
narrow_text = 65535

unfoldable pub width_in : List ℕ → ℕ
width_in text = cond (ltb narrow_text (length text)) 4 2

-- the bytes of a record whose numbers have w each: 12 or 22
abbrev pub size_of : ℕ → ℕ
size_of w = 2 + 5 * w

unfoldable pub entry_bytes : ℕ → Entry → List ℕ
entry_bytes w e = head_of w (size_of w) e.keyword e.name.start e.name.end ++ (little_endian w e.comment.start ++ little_endian w e.comment.end)

unfoldable pub all_bytes : ℕ → List Entry → List ℕ
all_bytes w [] = []
all_bytes w (e ∷ es) = entry_bytes w e ++ all_bytes w es

-- the records of a text's entries, one behind the other
unfoldable pub records_of : List ℕ → List Entry → List ℕ
records_of text es = all_bytes (width_in text) es

-- how many records so much room has
unfoldable pub fitting : List ℕ → ℕ → ℕ
fitting text room = room / size_of (width_in text)
