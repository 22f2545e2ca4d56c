-- What the tables say of a name and of the bytes at a place; and the type behind a number.
use Rattle.std.specs.Prelude.{ℕ, Bool, true, false, cond, ◌&&◌, List, [], ◌∷◌, eqb, leb, length}
use Rattle.classes.specs.Bytes.{bytes, begins}
use Rattle.words.specs.Kinds.{Identifier}
use Rattle.words.specs.Tables.{Entry, keywords, marks}
use Rattle.words.specs.declared.Fit.{Fit}

-- two spellings are the same
unfoldable pub same : List ℕ → List ℕ → Bool
same [] [] = true
same [] (b ∷ s) = false
same (a ∷ w) [] = false
same (a ∷ w) (b ∷ s) = eqb a b && same w s

-- the kind of the entry that is spelled w, or an identifier
unfoldable pub lookup : List Entry → List ℕ → ℕ
lookup [] w = Identifier
lookup (e ∷ es) w = cond (same w e.word) e.kind (lookup es w)

unfoldable pub kind_of : List ℕ → ℕ
kind_of w = lookup keywords w

-- no mark: of no bytes
abbrev pub no_fit : Fit
no_fit = record { len = 0; kind = 0 }

-- the entry, where it fits and nothing longer does
abbrev pub longer : Bool → Entry → Fit → Fit
longer false e f = f
longer true e f = cond (leb f.len (length e.word)) (record { len = length e.word; kind = e.kind }) f

-- the longest of the entries that s begins with
unfoldable pub longest : List Entry → List ℕ → Fit
longest [] s = no_fit
longest (e ∷ es) s = longer (begins e.word s) e (longest es s)

unfoldable pub mark_of : List ℕ → Fit
mark_of s = longest marks s

-- the first of the entries that s begins with
unfoldable pub first_fit : List Entry → List ℕ → Fit
first_fit [] s = no_fit
first_fit (e ∷ es) s = cond (begins e.word s) (record { len = length e.word; kind = e.kind }) (first_fit es s)

-- the length of the first of the words that s begins with, or 0
unfoldable pub front_len : List (List ℕ) → List ℕ → ℕ
front_len [] s = 0
front_len (w ∷ ws) s = cond (begins w s) (length w) (front_len ws s)

-- the edition that knows the later integers; every other number is read as edition 1
abbrev pub is_edition2 : ℕ → Bool
is_edition2 ed = eqb ed 2

-- the types behind a number in each edition
unfoldable pub suffixes1 : List (List ℕ)
suffixes1 = bytes "u8" ∷ bytes "u64" ∷ bytes "u128" ∷ []

unfoldable pub suffixes2 : List (List ℕ)
suffixes2 = bytes "u8" ∷ bytes "u16" ∷ bytes "u32" ∷ bytes "u64" ∷ bytes "u128" ∷ bytes "u256" ∷ []

unfoldable pub suffixes_of : ℕ → List (List ℕ)
suffixes_of ed = cond (is_edition2 ed) suffixes2 suffixes1

unfoldable pub suffix_len : ℕ → List ℕ → ℕ
suffix_len ed s = front_len (suffixes_of ed) s
