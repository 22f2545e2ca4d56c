-- The bytes that no line holds: of a string, those under 32, and 127.
use Rattle.std.specs.Prelude.{ℕ, suc, Bool, cond, ◌||◌, List, [], ◌∷◌, eqb, ltb}
use Rattle.records.specs.Kinds.{RecHexString, RecByteString}
use Rattle.records.specs.Tree.{Tree, leaf, node, Trees, none, more}

unfoldable pub is_unprintable : ℕ → Bool
is_unprintable x = ltb x 32 || eqb x 127

-- the leaves that are strings, by their kinds
abbrev pub is_string : ℕ → Bool
is_string k = eqb k RecHexString || eqb k RecByteString

-- the place of the first such byte; clean where there is none
pub data FirstByte : Type 0 where
  clean : FirstByte
  found_at : ℕ → FirstByte

-- the first unprintable byte of a word, whose first byte is at p
unfoldable pub unprintable_in : ℕ → List ℕ → FirstByte
unprintable_in p [] = clean
unprintable_in p (a ∷ w) = cond (is_unprintable a) (found_at p) (unprintable_in (suc p) w)

-- the first of two places, where there is one
unfoldable pub first_of : FirstByte → FirstByte → FirstByte
first_of clean q = q
first_of (found_at p) q = found_at p

-- the first unprintable byte of a tree, in the order of the text: of its strings, from the first on
unfoldable mutual
  pub unprintable : Tree → FirstByte
  unprintable (leaf k s e w) = cond (is_string k) (unprintable_in s w) clean
  unprintable (node k s e ts) = unprintable_all ts

  pub unprintable_all : Trees → FirstByte
  unprintable_all none = clean
  unprintable_all (more t ts) = first_of (unprintable t) (unprintable_all ts)
