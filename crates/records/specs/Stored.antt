-- The head of a stored record, its numbers in so many bytes each, the low one first; and how many records a tree has.
use Rattle.std.specs.Prelude.{ℕ, zero, suc, ◌+◌, ◌/◌, ◌%◌, List, [], ◌∷◌, ◌++◌}
use Rattle.records.specs.Tree.{Tree, Build, spelled, made, Builds, bnone, bmore, build}

-- v in w bytes, the low one first
unfoldable pub little_endian : ℕ → ℕ → List ℕ
little_endian zero v = []
little_endian (suc w) v = v % 256 ∷ little_endian w (v / 256)

-- the head of a record that has `len` bytes with its children: the kind in two bytes, the other numbers in w
unfoldable pub head_of : ℕ → ℕ → ℕ → ℕ → ℕ → List ℕ
head_of w len k s e = little_endian w len ++ (little_endian 2 k ++ (little_endian w s ++ little_endian w e))

-- how many records a tree has: its build tells
unfoldable mutual
  pub counted : Build → ℕ
  counted (spelled k w) = 1
  counted (made k bs) = suc (counted_all bs)

  pub counted_all : Builds → ℕ
  counted_all bnone = 0
  counted_all (bmore b bs) = counted b + counted_all bs

unfoldable pub records : Tree → ℕ
records t = counted (build t)
