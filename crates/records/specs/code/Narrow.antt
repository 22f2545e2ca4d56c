-- The narrow form in its own words: length, kind, start and end of each record in two bytes each, the low one first, then its children.
use Rattle.std.specs.Prelude.{ℕ, ◌+◌, ◌/◌, ◌%◌, ◌<◌, List, [], ◌∷◌, ◌++◌, length}
use Rattle.records.specs.Tree.{Tree, leaf, node, Trees, none, more}

unfoldable pub two : ℕ → List ℕ
two v = v % 256 ∷ v / 256 % 256 ∷ []

unfoldable pub span : ℕ → ℕ → List ℕ
span s e = two s ++ two e

-- the head of a record that has `len` bytes with its children
unfoldable pub header : ℕ → ℕ → ℕ → ℕ → List ℕ
header len k s e = two len ++ (two k ++ span s e)

unfoldable mutual
  pub stored : Tree → List ℕ
  stored (leaf k s e w) = header 8 k s e
  stored (node k s e ts) = header (length (stored_all ts) + 8) k s e ++ stored_all ts

  pub stored_all : Trees → List ℕ
  stored_all none = []
  stored_all (more t ts) = stored t ++ stored_all ts

-- each kind of a tree's records has two bytes
unfoldable mutual
  pub Kinds : Tree → Type 0
  Kinds (leaf k s e w) = k < 65536
  Kinds (node k s e ts) = (k < 65536) × KindsAll ts

  pub KindsAll : Trees → Type 0
  KindsAll none = Unit {0}
  KindsAll (more t ts) = Kinds t × KindsAll ts
