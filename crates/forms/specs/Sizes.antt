-- Room for a tree, and that each number of a tree's records fits its bytes.
use Rattle.std.specs.Prelude.{ℕ, ◌+◌, ◌*◌, ◌^◌, ◌<◌, length}
use Rattle.records.specs.Tree.{Tree, leaf, node, Trees, none, more}
use Rattle.forms.specs.Forms.{head_size, width, recorded_all}

-- room for the tree of every item of a text of n bytes: at most three records of 14 bytes for each byte of the text, and four bytes
-- before them
abbrev pub tree_room : ℕ → ℕ
tree_room n = 4 + 42 * n

-- each number of a tree's records fits the bytes that it has in the form
unfoldable mutual
  pub Fitting : ℕ → Tree → Type 0
  Fitting f (leaf k s e w) = (k < 65536) × (s < 256 ^ width f) × (e < 256 ^ width f)
  Fitting f (node k s e ts) = (k < 65536) × (s < 256 ^ width f) × (e < 256 ^ width f) × (length (recorded_all f ts) + head_size f < 256 ^ width f) × FittingAll f ts

  pub FittingAll : ℕ → Trees → Type 0
  FittingAll f none = Unit {0}
  FittingAll f (more t ts) = Fitting f t × FittingAll f ts
