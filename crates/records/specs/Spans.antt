-- Where trees start and end, that spans are nested, and a tree as its records show it.
use Rattle.std.specs.Prelude.{ℕ, ◌≤◌}
use Rattle.records.specs.Tree.{Tree, leaf, node, Trees, none, more}

-- a tree as its records show it: without words, and a leaf is a record without children
unfoldable mutual
  pub unspelled : Tree → Tree
  unspelled (leaf k s e w) = node k s e none
  unspelled (node k s e ts) = node k s e (unspelled_all ts)

  pub unspelled_all : Trees → Trees
  unspelled_all none = none
  unspelled_all (more t ts) = more (unspelled t) (unspelled_all ts)

-- where a tree starts and ends
unfoldable pub start_of : Tree → ℕ
start_of (leaf k s e w) = s
start_of (node k s e ts) = s

unfoldable pub end_of : Tree → ℕ
end_of (leaf k s e w) = e
end_of (node k s e ts) = e

-- spans lie in their parents' spans, and siblings start in their order: from p on, up to e
unfoldable mutual
  pub Nested : Tree → Type 0
  Nested (leaf k s e w) = s ≤ e
  Nested (node k s e ts) = (s ≤ e) × Within s ts e

  pub Within : ℕ → Trees → ℕ → Type 0
  Within p none e = Unit {0}
  Within p (more t ts) e = (p ≤ start_of t) × (end_of t ≤ e) × Nested t × Within (start_of t) ts e
