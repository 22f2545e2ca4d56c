-- The Rust's tree of a tree: there brackets round one type are no record of their own.
use Rattle.std.specs.Prelude.{ℕ, cond, eqb}
use Rattle.records.specs.Kinds.{RecBrackets}
use Rattle.records.specs.Tree.{Tree, leaf, node, Trees, none, more}

-- the same tree with another span
unfoldable pub respan : ℕ → ℕ → Tree → Tree
respan s e (leaf k s₀ e₀ w) = leaf k s e w
respan s e (node k s₀ e₀ ts) = node k s e ts

-- the one record inside brackets from s to e takes their place and their span
unfoldable pub in_place : ℕ → ℕ → Trees → Tree
in_place s e none = node RecBrackets s e none
in_place s e (more t none) = respan s e t
in_place s e (more t (more u ts)) = node RecBrackets s e (more t (more u ts))

-- all through the tree
unfoldable mutual
  pub unbracketed : Tree → Tree
  unbracketed (leaf k s e w) = leaf k s e w
  unbracketed (node k s e ts) = cond (eqb k RecBrackets) (in_place s e (unbracketed_all ts)) (node k s e (unbracketed_all ts))

  pub unbracketed_all : Trees → Trees
  unbracketed_all none = none
  unbracketed_all (more t ts) = more (unbracketed t) (unbracketed_all ts)
