-- Trees with all places raised by k.
use Rattle.std.specs.Prelude.{ℕ, ◌+◌}
use Rattle.records.specs.Tree.{Tree, leaf, node, Trees, none, more}

unfoldable mutual
  pub raise_tree : ℕ → Tree → Tree
  raise_tree k (leaf c s e w) = leaf c (k + s) (k + e) w
  raise_tree k (node c s e ts) = node c (k + s) (k + e) (raise_trees k ts)

  pub raise_trees : ℕ → Trees → Trees
  raise_trees k none = none
  raise_trees k (more t ts) = more (raise_tree k t) (raise_trees k ts)
