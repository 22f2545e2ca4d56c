-- The length of a stored tree.
use mathlib.Core.Path.{◌≡◌, refl}
use mathlib.Core.List.{List}
use Prim.Native.Nat.{ℕ, ◌+◌}
use native.Mathlib.Omega.{arith}
use lib.ListN.{length, length-append}
use Rattle.records.specs.Tree.{Tree, leaf, node, Trees, none, more}
use Rattle.records.specs.code.Narrow.{two, span, header, stored, stored_all}

pub leaf-size : (k s e : ℕ) (w : List ℕ) → length (stored (leaf k s e w)) ≡ 8
unfolding stored header span two
leaf-size k s e w = refl

pub node-size : (k s e : ℕ) (ts : Trees) → length (stored (node k s e ts)) ≡ 8 + length (stored_all ts)
unfolding stored header span two
node-size k s e ts = omega arith

pub size_none : length (stored_all none) ≡ 0
unfolding stored_all
size_none = refl

pub size-more : (t : Tree) (ts : Trees) → length (stored_all (more t ts)) ≡ length (stored t) + length (stored_all ts)
unfolding stored_all
size-more t ts = length-append (stored t) (stored_all ts)
