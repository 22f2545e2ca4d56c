-- Spans in their parents' spans.
use Prim.Native.Nat.{ℕ, ◌≤◌}
use native.Mathlib.Omega.{arith}
use Rattle.records.specs.Tree.{Tree, leaf, node, Trees, none, more}
use Rattle.records.specs.Spans.{start_of, end_of, Nested, Within}

-- what lies between two places lies between wider ones
pub wider : (ts : Trees) (p p₂ e e₂ : ℕ) → p₂ ≤ p → e ≤ e₂ → Within p ts e → Within p₂ ts e₂
unfolding Within
wider none p p₂ e e₂ h g d = tt
wider (more t ts) p p₂ e e₂ h g d = (omega (arith, d.0), omega (arith, d.1), d.2, wider ts (start_of t) (start_of t) e e₂ (omega arith) g d.3)

pub nested-order : (t : Tree) → Nested t → start_of t ≤ end_of t
unfolding Nested start_of end_of
nested-order (leaf k s e w) n = n
nested-order (node k s e ts) n = n.0
