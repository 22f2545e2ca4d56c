-- How many records a tree has that is made of others.
use mathlib.Core.Path.{◌≡◌, refl, ap, ◌∙◌}
use mathlib.Core.List.{List, []}
use Prim.Native.Nat.{ℕ, suc, ◌+◌, ◌≤◌}
use native.Mathlib.Omega.{arith}
use Rattle.records.specs.Kinds.{RecUnit, RecTuple, RecBrackets}
use Rattle.records.specs.Tree.{Tree, leaf, node, Trees, none, more, behind, joined, build, builds}
use Rattle.records.specs.Stored.{counted, counted_all, records}
use Rattle.sources.specs.Source.{Source, Lexeme, start}
use Rattle.grammar.specs.Types.{bracketed}

pub node-count : (k s e : ℕ) (ts : Trees) → records (node k s e ts) ≡ suc (counted_all (builds ts))
unfolding records counted build
node-count k s e ts = refl

pub leaf-count : (k s e : ℕ) (w : List ℕ) → records (leaf k s e w) ≡ 1
unfolding records counted build
leaf-count k s e w = refl

pub none-count : counted_all (builds none) ≡ 0
unfolding counted_all builds
none-count = refl

pub more-count : (t : Tree) (ts : Trees) → counted_all (builds (more t ts)) ≡ records t + counted_all (builds ts)
unfolding records counted_all builds
more-count t ts = refl

pub behind-count : (ts : Trees) (u : Tree) → counted_all (builds (behind ts u)) ≡ counted_all (builds ts) + records u
unfolding behind
behind-count none u = more-count u none ∙ omega (arith, none-count)
behind-count (more t ts) u = more-count t (behind ts u) ∙ omega (arith, behind-count ts u, more-count t ts)

pub behind-leaf : (ts : Trees) (k s e : ℕ) (w : List ℕ) → counted_all (builds (behind ts (leaf k s e w))) ≡ counted_all (builds ts) + 1
behind-leaf ts k s e w = behind-count ts (leaf k s e w) ∙ ap (◌+◌ (counted_all (builds ts))) (leaf-count k s e w)

pub joined-count : (ts us : Trees) → counted_all (builds (joined ts us)) ≡ counted_all (builds ts) + counted_all (builds us)
unfolding joined
joined-count none us = omega (arith, none-count)
joined-count (more t ts) us = more-count t (joined ts us) ∙ omega (arith, joined-count ts us, more-count t ts)

pub bracketed-count : (a : Lexeme) (v : Source) (ts : Trees) → records (bracketed a v ts) ≤ suc (counted_all (builds ts))
unfolding bracketed
bracketed-count a v none = omega (arith, leaf-count RecUnit (start a) v.at [], none-count)
bracketed-count a v (more x none) = omega (arith, node-count RecBrackets (start a) v.at (more x none))
bracketed-count a v (more x (more y ts)) = omega (arith, node-count RecTuple (start a) v.at (more x (more y ts)))
