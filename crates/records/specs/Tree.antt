-- The trees that reading gives: records with a kind, a span and children, and leaves that are spelled; and builds, which are
-- trees without their spans.
use Rattle.std.specs.Prelude.{ℕ, List}

mutual
  pub data Tree : Type 0 where
    leaf : (kind start end : ℕ) (word : List ℕ) → Tree
    node : (kind start end : ℕ) (children : Trees) → Tree

  pub data Trees : Type 0 where
    none : Trees
    more : Tree → Trees → Trees

mutual
  pub data Build : Type 0 where
    spelled : (kind : ℕ) (word : List ℕ) → Build
    made : (kind : ℕ) (children : Builds) → Build

  pub data Builds : Type 0 where
    bnone : Builds
    bmore : Build → Builds → Builds

unfoldable mutual
  pub build : Tree → Build
  build (leaf k s e w) = spelled k w
  build (node k s e ts) = made k (builds ts)

  pub builds : Trees → Builds
  builds none = bnone
  builds (more t ts) = bmore (build t) (builds ts)

-- one tree behind others; one list behind another
unfoldable pub behind : Trees → Tree → Trees
behind none u = more u none
behind (more t ts) u = more t (behind ts u)

unfoldable pub joined : Trees → Trees → Trees
joined none us = us
joined (more t ts) us = more t (joined ts us)
