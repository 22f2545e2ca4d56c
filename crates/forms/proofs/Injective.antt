-- A stored form tells a tree from every other, but for its words; and what is nested and short enough fits its bytes.
use mathlib.Core.Path.{◌≡◌, refl, ap, sym, ◌∙◌}
use mathlib.Core.Bool.{Bool, true, false, cond}
use mathlib.Core.List.{List, [], ◌++◌, append-nil, append_assoc}
use Prim.Native.Nat.{ℕ, ◌+◌, ◌^◌, ◌<◌}
use native.Mathlib.Omega.{arith}
use lib.ListN.{length, length-append}
use Rattle.records.specs.Tree.{Tree, leaf, node, Trees, none, more}
use Rattle.records.specs.Spans.{start_of, end_of, Nested, Within, unspelled, unspelled_all}
use Rattle.records.specs.Stored.{head_of}
use Rattle.records.specs.code.Narrow.{Kinds, KindsAll}
use Rattle.records.proofs.Numbers.{split, number_same, head-same}
use Rattle.forms.specs.Forms.{is_line, is_narrow, front, head_size, width, head, recorded, recorded_all, laid, written}
use Rattle.forms.specs.Sizes.{Fitting, FittingAll}
use Rattle.forms.proofs.Placing.{head-long}
use Rattle.forms.proofs.Sizes.{head-is}

module _ (f : ℕ) where
  -- a tree whose spans are nested, whose end fits and whose bytes can be counted in the width
  mutual
    unfolding Fitting FittingAll Kinds KindsAll Nested Within end_of recorded recorded_all

    pub fitting-tree : (t : Tree) → Kinds t → Nested t → end_of t < 256 ^ width f → length (recorded f t) < 256 ^ width f → Fitting f t
    fitting-tree (leaf k s e w) h n i j = (h, omega (arith, n), i)
    fitting-tree (node k s e ts) h n i j =
        let z : ℕ = length (recorded_all f ts) in
        let l = length-append (head f z k s e) (recorded_all f ts) in
        let y = head-long f z k s e in
        (h.0, omega (arith, n.0), i, omega (arith, l, y, j), fitting-trees ts h.1 s e n.1 i (omega (arith, l, j)))

    fitting-trees : (ts : Trees) → KindsAll ts → (p e : ℕ) → Within p ts e → e < 256 ^ width f → length (recorded_all f ts) < 256 ^ width f → FittingAll f ts
    fitting-trees none h p e d i j = tt
    fitting-trees (more t ts) h p e d i j =
        let l = length-append (recorded f t) (recorded_all f ts) in
        (fitting-tree t h.0 d.2 (omega (arith, d.1, i)) (omega (arith, l, j)), fitting-trees ts h.1 (start_of t) e d.3 i (omega (arith, l, j)))

  module _ (h : is_line f ≡ false) where
    -- a head has bytes, and so has a record
    head-some : 0 < head_size f
    unfolding head_size
    head-some = rw h (go (is_narrow f))
      where
        go : (b : Bool) → 0 < cond b 8 14
        go true = omega arith
        go false = omega arith

    some : (t : Tree) → 0 < length (recorded f t)
    unfolding recorded
    some (leaf k s e w) = omega (arith, head-long f 0 k s e, head-some)
    some (node k s e ts) =
        let n : ℕ = length (recorded_all f ts) in
        omega (arith, head-long f n k s e, length-append (head f n k s e) (recorded_all f ts), head-some)

    none-alone : (t : Tree) (ts : Trees) → [] ≡ recorded_all f (more t ts) → ⊥
    unfolding recorded_all
    none-alone t ts p = omega (arith, ap length p, length-append (recorded f t) (recorded_all f ts), some t)

    -- no children on one side
    none-same : (us : Trees) → [] ≡ recorded_all f us → none ≡ unspelled_all us
    unfolding unspelled_all
    none-same none p = refl
    none-same (more u us) p = absurd (none-alone u us p)

    -- the bytes of a record and those behind it
    headed-rest : (n k s e : ℕ) (xs ys : List ℕ) → (head f n k s e ++ xs) ++ ys ≡ head_of (width f) (n + head_size f) k s e ++ (xs ++ ys)
    headed-rest n k s e xs ys = append_assoc (head f n k s e) xs ys ∙ ap (λ (l : List ℕ). l ++ (xs ++ ys)) (head-is f h n k s e)

    -- two records, where their children's bytes tell these apart
    node-same : (k s e : ℕ) (ts : Trees) (k₂ s₂ e₂ : ℕ) (us : Trees) (xs ys : List ℕ) → Fitting f (node k s e ts) → Fitting f (node k₂ s₂ e₂ us)
        → (recorded_all f ts ≡ recorded_all f us → unspelled_all ts ≡ unspelled_all us) → recorded f (node k s e ts) ++ xs ≡ recorded f (node k₂ s₂ e₂ us) ++ ys
        → (node k s e (unspelled_all ts) ≡ node k₂ s₂ e₂ (unspelled_all us)) × (xs ≡ ys)
    unfolding recorded Fitting
    node-same k s e ts k₂ s₂ e₂ us xs ys a b g p =
        let w : ℕ = width f in
        let n : ℕ = length (recorded_all f ts) in
        let n₂ : ℕ = length (recorded_all f us) in
        let d = head-same w (n + head_size f) k s e (n₂ + head_size f) k₂ s₂ e₂ (recorded_all f ts ++ xs) (recorded_all f us ++ ys) (sym (headed-rest n k s e (recorded_all f ts) xs) ∙ p ∙ headed-rest n₂ k₂ s₂ e₂ (recorded_all f us) ys) in
        let l : n ≡ n₂ = omega (arith, number_same w (n + head_size f) (n₂ + head_size f) a.3 b.3 d.size) in
        let c = split (recorded_all f ts) (recorded_all f us) xs ys l d.rest in (
          rw (number_same 2 k k₂ a.0 b.0 d.kind, number_same w s s₂ a.1 b.1 d.start, number_same w e e₂ a.2 b.2 d.end, g c.0) refl,
          c.1,
        )

    -- a leaf is a record without children
    as-node : (k s e : ℕ) (w xs : List ℕ) → recorded f (leaf k s e w) ++ xs ≡ recorded f (node k s e none) ++ xs
    unfolding recorded recorded_all
    as-node k s e w xs = rw (append-nil (head f 0 k s e)) refl

    alone : (k s e : ℕ) (w : List ℕ) → Fitting f (leaf k s e w) → Fitting f (node k s e none)
    unfolding Fitting recorded_all head_size width
    alone k s e w a = (a.0, a.1, a.2, go (is_line f) (is_narrow f), tt)
      where
        go : (b c : Bool) → 0 + cond b 0 (cond c 8 14) < 256 ^ cond c 2 4
        go true true = omega arith
        go true false = omega arith
        go false true = omega arith
        go false false = omega arith

    mutual
      unfolding recorded_all unspelled unspelled_all Fitting

      tree-same : (t u : Tree) (xs ys : List ℕ) → Fitting f t → Fitting f u → recorded f t ++ xs ≡ recorded f u ++ ys → (unspelled t ≡ unspelled u) × (xs ≡ ys)
      tree-same (leaf k s e w) (leaf k₂ s₂ e₂ w₂) xs ys a b p = node-same k s e none k₂ s₂ e₂ none xs ys (alone k s e w a) (alone k₂ s₂ e₂ w₂ b) (λ _. refl) (sym (as-node k s e w xs) ∙ p ∙ as-node k₂ s₂ e₂ w₂ ys)
      tree-same (leaf k s e w) (node k₂ s₂ e₂ us) xs ys a b p = node-same k s e none k₂ s₂ e₂ us xs ys (alone k s e w a) b (λ q. none-same us q) (sym (as-node k s e w xs) ∙ p)
      tree-same (node k s e ts) (leaf k₂ s₂ e₂ w₂) xs ys a b p = node-same k s e ts k₂ s₂ e₂ none xs ys a (alone k₂ s₂ e₂ w₂ b) (λ q. sym (none-same ts (sym q))) (p ∙ as-node k₂ s₂ e₂ w₂ ys)
      tree-same (node k s e ts) (node k₂ s₂ e₂ us) xs ys a b p = node-same k s e ts k₂ s₂ e₂ us xs ys a b (λ q. trees-same ts us a.4 b.4 q) p

      trees-same : (ts us : Trees) → FittingAll f ts → FittingAll f us → recorded_all f ts ≡ recorded_all f us → unspelled_all ts ≡ unspelled_all us
      trees-same none none a b p = refl
      trees-same none (more u us) a b p = absurd (none-alone u us p)
      trees-same (more t ts) none a b p = absurd (none-alone t ts (sym p))
      trees-same (more t ts) (more u us) a b p =
          let q = tree-same t u (recorded_all f ts) (recorded_all f us) a.0 b.0 p in
          rw (q.0, trees-same ts us a.1 b.1 q.1) refl

    pub written-injective : (t u : Tree) → Fitting f t → Fitting f u → written f t ≡ written f u → unspelled t ≡ unspelled u
    unfolding written laid
    written-injective t u a b p =
        let q = (split (front f) (front f) (laid f t) (laid f u) refl p).1 in
        (tree-same t u [] [] a b (rw (append-nil (recorded f t), append-nil (recorded f u)) (rw h at q))).0
