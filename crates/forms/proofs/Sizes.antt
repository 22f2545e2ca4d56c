-- How long a stored tree is: so many bytes for each record, whatever the tree, and those in front.
use mathlib.Core.Path.{◌≡◌, refl, ap, sym, ◌∙◌}
use mathlib.Core.Bool.{false}
use mathlib.Core.List.{List, [], ◌++◌, append-nil, append_assoc}
use Prim.Native.Nat.{ℕ, ◌+◌, ◌*◌}
use native.Mathlib.Omega.{arith}
use native.Mathlib.Nat.{mul-zero, mul-one, mul-suc, mul-add}
use lib.ListN.{length, take, length-append}
use lib.Seq.{take-append_seam}
use Rattle.records.specs.Tree.{Tree, leaf, node, Trees, none, more, build, builds}
use Rattle.records.specs.Stored.{little_endian, head_of, counted, counted_all, records}
use Rattle.records.specs.code.Narrow.{stored}
use Rattle.records.proofs.Numbers.{number-long}
use Rattle.forms.specs.Forms.{FormNarrow, FormWide, is_line, front, head_size, width, head, recorded, recorded_all, laid, written}
use Rattle.forms.proofs.Placing.{head-long}
use Rattle.forms.proofs.Constructs.{written-stored}

module _ (f : ℕ) where
  mutual
    unfolding recorded recorded_all counted counted_all build builds

    tree-size : (t : Tree) → length (recorded f t) ≡ head_size f * counted (build t)
    tree-size (leaf k s e w) = head-long f 0 k s e ∙ sym (mul-one (head_size f))
    tree-size (node k s e ts) =
        let n : ℕ = length (recorded_all f ts) in
        length-append (head f n k s e) (recorded_all f ts) ∙ omega (arith, head-long f n k s e, trees-size ts, mul-suc (head_size f) (counted_all (builds ts)))

    trees-size : (ts : Trees) → length (recorded_all f ts) ≡ head_size f * counted_all (builds ts)
    trees-size none = sym (mul-zero (head_size f))
    trees-size (more t ts) = length-append (recorded f t) (recorded_all f ts) ∙ omega (arith, tree-size t, trees-size ts, mul-add (head_size f) (counted (build t)) (counted_all (builds ts)))

  pub recorded-size : (t : Tree) → length (recorded f t) ≡ head_size f * records t
  unfolding records
  recorded-size t = tree-size t

  -- what is written of a tree: its length is told by its build and the form
  pub written-size : (t : Tree) → is_line f ≡ false → length (written f t) ≡ length (front f) + head_size f * records t
  unfolding written laid
  written-size t h = rw h (length-append (front f) (recorded f t) ∙ ap (◌+◌ (length (front f))) (recorded-size t))

  module _ (h : is_line f ≡ false) where
    pub head-is : (n k s e : ℕ) → head f n k s e ≡ head_of (width f) (n + head_size f) k s e
    unfolding head
    head-is n k s e = rw h

    first : (n k s e : ℕ) (xs : List ℕ) → take (width f) (head f n k s e ++ xs) ≡ little_endian (width f) (n + head_size f)
    unfolding head_of
    first n k s e xs =
        let w : ℕ = width f in
        let a : List ℕ = little_endian w (n + head_size f) in
        let b : List ℕ = little_endian 2 k ++ (little_endian w s ++ little_endian w e) in
        ap (λ (x : List ℕ). take w (x ++ xs)) (head-is n k s e) ∙ ap (take w) (append_assoc a b xs) ∙ rw (number-long w (n + head_size f)) at (take-append_seam a (b ++ xs))

    -- the first bytes of a record are the length of its bytes
    pub record-length : (t : Tree) → take (width f) (recorded f t) ≡ little_endian (width f) (length (recorded f t))
    unfolding recorded
    record-length (leaf k s e w) = ap (take (width f)) (sym (append-nil (head f 0 k s e))) ∙ first 0 k s e [] ∙ ap (little_endian (width f)) (omega (arith, head-long f 0 k s e))
    record-length (node k s e ts) =
        let n : ℕ = length (recorded_all f ts) in
        first n k s e (recorded_all f ts) ∙ ap (little_endian (width f)) (omega (arith, head-long f n k s e, length-append (head f n k s e) (recorded_all f ts)))

pub narrow_size : (t : Tree) → length (stored t) ≡ 8 * records t
unfolding front head_size
narrow_size t = ap length (sym (written-stored t)) ∙ written-size FormNarrow t refl ∙ omega arith

pub wide-size : (t : Tree) → length (written FormWide t) ≡ 4 + 14 * records t
unfolding front head_size
wide-size t = written-size FormWide t refl
