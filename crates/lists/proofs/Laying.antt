-- Lists of trees with one tree more, and how they are laid down.
use mathlib.Core.Path.{◌≡◌, refl, ap, sym, ◌∙◌}
use mathlib.Core.Bool.{cond}
use mathlib.Core.List.{List, [], ◌++◌, append-nil, append_assoc}
use Prim.Native.Nat.{ℕ}
use lib.Dec.{eqb}
use Rattle.classes.specs.Bytes.{bytes}
use Rattle.records.specs.Tree.{Tree, Trees, none, more, behind, joined}
use Rattle.forms.specs.Forms.{laid}
use Rattle.forms.specs.code.Constructs.{mark_in, listed_rest, laid_items, in_bars}
use Rattle.lists.specs.code.Lists.{count_of, one_more}

pub joined-behind : (ts us : Trees) (t : Tree) → joined (behind ts t) us ≡ joined ts (more t us)
unfolding joined behind
joined-behind none us t = refl
joined-behind (more u ts) us t = ap (more u) (joined-behind ts us t)

pub joined-none : (ts : Trees) → joined ts none ≡ ts
unfolding joined
joined-none none = refl
joined-none (more t ts) = ap (more t) (joined-none ts)

pub joined-one : (ts : Trees) (t : Tree) → joined ts (more t none) ≡ behind ts t
unfolding joined behind
joined-one none t = refl
joined-one (more u ts) t = ap (more u) (joined-one ts t)

rest-behind : (f : ℕ) (ts : Trees) (t : Tree) → listed_rest f (behind ts t) ≡ listed_rest f ts ++ (mark_in f (bytes ", ") ++ laid f t)
unfolding listed_rest behind
rest-behind f none t = ap (λ (x : List ℕ). mark_in f (bytes ", ") ++ x) (append-nil (laid f t))
rest-behind f (more u ts) t = rw (rest-behind f ts t) (simp append_assoc)

-- one item more, behind what parts it from the one before it
pub listed-behind : (f : ℕ) (ts : Trees) (t : Tree) → laid_items f (behind ts t) ≡ laid_items f ts ++ (cond (eqb (count_of ts) 0) [] (mark_in f (bytes ", ")) ++ laid f t)
unfolding laid_items listed_rest behind count_of
listed-behind f none t = append-nil (laid f t)
listed-behind f (more u none) t = ap (λ (x : List ℕ). laid f u ++ x) (rest-behind f none t) ∙ sym (append_assoc (laid f u) [] (mark_in f (bytes ", ") ++ laid f t))
listed-behind f (more u (more v ts)) t = ap (λ (x : List ℕ). laid f u ++ x) (rest-behind f (more v ts) t) ∙ sym (append_assoc (laid f u) (listed_rest f (more v ts)) (mark_in f (bytes ", ") ++ laid f t))

pub count-behind : (ts : Trees) (t : Tree) → count_of (behind ts t) ≡ one_more (count_of ts)
unfolding count_of behind
count-behind none t = refl
count-behind (more u none) t = refl
count-behind (more u (more v ts)) t = refl

-- a list in bars, by how many items it has
pub bars-laid : (f : ℕ) (ts : Trees) (n : ℕ) → n ≡ count_of ts → mark_in f (bytes "|") ++ (laid_items f ts ++ mark_in f (cond (eqb n 0) (bytes " |") (bytes "|"))) ≡ in_bars f ts
unfolding in_bars laid_items count_of
bars-laid f none n e = rw e
bars-laid f (more u none) n e = rw e
bars-laid f (more u (more v ts)) n e = rw e
