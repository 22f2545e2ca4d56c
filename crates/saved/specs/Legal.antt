-- Legal trees: what a saved tree is; and its words, which are not saved, put back from the text.
use Rattle.std.specs.Prelude.{ℕ, suc, ◌-◌, ◌≤◌, ◌≡◌, Bool, true, false, cond, ◌||◌, List, [], eqb, length, take, drop}
use Rattle.records.specs.Kinds.{RecUnit, RecField}
use Rattle.records.specs.Tree.{Tree, leaf, node, Trees, none, more}
use Rattle.records.specs.Spans.{start_of, end_of}
use Rattle.saved.specs.Children.{is_kind, may, least, deepens, is_leaf}
use Rattle.saved.specs.Open.{levels}
use Rattle.saved.specs.Child.{kind_of}

-- a record at a level is of a listed kind, its span does not end before it starts, and its level is none past the last; each child is
-- allowed at its index, with its span inside the parent's, and none is missing
unfoldable mutual
  pub LegalAt : (level : ℕ) → Tree → Type 0
  LegalAt n (leaf k s e w) = (is_kind k ≡ true) × (s ≤ e) × (n ≤ levels) × (least k ≤ 0)
  LegalAt n (node k s e ts) = (is_kind k ≡ true) × (s ≤ e) × (n ≤ levels) × LegalChildren n k s e 0 false ts

  pub LegalChildren : (level kind start end index : ℕ) (field : Bool) → Trees → Type 0
  LegalChildren n k s e i field none = least k ≤ i
  LegalChildren n k s e i field (more t ts) =
      (may k i field (kind_of t) ≡ true) × (s ≤ start_of t) × (end_of t ≤ e) × LegalAt (cond (deepens k (kind_of t)) (suc n) n) t
      × LegalChildren n k s e (suc i) (field || eqb (kind_of t) RecField) ts

-- the outermost record is level 1 and lies in the text
unfoldable pub Legal : (text : List ℕ) → Tree → Type 0
Legal text t = (end_of t ≤ length text) × LegalAt 1 t

-- a leaf's word is the bytes of its span, the unit's none
unfoldable pub word_in : (text : List ℕ) → (kind start end : ℕ) → List ℕ
word_in text k s e = cond (eqb k RecUnit) [] (take (e - s) (drop s text))

unfoldable mutual
  pub reworded : (text : List ℕ) → Tree → Tree
  reworded text (leaf k s e w) = leaf k s e w
  reworded text (node k s e ts) = cond (is_leaf k) (leaf k s e (word_in text k s e)) (node k s e (reworded_all text ts))

  pub reworded_all : (text : List ℕ) → Trees → Trees
  reworded_all text none = none
  reworded_all text (more t ts) = more (reworded text t) (reworded_all text ts)
