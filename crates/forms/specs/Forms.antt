-- How a tree is laid down, by its form: as records, narrow or wide, each a head and its children; or as the display line. A form decides
-- what stands in front of the tree, the head in front of a record, the marks in front of children, between and behind them, and a leaf.
use Rattle.std.specs.Prelude.{ℕ, ◌+◌, ◌*◌, Bool, cond, ◌||◌, List, [], ◌∷◌, ◌++◌, eqb, ltb, length}
use Rattle.records.specs.Tree.{Tree, leaf, node, Trees, none, more}
use Rattle.records.specs.Stored.{head_of, records}
use Rattle.forms.specs.Line.{shown}

-- the forms, by number: any number but the narrow form's and the line's is the wide one
abbrev pub FormNarrow : ℕ
FormNarrow = 0

abbrev pub FormLine : ℕ
FormLine = 1

abbrev pub FormWide : ℕ
FormWide = 2

abbrev pub is_line : ℕ → Bool
is_line f = eqb f FormLine

abbrev pub is_narrow : ℕ → Bool
is_narrow f = eqb f FormNarrow

-- what the two stored forms are: what stands in front of the tree; the bytes of a record's head; and how many of them its length, its
-- start and its end have each. Its kind has two in both
unfoldable pub front : ℕ → List ℕ
front f = cond (is_line f) [] (cond (is_narrow f) [] (4 ∷ 0 ∷ 99 ∷ 0 ∷ []))

unfoldable pub head_size : ℕ → ℕ
head_size f = cond (is_line f) 0 (cond (is_narrow f) 8 14)

unfoldable pub width : ℕ → ℕ
width f = cond (is_narrow f) 2 4

-- the head of a record of kind k from s to e over n bytes
unfoldable pub head : ℕ → ℕ → ℕ → ℕ → ℕ → List ℕ
head f n k s e = cond (is_line f) [] (head_of (width f) (n + head_size f) k s e)

-- a tree as records
unfoldable mutual
  pub recorded : ℕ → Tree → List ℕ
  recorded f (leaf k s e w) = head f 0 k s e
  recorded f (node k s e ts) = head f (length (recorded_all f ts)) k s e ++ recorded_all f ts

  pub recorded_all : ℕ → Trees → List ℕ
  recorded_all f none = []
  recorded_all f (more t ts) = recorded f t ++ recorded_all f ts

unfoldable pub laid : ℕ → Tree → List ℕ
laid f t = cond (is_line f) (shown t) (recorded f t)

-- all that is written of a tree
unfoldable pub written : ℕ → Tree → List ℕ
written f t = front f ++ laid f t

-- the form in which a tree is stored that was read from a text: the narrow one, unless the text or the tree's narrow form has more bytes
-- than two bytes count. The whole text counts, wherever in it the tree was read
abbrev pub narrow_limit : ℕ
narrow_limit = 65535

unfoldable pub form_of : List ℕ → Tree → ℕ
form_of text t = cond (ltb narrow_limit (length text) || ltb narrow_limit (8 * records t)) FormWide FormNarrow
