-- What the constructs are made of as they are laid down in a form.
use Rattle.std.specs.Prelude.{ℕ, cond, List, [], ◌++◌, length}
use Rattle.classes.specs.Bytes.{bytes}
use Rattle.records.specs.Tree.{Trees, none, more}
use Rattle.forms.specs.Forms.{is_line, head, laid}

-- marks, and a leaf that is spelled w
unfoldable pub mark_in : ℕ → List ℕ → List ℕ
mark_in f m = cond (is_line f) m []

unfoldable pub spelt : ℕ → ℕ → ℕ → ℕ → List ℕ → List ℕ
spelt f k s e w = cond (is_line f) w (head f 0 k s e)

-- a head in front of bytes; the items of a list; and lists in marks, where `| |` round nothing keeps its marks apart and a type without
-- arguments has no `<`
unfoldable pub headed : ℕ → ℕ → ℕ → ℕ → List ℕ → List ℕ
headed f k s e body = head f (length body) k s e ++ body

unfoldable pub listed_rest : ℕ → Trees → List ℕ
listed_rest f none = []
listed_rest f (more t ts) = mark_in f (bytes ", ") ++ (laid f t ++ listed_rest f ts)

unfoldable pub laid_items : ℕ → Trees → List ℕ
laid_items f none = []
laid_items f (more t ts) = laid f t ++ listed_rest f ts

unfoldable pub in_bars : ℕ → Trees → List ℕ
in_bars f none = mark_in f (bytes "|") ++ mark_in f (bytes " |")
in_bars f (more t ts) = mark_in f (bytes "|") ++ (laid_items f (more t ts) ++ mark_in f (bytes "|"))

unfoldable pub in_angles : ℕ → Trees → List ℕ
in_angles f none = []
in_angles f (more t ts) = mark_in f (bytes "<") ++ (laid_items f (more t ts) ++ mark_in f (bytes ">"))
