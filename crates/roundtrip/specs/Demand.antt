-- The words of demand 3 (docs/PROMISES.md), over the definitions that the contracts of the read and the display call cite.
use Rattle.std.specs.Prelude.{◌≡◌, List, [], ◌∷◌, ◌++◌, ℕ, ◌≤◌, length, take, drop, get_or}
use Rattle.words.specs.Kinds.{EOF}
use Rattle.tokens.specs.Answers.{token}
use Rattle.tokens.specs.declared.Token.{Token as Answer}
use Rattle.records.specs.Tree.{Tree, build}
use Rattle.sources.specs.Source.{Lexeme, token_of}
use Rattle.grammar.specs.Items.{Item, item, refused, Asked}
use Rattle.grammar.specs.Raise.{of_text}
use Rattle.forms.specs.Forms.{written, form_of}
use Rattle.calls.specs.Calls.{read, read_buffer, answered, read_number, read_values, display, display_buffer, displayed, display_number, display_values}

-- an item is what is asked: an item kind, an edition, a text and a start offset; with it come the buffers lent to its read and to its display
pub record Lent : Type 0 where
  pub asks : Asked
  pub for_tree : List ℕ
  pub for_line : List ℕ

-- the answers of its read and of its display
abbrev pub read_of : Lent → Item
read_of i = read i.asks (length i.for_tree)

abbrev pub display_of : Lent → Item
display_of i = display i.asks (length i.for_line)

-- an answer that is no refusal
abbrev pub NotRefused : Item → Type 0
NotRefused (item t n) = Unit {0}
NotRefused (refused r) = ⊥

-- it is accepted where its read and its display, with the buffers lent, both are; its tree is t, and the token n follows. Its build is
-- `build t`
pub record Accepted (i : Lent) (t : Tree) (n : Lexeme) : Type 0 where
  pub is_read : read_of i ≡ item t n
  pub is_shown : NotRefused (display_of i)

-- the stored length that its read answers, and the line's length that its display answers
abbrev pub tree_length : Lent → ℕ
tree_length i = get_or (read_values (answered i.asks.text (read_of i))) 0 0

abbrev pub line_length : Lent → ℕ
line_length i = get_or (display_values (displayed (display_of i))) 0 0

-- its line is the bytes that the display writes: so many of its buffer, from the first on
abbrev pub line_of : Lent → List ℕ
line_of i = take (line_length i) (display_buffer i.asks i.for_line)

-- reading a line back means that the line alone is the text, the offset 0, and the item kind and the edition the same; two buffers are
-- lent for it
abbrev pub line_back : Lent → List ℕ → List ℕ → Lent
line_back i out line_out = record { asks = of_text (line_of i) i.asks; for_tree = out; for_line = line_out }

-- EOF at (n,n)
abbrev pub eof_at : ℕ → Answer
eof_at n = token EOF n n

-- the line of i, whose tree is t, is read back as j: accepted to its last byte, since the token that follows is EOF at (n,n), n being the
-- line's length; with the same build and the same line, the tree in its form in front of the buffer, no more room taken by the tree, and as
-- much by the line
pub record ReadBack (i : Lent) (t : Tree) (j : Lent) : Type 0 where
  pub tree : Tree
  pub next : Lexeme
  pub accepted : Accepted j tree next
  pub at_end : token_of next ≡ eof_at (length (line_of i))
  pub same_build : build tree ≡ build t
  pub tree_written : read_buffer j.asks j.for_tree ≡ written (form_of j.asks.text tree) tree ++ drop (tree_length j) j.for_tree
  pub same_line : line_of j ≡ line_of i
  pub no_longer_tree : tree_length j ≤ tree_length i
  pub same_line_length : line_length j ≡ line_length i

-- the same as the calls answer it: numbers 0, a tree's length that is at most that of i, the line's length of i, EOF at (n,n), and the line
-- in front of the buffer, whose other bytes stay
pub record AnsweredBack (i j : Lent) : Type 0 where
  pub read_number_is : read_number (answered j.asks.text (read_of j)) ≡ 0
  pub read_values_are : read_values (answered j.asks.text (read_of j)) ≡ tree_length j ∷ EOF ∷ line_length i ∷ line_length i ∷ 0 ∷ 0 ∷ []
  pub no_longer_tree : tree_length j ≤ tree_length i
  pub display_number_is : display_number (displayed (display_of j)) ≡ 0
  pub display_values_are : display_values (displayed (display_of j)) ≡ line_length i ∷ 0 ∷ 0 ∷ 0 ∷ 0 ∷ 0 ∷ []
  pub display_writes : display_buffer j.asks j.for_line ≡ line_of i ++ drop (line_length i) j.for_line
