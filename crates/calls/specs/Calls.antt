-- The read call and the display call, for every text, offset, kind number, edition number and buffer, over the form in which the tree of
-- an item is written, which for a read the text and the tree decide. What is left of a call is its form, its room and its answer, and of a
-- display that no byte of its line is unprintable.
use Rattle.std.specs.Prelude.{ℕ, ◌+◌, min, List, [], ◌∷◌, ◌++◌, ltb, length, drop, Result, Ok, Err}
use Rattle.forms.specs.Unprintable.{FirstByte, clean, found_at, unprintable}
use Rattle.tokens.specs.Refusals.{NoRoom, LineUnprintable}
use Rattle.tokens.specs.Answers.{refusal, places}
use Rattle.records.specs.Tree.{Tree}
use Rattle.sources.specs.Source.{token_of}
use Rattle.answers.specs.Reading.{when}
use Rattle.grammar.specs.Items.{Item, item, refused, Asked, read_item}
use Rattle.forms.specs.Forms.{FormLine, written, form_of}
use Rattle.tokens.specs.declared.Refusal.{Refusal}
use Rattle.tokens.specs.declared.Token.{Token}
use Rattle.calls.specs.declared.Accepted.{Accepted}

-- the longest line
abbrev pub line_limit : ℕ
line_limit = 65535

-- refusal 4, last, by the bytes that the item has in its form
unfoldable pub roomed : (Tree → ℕ) → ℕ → Item → Item
roomed form room (item x t) = when (ltb room (length (written (form x) x))) (λ _. refused (refusal NoRoom 0 0)) λ _. item x t
roomed form room (refused r) = refused r

-- the buffer: the item's bytes in front, or as it was
unfoldable pub filled : (Tree → ℕ) → Item → List ℕ → List ℕ
filled form (item x t) out = written (form x) x ++ drop (length (written (form x) x)) out
filled form (refused r) out = out

-- refusal 18, of an item that was read: at its first unprintable byte
unfoldable pub unless_unprintable : FirstByte → Item → Item
unless_unprintable clean i = i
unless_unprintable (found_at b) i = refused (refusal LineUnprintable b (b + 1))

unfoldable pub if_printable : Item → Item
if_printable (item x t) = unless_unprintable (unprintable x) (item x t)
if_printable (refused r) = refused r

abbrev pub accepted : ℕ → Token → Result Accepted Refusal
accepted n t = Ok (record { len = n; next = t })

-- the length in its form and the token that follows, or the refusal
unfoldable pub answered_in : (Tree → ℕ) → Item → Result Accepted Refusal
answered_in form (item x t) = accepted (length (written (form x) x)) (token_of t)
answered_in form (refused r) = Err r

-- the read call: the item's stored tree
unfoldable pub read : Asked → ℕ → Item
read q room = roomed (form_of q.text) room (read_item q)

unfoldable pub read_buffer : Asked → List ℕ → List ℕ
read_buffer q out = filled (form_of q.text) (read q (length out)) out

unfoldable pub answered : List ℕ → Item → Result Accepted Refusal
answered text i = answered_in (form_of text) i

-- for every case of the answer its number, 0 where nothing is refused, and its six values
unfoldable pub read_number : Result Accepted Refusal → ℕ
read_number (Ok a) = 0
read_number (Err r) = r.number

unfoldable pub read_values : Result Accepted Refusal → List ℕ
read_values (Ok a) = a.len ∷ a.next.kind ∷ a.next.start ∷ a.next.end ∷ 0 ∷ 0 ∷ []
read_values (Err r) = places r

-- the display call: the item's line, which has no more room than the longest line. So the order is 1, 2, 3, 19, the walk's 5 to 9 or
-- 21, the item's 5 to 14, 18, 4
abbrev pub as_line : Tree → ℕ
as_line t = FormLine

unfoldable pub display : Asked → ℕ → Item
display q room = roomed as_line (min room line_limit) (if_printable (read_item q))

unfoldable pub display_buffer : Asked → List ℕ → List ℕ
display_buffer q out = filled as_line (display q (length out)) out

-- the line's length alone
unfoldable pub displayed : Item → Result ℕ Refusal
displayed (item x t) = Ok (length (written FormLine x))
displayed (refused r) = Err r

unfoldable pub display_number : Result ℕ Refusal → ℕ
display_number (Ok n) = 0
display_number (Err r) = r.number

unfoldable pub display_values : Result ℕ Refusal → List ℕ
display_values (Ok n) = n ∷ 0 ∷ 0 ∷ 0 ∷ 0 ∷ 0 ∷ []
display_values (Err r) = places r
