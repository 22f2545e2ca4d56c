-- What the station writes opens as the tree it was.
use Rattle.std.specs.Prelude.{ℕ, ◌≡◌, List, length, get_or, take}
use Rattle.records.specs.Tree.{Tree}
use Rattle.records.specs.Spans.{unspelled}
use Rattle.sources.specs.Source.{Lexeme}
use Rattle.grammar.specs.Items.{item, Asked}
use Rattle.forms.specs.Forms.{written, form_of}
use Rattle.calls.specs.Calls.{answered, read_number, read_values, read, read_buffer}
use Rattle.saved.specs.Open.{whole, open_tree}
use Rattle.saved.specs.Legal.{reworded}
use Rattle.saved.specs.Answers.{open_call, handed_number}

-- for every kind, edition, text, offset and room: what an accepted read writes opens over the text as the tree that was read, and with its
-- words put back from the text it is that tree
abbrev pub Reopens : Type 0
Reopens =
    (q : Asked) (room : ℕ) (x : Tree) (n : Lexeme) → read q room ≡ item x n
    → (open_tree (written (form_of q.text x) x) q.text ≡ whole (unspelled x)) × (reworded q.text (unspelled x) ≡ x)

-- of the calls: where a read answers 0, the first bytes of its buffer, as many as its first value says, open over the text with number 0
abbrev pub BufferOpens : Type 0
BufferOpens =
    (q : Asked) (out : List ℕ) → read_number (answered q.text (read q (length out))) ≡ 0
    → handed_number (open_call (take (get_or (read_values (answered q.text (read q (length out)))) 0 0) (read_buffer q out)) q.text) ≡ 0
