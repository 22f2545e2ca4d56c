-- What the outline call answers, for every argument: the enum of the code, the result's number, the six values, the three that are
-- pending, and the buffer.
use Rattle.std.specs.Prelude.{ℕ, cond, List, [], ◌∷◌, ◌++◌, length, get_or, drop, Result, Ok, Err}
use Rattle.tokens.specs.Answers.{place, places}
use Rattle.outline.specs.Entry.{records_of}
use Rattle.outline.specs.Outline.{Outlined, accepted, rejected}
use Rattle.outline.specs.declared.Pending.{Pending}
use Rattle.outline.specs.declared.Summary.{Summary}
use Rattle.tokens.specs.declared.Refusal.{Refusal}

unfoldable pub answered : List ℕ → Outlined → Result Summary Refusal
answered text (accepted a) = Ok (record { full = a.full; count = a.count; length = length (records_of text a.entries); end = a.end; pending = a.pending })
answered text (rejected r) = Err r

unfoldable pub outline_number : Result Summary Refusal → ℕ
outline_number (Ok a) = 0
outline_number (Err r) = r.number

unfoldable pub outline_values : Result Summary Refusal → List ℕ
outline_values (Ok a) = cond a.full 1 0 ∷ a.count ∷ a.length ∷ a.end ∷ 0 ∷ 0 ∷ []
outline_values (Err r) = places r

-- the three numbers that are pending: what they hand in, and what they are afterwards; a refused call leaves them as they were
unfoldable pub pending_of : List ℕ → Pending
pending_of l = record { keyword = get_or l 0 0; comment = place (get_or l 1 0) (get_or l 2 0) }

abbrev pub pending_values : Pending → List ℕ
pending_values p = p.keyword ∷ p.comment.start ∷ p.comment.end ∷ []

unfoldable pub pending_left : List ℕ → Result Summary Refusal → List ℕ
pending_left l (Ok a) = pending_values a.pending
pending_left l (Err r) = l

-- the buffer: the records in front, or as it was
unfoldable pub outline_buffer : List ℕ → Outlined → List ℕ → List ℕ
outline_buffer text (accepted a) out = records_of text a.entries ++ drop (length (records_of text a.entries)) out
outline_buffer text (rejected r) out = out
