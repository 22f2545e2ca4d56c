-- Notes carried from edition 1 to edition 2. A note is an offset of a text. The tokens of a text in an edition are `tokens_at ed text 0`
-- (tokens, Walk): they end at EOF or at a refusal, and a text that is too long is refused there.
use Rattle.std.specs.Prelude.{ℕ, suc, Bool, false, cond, ◌&&◌, ◌||◌, not, List, [], ◌∷◌, map, eqb, leb, ltb, length, Result, Ok, Err, ⊤}
use Rattle.tokens.specs.Refusals.{NotATokenStart}
use Rattle.tokens.specs.Answers.{refusal, places}
use Rattle.tokens.specs.Calls.{◌or_else◌, unless}
use Rattle.tokens.specs.Walk.{Listed, eof, refused, next, tokens_at}
use Rattle.tokens.specs.declared.Refusal.{Refusal}
use Rattle.tokens.specs.declared.Token.{Token}

-- the longest list of notes
abbrev pub most_notes : ℕ
most_notes = 256

-- the refusal that a list of tokens ends with; none where it ends at EOF
unfoldable pub refusal_of : Listed → Result ⊤ Refusal
refusal_of (eof t) = Ok tt
refusal_of (refused r) = Err r
refusal_of (next t l) = refusal_of l

-- a token of the list starts at x, EOF counted
unfoldable pub is_start : Listed → ℕ → Bool
is_start (eof t) x = eqb t.start x
is_start (refused r) x = false
is_start (next t l) x = eqb t.start x || is_start l x

-- the byte at x is one of the token's
unfoldable pub covers : Token → ℕ → Bool
covers t x = leb t.start x && ltb x t.end

-- the start of the token that covers x; where none does, EOF's
unfoldable pub covering_start : Listed → ℕ → ℕ
covering_start (eof t) x = t.start
covering_start (refused r) x = x
covering_start (next t l) x = cond (covers t x) t.start (covering_start l x)

-- the lowest bad index of the notes, of which the first has the index i: an offset that starts no token, or an entry past the 256th
unfoldable pub bad_note : Listed → ℕ → List ℕ → Result ⊤ Refusal
bad_note old i [] = Ok tt
bad_note old i (x ∷ notes) = cond (leb most_notes i || not (is_start old x)) (Err (refusal NotATokenStart i i)) (bad_note old (suc i) notes)

-- a refusal, or the notes where they are moved to
pub data Outcome : Type 0 where
  rejected : Refusal → Outcome
  moved : List ℕ → Outcome

-- what the call finds wrong, in this order: the refusal of edition 1, that of edition 2, and then 20
unfoldable pub carry_fault : List ℕ → List ℕ → Result ⊤ Refusal
carry_fault text notes = refusal_of (tokens_at 1 text 0) or_else refusal_of (tokens_at 2 text 0) or_else bad_note (tokens_at 1 text 0) 0 notes

-- the call
unfoldable pub carry : List ℕ → List ℕ → Outcome
carry text notes = unless rejected (carry_fault text notes) (moved (map (covering_start (tokens_at 2 text 0)) notes))

-- its answer, and the list of notes behind it: all of them moved, or none
unfoldable pub answer_of : Outcome → Result ℕ Refusal
answer_of (rejected r) = Err r
answer_of (moved notes) = Ok (length notes)

unfoldable pub notes_after : Outcome → List ℕ → List ℕ
notes_after (rejected r) notes = notes
notes_after (moved new) notes = new

-- the result's number, and the six values
unfoldable pub carry_number : Result ℕ Refusal → ℕ
carry_number (Ok n) = 0
carry_number (Err r) = r.number

unfoldable pub carry_values : Result ℕ Refusal → List ℕ
carry_values (Ok n) = n ∷ 0 ∷ 0 ∷ 0 ∷ 0 ∷ 0 ∷ []
carry_values (Err r) = places r
