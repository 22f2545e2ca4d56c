-- Where a read or a display may begin. The offset must be 0, a token's start or end in a walk from 0, EOF counted, a refused token's
-- start, or the middle of a `>>`; a lexical refusal of a token or comment that starts before the offset is the answer.
use Rattle.std.specs.Prelude.{ℕ, ◌+◌, Bool, cond, ◌&&◌, ◌||◌, not, List, eqb, ltb, drop, true, false, Result, Ok, Err, ⊤}
use Rattle.gap.specs.PartsEnd.{parts_end}
use Rattle.words.specs.Kinds.{GreaterGreater}
use Rattle.tokens.specs.Refusals.{CommentNotClosed, NothingStarts}
use Rattle.tokens.specs.Answers.{refusal}
use Rattle.tokens.specs.Walk.{Listed, eof, refused, next, tokens_at}
use Rattle.tokens.specs.declared.Refusal.{Refusal}
use Rattle.tokens.specs.declared.Token.{Token}

-- the offset is the token's start, its end, or the middle of a `>>`
unfoldable pub bounds : Token → ℕ → Bool
bounds t offset = eqb offset t.start || (eqb offset t.end || (eqb t.kind GreaterGreater && eqb offset (t.start + 1)))

-- by a refusal, of a token or comment that starts at q: refusal 6 is a comment's, and no token starts there
unfoldable pub by_refusal : Refusal → (q offset : ℕ) → Result Bool Refusal
by_refusal r q offset = cond (ltb q offset) (Err r) (cond (eqb offset q && not (eqb r.number CommentNotClosed)) (Ok true) (Ok false))

-- by the tokens of a walk: p is the end of the token before them, 0 at first
unfoldable pub by_tokens : (text : List ℕ) (offset p : ℕ) → Listed → Result Bool Refusal
by_tokens text offset p (eof t) = cond (bounds t offset) (Ok true) (Ok false)
by_tokens text offset p (refused r) = by_refusal r (parts_end 0 p (drop p text)) offset
by_tokens text offset p (next t l) = cond (bounds t offset) (Ok true) (cond (ltb offset t.end) (Ok false) (by_tokens text offset t.end l))

-- whether reading may begin at an offset of a text, in an edition
unfoldable pub beginning : (ed : ℕ) (text : List ℕ) (offset : ℕ) → Result Bool Refusal
beginning ed text offset = cond (eqb offset 0) (Ok true) (by_tokens text offset 0 (tokens_at ed text 0))

-- as a fault of the call: refusal 21 where nothing starts
unfoldable pub beginning_fault : ℕ → Result Bool Refusal → Result ⊤ Refusal
beginning_fault offset (Ok true) = Ok tt
beginning_fault offset (Ok false) = Err (refusal NothingStarts offset offset)
beginning_fault offset (Err r) = Err r

unfoldable pub start_fault : (ed : ℕ) (text : List ℕ) (offset : ℕ) → Result ⊤ Refusal
start_fault ed text offset = beginning_fault offset (beginning ed text offset)
