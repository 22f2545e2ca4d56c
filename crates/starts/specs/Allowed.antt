-- The request's list, word by word, over the tokens of the text from 0 on. That `beginning` is this list, for every edition, text and
-- offset, is proved in proofs/Allowed: `allowed` and `allowed-only`, `refused-before` and `refused-only`, `nowhere` and `nowhere-only`.
-- What starts where the closed parts of a gap end is told by `refused-token` and `refused-comment` in proofs/StartFaults.
use Rattle.std.specs.Prelude.{◌≡◌, ℕ, ◌+◌, ◌<◌, List, drop}
use Rattle.gap.specs.PartsEnd.{parts_end}
use Rattle.words.specs.Kinds.{GreaterGreater}
use Rattle.tokens.specs.Refusals.{CommentNotClosed}
use Rattle.tokens.specs.Walk.{Listed, eof, refused, next, tokens_at}
use Rattle.tokens.specs.declared.Refusal.{Refusal}
use Rattle.tokens.specs.declared.Token.{Token}

-- t is a token of the list, EOF counted
pub data TokenOf (t : Token) : Listed → Type 0 where
  last : TokenOf t (eof t)
  first : {l : Listed} → TokenOf t (next t l)
  in_rest : {u : Token} {l : Listed} → TokenOf t l → TokenOf t (next u l)

-- the list, whose tokens stand behind p, ends in the refusal r behind m, where the last token before it ends
pub data RefusedBehind (m : ℕ) (r : Refusal) : ℕ → Listed → Type 0 where
  here : RefusedBehind m r m (refused r)
  behind_token : {p : ℕ} {t : Token} {l : Listed} → RefusedBehind m r t.end l → RefusedBehind m r p (next t l)

-- the offsets that are allowed
pub data MayBegin (ed : ℕ) (text : List ℕ) (offset : ℕ) : Type 0 where
  at_zero : offset ≡ 0 → MayBegin ed text offset
  at_start : (t : Token) → TokenOf t (tokens_at ed text 0) → offset ≡ t.start → MayBegin ed text offset
  at_end : (t : Token) → TokenOf t (tokens_at ed text 0) → offset ≡ t.end → MayBegin ed text offset
  in_middle : (t : Token) → TokenOf t (tokens_at ed text 0) → t.kind ≡ GreaterGreater → offset ≡ t.start + 1 → MayBegin ed text offset
  at_refused : (m : ℕ) (r : Refusal) → RefusedBehind m r 0 (tokens_at ed text 0) → (r.number ≡ CommentNotClosed → ⊥)
      → offset ≡ parts_end 0 m (drop m text) → MayBegin ed text offset

-- the walk is refused with r, and the token or comment starts before the offset
pub record RefusedBefore (ed : ℕ) (text : List ℕ) (offset : ℕ) (r : Refusal) : Type 0 where
  pub behind : ℕ
  pub met : RefusedBehind behind r 0 (tokens_at ed text 0)
  pub before : parts_end 0 behind (drop behind text) < offset
