-- What is promised of the carried notes: the statements. The proofs are in proofs/Theorem, that of the last in proofs/Numbers.
use Rattle.std.specs.Prelude.{ℕ, ◌≤◌, ◌<◌, ◌≡◌, true, List, ◌∷◌, length, get_or, Ok}
use Rattle.words.specs.Kinds.{EOF}
use Rattle.tokens.specs.Refusals.{TextTooLong, NotATokenStart}
use Rattle.tokens.specs.RefusalSets.{among, lex_refusals}
use Rattle.tokens.specs.Walk.{Listed, tokens_at}
use Rattle.tokens.specs.declared.Refusal.{Refusal}
use Rattle.tokens.specs.declared.Token.{Token}
use Rattle.starts.specs.Allowed.{TokenOf}
use Rattle.carried.specs.Carry.{refusal_of, is_start, covers, rejected, moved, carry, notes_after}

-- the list ends at EOF: the whole text is read
abbrev pub ToEOF : Listed → Type 0
ToEOF l = refusal_of l ≡ Ok tt

-- the byte at x lies in exactly one token of the list
pub record InExactlyOne (l : Listed) (x : ℕ) : Type 0 where
  pub token : Token
  pub listed : TokenOf token l
  pub covering : covers token x ≡ true
  pub only : ((v : Token) → TokenOf v l → covers v x ≡ true → v ≡ token)

-- 1. Wherever both editions read the whole text, every old token start but EOF's lies in exactly one new token.
abbrev pub OldStartsLieInOneNewToken : Type 0
OldStartsLieInOneNewToken = (text : List ℕ) → ToEOF (tokens_at 1 text 0) → ToEOF (tokens_at 2 text 0)
    → (t : Token) → TokenOf t (tokens_at 1 text 0) → (t.kind ≡ EOF → ⊥) → InExactlyOne (tokens_at 2 text 0) t.start

-- 2. Where both walks end at EOF and the notes, at most 256, are starts of edition 1, all are moved: each to a token's start in edition 2,
-- never forward, to the text's end exactly where it was there, and notes in order stay in order.
pub record MovedAs (text notes new : List ℕ) : Type 0 where
  pub call : carry text notes ≡ moved new
  pub count : length new ≡ length notes
  pub started : ((i : ℕ) → i < length notes → is_start (tokens_at 2 text 0) (get_or new i 0) ≡ true)
  pub back : ((i : ℕ) → i < length notes → get_or new i 0 ≤ get_or notes i 0)
  pub ended : ((i : ℕ) → i < length notes → get_or notes i 0 ≡ length text → get_or new i 0 ≡ length text)
  pub ended_only : ((i : ℕ) → i < length notes → get_or new i 0 ≡ length text → get_or notes i 0 ≡ length text)
  pub ordered : ((i j : ℕ) → i < length notes → j < length notes → get_or notes i 0 ≤ get_or notes j 0 → get_or new i 0 ≤ get_or new j 0)

abbrev pub StartsAreMoved : Type 0
StartsAreMoved = (text notes : List ℕ) → ToEOF (tokens_at 1 text 0) → ToEOF (tokens_at 2 text 0) → length notes ≤ 256
    → ((i : ℕ) → i < length notes → is_start (tokens_at 1 text 0) (get_or notes i 0) ≡ true) → (new : List ℕ) × MovedAs text notes new

-- 3. A refused call leaves the list as it was.
abbrev pub RefusedMovesNone : Type 0
RefusedMovesNone = (text notes : List ℕ) (r : Refusal) → carry text notes ≡ rejected r → notes_after (carry text notes) notes ≡ notes

-- 4. Edition 2 reads every text that edition 1 reads to its end.
abbrev pub ReadInBoth : Type 0
ReadInBoth = (text : List ℕ) → ToEOF (tokens_at 1 text 0) → ToEOF (tokens_at 2 text 0)

-- 5. The numbers that a call can be refused with: 1, 5 to 9 and 20.
abbrev pub carry_refusals : List ℕ
carry_refusals = TextTooLong ∷ NotATokenStart ∷ lex_refusals

abbrev pub RefusedWith : Type 0
RefusedWith = (text notes : List ℕ) (r : Refusal) → carry text notes ≡ rejected r → among carry_refusals r.number ≡ true
