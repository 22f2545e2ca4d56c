-- What is proved of the definitions that the contracts of the calls cite, as statements: each is a type, and proofs/Theorems has a proof of
-- each under the same name in small letters. Demand 3; reading from an offset; the Rust's trees; which refusals a call can meet; the
-- bytes of a line; where reading may begin; the two editions; the flag of a line feed; sizes.
use Rattle.std.specs.Prelude.{◌≡◌, Bool, true, false, cond, ◌||◌, ◌↔◌, List, [], ◌∷◌, ℕ, suc, ◌+◌, ◌-◌, ◌<◌, ◌≤◌, eqb, length, drop, get_or, Ok, Err}
use Rattle.classes.specs.Class.{is_name, shows}
use Rattle.classes.specs.Run.{all_of}
use Rattle.gap.specs.LineFeed.{line_feed}
use Rattle.words.specs.Kinds.{NumValue, NumTypedValue}
use Rattle.tokens.specs.Refusals.{NoRoom, LineUnprintable}
use Rattle.tokens.specs.RefusalSets.{among, token_refusals, comment_refusals}
use Rattle.tokens.specs.Answers.{refusal}
use Rattle.tokens.specs.Token.{tok, bad, scan}
use Rattle.tokens.specs.Calls.{text_limit, no_edition, next_token, advanced, token_call, next_comment}
use Rattle.tokens.specs.Walk.{tokens_at, entries, Ends}
use Rattle.tokens.specs.Raise.{raise_lexed, raise_doc}
use Rattle.tokens.specs.declared.Refusal.{Refusal}
use Rattle.tokens.specs.declared.Token.{Token}
use Rattle.starts.specs.Beginning.{beginning}
use Rattle.starts.specs.Allowed.{MayBegin, RefusedBefore}
use Rattle.records.specs.Tree.{Tree, build}
use Rattle.records.specs.Spans.{unspelled, start_of, end_of, Nested}
use Rattle.sources.specs.Source.{Lexeme, start, end}
use Rattle.grammar.specs.Items.{Item, item, refused, Asked, fault_of, read_item}
use Rattle.grammar.specs.Raise.{of_text, raise_item}
use Rattle.grammar.specs.Rust.{rust_item, unbracketed_item}
use Rattle.forms.specs.Line.{shown}
use Rattle.forms.specs.Unprintable.{clean, found_at, unprintable}
use Rattle.forms.specs.Forms.{written, form_of}
use Rattle.forms.specs.Sizes.{tree_room, Fitting}
use Rattle.calls.specs.Calls.{read, read_number, answered, display, display_buffer, displayed, display_number}
use Rattle.calls.specs.RefusalSets.{item_refusals, display_refusals}
use Rattle.roundtrip.specs.Demand.{Lent, read_of, display_of, Accepted, tree_length, line_length, line_of, line_back, ReadBack, AnsweredBack}
use Rattle.roundtrip.specs.Arguments.{Bracketed}

-- Demand 3. Two accepted items of one kind, whatever the edition of each, have the same line exactly when their builds are equal
abbrev pub LinesBuilds : Type 0
LinesBuilds =
    (i j : Lent) (t u : Tree) (n m : Lexeme) → i.asks.kind ≡ j.asks.kind → Accepted i t n → Accepted j u m
    → (line_of i ≡ line_of j) ↔ (build t ≡ build u)

-- every accepted item's line is read back, with any buffers that are no shorter than the item's tree and line; and in the numbers and
-- bytes that the calls answer
abbrev pub ReadsBack : Type 0
ReadsBack =
    (i : Lent) (t : Tree) (n : Lexeme) → Accepted i t n → (out line_out : List ℕ) → tree_length i ≤ length out → line_length i ≤ length line_out
    → ReadBack i t (line_back i out line_out)

abbrev pub AnswersBack : Type 0
AnswersBack =
    (i : Lent) (t : Tree) (n : Lexeme) → Accepted i t n → (out line_out : List ℕ) → tree_length i ≤ length out → line_length i ≤ length line_out
    → AnsweredBack i (line_back i out line_out)

-- an item whose two calls answer 0 is accepted
abbrev pub AcceptedByNumbers : Type 0
AcceptedByNumbers =
    (i : Lent) → read_number (answered i.asks.text (read_of i)) ≡ 0 → display_number (displayed (display_of i)) ≡ 0
    → (t : Tree) × (n : Lexeme) × Accepted i t n

-- Reading from offset s is reading the text from s, all places raised by s: the next token, its flag, the next doc comment
abbrev pub TokenFrom : Type 0
TokenFrom =
    (ed : ℕ) (text : List ℕ) (at : ℕ) → length text ≤ text_limit → at ≤ length text
    → next_token ed text at ≡ raise_lexed at (next_token ed (drop at text) 0)

abbrev pub FlagFrom : Type 0
FlagFrom =
    (ed : ℕ) (text : List ℕ) (at : ℕ) → length text ≤ text_limit → at ≤ length text
    → (advanced ed text at).feed ≡ (advanced ed (drop at text) 0).feed

abbrev pub CommentFrom : Type 0
CommentFrom =
    (ed : ℕ) (text : List ℕ) (at : ℕ) → length text ≤ text_limit → at ≤ length text → no_edition ed ≡ false
    → next_comment ed text at ≡ raise_doc at (next_comment ed (drop at text) 0)

-- an item, of a call that has no fault: its tree or its refusal, and the token that follows. (In which form a tree is stored, the whole
-- text tells)
abbrev pub ItemFrom : Type 0
ItemFrom = (q : Asked) → fault_of q ≡ Ok tt → read_item q ≡ raise_item q.at (read_item (of_text (drop q.at q.text) q))

-- a display: the same line in the same room, or the same refusal, its places raised; refusal 4 has no place in the text
unfoldable pub raise_shown : ℕ → Item → Item
raise_shown k (item x t) = raise_item k (item x t)
raise_shown k (refused r) = cond (eqb r.number NoRoom) (refused r) (raise_item k (refused r))

abbrev pub DisplayFrom : Type 0
DisplayFrom =
    (q : Asked) (out : List ℕ) → fault_of q ≡ Ok tt
    → (display q (length out) ≡ raise_shown q.at (display (of_text (drop q.at q.text) q) (length out)))
    × (display_buffer q out ≡ display_buffer (of_text (drop q.at q.text) q) out)

-- The Rust's tree results when the record in each record of kind 16 takes its place and its span
abbrev pub RustItem : Type 0
RustItem = (q : Asked) → unbracketed_item (read_item q) ≡ rust_item q

-- A line shows brackets where they were written, and none need be supplied: in no item, of whatever kind, does a function type stand
-- directly among the arguments of another
abbrev pub ItemBracketed : Type 0
ItemBracketed = (q : Asked) (x : Tree) (n : Lexeme) → read_item q ≡ item x n → Bracketed (build x)

-- The refusals that each call can meet
abbrev pub TokenRefusals : Type 0
TokenRefusals = (ed : ℕ) (text : List ℕ) (at : ℕ) (r : Refusal) → (token_call ed text at).lexed ≡ Err r → among token_refusals r.number ≡ true

abbrev pub CommentRefusals : Type 0
CommentRefusals = (ed : ℕ) (text : List ℕ) (at : ℕ) (r : Refusal) → next_comment ed text at ≡ Err r → among comment_refusals r.number ≡ true

abbrev pub ReadRefusals : Type 0
ReadRefusals = (q : Asked) (room : ℕ) (r : Refusal) → read q room ≡ refused r → among item_refusals r.number ≡ true

abbrev pub DisplayRefusals : Type 0
DisplayRefusals = (q : Asked) (room : ℕ) (r : Refusal) → display q room ≡ refused r → among display_refusals r.number ≡ true

-- Every byte that a display changes is from 32 to 126
abbrev pub LineBytes : Type 0
LineBytes = (q : Asked) (out : List ℕ) (k : ℕ) → (get_or (display_buffer q out) k 0 ≡ get_or out k 0 → ⊥) → shows (get_or (display_buffer q out) k 0) ≡ true

-- 18 refuses no line that could be shown: of all that is read, that has no unprintable byte whose line has bytes from 32 to 126 alone
abbrev pub Exactly : Type 0
Exactly = (q : Asked) (t : Tree) (n : Lexeme) → read_item q ≡ item t n → (unprintable t ≡ clean) ↔ (all_of shows (shown t) ≡ true)

-- a display is refused with 18 exactly where the item is read, room set aside, and has an unprintable byte; the first such byte b is its
-- place, (b,b+1)
pub record UnprintableAt (q : Asked) (b : ℕ) : Type 0 where
  pub tree : Tree
  pub next : Lexeme
  pub is_item : read_item q ≡ item tree next
  pub has_unprintable : unprintable tree ≡ found_at b

abbrev pub UnprintableExactly : Type 0
UnprintableExactly =
    (q : Asked) (room : ℕ)
    → ((b : ℕ) → UnprintableAt q b → display q room ≡ refused (refusal LineUnprintable b (b + 1)))
    × ((r : Refusal) → display q room ≡ refused r → r.number ≡ LineUnprintable → UnprintableAt q r.place.start)

-- Where a read or a display may begin: exactly at the offsets of the list; with a refusal of what stands before the offset exactly where
-- the walk ends in it; and nothing starts there exactly where neither holds
abbrev pub BeginsExactly : Type 0
BeginsExactly =
    (ed : ℕ) (text : List ℕ) (offset : ℕ)
    → ((beginning ed text offset ≡ (Ok true)) ↔ MayBegin ed text offset)
    × ((r : Refusal) → (beginning ed text offset ≡ Err r) ↔ RefusedBefore ed text offset r)
    × ((beginning ed text offset ≡ (Ok false)) ↔ ((MayBegin ed text offset → ⊥) × ((r : Refusal) → RefusedBefore ed text offset r → ⊥)))

-- The editions. A token of edition 1 that is no number is the same in edition 2
abbrev pub is_number : ℕ → Bool
is_number k = eqb k NumValue || eqb k NumTypedValue

abbrev pub EditionsSame : Type 0
EditionsSame = (p : ℕ) (s : List ℕ) (k a b : ℕ) (w r : List ℕ) → scan 1 p s ≡ tok k a b w r → is_number k ≡ false → scan 2 p s ≡ tok k a b w r

-- a number is a number from the same byte on in edition 2, no shorter, and all its bytes are bytes of names
abbrev pub EditionsNumber : Type 0
EditionsNumber =
    (p : ℕ) (s : List ℕ) (k a b : ℕ) (w r : List ℕ) → scan 1 p s ≡ tok k a b w r → is_number k ≡ true
    → (k₂ : ℕ) × (b₂ : ℕ) × (w₂ : List ℕ) × (r₂ : List ℕ) × (scan 2 p s ≡ tok k₂ a b₂ w₂ r₂) × (is_number k₂ ≡ true) × (b ≤ b₂) × (all_of is_name w₂ ≡ true)

-- what is refused in edition 1 is refused alike in edition 2; below the calls every number but 2 is read as edition 1
abbrev pub EditionsRefused : Type 0
EditionsRefused = (p : ℕ) (s : List ℕ) (r : Refusal) → scan 1 p s ≡ bad r → scan 2 p s ≡ bad r

abbrev pub OthersFirst : Type 0
OthersFirst = (ed : ℕ) → eqb ed 2 ≡ false → (p : ℕ) (s : List ℕ) → scan ed p s ≡ scan 1 p s

-- The flag of a line feed is set exactly where some byte from the start offset up to the token is 10
abbrev pub LineFeedThere : Type 0
LineFeedThere =
    (text : List ℕ) (at s : ℕ)
    → (line_feed text at s ≡ true → (i : ℕ) × (at ≤ i) × (i < s) × (get_or text i 0 ≡ 10)) × ((i : ℕ) → at ≤ i → i < s → get_or text i 0 ≡ 10 → line_feed text at s ≡ true)

-- no token holds a line feed
abbrev pub NoTokenHoldsLineFeed : Type 0
NoTokenHoldsLineFeed =
    (ed : ℕ) (text : List ℕ) (at : ℕ) (t : Token) → next_token ed text at ≡ Ok t
    → (at ≤ t.start) × (t.start ≤ t.end) × (line_feed text t.start t.end ≡ false)

-- tokens one after the other, each asked for from the end of the one before; where the last of them starts; and whether one of their
-- flags is set
abbrev pub Walk : ℕ → List ℕ → ℕ → Token → List Token → Type 0
Walk ed text at t [] = next_token ed text at ≡ Ok t
Walk ed text at t (u ∷ us) = (next_token ed text at ≡ Ok t) × Walk ed text t.end u us

abbrev pub last_start : Token → List Token → ℕ
last_start t [] = t.start
last_start t (u ∷ us) = last_start u us

abbrev pub flags : ℕ → List ℕ → ℕ → Token → List Token → Bool
flags ed text at t [] = (advanced ed text at).feed
flags ed text at t (u ∷ us) = (advanced ed text at).feed || flags ed text t.end u us

-- two tokens stand on one line exactly where the flags of all behind the first up to the second are false
abbrev pub SameLine : Type 0
SameLine =
    (ed : ℕ) (text : List ℕ) (at : ℕ) (t u : Token) (us : List Token) → Walk ed text at t (u ∷ us)
    → line_feed text t.start (last_start u us) ≡ flags ed text t.end u us

-- Sizes. n bytes end within n + 1 steps: the tokens of a text from an offset on have at most so many entries, EOF or a refusal the last
abbrev pub TokensEnd : Type 0
TokensEnd = (ed : ℕ) (text : List ℕ) (at : ℕ) → (entries (tokens_at ed text at) ≤ suc (length text - at)) × Ends (length text) (tokens_at ed text at)

-- an item lies in the text from its offset on, its spans are nested, and the token that follows stands behind it
abbrev pub ItemPlaced : Type 0
ItemPlaced =
    (q : Asked) (x : Tree) (n : Lexeme) → read_item q ≡ item x n
    → (q.at ≤ start_of x) × (start_of x < end_of x) × (end_of x ≤ start n) × (end n ≤ length q.text) × Nested x

-- each number of an item's tree fits the bytes that it has in the tree's form
abbrev pub ItemFitting : Type 0
ItemFitting = (q : Asked) (x : Tree) (n : Lexeme) → read_item q ≡ item x n → Fitting (form_of q.text x) x

-- what is written tells the form, and a tree from every other, but for its words
abbrev pub ReadFaithful : Type 0
ReadFaithful =
    (q r : Asked) (room space : ℕ) (x y : Tree) (n m : Lexeme) → read q room ≡ item x n → read r space ≡ item y m
    → written (form_of q.text x) x ≡ written (form_of r.text y) y → (form_of q.text x ≡ form_of r.text y) × (unspelled x ≡ unspelled y)

-- there is room for every tree of a text in so many bytes
abbrev pub RoomEnough : Type 0
RoomEnough = (q : Asked) (x : Tree) (n : Lexeme) (room : ℕ) → read_item q ≡ item x n → tree_room (length q.text) ≤ room → read q room ≡ item x n
