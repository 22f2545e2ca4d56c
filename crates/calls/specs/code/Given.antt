-- What the functions of a call answer, and what they leave in the buffer.
use Rattle.std.specs.Prelude.{ℕ, ◌+◌, ◌*◌, ◌/◌, ◌≤◌, min, ◌≡◌, Bool, cond, ◌&&◌, List, eqb, ltb, length, take, Option, Some, None, Result, Ok, Err, MatchResult, ⊤}
use Rattle.std.proofs.lemmas.List.Edits.{sets}
use Rattle.classes.specs.Class.{shows}
use Rattle.classes.specs.Run.{run_end}
use Rattle.words.specs.Kinds.{ByteStringValue}
use Rattle.tokens.specs.Refusals.{NoRoom}
use Rattle.tokens.specs.Calls.{next_token}
use Rattle.tokens.specs.declared.Token.{Token as First}
use Rattle.tokens.specs.declared.Refusal.{Refusal}
use Rattle.records.specs.Tree.{Tree}
use Rattle.records.specs.Stored.{records}
use Rattle.sources.specs.Source.{Lexeme, token_of}
use Rattle.answers.specs.Reading.{Ans}
use Rattle.grammar.specs.Items.{Item, item, refused, read_kind, finished, Asked, asked, read_item}
use Rattle.forms.specs.Forms.{FormNarrow, FormWide, is_line, front, laid, written, narrow_limit}
use Rattle.forms.specs.code.Spots.{last, cap, Placed}
use Rattle.forms.specs.declared.Spot.{Spot}
use Rattle.parts.specs.code.Meets.{Fits, held, ReadsBy}
use Rattle.calls.specs.code.Kind.{number}
use Rattle.calls.specs.Calls.{line_limit, roomed, filled, answered_in, display, display_buffer, displayed}
use Rattle.parts.specs.declared.Part.{Part}
use Rattle.calls.specs.declared.Accepted.{Accepted}
use Rattle.calls.specs.declared.Made.{Made}
use Rattle.calls.specs.declared.Made.TheVariants.{Own, Lent}
use Rattle.calls.specs.declared.Asked.{Asked as Given}
use Rattle.calls.specs.declared.Sought.{Sought}
use Rattle.calls.specs.declared.ItemKind.{ItemKind}

-- what the code's record asks
abbrev pub asks : Given → Asked
asks q = asked q.kind q.edition q.text.now q.at

-- what is asked in an item that is sought: from its first token on no offset matters
abbrev pub sought : Sought → Asked
sought q = asked (number q.kind) q.edition q.text.now 0

-- the fault; where there is none, the kind with the number
abbrev pub Admits : ℕ → Result ⊤ Refusal → Result ItemKind Refusal → Type 0
Admits n fault r = MatchResult r (λ kind. (fault ≡ Ok tt) × (number kind ≡ n)) (λ e. fault ≡ Err e)

-- the place where an answer begins
abbrev pub at_start : Spot
at_start = record { pos = 0; low = 0 }

-- what is read from the token a on, and the item that this is: what is asked, whatever the offset
abbrev pub read_from : Asked → First → Ans Tree
read_from q a = read_kind q.kind (held q.edition q.text a)

abbrev pub item_from : Asked → First → Item
item_from q a = finished (read_from q a)

-- a tree of n bytes in the form is too long for it, so that it becomes wide
abbrev pub outgrown : ℕ → ℕ → Bool
outgrown form n = eqb form FormNarrow && ltb narrow_limit n

-- the form in which an item is laid down first, and, by that, the one in which it is written at last; and the room for that
abbrev pub first_form : List ℕ → ℕ
first_form text = cond (ltb narrow_limit (length text)) FormWide FormNarrow

abbrev pub last_form : ℕ → Tree → ℕ
last_form form x = cond (outgrown form (8 * records x)) FormWide form

abbrev pub room_in : ℕ → ℕ → ℕ
room_in form room = cond (is_line form) (min room line_limit) room

-- the wide length of a tree that has n bytes in the narrow form
abbrev pub widened : ℕ → ℕ
widened n = cap (4 + 14 * (n / 8))

-- the item of a first token is laid down at the front of a buffer l, which becomes m, behind what stands in front in the form
pub record LaidDown (form : ℕ) (q : Asked) (a : First) (l : List ℕ) (r : Result Part Refusal) (m : List ℕ) : Type 0 where
  pub from : Spot
  pub fronted : List ℕ
  pub short : length l ≤ last
  pub in_front : Placed l at_start (front form) from fronted
  pub reads : ReadsBy (laid form) q.edition q.text (read_kind q.kind) a from fronted r m

-- the answer for an item i in a form and a room, over a buffer l that becomes m
pub record Gives (form : Tree → ℕ) (room : ℕ) (i : Item) (l : List ℕ) (r : Result Accepted Refusal) (m : List ℕ) : Type 0 where
  pub answer : r ≡ answered_in form (roomed form room i)
  pub buffer : m ≡ filled form (roomed form room i) l

-- for an item that has n bytes in the narrow form and is written wide
abbrev pub Widens : Asked → First → ℕ → First → List ℕ → Result Accepted Refusal → List ℕ → Type 0
Widens q a n next l r m =
    Fits q.text a → (x : Tree) (t : Lexeme) → item_from q a ≡ item x t → token_of t ≡ next → n ≡ cap (8 * records x) → Gives (λ _. FormWide) (length l) (item x t) l r m

-- for an item that has n bytes in the form in which it is laid down first
abbrev pub Longer : ℕ → Asked → First → ℕ → First → List ℕ → Result Accepted Refusal → List ℕ → Type 0
Longer form q a n next l r m =
    Fits q.text a → (x : Tree) (t : Lexeme) → item_from q a ≡ item x t → token_of t ≡ next → n ≡ cap (length (written form x))
    → Gives (last_form form) (room_in form (length l)) (item x t) l r m

-- for the item of a first token, where that fits; and for the item at an offset, where the token is the one found there
abbrev pub Lays : ℕ → Asked → First → List ℕ → Result Accepted Refusal → List ℕ → Type 0
Lays form q a l r m = Fits q.text a → Gives (last_form form) (room_in form (length l)) (item_from q a) l r m

-- what an item that was laid down in a buffer of the call's own answers, and what it leaves in the lent buffer
unfoldable pub answer_of : Result Made Refusal → Result Accepted Refusal
answer_of (Ok (Own a)) = Ok a
answer_of (Ok (Lent a)) = Ok a
answer_of (Err r) = Err r

unfoldable pub buffer_of : Result Made Refusal → List ℕ → List ℕ → List ℕ
buffer_of (Ok (Own a)) made l = sets l 0 (take a.len made)
buffer_of (Ok (Lent a)) made l = l
buffer_of (Err r) made l = l

-- the token that is found where an item is asked for
abbrev pub first_of : Asked → Result First Refusal
first_of q = next_token q.edition q.text q.at

abbrev pub Calls : ℕ → Asked → Result First Refusal → List ℕ → Result Accepted Refusal → List ℕ → Type 0
Calls form q first l r m = first ≡ first_of q → Gives (last_form form) (room_in form (length l)) (read_item q) l r m

-- where the bytes of a token that a line can hold end
abbrev pub shown_end : List ℕ → First → ℕ
shown_end text a = run_end shows (take a.end text) a.start

-- where the first unprintable byte of a value stands, and of an item of any kind, by its first token
abbrev pub unprintable_value : List ℕ → First → Option ℕ
unprintable_value text a = cond (eqb a.kind ByteStringValue && ltb (shown_end text a) a.end) (Some (shown_end text a)) None

unfoldable pub unprintable_first : List ℕ → Result First Refusal → Option ℕ
unprintable_first text (Ok a) = unprintable_value text a
unprintable_first text (Err r) = None

abbrev pub unprintable_at : ℕ → List ℕ → Result First Refusal → Option ℕ
unprintable_at kind text first = cond (eqb kind 2) (unprintable_first text first) None

-- q in place of an item, and of what a call without enough room answers for one
unfoldable pub in_place : Refusal → Item → Item
in_place q (item x t) = refused q
in_place q (refused r) = refused r

abbrev pub replaced_by : Refusal → Refusal → Refusal
replaced_by q r = cond (eqb r.number NoRoom) q r

abbrev pub UnprintableFrom : Asked → Result First Refusal → Refusal → Refusal → Type 0
UnprintableFrom q first r d = first ≡ first_of q → Err d ≡ displayed (in_place r (read_item q))

-- the display with the token that is found at the offset
pub record Displays (q : Asked) (first : Result First Refusal) (l : List ℕ) (r : Result ℕ Refusal) (m : List ℕ) : Type 0 where
  pub answer : (first ≡ first_of q → r ≡ displayed (display q (length l)))
  pub buffer : (first ≡ first_of q → m ≡ display_buffer q l)
