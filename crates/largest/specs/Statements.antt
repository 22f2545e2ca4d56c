-- What is proved of the tree of a type, in proofs/. `asked 3` asks for a type; `levels`, the most levels, are 64.
use Rattle.std.specs.Prelude.{◌≡◌, false, List, [], ◌∷◌, ℕ, ◌+◌, ◌-◌, ◌*◌, ◌<◌, ◌≤◌, length, get_or}
use Rattle.classes.specs.Bytes.{bytes}
use Rattle.words.specs.Kinds.{EOF}
use Rattle.tokens.specs.Answers.{token}
use Rattle.tokens.specs.Calls.{no_edition}
use Rattle.records.specs.Tree.{Tree}
use Rattle.records.specs.Spans.{start_of, end_of}
use Rattle.records.specs.Stored.{records}
use Rattle.sources.specs.Source.{Source, opened, Lexeme, token_of, tok, lex}
use Rattle.answers.specs.Reading.{ok, look}
use Rattle.grammar.specs.Types.{read_type}
use Rattle.grammar.specs.Items.{item, finished, Asked, asked, read_item}
use Rattle.calls.specs.Calls.{read, answered, read_number, read_values}
use Rattle.largest.specs.Largest.{bytes_of, largest, most, type_room}

-- P holds of the tree of every accepted type, for every edition, text and offset
abbrev pub OfItems : (Tree → Type 0) → Type 0
OfItems P = (q : Asked) (t : Tree) (next : Lexeme) → q.kind ≡ 3 → read_item q ≡ item t next → P t

-- P holds of the tree of every type that is read from a token of a text on, with any number of levels left: so also of the types inside
-- other items
abbrev pub OfTypes : (Tree → Type 0) → Type 0
OfTypes P = (ed : ℕ) (text : List ℕ) (p : ℕ) (a : Lexeme) → lex (opened ed text p) ≡ tok a → (m : ℕ) (t : Tree) (u : Source) → read_type m a ≡ ok t u → P t

-- 1. never more than n + 1
abbrev pub AtMostOneMore : Tree → Type 0
AtMostOneMore t = records t ≤ bytes_of t + 1

-- in an edition a text of n bytes is a type with m records: its tree spans (0,n), and EOF at (n,n) follows
pub record IsTypeOf (ed : ℕ) (text : List ℕ) (n m : ℕ) : Type 0 where
  pub long : length text ≡ n
  pub tree : Tree
  pub next : Lexeme
  pub is_item : read_item (asked 3 ed text 0) ≡ item tree next
  pub from : start_of tree ≡ 0
  pub to : end_of tree ≡ n
  pub counts : records tree ≡ m
  pub at_end : token_of next ≡ token EOF n n

-- in both editions
abbrev pub InEditions : (ℕ → Type 0) → Type 0
InEditions P = (ed : ℕ) → no_edition ed ≡ false → P ed

-- 2. for n = 3 the most is 3; and `(a)` has 3
abbrev pub ThreeForThree : Tree → Type 0
ThreeForThree t = bytes_of t ≡ 3 → records t ≤ 3

abbrev pub ThreeReached : Type 0
ThreeReached = InEditions λ ed. IsTypeOf ed (bytes "(a)") 3 3

-- every n from 4 to 8,190
abbrev pub FromFour : (ℕ → Type 0) → Type 0
FromFour P = (n : ℕ) → 4 ≤ n → n ≤ 8190 → P n

-- 3. the construction reaches n + 1; and so it does with 3 levels at the entry instead of 64: the answer is the same
abbrev pub LargestReaches : Type 0
LargestReaches = InEditions λ ed. FromFour λ n. IsTypeOf ed (largest n) n (n + 1)

abbrev pub ThreeLevels : Type 0
ThreeLevels = InEditions λ ed. FromFour λ n. finished (look (lex (opened ed (largest n) 0)) (read_type 3)) ≡ read_item (asked 3 ed (largest n) 0)

-- 4. the call, as `station::movesig_read` answers it: with a buffer of just 8(n + 1) bytes
pub record LargestIsRead (ed n : ℕ) (out : List ℕ) : Type 0 where
  pub number : read_number (answered (largest n) (read (asked 3 ed (largest n) 0) (length out))) ≡ 0
  pub values : read_values (answered (largest n) (read (asked 3 ed (largest n) 0) (length out))) ≡ 8 * (n + 1) ∷ 0 ∷ n ∷ n ∷ 0 ∷ 0 ∷ []

abbrev pub CallReaches : Type 0
CallReaches = InEditions λ ed. FromFour λ n. (out : List ℕ) → length out ≡ 8 * (n + 1) → LargestIsRead ed n out

-- the stored length of every accepted read of a type is at most `type_room`; which does not fall as n grows
abbrev pub LengthInRoom : Type 0
LengthInRoom =
    (q : Asked) (room : ℕ) (t : Tree) (next : Lexeme) → q.kind ≡ 3 → read q room ≡ item t next
    → get_or (read_values (answered q.text (read q room))) 0 0 ≤ type_room (length q.text) (bytes_of t)

abbrev pub RoomGrows : Type 0
RoomGrows = (len n m : ℕ) → n ≤ m → type_room len n ≤ type_room len m

-- so `type_room` of the bytes of the type, or of all that the text has from the offset on, is room enough
abbrev pub RoomSuffices : Type 0
RoomSuffices =
    (q : Asked) (room : ℕ) (t : Tree) (next : Lexeme) → q.kind ≡ 3 → read_item q ≡ item t next → type_room (length q.text) (bytes_of t) ≤ room → read q room ≡ item t next

abbrev pub RestSuffices : Type 0
RestSuffices =
    (q : Asked) (room : ℕ) (t : Tree) (next : Lexeme) → q.kind ≡ 3 → read_item q ≡ item t next → type_room (length q.text) (length q.text - q.at) ≤ room → read q room ≡ item t next

-- 5. `a` and `&a` reach n + 1 too, and no accepted type spans 0 bytes. So `most n` is never passed, and for every n from 1 to 8,190 it is
-- reached. (At 8,191 the construction goes on, but its tree is wide.)
abbrev pub OneReached : Type 0
OneReached = InEditions λ ed. IsTypeOf ed (bytes "a") 1 2

abbrev pub TwoReached : Type 0
TwoReached = InEditions λ ed. IsTypeOf ed (bytes "&a") 2 3

abbrev pub SomeBytes : Tree → Type 0
SomeBytes t = 0 < bytes_of t

abbrev pub NeverPassed : Tree → Type 0
NeverPassed t = records t ≤ most (bytes_of t)

abbrev pub AlwaysReached : Type 0
AlwaysReached = InEditions λ ed. (n : ℕ) → 1 ≤ n → n ≤ 8190 → (text : List ℕ) × IsTypeOf ed text n (most n)
