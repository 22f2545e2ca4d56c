-- The examples: one list, P1 to P15, then strings with unprintable bytes, then numbers of edition 2, then reads and displays at
-- offsets where reading may begin and where not. Each entry has its name, what a call is asked, and what it must give. That it gives that is one lemma, `examples-hold` in proofs/Examples.
use Rattle.std.specs.Prelude.{List, [], ◌∷◌, ◌++◌, map, ℕ, length}
use Prim.Native.String.{String}
use Rattle.classes.specs.Bytes.{bytes}
use Rattle.tokens.specs.Answers.{token_number, token_values}
use Rattle.tokens.specs.Calls.{token_call}
use Rattle.grammar.specs.Items.{Asked, asked}
use Rattle.forms.specs.Sizes.{tree_room}
use Rattle.calls.specs.Calls.{read as read_call, read_buffer, answered, read_number, read_values, display as display_call, display_buffer, displayed, display_number, display_values}

-- by name and what is asked: the token call's number and values, in an edition, of a text from an offset on; the read call's, with room
-- for every answer; the bytes that a read writes into a buffer of just their length, the tree; those that a display writes, the line; and
-- a display's number and values, in so much room
pub data Example : Type 0 where
  token : String → (edition : ℕ) (text : List ℕ) (at : ℕ) → ℕ → List ℕ → Example
  read : String → Asked → ℕ → List ℕ → Example
  tree : String → Asked → List ℕ → Example
  line : String → Asked → List ℕ → Example
  no_line : String → Asked → (room : ℕ) → ℕ → List ℕ → Example

-- an item kind in edition 1 and in edition 2, from the text's first byte on
abbrev pub first : ℕ → List ℕ → Asked
first kind text = asked kind 1 text 0

abbrev pub second : ℕ → List ℕ → Asked
second kind text = asked kind 2 text 0

-- a call's number, and its values or the bytes of its buffer
pub record Result : Type 0 where
  pub number : ℕ
  pub values : List ℕ

abbrev pub expected : Example → Result
expected (token p ed t at n v) = record { number = n; values = v }
expected (read p q n v) = record { number = n; values = v }
expected (tree p q v) = record { number = 0; values = v }
expected (line p q v) = record { number = 0; values = v }
expected (no_line p q m n v) = record { number = n; values = v }

unfoldable pub given : Example → Result
given (token p ed t at n v) = record { number = token_number (token_call ed t at).lexed; values = token_values (token_call ed t at).lexed (token_call ed t at).feed }
given (read p q n v) =
    record {
      number = read_number (answered q.text (read_call q (tree_room (length q.text))));
      values = read_values (answered q.text (read_call q (tree_room (length q.text))));
    }
given (tree p q v) = record { number = read_number (answered q.text (read_call q (length v))); values = read_buffer q (map (λ b. 255) v) }
given (line p q v) = record { number = display_number (displayed (display_call q (length v))); values = display_buffer q (map (λ b. 255) v) }
given (no_line p q m n v) = record { number = display_number (displayed (display_call q m)); values = display_values (displayed (display_call q m)) }

-- six values of which the last two are 0, as in every answer here
abbrev pub six : ℕ → ℕ → ℕ → ℕ → List ℕ
six a b c d = a ∷ b ∷ c ∷ d ∷ 0 ∷ 0 ∷ []

-- the six values of a refusal whose second place is its place
abbrev pub twice : ℕ → ℕ → List ℕ
twice s e = s ∷ e ∷ s ∷ e ∷ 0 ∷ 0 ∷ []

-- a string with a CR inside
abbrev pub with_cr : List ℕ
with_cr = bytes "b\"a" ++ (13 ∷ bytes "b\"")

unfoldable pub examples : List Example
examples =
    token "P1" 1 (bytes "") 0 0 (six 0 0 0 0)
    ∷ token "P2" 1 (bytes "0xu8") 0 0 (six 2 0 4 0)
    ∷ token "P3" 1 (bytes "0x") 0 0 (six 1 0 1 0)
    ∷ token "P4" 1 (bytes "&mut") 0 0 (six 8 0 1 0)
    ∷ token "P5" 1 (bytes "/**/a") 0 0 (six 4 4 5 0)
    ∷ token "P6" 1 (bytes "/*/") 0 6 (six 0 2 0 2)
    ∷ token "P7" 1 (bytes "/** /*") 0 6 (six 4 6 4 6)
    ∷ token "P8" 1 (bytes "b\"a\\\"c\"") 0 0 (six 3 0 7 0)
    ∷ token "P9" 1 (bytes "b\"a") 0 8 (six 0 3 0 3)
    ∷ tree "P10" (first 3 (bytes "u8")) (16 ∷ 0 ∷ 10 ∷ 0 ∷ 0 ∷ 0 ∷ 2 ∷ 0 ∷ 8 ∷ 0 ∷ 3 ∷ 0 ∷ 0 ∷ 0 ∷ 2 ∷ 0 ∷ [])
    ∷ line "P11" (first 3 (bytes "|(|u8|u8)|u8")) (bytes "|(|u8| u8)| u8")
    ∷ read "P12" (first 3 (bytes "(u8")) 12 (six 3 3 0 0)
    ∷ read "P13" (first 1 (bytes "0x1")) 10 (six 3 3 0 3)
    ∷ line "P14" (first 4 (bytes "S{f}")) (bytes "(S {f: f})")
    ∷ read "P15" (first 3 (bytes "a<u8>=")) 12 (six 4 4 1 1)
    ∷ no_line "CR" (first 2 with_cr) 65535 18 (twice 3 4)
    ∷ no_line "CR, no room" (first 2 with_cr) 0 18 (twice 3 4)
    ∷ tree "CR, read" (first 2 with_cr) (8 ∷ 0 ∷ 35 ∷ 0 ∷ 0 ∷ 0 ∷ 6 ∷ 0 ∷ [])
    ∷ no_line "DEL in a hex string" (first 2 (bytes "x\"" ++ (127 ∷ bytes "\""))) 9 18 (twice 2 3)
    ∷ no_line "TAB escaped" (first 2 (bytes "b\"\\" ++ (9 ∷ bytes "\""))) 9 18 (twice 3 4)
    ∷ no_line "TAB, no token behind" (first 2 (bytes "b\"" ++ (9 ∷ bytes "\" $"))) 9 5 (twice 5 5)
    ∷ no_line "TAB, not closed" (first 2 (bytes "b\"" ++ (9 ∷ []))) 9 8 (twice 0 3)
    ∷ no_line "TAB before 128" (first 2 (bytes "b\"" ++ (9 ∷ 128 ∷ bytes "\""))) 9 9 (twice 3 4)
    ∷ line "32 and 126" (first 2 (bytes "b\" ~\"")) (bytes "b\" ~\"")
    ∷ line "CR and TAB in the gap" (first 2 (9 ∷ 13 ∷ 10 ∷ bytes "/*" ++ (13 ∷ bytes "*/b\"\""))) (bytes "b\"\"")
    ∷ token "0xu16 in edition 2" 2 (bytes "0xu16") 0 0 (six 2 0 5 0)
    ∷ token "0xu16 in edition 1" 1 (bytes "0xu16") 0 0 (six 1 0 1 0)
    ∷ token "1_000 in edition 2" 2 (bytes "1_000") 0 0 (six 1 0 5 0)
    ∷ token "1_000 in edition 1" 1 (bytes "1_000") 0 0 (six 1 0 1 0)
    ∷ token "1_000u256" 2 (bytes "1_000u256") 0 0 (six 2 0 9 0)
    ∷ token "0x_1" 2 (bytes "0x_1") 0 0 (six 1 0 1 0)
    ∷ token "0x_1, the token behind" 2 (bytes "0x_1") 1 0 (six 4 1 4 0)
    ∷ line "a name with a number of edition 2" (second 1 (bytes " 1_0 ::a")) (bytes "1_0::a")
    ∷ read "the same in edition 1" (first 1 (bytes " 1_0 ::a")) 10 (six 2 4 1 2)
    ∷ token "edition 3" 3 (bytes "a") 0 19 (six 0 0 0 0)
    ∷ read "inside a comment" (asked 3 1 (bytes "/* a */ b") 3) 21 (twice 3 3)
    ∷ read "a comment's end" (asked 3 1 (bytes "/* a */ b") 7) 21 (twice 7 7)
    ∷ read "inside a token" (asked 3 1 (bytes "abc") 1) 21 (twice 1 1)
    ∷ read "a token's end" (asked 3 1 (bytes "a  b") 1) 0 (six 16 0 4 4)
    ∷ read "between blanks" (asked 3 1 (bytes "a  b") 2) 21 (twice 2 2)
    ∷ read "EOF" (asked 3 1 (bytes "a  ") 3) 10 (twice 3 3)
    ∷ read "the middle of >>" (asked 3 1 (bytes ">>a") 1) 10 (twice 1 2)
    ∷ read "the middle of >=" (asked 3 1 (bytes ">=a") 1) 21 (twice 1 1)
    ∷ read "the blank of &mut" (asked 3 1 (bytes "&mut a") 4) 21 (twice 4 4)
    ∷ read "a refused token's start" (asked 3 1 (bytes "a  $b") 3) 5 (twice 3 3)
    ∷ read "behind a refused token" (asked 3 1 (bytes "a  $b") 4) 5 (twice 3 3)
    ∷ read "a string starts before the byte blamed" (asked 3 1 (bytes "b\"" ++ (233 ∷ bytes "\" a")) 3) 9 (twice 2 3)
    ∷ read "an open comment's start" (asked 3 1 (bytes " /*") 1) 21 (twice 1 1)
    ∷ read "behind the outermost opener" (asked 3 1 (bytes "a /* /*") 3) 6 (twice 5 7)
    ∷ read "before an open comment" (asked 3 1 (bytes "a /* /*") 2) 21 (twice 2 2)
    ∷ read "an open comment met by the item" (asked 3 1 (bytes "a /* /*") 1) 6 (twice 5 7)
    ∷ read "1_0 in edition 1" (asked 3 1 (bytes "1_0") 1) 0 (six 16 0 3 3)
    ∷ read "1_0 in edition 2" (asked 3 2 (bytes "1_0") 1) 21 (twice 1 1)
    ∷ read "before the item is looked at" (asked 3 1 (bytes "a  $") 2) 21 (twice 2 2)
    ∷ read ">> split at 0" (asked 3 1 (bytes "a<b>>==c") 0) 0 (six 32 33 4 6)
    ∷ read "no token of the walk" (asked 3 1 (bytes "a<b>>==c") 6) 21 (twice 6 6)
    ∷ read "3 first" (asked 6 1 (bytes "abc") 1) 3 (twice 0 0)
    ∷ read "19 first" (asked 3 3 (bytes "abc") 1) 19 (twice 0 0)
    ∷ no_line "a display inside a token" (asked 3 1 (bytes "abc") 1) 65535 21 (twice 1 1)
    ∷ no_line "a display behind a refused token" (asked 3 1 (bytes "a  $b") 4) 65535 5 (twice 3 3)
    ∷ no_line "18 is looked for later" (asked 2 1 (bytes "a b\"" ++ (9 ∷ bytes "\"")) 3) 65535 21 (twice 3 3)
    ∷ []
