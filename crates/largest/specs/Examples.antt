-- Examples, one list: types with the bytes that they span and their records, or with their refusal; texts of the construction;
-- and numbers. That the definitions give what is said here, in both editions, is one
-- lemma, `examples-hold` in proofs/Examples.
use Rattle.std.specs.Prelude.{List, ◌∷◌, [], ℕ}
use Prim.Native.String.{String}
use Rattle.classes.specs.Bytes.{bytes}
use Rattle.records.specs.Stored.{records}
use Rattle.grammar.specs.Items.{Item, item, refused, asked, read_item}
use Rattle.largest.specs.Largest.{bytes_of, largest, most, type_room}

-- bytes and records of an accepted type; the number and the place of a refusal; bytes; or a number
pub data Outcome : Type 0 where
  spans : (n count : ℕ) → Outcome
  refused_with : (number start end : ℕ) → Outcome
  text : List ℕ → Outcome
  number : ℕ → Outcome

pub data Example : Type 0 where
  type : String → Outcome → Example
  construction : (n : ℕ) → String → Example
  most_is : (n count : ℕ) → Example
  room_is : (len n room : ℕ) → Example

abbrev pub outcome : Item → Outcome
outcome (item t next) = spans (bytes_of t) (records t)
outcome (refused r) = refused_with r.number r.place.start r.place.end

abbrev pub expected : Example → Outcome
expected (type s o) = o
expected (construction n s) = text (bytes s)
expected (most_is n c) = number c
expected (room_is len n m) = number m

-- in an edition
unfoldable pub given : ℕ → Example → Outcome
given ed (type s o) = outcome (read_item (asked 3 ed (bytes s) 0))
given ed (construction n s) = text (largest n)
given ed (most_is n c) = number (most n)
given ed (room_is len n m) = number (type_room len n)

unfoldable pub examples : List Example
examples =
    type " a " (spans 1 2)
    ∷ type "&a" (spans 2 3)
    ∷ type "& a" (spans 3 3)
    ∷ type "(a)" (spans 3 3)
    ∷ type "&aa" (spans 3 3)
    ∷ type "abc" (spans 3 2)
    ∷ type "a<>" (spans 3 2)
    ∷ type "&&a" (refused_with 10 0 2)
    ∷ type "||a" (refused_with 10 0 2)
    ∷ type "|a|a" (spans 4 5)
    ∷ type "|&a|a" (spans 5 6)
    ∷ type "|a,a|a" (spans 6 7)
    ∷ type "a::b" (spans 4 4)
    ∷ type "a<b<c>>" (spans 7 6)
    ∷ construction 4 "|a|a"
    ∷ construction 5 "|&a|a"
    ∷ construction 6 "|a,a|a"
    ∷ construction 7 "|&a,a|a"
    ∷ most_is 1 2
    ∷ most_is 2 3
    ∷ most_is 3 3
    ∷ most_is 4 5
    ∷ room_is 3 3 32
    ∷ room_is 65535 8190 65528
    ∷ room_is 65535 8191 114692
    ∷ room_is 65536 1 32
    ∷ []
