-- Examples of opening saved trees: two lists. Each entry has its name, the bytes, what is asked of them and what must come back. That it
-- does is one lemma for each list, `examples-hold` and `deep-hold` in proofs/Examples.
use Rattle.std.specs.Prelude.{List, [], ◌∷◌, ◌++◌, ℕ, zero, suc, replicate, take}
use Prim.Native.String.{String}
use Rattle.records.specs.Tree.{Tree, node, Trees, none, more}
use Rattle.forms.specs.Forms.{FormNarrow, FormWide, front, written}
use Rattle.saved.specs.Child.{child_in}
use Rattle.saved.specs.Answers.{open_call, child_call, handed_number, handed_values}

-- by name and bytes: opened over a text of so many bytes; and the child of an index of the record at an offset, which is the same where
-- the bytes are opened over such a text first
pub data Example : Type 0 where
  opened : String → List ℕ → (text : ℕ) → (number : ℕ) → (values : List ℕ) → Example
  child : String → List ℕ → (text : ℕ) → (offset index : ℕ) → (values : List ℕ) → Example

pub record Result : Type 0 where
  pub number : ℕ
  pub values : List ℕ
  pub again : List ℕ

abbrev pub expected : Example → Result
expected (opened s b t n v) = record { number = n; values = v; again = [] }
expected (child s b t p i v) = record { number = 0; values = v; again = v }

abbrev pub blank : ℕ → List ℕ
blank n = replicate n 32

unfoldable pub given : Example → Result
given (opened s b t n v) = record { number = handed_number (open_call b (blank t)); values = handed_values (open_call b (blank t)); again = [] }
given (child s b t p i v) = record { number = handed_number (child_call b (blank t) p i); values = handed_values (child_call b (blank t) p i); again = handed_values (child_in b p i) }

-- the record at an offset, none, and the six values of a refusal at one
abbrev pub here : (offset kind start end : ℕ) → List ℕ
here o k s e = 1 ∷ o ∷ k ∷ s ∷ e ∷ 0 ∷ []

abbrev pub nowhere : List ℕ
nowhere = 0 ∷ 0 ∷ 0 ∷ 0 ∷ 0 ∷ 0 ∷ []

abbrev pub twice : ℕ → List ℕ
twice o = o ∷ o ∷ o ∷ o ∷ 0 ∷ 0 ∷ []

-- records, and their bytes in the two forms
abbrev pub these : List Tree → Trees
these [] = none
these (t ∷ ts) = more t (these ts)

abbrev pub rec : (kind start end : ℕ) → List Tree → Tree
rec k s e ts = node k s e (these ts)

abbrev pub narrow : Tree → List ℕ
narrow t = written FormNarrow t

abbrev pub wide : Tree → List ℕ
wide t = written FormWide t

-- n references round a record; round a type of one name, alone and in a field
abbrev pub around : ℕ → Tree → Tree
around zero t = t
around (suc n) t = rec 11 0 1 (around n t ∷ [])

abbrev pub nested : ℕ → Tree
nested n = around n (rec 10 0 1 (rec 3 0 1 [] ∷ []))

abbrev pub in_field : ℕ → Tree
in_field n = rec 21 0 1 (rec 3 0 1 [] ∷ rec 24 0 1 (rec 1 0 1 [] ∷ rec 22 0 1 (rec 3 0 1 [] ∷ nested n ∷ []) ∷ []) ∷ [])

-- the type `a<b, c>`
abbrev pub applied : Tree
applied = rec 10 0 7 (rec 3 0 1 [] ∷ rec 10 2 3 (rec 3 2 3 [] ∷ []) ∷ rec 10 5 6 (rec 3 5 6 [] ∷ []) ∷ [])

unfoldable pub examples : List Example
examples =
    opened "any kind may be outermost" (narrow (rec 1 0 0 [])) 0 0 (here 0 1 0 0)
    ∷ opened "siblings need no order" (narrow (rec 15 0 4 (rec 10 2 3 (rec 3 2 3 [] ∷ []) ∷ rec 10 0 1 (rec 3 0 1 [] ∷ []) ∷ []))) 4 0 (here 0 15 0 4)
    ∷ opened "bytes behind the outermost record" (narrow (rec 1 0 0 []) ++ (0 ∷ [])) 0 15 (twice 0)
    ∷ opened "a length past the parent's end" (16 ∷ 0 ∷ 10 ∷ 0 ∷ 0 ∷ 0 ∷ 1 ∷ 0 ∷ 9 ∷ 0 ∷ 3 ∷ 0 ∷ 0 ∷ 0 ∷ 1 ∷ 0 ∷ []) 1 15 (twice 8)
    ∷ opened "bytes left over in a leaf" (12 ∷ 0 ∷ 3 ∷ 0 ∷ 0 ∷ 0 ∷ 1 ∷ 0 ∷ 0 ∷ 0 ∷ 0 ∷ 0 ∷ []) 1 15 (twice 8)
    ∷ opened "no kind in a leaf" (narrow (rec 3 0 1 (rec 9 0 1 [] ∷ []))) 1 16 (twice 8)
    ∷ opened "a record in a leaf" (narrow (rec 3 0 1 (rec 3 0 1 [] ∷ []))) 1 17 (twice 8)
    ∷ opened "a span past its parent's comes before a missing child" (narrow (rec 4 0 1 (rec 1 0 2 [] ∷ []))) 2 17 (twice 8)
    ∷ opened "a missing child" (narrow (rec 4 0 1 (rec 1 0 1 [] ∷ []))) 2 17 (twice 0)
    ∷ opened "of two that end together the inner" (narrow (rec 15 0 2 (rec 15 0 2 (rec 10 0 1 (rec 3 0 1 [] ∷ []) ∷ []) ∷ []))) 2 17 (twice 8)
    ∷ opened "from the front by the bytes" (narrow (rec 13 0 5 (rec 11 0 2 (rec 10 0 3 (rec 3 0 3 [] ∷ []) ∷ []) ∷ rec 9 0 0 [] ∷ []))) 5 17 (twice 16)
    ∷ opened "no type behind a field" (narrow (rec 22 0 9 (rec 3 0 1 [] ∷ rec 24 2 3 (rec 1 2 3 [] ∷ rec 20 2 3 [] ∷ []) ∷ rec 10 4 5 (rec 3 4 5 [] ∷ []) ∷ []))) 9 17 (twice 40)
    ∷ opened "saved before brackets were kept" (narrow (rec 10 0 4 (rec 3 1 3 [] ∷ []))) 4 0 (here 0 10 0 4)
    ∷ opened "saved with them" (narrow (rec 16 0 4 (rec 10 1 3 (rec 3 1 3 [] ∷ []) ∷ []))) 4 0 (here 0 16 0 4)
    ∷ opened "no bytes" [] 0 15 (twice 0)
    ∷ opened "what stands in front, alone" (front FormWide) 0 15 (twice 4)
    ∷ opened "its first three bytes" (take 3 (front FormWide)) 0 15 (twice 0)
    ∷ opened "a narrow record behind it" (front FormWide ++ narrow (rec 3 0 1 [])) 1 15 (twice 4)
    ∷ opened "its number is no kind" (narrow (rec 99 0 0 [])) 0 16 (twice 0)
    ∷ opened "a span past the text's end" (narrow (rec 1 0 2 [])) 1 17 (twice 0)
    ∷ opened "a span that ends before it starts" (narrow (rec 1 2 1 [])) 3 17 (twice 0)
    ∷ opened "the wide form where the narrow one would do" (wide (rec 1 0 2 [])) 2 0 (here 4 1 0 2)
    ∷ opened "a wide span that the text has" (wide (rec 1 0 65536 [])) 65536 0 (here 4 1 0 65536)
    ∷ opened "and one that it has not" (wide (rec 1 0 65536 [])) 65535 17 (twice 4)
    ∷ child "a<b, c>, the third child" (narrow applied) 7 0 2 (here 32 10 5 6)
    ∷ child "past the last" (narrow applied) 7 0 3 nowhere
    ∷ child "of a leaf" (narrow applied) 7 8 0 nowhere
    ∷ child "where no record starts" (narrow applied) 7 4 0 nowhere
    ∷ child "at the end" (narrow applied) 7 48 0 nowhere
    ∷ child "behind the end" (narrow applied) 7 56 0 nowhere
    ∷ child "far past the last" (narrow applied) 7 0 9 nowhere
    ∷ child "wide, the third child" (wide applied) 7 4 2 (here 60 10 5 6)
    ∷ child "wide, of the second" (wide applied) 7 32 0 (here 46 3 2 3)
    ∷ child "wide, in front" (wide applied) 7 0 0 nowhere
    ∷ child "wide, where no record starts" (wide applied) 7 8 0 nowhere
    ∷ []

-- of levels
unfoldable pub deep_examples : List Example
deep_examples =
    opened "64 levels" (narrow (nested 63)) 1 0 (here 0 11 0 1)
    ∷ opened "65 levels" (narrow (nested 64)) 1 14 (twice 512)
    ∷ opened "65 levels, wide" (wide (nested 64)) 1 14 (twice 900)
    ∷ opened "its own tests come before the levels" (narrow (around 64 (rec 10 0 2 []))) 1 17 (twice 512)
    ∷ opened "a field is a level, a binding is none" (narrow (in_field 61)) 1 0 (here 0 21 0 1)
    ∷ opened "one reference more" (narrow (in_field 62)) 1 14 (twice 544)
    ∷ []
