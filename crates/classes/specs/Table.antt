-- The table of classes. A class is a number that has a bit for each property of its bytes; bytes that no property tells apart share one.
use Rattle.std.specs.Prelude.{ℕ, zero, suc, ◌/◌, ◌%◌, ◌^◌, Bool, false, List, [], ◌∷◌, eqb, get_or}
use Rattle.classes.specs.Class.{is_name, is_digit, is_hex, is_ascii, in_line, shows, is_digit_or_underscore, is_hex_or_underscore, is_letter, is_space, begins_part, mark_or_line_feed, space_or_tab, is_none}

-- the class of each byte, sixteen to a line
unfoldable pub class_table : List ℕ
class_table =
    24 ∷ 24 ∷ 24 ∷ 24 ∷ 24 ∷ 24 ∷ 24 ∷ 24 ∷ 24 ∷ 4632 ∷ 2568 ∷ 24 ∷ 24 ∷ 1048 ∷ 24 ∷ 24 ∷
    24 ∷ 24 ∷ 24 ∷ 24 ∷ 24 ∷ 24 ∷ 24 ∷ 24 ∷ 24 ∷ 24 ∷ 24 ∷ 24 ∷ 24 ∷ 24 ∷ 24 ∷ 24 ∷
    4664 ∷ 56 ∷ 56 ∷ 56 ∷ 56 ∷ 56 ∷ 56 ∷ 56 ∷ 56 ∷ 56 ∷ 2104 ∷ 56 ∷ 56 ∷ 56 ∷ 56 ∷ 3128 ∷
    255 ∷ 255 ∷ 255 ∷ 255 ∷ 255 ∷ 255 ∷ 255 ∷ 255 ∷ 255 ∷ 255 ∷ 56 ∷ 56 ∷ 56 ∷ 56 ∷ 56 ∷ 56 ∷
    56 ∷ 445 ∷ 445 ∷ 445 ∷ 445 ∷ 445 ∷ 445 ∷ 313 ∷ 313 ∷ 313 ∷ 313 ∷ 313 ∷ 313 ∷ 313 ∷ 313 ∷ 313 ∷
    313 ∷ 313 ∷ 313 ∷ 313 ∷ 313 ∷ 313 ∷ 313 ∷ 313 ∷ 313 ∷ 313 ∷ 313 ∷ 56 ∷ 56 ∷ 56 ∷ 56 ∷ 505 ∷
    56 ∷ 445 ∷ 445 ∷ 445 ∷ 445 ∷ 445 ∷ 445 ∷ 313 ∷ 313 ∷ 313 ∷ 313 ∷ 313 ∷ 313 ∷ 313 ∷ 313 ∷ 313 ∷
    313 ∷ 313 ∷ 313 ∷ 313 ∷ 313 ∷ 313 ∷ 313 ∷ 313 ∷ 313 ∷ 313 ∷ 313 ∷ 56 ∷ 56 ∷ 56 ∷ 56 ∷ 24 ∷
    16 ∷ 16 ∷ 16 ∷ 16 ∷ 16 ∷ 16 ∷ 16 ∷ 16 ∷ 16 ∷ 16 ∷ 16 ∷ 16 ∷ 16 ∷ 16 ∷ 16 ∷ 16 ∷
    16 ∷ 16 ∷ 16 ∷ 16 ∷ 16 ∷ 16 ∷ 16 ∷ 16 ∷ 16 ∷ 16 ∷ 16 ∷ 16 ∷ 16 ∷ 16 ∷ 16 ∷ 16 ∷
    16 ∷ 16 ∷ 16 ∷ 16 ∷ 16 ∷ 16 ∷ 16 ∷ 16 ∷ 16 ∷ 16 ∷ 16 ∷ 16 ∷ 16 ∷ 16 ∷ 16 ∷ 16 ∷
    16 ∷ 16 ∷ 16 ∷ 16 ∷ 16 ∷ 16 ∷ 16 ∷ 16 ∷ 16 ∷ 16 ∷ 16 ∷ 16 ∷ 16 ∷ 16 ∷ 16 ∷ 16 ∷
    16 ∷ 16 ∷ 16 ∷ 16 ∷ 16 ∷ 16 ∷ 16 ∷ 16 ∷ 16 ∷ 16 ∷ 16 ∷ 16 ∷ 16 ∷ 16 ∷ 16 ∷ 16 ∷
    16 ∷ 16 ∷ 16 ∷ 16 ∷ 16 ∷ 16 ∷ 16 ∷ 16 ∷ 16 ∷ 16 ∷ 16 ∷ 16 ∷ 16 ∷ 16 ∷ 16 ∷ 16 ∷
    16 ∷ 16 ∷ 16 ∷ 16 ∷ 16 ∷ 16 ∷ 16 ∷ 16 ∷ 16 ∷ 16 ∷ 16 ∷ 16 ∷ 16 ∷ 16 ∷ 16 ∷ 16 ∷
    16 ∷ 16 ∷ 16 ∷ 16 ∷ 16 ∷ 16 ∷ 16 ∷ 16 ∷ 16 ∷ 16 ∷ 16 ∷ 16 ∷ 16 ∷ 16 ∷ 16 ∷ 16 ∷
    []

-- the properties by their definitions, in the order of their bits
abbrev pub properties : List (ℕ → Bool)
properties =
    is_name ∷ is_digit ∷ is_hex ∷ is_ascii ∷ in_line ∷ shows ∷ is_digit_or_underscore ∷ is_hex_or_underscore ∷
    is_letter ∷ is_space ∷ begins_part ∷ mark_or_line_feed ∷ space_or_tab ∷ is_none ∷
    []

-- the property with the number k
abbrev pub nth : List (ℕ → Bool) → ℕ → ℕ → Bool
nth [] k b = false
nth (f ∷ fs) zero b = f b
nth (f ∷ fs) (suc k) b = nth fs k b

-- any other number is the property of no byte
abbrev pub property : ℕ → ℕ → Bool
property k b = nth properties k b

-- the class x has the property k: its bit; a class has sixteen
unfoldable pub bit : ℕ → ℕ → Bool
bit k x = eqb (x / 2 ^ (k % 16) % 2) 1

-- the entry of b; a number that is no byte has that of 128 and more
unfoldable pub entry_of : ℕ → ℕ
entry_of b = get_or class_table b 16

-- what the entry of b tells of the property k
unfoldable pub tells : ℕ → ℕ → Bool
tells k b = bit k (entry_of b)
