-- The examples: one list. Each entry has a text, the notes, the number of the call's result, its first two values and the notes behind it.
use Rattle.std.specs.Prelude.{ℕ, List, [], ◌∷◌, ◌++◌, replicate}
use Rattle.classes.specs.Bytes.{bytes}
use Rattle.carried.specs.Carry.{Outcome, carry, answer_of, notes_after, carry_number, carry_values}

pub record Example : Type 0 where
  pub text : List ℕ
  pub notes : List ℕ
  pub number : ℕ
  pub values : List ℕ
  pub after : List ℕ

-- all notes are moved; or the call is refused with a number and a place
abbrev pub accepted : List ℕ → List ℕ → ℕ → List ℕ → Example
accepted text notes n after = record { text = text; notes = notes; number = 0; values = n ∷ 0 ∷ 0 ∷ 0 ∷ 0 ∷ 0 ∷ []; after = after }

abbrev pub rejected : List ℕ → List ℕ → ℕ → ℕ → ℕ → Example
rejected text notes m s e = record { text = text; notes = notes; number = m; values = s ∷ e ∷ s ∷ e ∷ 0 ∷ 0 ∷ []; after = notes }

-- what the call gives of an example's text and notes
abbrev pub given_by : Example → Outcome → Example
given_by x c = record { text = x.text; notes = x.notes; number = carry_number (answer_of c); values = carry_values (answer_of c); after = notes_after c x.notes }

unfoldable pub given : Example → Example
given x = given_by x (carry x.text x.notes)

unfoldable pub examples : List Example
examples =
    accepted (bytes "1_000 a") (1 ∷ 0 ∷ 7 ∷ 6 ∷ []) 4 (0 ∷ 0 ∷ 7 ∷ 6 ∷ [])
    ∷ accepted (bytes "1u168 b") (1 ∷ []) 1 (0 ∷ [])
    ∷ accepted (bytes "1u8x\"00\"") (0 ∷ 3 ∷ []) 2 (0 ∷ 3 ∷ [])
    ∷ rejected (bytes "a") (0 ∷ 5 ∷ 9 ∷ []) 20 1 1
    ∷ accepted (bytes "a") (replicate 256 0) 256 (replicate 256 0)
    ∷ rejected (bytes "a") (replicate 257 0) 20 256 256
    ∷ rejected (bytes "a $") (9 ∷ []) 5 2 2
    ∷ rejected (bytes "1_x\"a\"") (9 ∷ []) 5 3 3
    ∷ rejected (bytes "1_ /*") (0 ∷ []) 6 3 5
    ∷ accepted [] (0 ∷ []) 1 (0 ∷ [])
    ∷ rejected [] (1 ∷ []) 20 0 0
    ∷ rejected (bytes "a b") (1 ∷ []) 20 0 0
    ∷ accepted (replicate 70000 32 ++ bytes "1_0") (70001 ∷ 70000 ∷ 70003 ∷ []) 3 (70000 ∷ 70000 ∷ 70003 ∷ [])
    ∷ []
