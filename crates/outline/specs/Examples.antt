-- The examples of the outline: one list, and two long texts. Each entry has the call that is made, and what it must give. That it gives
-- that are the lemmas `examples-hold` and `long-examples-hold` in proofs/Examples.
use Rattle.std.specs.Prelude.{ℕ, zero, suc, List, [], ◌∷◌, ◌++◌}
use Rattle.classes.specs.Bytes.{bytes}
use Rattle.outline.specs.Outline.{Outlined, outlined}
use Rattle.outline.specs.Calls.{answered, outline_number, outline_values, pending_of, pending_left, outline_buffer}

-- n bytes b
unfoldable pub repeated : ℕ → ℕ → List ℕ
repeated zero b = []
repeated (suc n) b = b ∷ repeated n b

-- what is asked, and what the call gives: its number and six values, what is pending afterwards, and the buffer, which was all 255
pub record Example : Type 0 where
  pub edition : ℕ
  pub text : List ℕ
  pub at : ℕ
  pub limit : ℕ
  pub pending : List ℕ
  pub room : ℕ
  pub number : ℕ
  pub values : List ℕ
  pub after : List ℕ
  pub buffer : List ℕ

pub record Result : Type 0 where
  pub number : ℕ
  pub values : List ℕ
  pub after : List ℕ
  pub buffer : List ℕ

abbrev pub expected : Example → Result
expected e = record { number = e.number; values = e.values; after = e.after; buffer = e.buffer }

-- what the call shows of x
unfoldable pub shown : Example → Outlined → Result
shown e x =
    record {
      number = outline_number (answered e.text x);
      values = outline_values (answered e.text x);
      after = pending_left e.pending (answered e.text x);
      buffer = outline_buffer e.text x (repeated e.room 255);
    }

unfoldable pub given : Example → Result
given e = shown e (outlined e.edition e.text e.at e.limit (pending_of e.pending) e.room)

abbrev pub pending : ℕ → ℕ → ℕ → List ℕ
pending k s e = k ∷ s ∷ e ∷ []

-- a call that is not refused: full or not, tokens, bytes, end; what is pending; the buffer
abbrev pub reads : (edition : ℕ) (text : List ℕ) (at limit : ℕ) → List ℕ → (room full count length end : ℕ) → List ℕ → List ℕ → Example
reads ed text at limit p room full count length end q out =
    record { edition = ed; text = text; at = at; limit = limit; pending = p; room = room; number = 0; values = full ∷ count ∷ length ∷ end ∷ 0 ∷ 0 ∷ []; after = q; buffer = out }

-- a refused one: its number and place
abbrev pub refuses : (edition : ℕ) (text : List ℕ) (at limit : ℕ) → List ℕ → (room number start end : ℕ) → Example
refuses ed text at limit p room n s e =
    record { edition = ed; text = text; at = at; limit = limit; pending = p; room = room; number = n; values = s ∷ e ∷ s ∷ e ∷ 0 ∷ 0 ∷ []; after = p; buffer = repeated room 255 }

abbrev pub none : List ℕ
none = pending 0 0 0

-- a record of a short text, each number below 256
abbrev pub short : (keyword start end from to : ℕ) → List ℕ
short k s e c d = 12 ∷ 0 ∷ k ∷ 0 ∷ s ∷ 0 ∷ e ∷ 0 ∷ c ∷ 0 ∷ d ∷ 0 ∷ []

abbrev pub left : List ℕ → ℕ → List ℕ
left xs n = xs ++ repeated n 255

-- texts of 65,535 and of 65,536 bytes, and the record of each
abbrev pub blanks : ℕ
blanks = 65530

abbrev pub blanks_narrow : List ℕ
blanks_narrow = repeated blanks 32 ++ bytes "fun f"

abbrev pub blanks_wide : List ℕ
blanks_wide = repeated blanks 32 ++ bytes "fun f "

abbrev pub narrow_record : List ℕ
narrow_record = 12 ∷ 0 ∷ 62 ∷ 0 ∷ 254 ∷ 255 ∷ 255 ∷ 255 ∷ 0 ∷ 0 ∷ 0 ∷ 0 ∷ []

abbrev pub wide_record : List ℕ
wide_record = 22 ∷ 0 ∷ 0 ∷ 0 ∷ 62 ∷ 0 ∷ 254 ∷ 255 ∷ 0 ∷ 0 ∷ 255 ∷ 255 ∷ 0 ∷ 0 ∷ repeated 8 0

unfoldable pub examples : List Example
examples =
    reads 1 (bytes "/// d" ++ (10 ∷ bytes "public fun f { struct S; const C }")) 0 100 none 40 0 10 36 40 none
    (left (short 62 17 18 0 5 ++ (short 54 28 29 0 0 ++ short 64 37 38 0 0)) 4)
    ∷ reads 1 (bytes "fun f $") 0 9 none 0 1 1 0 3 (pending 62 0 0) []
    ∷ refuses 1 (bytes "fun f $") 0 9 none 12 5 6 6
    ∷ reads 1 (bytes "fun f $") 0 2 none 12 0 2 12 5 none (short 62 4 5 0 0)
    ∷ reads 1 (bytes "a /** x */") 0 9 none 0 0 1 0 1 none []
    ∷ reads 1 (bytes "a /*") 0 1 none 0 0 1 0 1 none []
    ∷ refuses 1 (bytes "a /*") 0 2 none 0 6 2 4
    ∷ reads 1 (bytes "fun /** x */ f") 0 9 none 11 1 1 0 3 (pending 62 0 0) (repeated 11 255)
    ∷ reads 1 (bytes "fun /** x */ f") 0 9 none 12 0 2 12 14 (pending 0 4 12) (short 62 13 14 4 12)
    ∷ reads 1 (bytes "/** a */ fun f fun g") 0 9 none 24 0 4 24 20 (pending 0 0 8) (short 62 13 14 0 8 ++ short 62 19 20 0 8)
    ∷ reads 1 (bytes "abc") 0 0 (pending 54 3 1) 0 0 0 0 0 (pending 54 3 1) []
    ∷ reads 1 (bytes "abc") 0 0 (pending 4 1 4) 0 0 0 0 0 none []
    ∷ refuses 0 (bytes "$") 0 0 none 0 19 0 0
    ∷ reads 1 (bytes "1_0 fun f") 0 3 none 12 0 3 0 7 (pending 62 0 0) (repeated 12 255)
    ∷ reads 2 (bytes "1_0 fun f") 0 3 none 12 0 3 12 9 none (short 62 8 9 0 0)
    ∷ refuses 3 (bytes "a") 2 0 none 0 2 0 0
    ∷ reads 1 blanks_narrow blanks 9 none 12 0 2 12 65535 none narrow_record
    ∷ reads 1 blanks_wide blanks 9 none 22 0 2 22 65535 none wide_record
    ∷ []

-- the same two from the text's start on
unfoldable pub long_examples : List Example
long_examples = reads 1 blanks_narrow 0 9 none 12 0 2 12 65535 none narrow_record ∷ reads 1 blanks_wide 0 9 none 22 0 2 22 65535 none wide_record ∷ []
