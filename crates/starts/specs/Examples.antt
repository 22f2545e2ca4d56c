-- Examples of where reading may begin. Each entry has an edition, a text, an offset and what is said of it. That it is said is one
-- lemma, `examples-hold` in proofs/Examples. What a read answers there stands among the examples of `roundtrip`.
use Rattle.std.specs.Prelude.{List, [], ◌∷◌, ◌++◌, ℕ, Bool, true, false, Result, Ok, Err}
use Rattle.classes.specs.Bytes.{bytes}
use Rattle.tokens.specs.Answers.{refusal}
use Rattle.starts.specs.Beginning.{beginning}
use Rattle.tokens.specs.declared.Refusal.{Refusal}

pub record Example : Type 0 where
  pub edition : ℕ
  pub text : List ℕ
  pub offset : ℕ
  pub said : Result Bool Refusal

abbrev pub of : (edition : ℕ) (text : List ℕ) (offset : ℕ) → Result Bool Refusal → Example
of ed text offset said = record { edition = ed; text = text; offset = offset; said = said }

abbrev pub given : Example → Result Bool Refusal
given x = beginning x.edition x.text x.offset

abbrev pub expected : Example → Result Bool Refusal
expected x = x.said

unfoldable pub examples : List Example
examples =
    of 1 (bytes "") 0 (Ok true)
    ∷ of 1 (bytes "") 1 (Ok false)
    ∷ of 1 (bytes "/* a */ b") 3 (Ok false)
    ∷ of 1 (bytes "/* a */ b") 7 (Ok false)
    ∷ of 1 (bytes "/* a */ b") 8 (Ok true)
    ∷ of 1 (bytes "abc") 1 (Ok false)
    ∷ of 1 (bytes "a  b") 1 (Ok true)
    ∷ of 1 (bytes "a  b") 2 (Ok false)
    ∷ of 1 (bytes "a  b") 3 (Ok true)
    ∷ of 1 (bytes "a  ") 2 (Ok false)
    ∷ of 1 (bytes "a  ") 3 (Ok true)
    ∷ of 1 (bytes ">>a") 1 (Ok true)
    ∷ of 1 (bytes ">>>a") 1 (Ok true)
    ∷ of 1 (bytes ">>>a") 2 (Ok true)
    ∷ of 1 (bytes ">=a") 1 (Ok false)
    ∷ of 1 (bytes "&mut a") 4 (Ok false)
    ∷ of 1 (bytes "&mut a") 5 (Ok true)
    ∷ of 1 (bytes "a  $b") 3 (Ok true)
    ∷ of 1 (bytes "a  $b") 4 (Err (refusal 5 3 3))
    ∷ of 1 (bytes "b\"" ++ (233 ∷ bytes "\" a")) 3 (Err (refusal 9 2 3))
    ∷ of 1 (bytes " b\"" ++ (233 ∷ bytes "\" a")) 1 (Ok true)
    ∷ of 1 (bytes " x\"0") 2 (Err (refusal 7 1 4))
    ∷ of 1 (bytes " /*") 1 (Ok false)
    ∷ of 1 (bytes " /*") 2 (Err (refusal 6 1 3))
    ∷ of 1 (bytes "a /* /*") 3 (Err (refusal 6 5 7))
    ∷ of 1 (bytes "a /* /*") 2 (Ok false)
    ∷ of 1 (bytes "a /* /*") 1 (Ok true)
    ∷ of 1 (bytes "1_0") 1 (Ok true)
    ∷ of 2 (bytes "1_0") 1 (Ok false)
    ∷ of 1 (bytes "a  $") 2 (Ok false)
    ∷ of 1 (bytes "a<b>>==c") 0 (Ok true)
    ∷ of 1 (bytes "a<b>>==c") 4 (Ok true)
    ∷ of 1 (bytes "a<b>>==c") 6 (Ok false)
    ∷ []
