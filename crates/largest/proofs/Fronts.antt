-- The fronts that occur in the largest types, and `&&`.
use mathlib.Core.Path.{◌≡◌, refl}
use mathlib.Core.List.{List, [], ◌∷◌}
use Prim.Native.Nat.{ℕ, ◌+◌, ◌-◌}
use native.Mathlib.Omega.{arith}
use Rattle.classes.specs.Bytes.{begins}
use Rattle.classes.specs.Class.{in_range, is_digit, is_letter, is_name}
use Rattle.classes.specs.Run.{run_len}
use Rattle.gap.specs.Marks.{is_space, is_blank, slashes, opens}
use Rattle.gap.specs.Comments.{part_at}
use Rattle.gap.specs.Gap.{gap}
use Rattle.words.specs.Kinds.{EOF, Identifier, Amp, AmpAmp, Comma, Pipe}
use Rattle.words.specs.Tables.{keywords, long_marks, double_marks, single_marks, marks}
use Rattle.words.specs.Search.{same, lookup, kind_of, longest, mark_of}
use Rattle.tokens.specs.Token.{opens_string, name, word_token, mark, find_token, tok as found, placed, behind_gap, scan}
use Rattle.sources.specs.Source.{Source, Lexeme, tok, scanned, lex}

unfoldable pub lexer : Unit {0}
unfolding begins in_range is_digit is_letter is_name run_len is_space is_blank slashes opens part_at gap keywords long_marks double_marks single_marks marks same lookup kind_of longest mark_of opens_string name word_token mark find_token placed behind_gap scan
lexer = tt

pub two-amps : (ed p : ℕ) (z : List ℕ) → scan ed p (38 ∷ 38 ∷ z) ≡ found AmpAmp p (p + 2) (38 ∷ 38 ∷ []) z
unfolding lexer
two-amps ed p z = refl

-- the bytes s from p on, and a token of n bytes in front of them
abbrev pub from : (ed p : ℕ) (s : List ℕ) → Source
from ed p s = record { edition = ed; at = p; rest = s }

abbrev pub front : (k n ed p : ℕ) (s : List ℕ) → Lexeme
front k n ed p s = record { kind = k; here = from ed p s; len = n }

module _ (ed p : ℕ) where
  in-front : (k n : ℕ) (s w r : List ℕ) → scan ed p s ≡ found k p (p + n) w r → lex (from ed p s) ≡ tok (front k n ed p s)
  unfolding lex scanned
  in-front k n s w r h =
      let z : p - p ≡ 0 = omega arith in
      let y : p + 0 ≡ p = omega arith in
      let x : p + n - p ≡ n = omega arith in
      rw (h, z, y, x)

  pub a-end : lex (from ed p (97 ∷ [])) ≡ tok (front Identifier 1 ed p (97 ∷ []))
  unfolding lexer
  a-end = in-front Identifier 1 _ _ _ refl

  pub at-end : lex (from ed p []) ≡ tok (front EOF 0 ed p [])
  unfolding lexer
  at-end = in-front EOF 0 _ _ _ refl

  module _ (z : List ℕ) where
    pub a-comma : lex (from ed p (97 ∷ 44 ∷ z)) ≡ tok (front Identifier 1 ed p (97 ∷ 44 ∷ z))
    unfolding lexer
    a-comma = in-front Identifier 1 _ _ _ refl

    pub a-bar : lex (from ed p (97 ∷ 124 ∷ z)) ≡ tok (front Identifier 1 ed p (97 ∷ 124 ∷ z))
    unfolding lexer
    a-bar = in-front Identifier 1 _ _ _ refl

    pub comma-a : lex (from ed p (44 ∷ 97 ∷ z)) ≡ tok (front Comma 1 ed p (44 ∷ 97 ∷ z))
    unfolding lexer
    comma-a = in-front Comma 1 _ _ _ refl

    pub bar-a : lex (from ed p (124 ∷ 97 ∷ z)) ≡ tok (front Pipe 1 ed p (124 ∷ 97 ∷ z))
    unfolding lexer
    bar-a = in-front Pipe 1 _ _ _ refl

    pub bar-amp : lex (from ed p (124 ∷ 38 ∷ z)) ≡ tok (front Pipe 1 ed p (124 ∷ 38 ∷ z))
    unfolding lexer
    bar-amp = in-front Pipe 1 _ _ _ refl

    pub amp-a : lex (from ed p (38 ∷ 97 ∷ z)) ≡ tok (front Amp 1 ed p (38 ∷ 97 ∷ z))
    unfolding lexer
    amp-a = in-front Amp 1 _ _ _ refl
