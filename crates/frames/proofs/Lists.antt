-- Lists: the bound on a list's items never decides, since every item takes a byte; and what a `>>` that closes one is made of.
use mathlib.Core.Path.{◌≡◌, refl, ap, sym, ◌∙◌, subst}
use mathlib.Core.Bool.{true}
use mathlib.Core.List.{List, [], ◌∷◌}
use Prim.Native.Nat.{ℕ, suc, ◌+◌, ◌<◌}
use native.Mathlib.Omega.{arith}
use lib.ListN.{length, take, drop}
use Rattle.words.specs.Kinds.{GreaterGreater}
use Rattle.words.specs.Tables.{long_marks, double_marks, single_marks, marks}
use Rattle.tokens.proofs.Spelled.{mark_kind, spelling}
use Rattle.sources.specs.Source.{Source, Lexeme, start, word, after, split, tok, lex}
use Rattle.sources.proofs.Standing.{Standing, Sound, lex-sound}
use Rattle.answers.specs.Reading.{Reader, list, list_behind}
use Rattle.answers.proofs.Further.{left, enough}
use Rattle.grammar.specs.Types.{read_type}
use Rattle.grammar.specs.Binds.{read_field, read_bind}
use Rattle.frames.proofs.Sure.{type-frugal, field-frugal, bind-frugal}

-- any bound larger than the bytes left gives the same list
abbrev pub Enough : Reader → Type 0
Enough item = (close : ℕ) (o : Lexeme) (f : ℕ) → left (after o) < f → list_behind item close o ≡ list item close o f (lex (after o))

pub types-enough : (n : ℕ) → Enough (read_type n)
types-enough n close o f h = enough (read_type n) (type-frugal n) close o f h

pub fields-enough : (n : ℕ) → Enough (read_field n (read_bind n))
fields-enough n close o f h = enough (read_field n (read_bind n)) (field-frugal n) close o f h

pub binds-enough : (n : ℕ) → Enough (read_bind n)
binds-enough n close o f h = enough (read_bind n) (bind-frugal n) close o f h

-- a `>>` is a `>`, and what is read from its second byte: a `>` again, and what stands behind it
shift-mark : mark_kind GreaterGreater ≡ true
unfolding mark_kind marks long_marks double_marks single_marks
shift-mark = refl

shift_word : spelling GreaterGreater ≡ 62 ∷ 62 ∷ []
unfolding spelling marks long_marks double_marks single_marks
shift_word = refl

first_byte : (a n : ℕ) (w r : List ℕ) → take (suc n) r ≡ a ∷ w → r ≡ a ∷ drop 1 r
first_byte a n w [] h = let z = ap length h in absurd (omega arith)
first_byte a n w (b ∷ r) h = ap (λ (c : ℕ). c ∷ r) cc

pub record Split (t : Lexeme) : Type 0 where
  pub both : word t ≡ 62 ∷ 62 ∷ []
  pub first : t.here.rest ≡ 62 ∷ (split t).rest
  pub second : (split t).rest ≡ 62 ∷ (after t).rest
  pub here : (split t).at ≡ start t + 1
  pub behind : (after t).at ≡ (split t).at + 1

pub shift_split : (u : Source) (t : Lexeme) → lex u ≡ tok t → t.kind ≡ GreaterGreater → Split t
shift_split u t l k =
    let d : Standing u t = subst (Sound u) l (lex-sound u) in
    let w : word t ≡ 62 ∷ 62 ∷ [] = d.marked (ap mark_kind k ∙ shift-mark) ∙ ap spelling k ∙ shift_word in
    let h = d.halves k in
    let n : t.len ≡ 2 = h.0 in
    record {
      both = w;
      first = first_byte 62 1 (62 ∷ []) t.here.rest (ap (λ (m : ℕ). take m t.here.rest) (sym n) ∙ w);
      second = h.1;
      here = refl;
      behind = omega (arith, n);
    }
