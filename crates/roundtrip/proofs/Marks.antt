-- The marks of a display line: which token each is, with whatever stands behind it in a line; and what may stand behind an item.
use mathlib.Core.Path.{◌≡◌, refl, ap, ◌∙◌, subst}
use mathlib.Core.Bool.{Bool, true, false, ◌||◌}
use mathlib.Core.List.{List, [], ◌∷◌, ◌++◌}
use Prim.Native.Nat.{ℕ}
use borrow.Author.Tests.{eqb-true}
use lib.Dec.{eqb}
use Rattle.classes.specs.Bytes.{bytes, begins}
use Rattle.classes.specs.Class.{in_range, is_digit, is_letter, is_name}
use Rattle.classes.proofs.Bools.{or_left, or_right}
use Rattle.gap.specs.Marks.{is_space, is_blank, slashes, opens}
use Rattle.gap.specs.Comments.{part_at}
use Rattle.gap.specs.Gap.{gap}
use Rattle.words.specs.Tables.{long_marks, double_marks, single_marks, marks}
use Rattle.words.specs.Search.{longest, mark_of}
use Rattle.words.specs.Kinds.{EOF, Amp, AmpMut, LParen, RParen, Comma, Colon, ColonColon, Less, Greater, GreaterGreater, LBrace, Pipe, RBrace, AtSign}
use Rattle.tokens.specs.Token.{mark, find_token, tok as found, placed, behind_gap, scan}
use Rattle.sources.specs.Source.{Source, Lexeme, lex}
use Rattle.roundtrip.proofs.Words.{Stops, extends}
use Rattle.roundtrip.proofs.Tokens.{Met, met-map, Editions, Rest, Near, at_once, Word, Stands, stands}

-- the definitions by which a mark is found
unfoldable pub lexer : Unit {0}
unfolding begins in_range is_digit is_letter is_name is_space is_blank slashes opens part_at gap long_marks double_marks single_marks marks longest mark_of mark find_token placed behind_gap scan
lexer = tt

-- marks that are what they are before any bytes; before a blank; and before bytes that make no longer mark of them
abbrev pub Always : List ℕ → Type 0
Always z = Unit {0}

abbrev pub Blank : List ℕ → Type 0
Blank z = (y : List ℕ) × (z ≡ 32 ∷ y)

abbrev pub widens : ℕ → Bool
widens b = eqb b 60 || eqb b 61

abbrev pub is_bar : ℕ → Bool
is_bar b = eqb b 124

abbrev pub is_equal : ℕ → Bool
is_equal b = eqb b 61

-- what makes a longer mark of `>`
abbrev lengthens : ℕ → Bool
lengthens b = eqb b 61 || eqb b 62

module _ (es : Editions) where
  pub eof : Stands es (λ z. z ≡ []) EOF []
  unfolding lexer
  eof = stands es (λ z. z ≡ []) EOF [] λ z s. rw s

  pub comma : Stands es Always Comma (bytes ",")
  unfolding lexer
  comma = stands es Always Comma (bytes ",") λ z s. refl

  pub lparen : Stands es Always LParen (bytes "(")
  unfolding lexer
  lparen = stands es Always LParen (bytes "(") λ z s. refl

  pub rparen : Stands es Always RParen (bytes ")")
  unfolding lexer
  rparen = stands es Always RParen (bytes ")") λ z s. refl

  pub lbrace : Stands es Always LBrace (bytes "{")
  unfolding lexer
  lbrace = stands es Always LBrace (bytes "{") λ z s. refl

  pub rbrace : Stands es Always RBrace (bytes "}")
  unfolding lexer
  rbrace = stands es Always RBrace (bytes "}") λ z s. refl

  pub at_sign : Stands es Always AtSign (bytes "@")
  unfolding lexer
  at_sign = stands es Always AtSign (bytes "@") λ z s. refl

  pub colons : Stands es Always ColonColon (bytes "::")
  unfolding lexer
  colons = stands es Always ColonColon (bytes "::") λ z s. refl

  pub colon : Stands es Blank Colon (bytes ":")
  unfolding lexer
  colon = stands es Blank Colon (bytes ":") λ z s. rw s.1 refl

  pub amp : Stands es Blank Amp (bytes "&")
  unfolding lexer
  amp = stands es Blank Amp (bytes "&") λ z s. rw s.1 refl

  pub amp-mut : Stands es Always AmpMut (bytes "&mut ")
  unfolding lexer
  amp-mut = stands es Always AmpMut (bytes "&mut ") λ z s. refl

  less-from : (z : List ℕ) → Stops widens z → scan es.back 0 (60 ∷ z) ≡ found Less 0 1 (60 ∷ []) z
  unfolding lexer
  less-from [] s = refl
  less-from (b ∷ z) s = rw (or_left (eqb b 60) (eqb b 61) s, or_right (eqb b 60) (eqb b 61) s)

  pub less : Stands es (Stops widens) Less (bytes "<")
  less = stands es (Stops widens) Less (bytes "<") less-from

  bar-from : (z : List ℕ) → Stops is_bar z → scan es.back 0 (124 ∷ z) ≡ found Pipe 0 1 (124 ∷ []) z
  unfolding lexer
  bar-from [] s = refl
  bar-from (b ∷ z) s = rw s

  pub bar : Stands es (Stops is_bar) Pipe (bytes "|")
  bar = stands es (Stops is_bar) Pipe (bytes "|") bar-from

  -- `>` or `>>`, by what is behind it
  greater-from : (z : List ℕ) → Stops lengthens z → scan es.back 0 (62 ∷ z) ≡ found Greater 0 1 (62 ∷ []) z
  unfolding lexer
  greater-from [] s = refl
  greater-from (b ∷ z) s = rw (or_left (eqb b 61) (eqb b 62) s, or_right (eqb b 61) (eqb b 62) s)

  shift : Stands es Always GreaterGreater (bytes ">>")
  unfolding lexer
  shift = stands es Always GreaterGreater (bytes ">>") λ z s. refl

  pub greater : (P : Lexeme → Type 0) (u : Source) (z : List ℕ) → Near es u (62 ∷ z) → Stops is_equal z → ((t : Lexeme) → Word es Greater (bytes ">") z t → P t)
      → ((y : List ℕ) (t : Lexeme) → z ≡ 62 ∷ y → Word es GreaterGreater (bytes ">>") y t → P t) → Met P (lex u)
  greater P u [] n s f g = met-map f (stands es (Stops lengthens) Greater (bytes ">") greater-from u [] n tt)
  greater P u (b ∷ z) n s f g = go (eqb b 62) refl
    where
      go : (c : Bool) → eqb b 62 ≡ c → Met P (lex u)
      go true e =
          let d : b ≡ 62 = eqb-true b 62 e in
          met-map (λ t. g z t (ap (λ (a : ℕ). a ∷ z) d)) (shift u z (subst (λ (a : ℕ). Near es u (62 ∷ a ∷ z)) d n) tt)
      go false e = met-map f (stands es (Stops lengthens) Greater (bytes ">") greater-from u (b ∷ z) n (rw (s, e)))

-- what ends an item: no byte that goes on with its last word or with a closing `>`, and behind it no token that goes on with the item
pub record Ends (es : Editions) (f : ℕ → Bool) (z : List ℕ) : Type 0 where
  pub stops : Stops extends z
  pub no_equal : Stops is_equal z
  pub after : (u : Source) → Rest es u z → Met (λ (t : Lexeme). f t.kind ≡ false) (lex u)

module _ (es : Editions) (f : ℕ → Bool) where
  other-kind : {k : ℕ} {w z : List ℕ} → f k ≡ false → (t : Lexeme) → Word es k w z t → f t.kind ≡ false
  other-kind h t i = ap f i.kind ∙ h

  -- a mark that does not go on, at once or behind a blank
  pub ends : {S : List ℕ → Type 0} {k : ℕ} {w : List ℕ} → Stands es S k w → (y z : List ℕ) → S y → f k ≡ false → Stops extends z → Stops is_equal z → ((u : Source) → Rest es u z → Near es u (w ++ y)) → Ends es f z
  ends m y z s h i j n = record { stops = i; no_equal = j; after = λ u e. met-map (other-kind h) (m u y (n u e) s) }

  pub ends-greater : f Greater ≡ false → f GreaterGreater ≡ false → (z : List ℕ) → Stops is_equal z → Ends es f (62 ∷ z)
  unfolding is_name is_letter is_digit in_range
  ends-greater h i z s = record { stops = refl; no_equal = refl; after = λ u e. greater es _ u z (at_once e) s (other-kind h) λ y t d. other-kind i t }
