-- Types, by recursion over the levels that are left.
use Rattle.std.specs.Prelude.{ℕ, zero, suc, [], eqb}
use Rattle.words.specs.Kinds.{Amp, AmpMut, LParen, RParen, Less, Greater, Pipe}
use Rattle.tokens.specs.Refusals.{TooDeep}
use Rattle.records.specs.Kinds.{RecType, RecRef, RecRefMut, RecFunction, RecUnit, RecTuple, RecBrackets}
use Rattle.records.specs.Tree.{Tree, leaf, node, Trees, none, more, behind}
use Rattle.sources.specs.Source.{Source, Lexeme, start, after, lex}
use Rattle.answers.specs.Reading.{Ans, ok, no, then, look, when, refused_at, Reader, list_behind}
use Rattle.grammar.specs.Names.{chain}

-- the most levels
abbrev pub levels : ℕ
levels = 64

-- a record of kind c from the token a to where reading goes on
abbrev pub spanned : ℕ → Lexeme → Source → Trees → Tree
spanned c a u ts = node c (start a) u.at ts

-- brackets round none, one or more
unfoldable pub bracketed : Lexeme → Source → Trees → Tree
bracketed a u none = leaf RecUnit (start a) u.at []
bracketed a u (more x none) = spanned RecBrackets a u (more x none)
bracketed a u (more x (more y xs)) = spanned RecTuple a u (more x (more y xs))

-- over the reader of a type one level deeper
module _ (item : Reader) where
  unfoldable pub brackets : Reader
  brackets a = then (list_behind item RParen a) λ xs u. ok (bracketed a u xs) u

  unfoldable pub reference : ℕ → Reader
  reference c a = look (lex (after a)) λ b. then (item b) λ x u. ok (spanned c a u (more x none)) u

  -- the arguments, and the result last
  unfoldable pub function : Reader
  function a =
      then (list_behind item Pipe a) λ xs u.
      look (lex u) λ b.
      then (item b) λ x v.
      ok (spanned RecFunction a v (behind xs x)) v

  -- behind the name c
  unfoldable pub with_arguments : Lexeme → Tree → Source → Ans Tree
  with_arguments a c u =
      look (lex u) λ o.
      when (eqb o.kind Less) (λ _. then (list_behind item Greater o) λ xs v. ok (spanned RecType a v (more c xs)) v) λ _.
      ok (spanned RecType a u (more c none)) u

  unfoldable pub named : Reader
  named a = then (chain a) λ c u. with_arguments a c u

  -- a type by its first token, over the reader of brackets
  abbrev pub type_by : Reader → Reader
  type_by in_brackets a =
      when (eqb a.kind LParen) (λ _. in_brackets a) λ _.
      when (eqb a.kind Amp) (λ _. reference RecRef a) λ _.
      when (eqb a.kind AmpMut) (λ _. reference RecRefMut a) λ _.
      when (eqb a.kind Pipe) (λ _. function a) λ _.
      named a

  unfoldable pub type_over : Reader
  type_over a = type_by brackets a

-- a type where n levels are left, its own among them
unfoldable pub read_type : ℕ → Reader
read_type zero a = no (refused_at TooDeep a)
read_type (suc n) a = type_over (read_type n) a
