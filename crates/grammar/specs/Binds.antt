-- Bindings, their fields, and the two lists of bindings.
use Rattle.std.specs.Prelude.{ℕ, zero, suc, Bool, ◌||◌, eqb}
use Rattle.words.specs.Kinds.{Identifier, LParen, RParen, Colon, ColonColon, Less, Greater, LBrace, Pipe, RBrace}
use Rattle.tokens.specs.Refusals.{TooDeep}
use Rattle.records.specs.Kinds.{RecName, RecVariable, RecStruct, RecStructTyped, RecField, RecBindList, RecLambdaBindList}
use Rattle.records.specs.Tree.{Tree, Trees, none, more, joined}
use Rattle.sources.specs.Source.{Source, Lexeme, after, lex}
use Rattle.answers.specs.Reading.{Ans, ok, no, then, look, when, leaf_of, refused_at, unexpected, Reader, list_behind}
use Rattle.grammar.specs.Names.{chain}
use Rattle.grammar.specs.Types.{levels, spanned, read_type}

-- the token behind an identifier: the binding is no variable
abbrev pub is_struct : Lexeme → Bool
is_struct t = eqb t.kind LBrace || eqb t.kind Less || eqb t.kind ColonColon

-- over the readers of a type and of a field one level deeper
module _ (type field : Reader) where
  unfoldable pub fields : Lexeme → Ans Trees
  fields t = when (eqb t.kind LBrace) (λ _. list_behind field RBrace t) λ _. unexpected t

  -- behind the name c: types in `<`, or none, and fields
  unfoldable pub struct_over : Lexeme → Tree → Source → Ans Tree
  struct_over a c u =
      look (lex u) λ o.
      when (eqb o.kind Less)
      (λ _.
      then (list_behind type Greater o) λ xs v.
      look (lex v) λ t.
      then (fields t) λ fs w.
      ok (spanned RecStructTyped a w (more c (joined xs fs))) w)
      λ _. then (fields o) λ fs v. ok (spanned RecStruct a v (more c fs)) v

  unfoldable pub unpacked : Reader
  unpacked a = then (chain a) λ c u. struct_over a c u

  -- a binding by its first token and the one behind it
  unfoldable pub bind_over : Reader
  bind_over a =
      when (eqb a.kind Identifier)
      (λ _. look (lex (after a)) λ t. when (is_struct t) (λ _. unpacked a) λ _. ok (leaf_of RecVariable a) (after a))
      λ _. unpacked a

-- a field, over the reader of its binding; without `:` it binds its own name
unfoldable pub field_over : Reader → Reader
field_over bind a =
    when (eqb a.kind Identifier)
    (λ _.
    look (lex (after a)) λ t.
    when (eqb t.kind Colon)
    (λ _. look (lex (after t)) λ b. then (bind b) λ x u. ok (spanned RecField a u (more (leaf_of RecName a) (more x none))) u)
    λ _. ok (spanned RecField a (after a) (more (leaf_of RecName a) (more (leaf_of RecVariable a) none))) (after a))
    λ _. unexpected a

-- a field's level is tested before its name is read; its binding has the same level
unfoldable pub read_field : ℕ → Reader → Reader
read_field zero bind a = no (refused_at TooDeep a)
read_field (suc n) bind a = field_over bind a

-- a binding where n levels are left, its own among them
unfoldable pub read_bind : ℕ → Reader
read_bind zero a = no (refused_at TooDeep a)
read_bind (suc n) a = bind_over (read_type n) (read_field n (read_bind n)) a

-- bindings in brackets, or one alone, over the reader of one; and those in bars
abbrev pub bind_list_over : Reader → Reader
bind_list_over bind a =
    when (eqb a.kind LParen) (λ _. then (list_behind bind RParen a) λ xs u. ok (spanned RecBindList a u xs) u) λ _.
    then (bind a) λ x u. ok (spanned RecBindList a u (more x none)) u

abbrev pub lambda_list_over : Reader → Reader
lambda_list_over bind a =
    when (eqb a.kind Pipe) (λ _. then (list_behind bind Pipe a) λ xs u. ok (spanned RecLambdaBindList a u xs) u) λ _.
    unexpected a

unfoldable pub read_bind_list : Reader
read_bind_list a = bind_list_over (read_bind levels) a

unfoldable pub read_lambda_list : Reader
read_lambda_list a = lambda_list_over (read_bind levels) a
