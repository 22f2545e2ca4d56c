-- The five kinds of items, read at an offset of a text in an edition.
use Rattle.std.specs.Prelude.{ℕ, Bool, ◌||◌, List, eqb, ltb, Result, ⊤}
use Rattle.tokens.specs.Refusals.{NoSuchKind}
use Rattle.tokens.specs.Calls.{fault_if, ◌or_else◌, place_fault, edition_fault, unless}
use Rattle.tokens.specs.declared.Refusal.{Refusal}
use Rattle.starts.specs.Beginning.{start_fault}
use Rattle.records.specs.Tree.{Tree}
use Rattle.sources.specs.Source.{opened, Lexeme, LexResult, tok, bad, lex}
use Rattle.answers.specs.Reading.{Ans, ok, no, look, when, Reader}
use Rattle.grammar.specs.Names.{chain}
use Rattle.grammar.specs.Values.{value}
use Rattle.grammar.specs.Types.{levels, read_type}
use Rattle.grammar.specs.Binds.{read_bind_list, read_lambda_list}

-- an item's tree and the token that follows it, already read; or a refusal
pub data Item : Type 0 where
  item : Tree → Lexeme → Item
  refused : Refusal → Item

-- 1 name, 2 value, 3 type, 4 binding list, 5 lambda binding list; over the readers of the last three
abbrev pub kind_over : (type binds lambda_binds : Reader) → ℕ → Reader
kind_over type binds lambda_binds kind a =
    when (eqb kind 1) (λ _. chain a) λ _.
    when (eqb kind 2) (λ _. value a) λ _.
    when (eqb kind 3) (λ _. type a) λ _.
    when (eqb kind 4) (λ _. binds a) λ _.
    lambda_binds a

unfoldable pub read_kind : ℕ → Reader
read_kind kind a = kind_over (read_type levels) read_bind_list read_lambda_list kind a

unfoldable pub followed : Tree → LexResult → Item
followed x (tok t) = item x t
followed x (bad r) = refused r

unfoldable pub finished : Ans Tree → Item
finished (ok x u) = followed x (lex u)
finished (no r) = refused r

-- what a read or a display is asked: an item kind, an edition, a text and a start offset
pub record Asked : Type 0 where
  pub kind : ℕ
  pub edition : ℕ
  pub text : List ℕ
  pub at : ℕ

abbrev pub asked : (kind edition : ℕ) (text : List ℕ) (at : ℕ) → Asked
asked kind ed text at = record { kind = kind; edition = ed; text = text; at = at }

-- a number that is no kind of item
abbrev pub no_kind : ℕ → Bool
no_kind kind = eqb kind 0 || ltb 5 kind

-- what is wrong with it before the text is looked at: refusals 1, 2, 3 and 19, in this order
unfoldable pub number_fault : Asked → Result ⊤ Refusal
number_fault q = place_fault q.text q.at or_else fault_if (no_kind q.kind) NoSuchKind or_else edition_fault q.edition

-- and before the item is: then, where reading may not begin at the offset, 21 or the refusal of what starts before it
unfoldable pub fault_of : Asked → Result ⊤ Refusal
fault_of q = number_fault q or_else start_fault q.edition q.text q.at

-- what is read from the offset on, by a reader for each kind
abbrev pub reading_over : (ℕ → Reader) → Asked → Ans Tree
reading_over one q = look (lex (opened q.edition q.text q.at)) (one q.kind)

abbrev pub reading : Asked → Ans Tree
reading q = reading_over read_kind q

-- the item that is asked for: the refusal of a fault, and otherwise what the text has
unfoldable pub read_item : Asked → Item
read_item q = unless refused (fault_of q) (finished (reading q))
