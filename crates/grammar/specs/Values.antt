-- Values: addresses, numbers, truth values and strings.
use Rattle.std.specs.Prelude.{ℕ, cond, ◌&&◌, ◌||◌, eqb, get_or}
use Rattle.words.specs.Kinds.{NumValue, NumTypedValue, ByteStringValue, ColonColon, False, True, AtSign}
use Rattle.tokens.specs.Refusals.{NoValue}
use Rattle.records.specs.Kinds.{RecAddressValue, RecNumber, RecTrue, RecFalse, RecHexString, RecByteString}
use Rattle.records.specs.Tree.{node, none, more}
use Rattle.sources.specs.Source.{Lexeme, start, end, word, after, lex}
use Rattle.answers.specs.Reading.{ok, no, look, when, leaf_of, refused_at, unexpected, Reader}
use Rattle.grammar.specs.Names.{is_first, first_part}

-- the record of a token that is a value by itself: its kind, by the token's and its first byte, or 0 for any other token
unfoldable pub leaf_kind : ℕ → ℕ → ℕ
leaf_kind k b =
    cond (eqb k True) RecTrue
    (cond (eqb k False) RecFalse
    (cond (eqb k NumValue || eqb k NumTypedValue) RecNumber
    (cond (eqb k ByteStringValue) (cond (eqb b 120) RecHexString RecByteString) 0)))

abbrev pub value_kind : Lexeme → ℕ
value_kind t = leaf_kind t.kind (get_or (word t) 0 0)

-- such a value; a number before `::` is none
unfoldable pub leaf_value : Reader
leaf_value t =
    look (lex (after t)) λ d.
    when (eqb t.kind NumValue && eqb d.kind ColonColon) (λ _. no (refused_at NoValue t)) λ _.
    ok (leaf_of (value_kind t) t) (after t)

-- an address behind its `@`
unfoldable pub address_value : Reader
address_value t =
    look (lex (after t)) λ a.
    when (is_first a) (λ _. ok (node RecAddressValue (start t) (end a) (more (first_part a) none)) (after a)) λ _.
    unexpected a

unfoldable pub value : Reader
value t =
    when (eqb t.kind AtSign) (λ _. address_value t) λ _.
    when (eqb (value_kind t) 0) (λ _. no (refused_at NoValue t)) λ _.
    leaf_value t
