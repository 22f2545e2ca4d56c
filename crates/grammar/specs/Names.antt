-- Names: `a`, `a::b` or `a::b::c`; the first part may be a number, and then needs `::`.
use Rattle.std.specs.Prelude.{ℕ, Bool, cond, ◌||◌, eqb}
use Rattle.words.specs.Kinds.{NumValue, Identifier, ColonColon}
use Rattle.tokens.specs.Refusals.{UnexpectedToken}
use Rattle.tokens.specs.Answers.{place}
use Rattle.tokens.specs.declared.Refusal.{Refusal}
use Rattle.records.specs.Kinds.{RecName, RecAddress, RecOnePart, RecTwoPart, RecThreePart, RecPair}
use Rattle.records.specs.Tree.{Tree, node, none, more}
use Rattle.sources.specs.Source.{Lexeme, start, end, after, lex}
use Rattle.answers.specs.Reading.{Ans, ok, no, look, when, leaf_of, unexpected, Reader}

abbrev pub is_first : Lexeme → Bool
is_first t = eqb t.kind Identifier || eqb t.kind NumValue

-- a first part: a name or an address, by its token
abbrev pub first_part : Lexeme → Tree
first_part t = leaf_of (cond (eqb t.kind Identifier) RecName RecAddress) t

-- the first two parts, as a record of kind c
abbrev pub pair_of : ℕ → Lexeme → Lexeme → Tree
pair_of c a b = node c (start a) (end b) (more (first_part a) (more (leaf_of RecName b) none))

abbrev pub three_of : Lexeme → Lexeme → Lexeme → Tree
three_of a b c = node RecThreePart (start a) (end c) (more (pair_of RecPair a b) (more (leaf_of RecName c) none))

-- `::` was due at t, behind the number a
abbrev pub colons_due : Lexeme → Lexeme → Refusal
colons_due t a = record { number = UnexpectedToken; place = place (start t) (end t); second = place (start a) (end a) }

-- behind the second `::`, which is d
unfoldable pub last_part : Lexeme → Lexeme → Lexeme → Ans Tree
last_part a b d =
    look (lex (after d)) λ c.
    when (eqb c.kind Identifier) (λ _. ok (three_of a b c) (after c)) λ _.
    unexpected c

-- behind the second part b: a third, or the end
unfoldable pub third_part : Lexeme → Lexeme → Ans Tree
third_part a b =
    look (lex (after b)) λ d.
    when (eqb d.kind ColonColon) (λ _. last_part a b d) λ _.
    ok (pair_of RecTwoPart a b) (after b)

-- behind the first `::`, which is d
unfoldable pub second_part : Lexeme → Lexeme → Ans Tree
second_part a d =
    look (lex (after d)) λ b.
    when (eqb b.kind Identifier) (λ _. third_part a b) λ _.
    unexpected b

-- a name
unfoldable pub chain : Reader
chain a =
    when (is_first a) (λ _.
    look (lex (after a)) λ d.
    when (eqb d.kind ColonColon) (λ _. second_part a d) λ _.
    when (eqb a.kind Identifier) (λ _. ok (leaf_of RecOnePart a) (after a)) λ _.
    no (colons_due d a)) λ _.
    unexpected a
