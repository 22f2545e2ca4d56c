-- What reading answers, and the ways in which readers are put together.
use Rattle.std.specs.Prelude.{ℕ, zero, suc, Bool, true, false, ◌&&◌, eqb, length}
use Rattle.words.specs.Kinds.{Comma, Greater, GreaterGreater}
use Rattle.tokens.specs.Refusals.{UnexpectedToken, CommaForItem, ListNotClosed}
use Rattle.tokens.specs.Answers.{place, refusal}
use Rattle.tokens.specs.declared.Refusal.{Refusal}
use Rattle.records.specs.Tree.{Tree, leaf, Trees, none, more}
use Rattle.sources.specs.Source.{Source, Lexeme, start, end, word, after, split, LexResult, tok, bad, lex}

-- what was read, and the source behind its last token; or a refusal
pub data Ans (A : Type 0) : Type 0 where
  ok : A → Source → Ans A
  no : Refusal → Ans A

-- go on after an answer
unfoldable pub then : {A B : Type 0} → Ans A → (A → Source → Ans B) → Ans B
then (ok a u) f = f a u
then (no r) f = no r

-- look at a token
unfoldable pub look : {B : Type 0} → LexResult → (Lexeme → Ans B) → Ans B
look (tok t) f = f t
look (bad r) f = no r

-- choose by a test; what is not chosen is not computed
unfoldable pub when : {A : Type 0} → Bool → (Unit {0} → A) → (Unit {0} → A) → A
when true f g = f tt
when false f g = g tt

-- try to close a list with the token t, and go on behind it: a `>` closes, and so does the first byte of `>>`
unfoldable pub closed : {B : Type 0} → ℕ → Lexeme → (Source → Ans B) → (Unit {0} → Ans B) → Ans B
closed close t f g =
    when (eqb t.kind close) (λ _. f (after t)) λ _.
    when (eqb close Greater && eqb t.kind GreaterGreater) (λ _. f (split t)) g

-- the record of a token that is a leaf of kind c
abbrev pub leaf_of : ℕ → Lexeme → Tree
leaf_of c t = leaf c (start t) (end t) (word t)

-- a refusal at a token; where it starts, with a second place where another starts; and 10
abbrev pub refused_at : ℕ → Lexeme → Refusal
refused_at n t = refusal n (start t) (end t)

abbrev pub refused_before : ℕ → Lexeme → Lexeme → Refusal
refused_before n t o = record { number = n; place = place (start t) (start t); second = place (start o) (start o) }

abbrev pub unexpected : {A : Type 0} → Lexeme → Ans A
unexpected t = no (refused_at UnexpectedToken t)

-- a reader takes the first token of what it reads
abbrev pub Reader : Type 0
Reader = Lexeme → Ans Tree

-- a comma list that the token o opens, from the next token on. f bounds the items: every item takes a byte, so that the bytes left
-- are enough
unfoldable pub list : Reader → ℕ → Lexeme → ℕ → LexResult → Ans Trees
list item close o zero l = no (refused_before ListNotClosed o o)
list item close o (suc f) l =
    look l λ t.
    closed close t (λ u. ok none u) λ _.
    when (eqb t.kind Comma) (λ _. no (refused_before CommaForItem t t)) λ _.
    then (item t) λ x u.
    look (lex u) λ t.
    closed close t (λ v. ok (more x none) v) λ _.
    when (eqb t.kind Comma) (λ _. then (list item close o f (lex (after t))) λ xs v. ok (more x xs) v) λ _.
    no (refused_before ListNotClosed t o)

unfoldable pub list_behind : Reader → ℕ → Lexeme → Ans Trees
list_behind item close o = list item close o (suc (length (after o).rest)) (lex (after o))
