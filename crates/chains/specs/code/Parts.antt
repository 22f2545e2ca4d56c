-- The parts of a name by their tokens, and what they make.
use Rattle.std.specs.Prelude.{ℕ, ◌≤◌, ◌≡◌, Bool, true, cond, ◌||◌, List, ◌++◌, eqb, Result, Ok, Err, Option, Some, None}
use Rattle.classes.specs.Bytes.{bytes}
use Rattle.words.specs.Kinds.{Identifier, NumValue}
use Rattle.tokens.specs.Refusals.{UnexpectedToken}
use Rattle.tokens.specs.Answers.{place}
use Rattle.tokens.specs.Calls.{next_token}
use Rattle.tokens.specs.declared.Token.{Token}
use Rattle.records.specs.Kinds.{RecName, RecAddress, RecThreePart, RecPair, RecAddressValue}
use Rattle.records.specs.Tree.{Tree, leaf, node, none, more}
use Rattle.sources.specs.Source.{Lexeme}
use Rattle.answers.specs.Reading.{Reader}
use Rattle.forms.specs.Forms.{laid}
use Rattle.forms.specs.code.Constructs.{mark_in, headed}
use Rattle.forms.specs.code.Spots.{word_of}
use Rattle.forms.specs.declared.Spot.{Spot}
use Rattle.parts.specs.declared.Way.{Way}
use Rattle.parts.specs.code.Meets.{Fits, held, Contract, Reads}
use Rattle.parts.specs.declared.Part.{Part}
use Rattle.tokens.specs.declared.Refusal.{Refusal}

-- the kind of a record, 0 being none
abbrev pub some_kind : ℕ → Option ℕ
some_kind n = cond (eqb n 0) None (Some n)

abbrev pub leaf_at : ℕ → List ℕ → Token → Tree
leaf_at c text a = leaf c a.start a.end (word_of text a)

abbrev pub first_at : List ℕ → Token → Tree
first_at text a = leaf_at (cond (eqb a.kind Identifier) RecName RecAddress) text a

abbrev pub pair_at : ℕ → List ℕ → Token → Token → Tree
pair_at k text a b = node k a.start b.end (more (first_at text a) (more (leaf_at RecName text b) none))

abbrev pub three_at : List ℕ → Token → Token → Token → Tree
three_at text a b c = node RecThreePart a.start c.end (more (pair_at RecPair text a b) (more (leaf_at RecName text c) none))

abbrev pub address_at : List ℕ → Token → Token → Tree
address_at text a b = node RecAddressValue a.start b.end (more (first_at text b) none)

-- two parts as a record of kind k
abbrev pub pair_bytes : ℕ → ℕ → List ℕ → Token → Token → List ℕ
pair_bytes f k text a b = headed f k a.start b.end (laid f (first_at text a) ++ (mark_in f (bytes "::") ++ laid f (leaf_at RecName text b)))

-- `::` was due at n, behind the number a
abbrev pub due_at : Token → Token → Result Part Refusal
due_at n a = Err (record { number = UnexpectedToken; place = place n.start n.end; second = place a.start a.end })

-- whether a name may begin with this token
abbrev pub begins : Token → Bool
begins a = eqb a.kind Identifier || eqb a.kind NumValue

-- the token behind what was read ends at e or later
unfoldable pub Past : ℕ → Result Part Refusal → Type 0
Past e (Ok p) = e ≤ p.next.end
Past e (Err r) = Unit {0}

-- contracts of functions that are given two or three tokens of what the reader reads, and go on behind the last
abbrev pub Reads₂ : Way → List ℕ → (Lexeme → Reader) → Token → Token → Spot → List ℕ → Result Part Refusal → List ℕ → Type 0
Reads₂ w text reader a b s l r m = Contract (laid w.form) w.edition text (Fits text a × Fits text b) (reader (held w.edition text a) (held w.edition text b)) b.end s l r m

abbrev pub Reads₃ : Way → List ℕ → (Lexeme → Lexeme → Reader) → Token → Token → Token → Spot → List ℕ → Result Part Refusal → List ℕ → Type 0
Reads₃ w text reader a b c s l r m =
    Contract (laid w.form) w.edition text (Fits text a × Fits text b × Fits text c) (reader (held w.edition text a) (held w.edition text b) (held w.edition text c)) c.end s l r m

-- of one that is given the first token, a, and d: what the reader says, where d stands behind a and a name may begin with a
abbrev pub ReadsNamed : Way → List ℕ → Reader → Token → Token → Spot → List ℕ → Result Part Refusal → List ℕ → Type 0
ReadsNamed w text reader a d s l r m = next_token w.edition text a.end ≡ Ok d → begins a ≡ true → Reads w text reader a s l r m

-- and, whatever they are, reading does not go on before the end of d
pub record ReadsBehind (w : Way) (text : List ℕ) (reader : Reader) (a d : Token) (s : Spot) (l : List ℕ) (r : Result Part Refusal) (m : List ℕ) : Type 0 where
  pub reads : ReadsNamed w text reader a d s l r m
  pub past : Past d.end r
