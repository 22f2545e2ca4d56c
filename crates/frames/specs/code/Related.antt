-- Two answers of reading that are related. A frame says how: when two sources, two tokens and two refusals are related, and when what was
-- read is, by its sort, from where it was read and where reading goes on. What the grammar's records are made of is a table, `Rule`;
-- a frame satisfies one law for each sort of part, and one for a record over its parts.
use Rattle.std.specs.Prelude.{◌≡◌, true, false, cond, ◌||◌, List, [], ◌∷◌, ℕ, suc, ◌<◌, ◌≤◌, eqb, length}
use Rattle.words.specs.Kinds.{EOF, Identifier, Comma, Colon, ColonColon, AtSign, Amp, AmpMut, LParen, RParen, Less, Greater, Pipe, LBrace, RBrace, GreaterEqual, GreaterGreater}
use Rattle.tokens.specs.declared.Refusal.{Refusal}
use Rattle.records.specs.Kinds.{RecName, RecAddress, RecOnePart, RecTwoPart, RecThreePart, RecPair, RecType, RecRef, RecRefMut, RecFunction, RecVariable, RecStruct, RecStructTyped, RecField, RecBindList, RecLambdaBindList, RecAddressValue}
use Rattle.records.specs.Tree.{Tree, Trees, none, more, behind, joined}
use Rattle.sources.specs.Source.{Source, Lexeme, start, word, after, split, LexResult, tok, bad, lex}
use Rattle.answers.specs.Reading.{Ans, ok, no, leaf_of, refused_at, refused_before, Reader}
use Rattle.grammar.specs.Names.{is_first, colons_due}
use Rattle.grammar.specs.Values.{value_kind}
use Rattle.grammar.specs.Types.{levels, spanned, bracketed}

-- what is read; a type, a field or a binding with so many levels left
pub data Sort : Type 0 where
  a_name : Sort
  a_pair : Sort
  a_value : Sort
  a_type : ℕ → Sort
  a_field : ℕ → Sort
  a_bind : ℕ → Sort
  a_bind_list : Sort
  a_lambda_list : Sort

-- the leaves that are names or parts of names: the kind of each by its token, and the tokens that it is made of
pub data Role : Type 0 where
  name : Role
  first : Role
  one_part : Role
  variable : Role

abbrev pub kind_of : Role → Lexeme → ℕ
kind_of name t = RecName
kind_of first t = cond (eqb t.kind Identifier) RecName RecAddress
kind_of one_part t = RecOnePart
kind_of variable t = RecVariable

abbrev pub Fits : Role → Lexeme → Type 0
Fits name t = eqb t.kind Identifier ≡ true
Fits first t = is_first t ≡ true
Fits one_part t = eqb t.kind Identifier ≡ true
Fits variable t = eqb t.kind Identifier ≡ true

-- those that are all that is read
pub data Lone : Sort → Role → Type 0 where
  a_part : Lone a_name one_part
  a_variable : {n : ℕ} → Lone (a_bind (suc n)) variable

-- the parts of a record: a mark, which leaves nothing in the tree; a leaf; what is read of a sort; the items of a list with the mark that
-- closes it
pub data Part : Type 0 where
  mark : ℕ → Part
  leaf : Role → Part
  one : Sort → Part
  many : Sort → ℕ → Part

-- parts in the order of the text: one more behind those before it. What is read last comes first in the list, so that a walk over the
-- parts takes that one off
infixl 5 ◌▸◌
abbrev pub ◌▸◌ : List Part → Part → List Part
r ▸ p = p ∷ r

-- 01's list of records, "Stored tree", one row for each way to write a record that has children: what is read, the record's kind, and what
-- stands in the text, from left to right. Its children are what the parts leave in the tree: marks leave nothing, `many` leaves its items.
-- A type, a field or a binding has one level less left for what stands inside it. The leaves are not in the table: 1, 2, 3 and 20 are
-- those of `Role`, 31 to 35 are values of one token (`Literal`); nor are brackets round types, 14 and 15, which their number decides
-- (`brackets`), and a field that binds its own name (`Short`)
pub data Rule : Sort → ℕ → List Part → Type 0 where
  -- 4 two-part (first, name): `a::b`
  two : Rule a_name RecTwoPart ([] ▸ leaf first ▸ mark ColonColon ▸ leaf name)
  -- 5 three-part (pair, name): `a::b::c`
  three : Rule a_name RecThreePart ([] ▸ one a_pair ▸ mark ColonColon ▸ leaf name)
  -- 6 pair (first, name): the `a::b` of `a::b::c`
  pair : Rule a_pair RecPair ([] ▸ leaf first ▸ mark ColonColon ▸ leaf name)
  -- 10 type (chain, arguments): `T`, and `T<a, b>`
  plain : {n : ℕ} → Rule (a_type (suc n)) RecType ([] ▸ one a_name)
  applied : {n : ℕ} → Rule (a_type (suc n)) RecType ([] ▸ one a_name ▸ mark Less ▸ many (a_type n) Greater)
  -- 11 `&` (one type), 12 `&mut` (one type)
  shared : {n : ℕ} → Rule (a_type (suc n)) RecRef ([] ▸ mark Amp ▸ one (a_type n))
  mutable : {n : ℕ} → Rule (a_type (suc n)) RecRefMut ([] ▸ mark AmpMut ▸ one (a_type n))
  -- 13 function (arguments, result last): `|a, b| r`
  function : {n : ℕ} → Rule (a_type (suc n)) RecFunction ([] ▸ mark Pipe ▸ many (a_type n) Pipe ▸ one (a_type n))
  -- 21 struct without `<` (chain, fields): `S {f: x}`
  struct : {n : ℕ} → Rule (a_bind (suc n)) RecStruct ([] ▸ one a_name ▸ mark LBrace ▸ many (a_field n) RBrace)
  -- 22 struct with `<` (chain, types, fields): `S<u8> {f: x}`
  typed : {n : ℕ} → Rule (a_bind (suc n)) RecStructTyped ([] ▸ one a_name ▸ mark Less ▸ many (a_type n) Greater ▸ mark LBrace ▸ many (a_field n) RBrace)
  -- 24 field (name, binding): `f: x`; its binding has as many levels as the field
  field : {n : ℕ} → Rule (a_field (suc n)) RecField ([] ▸ leaf name ▸ mark Colon ▸ one (a_bind (suc n)))
  -- 25 binding list (bindings): `(x, y)`, and one binding alone
  several : Rule a_bind_list RecBindList ([] ▸ mark LParen ▸ many (a_bind levels) RParen)
  alone : Rule a_bind_list RecBindList ([] ▸ one (a_bind levels))
  -- 26 lambda list (bindings): `|x, y|`
  lambda : Rule a_lambda_list RecLambdaBindList ([] ▸ mark Pipe ▸ many (a_bind levels) Pipe)
  -- 30 address value (first): `@a`
  address : Rule a_value RecAddressValue ([] ▸ mark AtSign ▸ leaf first)

-- what is chosen. `tree s a a₂ u u₂`: read from the tokens a and a₂ on, up to the sources u and u₂; `row r a a₂ u u₂`: so far the parts r of a
-- record; `items s close u u₂ v v₂`: of a list, from u and u₂ up to v and v₂, behind the mark that closes it. `wrap`: what the readers on the
-- right make of brackets. `quits`: a refusal on the left that is related to any answer on the right
pub record Frame : Type 1 where
  pub source : Source → Source → Type 0
  pub token : Lexeme → Lexeme → Type 0
  pub refusal : Refusal → Refusal → Type 0
  pub quits : Refusal → Type 0
  pub wrap : Lexeme → Source → Trees → Tree
  pub tree : Sort → (a a₂ : Lexeme) (u u₂ : Source) → Tree → Tree → Type 0
  pub row : List Part → (a a₂ : Lexeme) (u u₂ : Source) → Trees → Trees → Type 0
  pub items : Sort → (close : ℕ) (u u₂ v v₂ : Source) → Trees → Trees → Type 0

-- readers go on behind tokens of every kind but these three: EOF, `>=`, and `>>`, which is split
abbrev pub Goes : ℕ → Type 0
Goes k = (eqb k EOF || eqb k GreaterEqual || eqb k GreaterGreater) ≡ false

-- related tokens; that stand in two sources, or at their beginning; and are of a kind that a test named
pub record Step (F : Frame) (t t₂ : Lexeme) : Type 0 where
  pub kind : t.kind ≡ t₂.kind
  pub spelled : word t ≡ word t₂
  pub good : F.token t t₂
  pub on : (Goes t.kind → F.source (after t) (after t₂))
  pub half : (t.kind ≡ GreaterGreater → F.source (split t) (split t₂))

pub record At (F : Frame) (u u₂ : Source) (t t₂ : Lexeme) : Type 0 where
  pub step : Step F t t₂
  pub from : u.at ≤ start t
  pub from₂ : u₂.at ≤ start t₂

pub record Mark (F : Frame) (k : ℕ) (u u₂ : Source) (t t₂ : Lexeme) : Type 0 where
  pub here : At F u u₂ t t₂
  pub is : eqb t.kind k ≡ true
  pub goes : Goes t.kind

pub data Met (F : Frame) : LexResult → LexResult → Type 0 where
  toks : {t t₂ : Lexeme} → Step F t t₂ → Met F (tok t) (tok t₂)
  bads : {r r₂ : Refusal} → F.refusal r r₂ → Met F (bad r) (bad r₂)

-- answers: sources with at most so many bytes left on either side, since reading never goes back
abbrev pub left : Source → ℕ
left u = length u.rest

pub record On (F : Frame) (m m₂ : ℕ) (u u₂ : Source) : Type 0 where
  pub good : F.source u u₂
  pub few : left u ≤ m
  pub few₂ : left u₂ ≤ m₂

pub data Rel (F : Frame) (m m₂ : ℕ) {A B : Type 0} (Y : Source → Source → A → B → Type 0) : Ans A → Ans B → Type 0 where
  oks : {a : A} {b : B} {u u₂ : Source} → Y u u₂ a b → On F m m₂ u u₂ → Rel F m m₂ Y (ok a u) (ok b u₂)
  nos : {r r₂ : Refusal} → F.refusal r r₂ → Rel F m m₂ Y (no r) (no r₂)
  quit : {r : Refusal} {b : Ans B} → F.quits r → Rel F m m₂ Y (no r) b

pub record Near (F : Frame) (m m₂ : ℕ) (t t₂ : Lexeme) : Type 0 where
  pub step : Step F t t₂
  pub few : left t.here ≤ m
  pub few₂ : left t₂.here ≤ m₂

abbrev pub RelReader : Frame → Sort → (item item₂ : Reader) → Type 0
RelReader F s item item₂ = (m m₂ : ℕ) (t t₂ : Lexeme) → Near F m m₂ t t₂ → Rel F m m₂ (F.tree s t t₂) (item t) (item₂ t₂)

-- what the first token of a record is, by its first part
abbrev pub Starts : List Part → Lexeme → Type 0
Starts [] a = Unit {0}
Starts (p ∷ q ∷ r) a = Starts (q ∷ r) a
Starts (mark k ∷ []) a = eqb a.kind k ≡ true
Starts (leaf l ∷ []) a = Fits l a
Starts (one s ∷ []) a = Unit {0}
Starts (many s c ∷ []) a = Unit {0}

-- what a frame must satisfy: of the lexer and of refusals; of the parts of a record, none and one more of each sort; of the items of a
-- list, none, the last, and one with a comma and others behind it, where reading goes on in w, behind the token that closes or behind the
-- first byte of it; and of what is read: a leaf that is all of it, a record over its parts, and brackets, which are one of three records
pub record Lawful (F : Frame) : Type 0 where
  pub next : (u u₂ : Source) → F.source u u₂ → Met F (lex u) (lex u₂)
  pub refused_at : (n : ℕ) (t t₂ : Lexeme) → 10 ≤ n → n ≤ 14 → Step F t t₂ → F.refusal (refused_at n t) (refused_at n t₂)
  pub refused_before : (n : ℕ) (t t₂ o o₂ : Lexeme) → 10 ≤ n → n ≤ 14 → Step F t t₂ → Step F o o₂ → F.refusal (refused_before n t o) (refused_before n t₂ o₂)
  pub colons_due : (t t₂ a a₂ : Lexeme) → Step F t t₂ → Step F a a₂ → F.refusal (colons_due t a) (colons_due t₂ a₂)
  pub begin : {a a₂ : Lexeme} → Step F a a₂ → F.row [] a a₂ a.here a₂.here none none
  pub mark : {r : List Part} {a a₂ t t₂ : Lexeme} {u u₂ : Source} {xs ys : Trees} (k : ℕ) → F.row r a a₂ u u₂ xs ys → Mark F k u u₂ t t₂ → F.row (mark k ∷ r) a a₂ (after t) (after t₂) xs ys
  pub leaf : {r : List Part} {a a₂ t t₂ : Lexeme} {u u₂ : Source} {xs ys : Trees} (l : Role) → F.row r a a₂ u u₂ xs ys → At F u u₂ t t₂ → Fits l t
      → F.row (leaf l ∷ r) a a₂ (after t) (after t₂) (behind xs (leaf_of (kind_of l t) t)) (behind ys (leaf_of (kind_of l t₂) t₂))
  pub one : {r : List Part} {a a₂ t t₂ : Lexeme} {u u₂ v v₂ : Source} {xs ys : Trees} {x y : Tree} (s : Sort) → F.row r a a₂ u u₂ xs ys → At F u u₂ t t₂ → F.tree s t t₂ v v₂ x y
      → F.row (one s ∷ r) a a₂ v v₂ (behind xs x) (behind ys y)
  pub many : {r : List Part} {a a₂ : Lexeme} {u u₂ v v₂ : Source} {xs ys ts us : Trees} (s : Sort) (close : ℕ) → F.row r a a₂ u u₂ xs ys → F.items s close u u₂ v v₂ ts us
      → F.row (many s close ∷ r) a a₂ v v₂ (joined xs ts) (joined ys us)
  pub empty : {u u₂ w w₂ : Source} {t t₂ : Lexeme} (s : Sort) (close : ℕ) → At F u u₂ t t₂ → F.source w w₂ → start t < w.at → F.items s close u u₂ w w₂ none none
  pub last : {u u₂ v v₂ w w₂ : Source} {t t₂ c c₂ : Lexeme} {x y : Tree} (s : Sort) (close : ℕ) → At F u u₂ t t₂ → eqb t.kind close ≡ false → F.tree s t t₂ v v₂ x y → At F v v₂ c c₂ → F.source w w₂ → start c < w.at
      → F.items s close u u₂ w w₂ (more x none) (more y none)
  pub more : {u u₂ v v₂ w w₂ : Source} {t t₂ c c₂ : Lexeme} {x y : Tree} {xs ys : Trees} (s : Sort) (close : ℕ) → At F u u₂ t t₂ → eqb t.kind close ≡ false → F.tree s t t₂ v v₂ x y → Mark F Comma v v₂ c c₂
      → F.items s close (after c) (after c₂) w w₂ xs ys → F.items s close u u₂ w w₂ (more x xs) (more y ys)
  pub lone : {a a₂ : Lexeme} (s : Sort) (l : Role) → Lone s l → Step F a a₂ → Fits l a → F.source (after a) (after a₂) → F.tree s a a₂ (after a) (after a₂) (leaf_of (kind_of l a) a) (leaf_of (kind_of l a₂) a₂)
  pub made : {a a₂ : Lexeme} {u u₂ : Source} {xs ys : Trees} (s : Sort) (c : ℕ) (r : List Part) → Rule s c r → Step F a a₂ → Starts r a → F.row r a a₂ u u₂ xs ys → F.source u u₂
      → F.tree s a a₂ u u₂ (spanned c a u xs) (spanned c a₂ u₂ ys)
  pub brackets : {a a₂ : Lexeme} {u u₂ : Source} {xs ys : Trees} (n : ℕ) → Step F a a₂ → eqb a.kind LParen ≡ true → F.items (a_type n) RParen (after a) (after a₂) u u₂ xs ys → F.source u u₂
      → F.tree (a_type (suc n)) a a₂ u u₂ (bracketed a u xs) (F.wrap a₂ u₂ ys)

-- where values are read, of those that are one token; and where bindings are, of a field that binds its own name
abbrev pub Literal : Frame → Type 0
Literal F = (a a₂ : Lexeme) → Step F a a₂ → eqb (value_kind a) 0 ≡ false → F.source (after a) (after a₂) → F.tree a_value a a₂ (after a) (after a₂) (leaf_of (value_kind a) a) (leaf_of (value_kind a₂) a₂)

abbrev pub Short : Frame → Type 0
Short F =
    (n : ℕ) (a a₂ : Lexeme) → Step F a a₂ → eqb a.kind Identifier ≡ true → F.source (after a) (after a₂)
    → F.tree (a_field (suc n)) a a₂ (after a) (after a₂) (spanned RecField a (after a) (more (leaf_of RecName a) (more (leaf_of RecVariable a) none))) (spanned RecField a₂ (after a₂) (more (leaf_of RecName a₂) (more (leaf_of RecVariable a₂) none)))
