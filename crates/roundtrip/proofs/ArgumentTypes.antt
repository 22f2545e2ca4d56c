-- An instance of the law: in no item, of whatever kind, does a function type stand directly among the arguments of another. A function
-- type begins with `|`, and a list that `|` closes has no item that begins so.
use mathlib.Core.Path.{◌≡◌, refl, ap, sym, subst, ◌∙◌}
use mathlib.Core.Bool.{Bool, true, false, cond, ◌&&◌, ◌||◌}
use mathlib.Core.List.{List, [], ◌∷◌}
use Prim.Native.Nat.{ℕ}
use borrow.Author.Tests.{eqb-true}
use lib.Dec.{eqb}
use lib.ListN.{get_or}
use Rattle.classes.proofs.Bools.{false-true}
use Rattle.words.specs.Kinds.{NumValue, NumTypedValue, ByteStringValue, False, True, Pipe}
use Rattle.tokens.proofs.Faults.{unless-sure, each-any}
use Rattle.records.specs.Kinds.{RecFunction, RecBrackets, RecTuple}
use Rattle.records.specs.Tree.{Tree, Trees, none, more, behind, joined, made, Builds, bnone, bmore, build, builds}
use Rattle.sources.specs.Source.{Source, Lexeme, opened, word, LexResult, tok, bad, lex}
use Rattle.answers.specs.Reading.{Ans, ok, no, look}
use Rattle.grammar.specs.Values.{leaf_kind}
use Rattle.grammar.specs.Types.{bracketed}
use Rattle.grammar.specs.Items.{Item, item, refused, fault_of, read_kind, followed, finished, read_item}
use Rattle.forms.specs.Line.{kind_of_build}
use Rattle.frames.specs.code.Related.{Sort, Role, Lone, a_part, a_variable, kind_of, Part, mark, leaf, one, many, Rule, pair, two, three, address, shared, mutable, function, plain, applied, struct, typed, field, several, alone, lambda, Starts, Frame, Lawful, Literal, Short}
use Rattle.frames.proofs.Readers.{sort_of, kind-same}
use Rattle.frames.proofs.Facts.{Facts, about, Fact, Of, reader-of, met}
use Rattle.roundtrip.specs.Arguments.{is_function, NoneBare, Bracketed, BracketedAll}
use Rattle.roundtrip.specs.Theorems.{ItemBracketed}

-- none of the builds is that of a function type
unfoldable NoFunction : Builds → Type 0
NoFunction bnone = Unit {0}
NoFunction (bmore b bs) = (is_function b ≡ false) × NoFunction bs

-- parts that are marks and lists that `|` closes; and behind such parts one more, the result
abbrev arguments : List Part → Bool
arguments [] = true
arguments (mark k ∷ r) = arguments r
arguments (leaf l ∷ r) = false
arguments (one s ∷ r) = false
arguments (many s c ∷ r) = eqb c Pipe && arguments r

abbrev Result : List Part → Builds → Type 0
Result [] bs = Unit {0}
Result (mark k ∷ r) bs = Unit {0}
Result (leaf l ∷ r) bs = Unit {0}
Result (one s ∷ r) bs = arguments r ≡ true → NoneBare bs
Result (many s c ∷ r) bs = Unit {0}

abbrev Begun : Lexeme → Tree → Type 0
Begun a x = is_function (build x) ≡ true → eqb a.kind Pipe ≡ true

abbrev facts : Facts
facts =
    record {
      source = λ u. Unit {0};
      token = λ t. Unit {0};
      refusal = λ r. Unit {0};
      tree = λ s a u x. Bracketed (build x) × Begun a x;
      row = λ r a u xs. BracketedAll (builds xs) × (arguments r ≡ true → NoFunction (builds xs)) × Result r (builds xs);
      items = λ s c u v xs. BracketedAll (builds xs) × (eqb c Pipe ≡ true → NoFunction (builds xs));
    }

abbrev F : Frame
F = about facts

token-itself : (t : Lexeme) → Fact facts t
token-itself t = record { good = tt; on = tt; half = λ _. tt }

-- one tree behind others, and others behind them
all-behind : (ts : Trees) (x : Tree) → BracketedAll (builds ts) → Bracketed (build x) → BracketedAll (builds (behind ts x))
unfolding BracketedAll behind builds
all-behind none x a h = (h, tt)
all-behind (more t ts) x a h = (a.0, all-behind ts x a.1 h)

all-joined : (ts us : Trees) → BracketedAll (builds ts) → BracketedAll (builds us) → BracketedAll (builds (joined ts us))
unfolding BracketedAll joined builds
all-joined none us a b = b
all-joined (more t ts) us a b = (a.0, all-joined ts us a.1 b)

none-joined : (ts us : Trees) → NoFunction (builds ts) → NoFunction (builds us) → NoFunction (builds (joined ts us))
unfolding NoFunction joined builds
none-joined none us a b = b
none-joined (more t ts) us a b = (a.0, none-joined ts us a.1 b)

none_bare : (ts : Trees) (x : Tree) → NoFunction (builds ts) → NoneBare (builds (behind ts x))
unfolding NoFunction NoneBare behind builds
none_bare none x a = tt
none_bare (more u none) x a = (a.0, tt)
none_bare (more u (more v ts)) x a = (a.0, none_bare (more v ts) x a.1)

and_parts : (a b : Bool) → (a && b) ≡ true → (a ≡ true) × (b ≡ true)
and_parts true true e = (refl, refl)
and_parts true false e = false-true _ e
and_parts false b e = false-true _ e

-- an item of a list that `|` closes is no function type
no_item : (close : ℕ) (t : Lexeme) (x : Tree) → eqb t.kind close ≡ false → Begun t x → eqb close Pipe ≡ true → is_function (build x) ≡ false
no_item close t x n b c = go (is_function (build x)) refl
  where
    go : (f : Bool) → is_function (build x) ≡ f → f ≡ false
    go false e = refl
    go true e = false-true _ (sym n ∙ ap (eqb t.kind) (eqb-true close Pipe c) ∙ b e)

-- a record that is no function type, and what is none begins with any token
other : (k : ℕ) (bs : Builds) → eqb k RecFunction ≡ false → BracketedAll bs → Bracketed (made k bs)
unfolding Bracketed
other k bs h a = (λ y. false-true _ (sym h ∙ y), a)

not-begun : (a : Lexeme) (b : Bool) → b ≡ false → b ≡ true → eqb a.kind Pipe ≡ true
not-begun a b h y = false-true _ (sym h ∙ y)

lone-other : {s : Sort} {l : Role} → Lone s l → (t : Lexeme) → eqb (kind_of l t) RecFunction ≡ false
lone-other a_part t = refl
lone-other a_variable t = refl

grouped : (a : Lexeme) (u : Source) (ts : Trees) → BracketedAll (builds ts) → Bracketed (build (bracketed a u ts)) × Begun a (bracketed a u ts)
unfolding bracketed build builds Bracketed BracketedAll kind_of_build
grouped a u none h = (tt, not-begun a _ refl)
grouped a u (more x none) h = (other RecBrackets _ refl h, not-begun a _ refl)
grouped a u (more x (more y ts)) h = (other RecTuple _ refl h, not-begun a _ refl)

-- a record, by the row of the table
abbrev Made : ℕ → Lexeme → Builds → Type 0
Made c a bs = ((eqb c RecFunction ≡ true → NoneBare bs) × BracketedAll bs) × (eqb c RecFunction ≡ true → eqb a.kind Pipe ≡ true)

record_of : {s : Sort} {c : ℕ} {r : List Part} (a : Lexeme) (bs : Builds) → Rule s c r → Starts r a → BracketedAll bs × (arguments r ≡ true → NoFunction bs) × Result r bs → Made c a bs
record_of a bs pair z h = ((λ y. false-true _ y, h.0), λ y. false-true _ y)
record_of a bs two z h = ((λ y. false-true _ y, h.0), λ y. false-true _ y)
record_of a bs three z h = ((λ y. false-true _ y, h.0), λ y. false-true _ y)
record_of a bs address z h = ((λ y. false-true _ y, h.0), λ y. false-true _ y)
record_of a bs shared z h = ((λ y. false-true _ y, h.0), λ y. false-true _ y)
record_of a bs mutable z h = ((λ y. false-true _ y, h.0), λ y. false-true _ y)
record_of a bs function z h = ((λ _. h.2 refl, h.0), λ _. z)
record_of a bs plain z h = ((λ y. false-true _ y, h.0), λ y. false-true _ y)
record_of a bs applied z h = ((λ y. false-true _ y, h.0), λ y. false-true _ y)
record_of a bs struct z h = ((λ y. false-true _ y, h.0), λ y. false-true _ y)
record_of a bs typed z h = ((λ y. false-true _ y, h.0), λ y. false-true _ y)
record_of a bs field z h = ((λ y. false-true _ y, h.0), λ y. false-true _ y)
record_of a bs several z h = ((λ y. false-true _ y, h.0), λ y. false-true _ y)
record_of a bs alone z h = ((λ y. false-true _ y, h.0), λ y. false-true _ y)
record_of a bs lambda z h = ((λ y. false-true _ y, h.0), λ y. false-true _ y)

law : Lawful F
unfolding build builds Bracketed BracketedAll NoFunction kind_of_build joined
law =
    record {
      next = met facts (λ u t h l. token-itself t) (λ u r h l. tt);
      refused_at = λ n t t₂ h g d. tt;
      refused_before = λ n t t₂ o o₂ h g d e. tt;
      colons_due = λ t t₂ a a₂ d e. tt;
      begin = λ x. (tt, λ _. tt, tt);
      mark = λ k h m. (h.0, h.1, tt);
      leaf = λ {xs = xs} l h p f. (all-behind xs _ h.0 tt, λ y. false-true _ y, tt);
      one = λ {xs = xs} {x = x} s h p d. (all-behind xs x h.0 d.0, λ y. false-true _ y, λ y. none_bare xs x (h.1 y));
      many = λ {r = r} {xs = xs} {ts = ts} s c h i. (all-joined xs ts h.0 i.0, λ y. let b = and_parts (eqb c Pipe) (arguments r) y in none-joined xs ts (h.1 b.1) (i.1 b.0), tt);
      empty = λ s c p o j. (tt, λ _. tt);
      last = λ {t = t} {x = x} s c p n d q o j. ((d.0, tt), λ y. (no_item c t x n d.1 y, tt));
      more = λ {t = t} {x = x} s c p n d q i. ((d.0, i.0), λ y. (no_item c t x n d.1 y, i.1 y));
      lone = λ {a = a} s l i x f o. (tt, not-begun a _ (lone-other i a));
      made = λ {a = a} {xs = xs} s c r i x z h o. record_of a (builds xs) i z h;
      brackets = λ {a = a} {u = u} {xs = xs} n x k h o. grouped a u xs h.0;
    }

-- a value that is one token, and a field that binds its own name
literal-other : (k b : ℕ) → eqb (leaf_kind k b) RecFunction ≡ false
unfolding leaf_kind
literal-other k b = go (eqb k True) (eqb k False) (eqb k NumValue || eqb k NumTypedValue) (eqb k ByteStringValue) (eqb b 120)
  where
    go : (t f n s x : Bool) → eqb (cond t 32 (cond f 33 (cond n 31 (cond s (cond x 34 35) 0)))) RecFunction ≡ false
    go true f n s x = refl
    go false true n s x = refl
    go false false true s x = refl
    go false false false true true = refl
    go false false false true false = refl
    go false false false false x = refl

literal : Literal F
unfolding build Bracketed kind_of_build
literal a a₂ x c o = (tt, not-begun a _ (literal-other a.kind (get_or (word a) 0 0)))

short : Short F
unfolding build builds Bracketed BracketedAll kind_of_build
short n a a₂ x k o = ((λ y. false-true _ y, (tt, (tt, tt))), not-begun a _ refl)

abbrev Inside : Item → Type 0
Inside (item x t) = Bracketed (build x)
Inside (refused r) = Unit {0}

followed-inside : (x : Tree) (l : LexResult) → Bracketed (build x) → Inside (followed x l)
unfolding followed
followed-inside x (tok t) h = h
followed-inside x (bad r) h = tt

finished-inside : (a : Lexeme) (b : Ans Tree) → Of facts (λ u x. Bracketed (build x) × Begun a x) b → Inside (finished b)
unfolding finished
finished-inside a (ok x u) h = followed-inside x (lex u) h.0.0
finished-inside a (no r) h = tt

-- what is read from a token on, of every kind
read-inside : (kind : ℕ) (l : LexResult) → Inside (finished (look l (read_kind kind)))
unfolding look finished
read-inside kind (tok a) = finished-inside a (read_kind kind a) (reader-of facts (sort_of kind) (read_kind kind) (kind-same F law refl short kind (λ _. literal)) a (token-itself a))
read-inside kind (bad r) = tt

-- of every item
pub item-bracketed : ItemBracketed
unfolding read_item
item-bracketed q x n e =
    subst Inside e
    (unless-sure refused Inside (fault_of q) _ (each-any (λ _. Unit {0}) (fault_of q) (λ _. tt)) λ _.
    read-inside q.kind (lex (opened q.edition q.text q.at)))
