-- An instance of the law: what holds of the words of all tokens that are met holds of the words of all leaves. Three facts of this
-- sort: each leaf's word shows, or the leaf is a string below 128; a text whose bytes all show gives words that do; and an item that is
-- no value has no strings.
use mathlib.Core.Path.{◌≡◌, refl, sym, ◌∙◌, subst}
use mathlib.Core.Bool.{Bool, true, false, cond, ◌&&◌}
use mathlib.Core.List.{List, []}
use Rattle.forms.specs.Unprintable.{FirstByte, clean, found_at, is_string, unprintable_in, first_of, unprintable, unprintable_all}
use Prim.Native.Nat.{ℕ}
use native.Mathlib.Omega.{arith}
use borrow.Author.Tests.{eqb-true}
use lib.Dec.{eqb}
use lib.ListN.{get_or}
use Rattle.classes.specs.Class.{is_ascii, shows}
use Rattle.classes.specs.Run.{all_of}
use Rattle.classes.proofs.Bools.{false-true}
use Rattle.classes.proofs.All.{all_take, all_drop}
use Rattle.words.specs.Kinds.{EOF, NumValue, ByteStringValue, Identifier, ColonColon, AtSign}
use Rattle.tokens.specs.declared.Refusal.{Refusal}
use Rattle.tokens.proofs.Faults.{each-any, unless-sure}
use Rattle.tokens.proofs.Legible.{legible}
use Rattle.records.specs.Kinds.{RecName, RecAddress}
use Rattle.records.specs.Tree.{Tree, leaf, node, Trees, none, more}
use Rattle.sources.specs.Source.{Source, opened, Lexeme, start, word, after, split, LexResult, tok, bad, lex}
use Rattle.sources.proofs.Standing.{Sound, lex-sound}
use Rattle.answers.specs.Reading.{Ans, ok, no, look}
use Rattle.answers.proofs.Sure.{when-sure}
use Rattle.grammar.specs.Names.{is_first}
use Rattle.grammar.specs.Values.{value_kind, leaf_value, address_value, value}
use Rattle.grammar.specs.Items.{Item, item, refused, read_kind, followed, finished, Asked, fault_of, reading, read_item}
use Rattle.forms.proofs.Unprintables.{WordsShow, AllWordsShow, clean-word}
use Rattle.frames.specs.code.Related.{Step, Met, toks, bads, Rel, oks, nos, quit}
use Rattle.frames.specs.code.Shape.{Shape, Alike, leaves, nodes, AllAlike, nones, mores, framed, Shapely, Strings}
use Rattle.frames.proofs.Ways.{near}
use Rattle.frames.proofs.Shapes.{value-leaf, kind-shaped}

-- K holds of each leaf's kind, and W of its word and the kind of a token that is a string exactly where the leaf is
unfoldable mutual
  pub Leaves : (ℕ → Type 0) → (ℕ → List ℕ → Type 0) → Tree → Type 0
  Leaves K W (leaf c s e w) = K c × ((k : ℕ) × (is_string c ≡ eqb k ByteStringValue) × W k w)
  Leaves K W (node c s e ts) = AllLeaves K W ts

  pub AllLeaves : (ℕ → Type 0) → (ℕ → List ℕ → Type 0) → Trees → Type 0
  AllLeaves K W none = Unit {0}
  AllLeaves K W (more t ts) = Leaves K W t × AllLeaves K W ts

-- W of the words of tokens, where S holds of the sources that they are found in
module _ (S : Source → Type 0) (K : ℕ → Type 0) (W : ℕ → List ℕ → Type 0) where
  abbrev Fact : Lexeme → Type 0
  Fact t = W t.kind (word t) × S (after t) × S (split t)

  abbrev Facts : LexResult → Type 0
  Facts (tok t) = Fact t
  Facts (bad r) = Unit {0}

  abbrev frame : Shape
  frame = record { starts = λ a b. Unit {0}; ends = λ a b. Unit {0}; source = λ u v. (u ≡ v) × S u; kind = K; word = λ k w s s₂. W k w; number = λ n. Unit {0}; quits = λ _. ⊥ }

  token-itself : (t : Lexeme) → Fact t → Step (framed frame) t t
  token-itself t f = record { kind = refl; spelled = refl; good = record { good = f.0; from = tt; to = tt }; on = λ _. (refl, f.1); half = λ _. (refl, f.2) }

  itself : (l : LexResult) → Facts l → Met (framed frame) l l
  itself (tok t) f = toks (token-itself t f)
  itself (bad r) f = bads (record { same = refl; good = tt; from = tt; to = tt; from₂ = tt; to₂ = tt })

  mutual
    unfolding Leaves AllLeaves

    tree-leaves : {t u : Tree} → Alike frame t u → Leaves K W t
    tree-leaves (leaves {k = k} c b g w x y) = (c, (k, b, g))
    tree-leaves (nodes c x y xs) = trees-leaves xs

    trees-leaves : {ts us : Trees} → AllAlike frame ts us → AllLeaves K W ts
    trees-leaves nones = tt
    trees-leaves (mores x xs) = (tree-leaves x, trees-leaves xs)

  abbrev Read : Ans Tree → Type 0
  Read (ok x u) = Leaves K W x
  Read (no r) = Unit {0}

  read : {m m₂ : ℕ} {a b : Ans Tree} → Rel (framed frame) m m₂ (λ u u₂ x y. Alike frame x y) a b → Read a
  read (oks x n) = tree-leaves x
  read (nos d) = tt
  read (quit d) = absurd d

  module _ (kinds : (c : ℕ) → is_string c ≡ false → K c) (wordless : W EOF []) (found : (u : Source) → S u → Facts (lex u)) (kind : ℕ) (strings : eqb kind 2 ≡ true → Strings frame) where
    law : Shapely frame
    law =
        record {
          point = λ s s₂ h. tt;
          ended = λ u u₂ h. tt;
          next = λ u u₂ h. rw h.0 (itself (lex u₂) (found u₂ (subst S h.0 h.1)));
          kinds = λ c h s. kinds c s;
          wordless = λ s s₂. wordless;
          numbers = λ n h g. tt;
        }

    -- what is read from a token on, and from a source
    words-from : (t : Lexeme) → Fact t → Read (read_kind kind t)
    words-from t f = read (kind-shaped frame law kind strings _ _ t t (near (token-itself t f)))

    words-read : (u : Source) → S u → Read (look (lex u) (read_kind kind))
    unfolding look
    words-read u h = go (lex u) (found u h)
      where
        go : (l : LexResult) → Facts l → Read (look l (read_kind kind))
        go (tok t) f = words-from t f
        go (bad r) f = tt

-- the bytes of every token show, or it is a string below 128
abbrev Any : ℕ → Type 0
Any c = Unit {0}

abbrev Anywhere : Source → Type 0
Anywhere u = Unit {0}

abbrev Legible : ℕ → List ℕ → Type 0
Legible k w = legible k w ≡ true

legible-found : (u : Source) → Anywhere u → Facts Anywhere Any Legible (lex u)
legible-found u h = go (lex u) (lex-sound u)
  where
    go : (l : LexResult) → Sound u l → Facts Anywhere Any Legible l
    go (tok t) d = (d.readable, tt, tt)
    go (bad r) d = tt

wordless : Legible EOF []
unfolding legible all_of
wordless = refl

-- so are the words of the leaves of all that is read
abbrev pub Readable : Tree → Type 0
Readable x = Leaves Any Legible x

abbrev Of : Item → Type 0
Of (item x t) = Readable x
Of (refused r) = Unit {0}

finished-of : (a : Ans Tree) → Read Anywhere Any Legible a → Of (finished a)
unfolding finished followed
finished-of (ok x u) h = go (lex u)
  where
    go : (l : LexResult) → Of (followed x l)
    go (tok t) = h
    go (bad r) = tt
finished-of (no r) h = tt

pub item-readable : (q : Asked) (x : Tree) (t : Lexeme) → read_item q ≡ item x t → Readable x
unfolding read_item
item-readable q x t e =
    subst Of e
    (unless-sure refused Of (fault_of q) _ (each-any (λ _. Unit {0}) (fault_of q) (λ _. tt))
    (λ _. finished-of (reading q) (words-read Anywhere Any Legible (λ c s. tt) wordless legible-found q.kind (λ _. record { hex = tt; byte = tt }) (opened q.edition q.text q.at) tt)))

-- where such a tree is clean, the words of all its leaves show
first-clean : (p q : FirstByte) → first_of p q ≡ clean → (p ≡ clean) × (q ≡ clean)
unfolding first_of
first-clean clean q h = (refl, h)
first-clean (found_at p) q h = let z : ◌≡◌ {A = ℕ} 0 1 = cc in absurd (omega arith)

leaf-shows : (c k s : ℕ) (w : List ℕ) → is_string c ≡ eqb k ByteStringValue → Legible k w → cond (is_string c) (unprintable_in s w) clean ≡ clean → all_of shows w ≡ true
unfolding legible
leaf-shows c k s w e g h = go (eqb k ByteStringValue) g (rw e at h)
  where
    go : (b : Bool) → cond b (all_of is_ascii w) (all_of shows w) ≡ true → cond b (unprintable_in s w) clean ≡ clean → all_of shows w ≡ true
    go true g h = clean-word s w g h
    go false g h = g

mutual
  unfolding Leaves AllLeaves WordsShow AllWordsShow unprintable unprintable_all

  pub clean-words : (t : Tree) → Readable t → unprintable t ≡ clean → WordsShow t
  clean-words (leaf c s e w) l h = leaf-shows c l.1.0 s w l.1.1 l.1.2 h
  clean-words (node c s e ts) l h = clean_all ts l h

  clean_all : (ts : Trees) → AllLeaves Any Legible ts → unprintable_all ts ≡ clean → AllWordsShow ts
  clean_all none l h = tt
  clean_all (more t ts) l h = let d = first-clean (unprintable t) (unprintable_all ts) h in (clean-words t l.0 d.0, clean_all ts l.1 d.1)

-- what is read from bytes that all show has words that do
abbrev AllShow : Source → Type 0
AllShow u = all_of shows u.rest ≡ true

abbrev Shown : ℕ → List ℕ → Type 0
Shown k w = all_of shows w ≡ true

shown-found : (u : Source) → AllShow u → Facts AllShow Any Shown (lex u)
shown-found u h = go (lex u) (lex-sound u)
  where
    go : (l : LexResult) → Sound u l → Facts AllShow Any Shown l
    go (tok t) d =
        let r : all_of shows t.here.rest ≡ true = subst AllShow (sym d.here) (all_drop shows d.gap u.rest h) in
        (all_take shows t.len t.here.rest r, all_drop shows t.len t.here.rest r, all_drop shows 1 t.here.rest r)
    go (bad r) d = tt

none-shown : Shown EOF []
unfolding all_of
none-shown = refl

mutual
  unfolding Leaves AllLeaves WordsShow AllWordsShow

  leaves-show : (t : Tree) → Leaves Any Shown t → WordsShow t
  leaves-show (leaf c s e w) l = l.1.2
  leaves-show (node c s e ts) l = all-leaves-show ts l

  all-leaves-show : (ts : Trees) → AllLeaves Any Shown ts → AllWordsShow ts
  all-leaves-show none l = tt
  all-leaves-show (more t ts) l = (leaves-show t l.0, all-leaves-show ts l.1)

pub shown-words : (kind : ℕ) (u v : Source) (x : Tree) → all_of shows u.rest ≡ true → look (lex u) (read_kind kind) ≡ ok x v → WordsShow x
shown-words kind u v x h e =
    leaves-show x (subst (Read AllShow Any Shown) e (words-read AllShow Any Shown (λ c s. tt) none-shown shown-found kind (λ _. record { hex = tt; byte = tt }) u h))

-- an item of another kind than a value has no strings
abbrev NoString : ℕ → Type 0
NoString c = is_string c ≡ false

abbrev AnyWord : ℕ → List ℕ → Type 0
AnyWord k w = Unit {0}

any_found : (u : Source) → Anywhere u → Facts Anywhere NoString AnyWord (lex u)
any_found u h = go (lex u)
  where
    go : (l : LexResult) → Facts Anywhere NoString AnyWord l
    go (tok t) = (tt, tt, tt)
    go (bad r) = tt

mutual
  unfolding Leaves AllLeaves unprintable unprintable_all first_of

  tree-clean : (t : Tree) → Leaves NoString AnyWord t → unprintable t ≡ clean
  tree-clean (leaf c s e w) l = rw l.0
  tree-clean (node c s e ts) l = trees-clean ts l

  trees-clean : (ts : Trees) → AllLeaves NoString AnyWord ts → unprintable_all ts ≡ clean
  trees-clean none l = refl
  trees-clean (more t ts) l = rw (tree-clean t l.0) (trees-clean ts l.1)

-- what is read, if anything, has a first unprintable byte, or none, as P says
abbrev pub Unprintables : (FirstByte → Type 0) → Ans Tree → Type 0
Unprintables P (ok x u) = P (unprintable x)
Unprintables P (no r) = Unit {0}

abbrev pub IsClean : FirstByte → Type 0
IsClean q = q ≡ clean

abbrev pub Clean : Ans Tree → Type 0
Clean a = Unprintables IsClean a

pub other-clean : (kind : ℕ) (t : Lexeme) → eqb kind 2 ≡ false → Clean (read_kind kind t)
other-clean kind t h = go (read_kind kind t) (words-from Anywhere NoString AnyWord (λ c s. s) tt any_found kind (λ e. false-true _ (sym h ∙ e)) t (tt, tt, tt))
  where
    go : (a : Ans Tree) → Read Anywhere NoString AnyWord a → Clean a
    go (ok x u) l = tree-clean x l
    go (no r) l = tt

-- whatever token is met
look-any : {B : Type 0} (P : Ans B → Type 0) (l : LexResult) (f : Lexeme → Ans B) → ((r : Refusal) → P (no r)) → ((t : Lexeme) → P (f t)) → P (look l f)
unfolding look
look-any P (tok t) f n g = g t
look-any P (bad r) f n g = n r

-- a value whose first token is no string has none either
address-clean : (t : Lexeme) → Clean (address_value t)
unfolding address_value unprintable unprintable_all first_of
address-clean t = look-any Clean (lex (after t)) _ (λ r. tt) λ a. when-sure Clean (is_first a) _ _ (λ _. part (start a) (word a) (eqb a.kind Identifier)) (λ _. tt)
  where
    part : (s : ℕ) (w : List ℕ) (b : Bool) → first_of (cond (is_string (cond b RecName RecAddress)) (unprintable_in s w) clean) clean ≡ clean
    part s w true = refl
    part s w false = refl

module _ (t : Lexeme) where
  -- the leaf of a token, by what is known of its place
  leaf-value : (P : FirstByte → Type 0) → P (cond (is_string (value_kind t)) (unprintable_in (start t) (word t)) clean) → Unprintables P (leaf_value t)
  unfolding leaf_value unprintable
  leaf-value P h = look-any (Unprintables P) (lex (after t)) _ (λ r. tt) λ d. when-sure (Unprintables P) (eqb t.kind NumValue && eqb d.kind ColonColon) _ _ (λ _. tt) (λ _. h)

  pub value-clean : eqb t.kind ByteStringValue ≡ false → Clean (value t)
  unfolding value
  value-clean h =
      when-sure Clean (eqb t.kind AtSign) _ _ (λ _. address-clean t)
      (λ _. when-sure Clean (eqb (value_kind t) 0) _ _ (λ _. tt) (λ _. leaf-value IsClean (rw (value-leaf t.kind (get_or (word t) 0 0), h))))

  -- and one whose first token is a string is that string
  pub value-string : eqb t.kind ByteStringValue ≡ true → Unprintables (λ (q : FirstByte). q ≡ unprintable_in (start t) (word t)) (value t)
  unfolding value
  value-string h =
      when-sure Same (eqb t.kind AtSign) _ _ (λ b. let z : 67 ≡ 3 = sym (eqb-true t.kind AtSign b) ∙ eqb-true t.kind ByteStringValue h in absurd (omega arith))
      (λ _. when-sure Same (eqb (value_kind t) 0) _ _ (λ _. tt) (λ _. leaf-value (λ (q : FirstByte). q ≡ unprintable_in (start t) (word t)) (rw (value-leaf t.kind (get_or (word t) 0 0), h))))
    where
      Same : Ans Tree → Type 0
      Same = Unprintables (λ (q : FirstByte). q ≡ unprintable_in (start t) (word t))
