-- Names and values read back: what is read of one has a line from which the same is read again.
use mathlib.Core.Path.{◌≡◌, refl, subst, sym, ap, ap₂, ◌∙◌}
use mathlib.Core.Bool.{Bool, true, false, cond, ◌||◌}
use mathlib.Core.List.{List, [], ◌∷◌, ◌++◌, append_assoc}
use Prim.Native.Nat.{ℕ}
use borrow.Author.Tests.{eqb-true}
use lib.Dec.{eqb}
use lib.ListN.{get_or}
use Rattle.classes.specs.Class.{in_range, is_digit, is_letter, is_name}
use Rattle.classes.proofs.Bools.{false-true, and-false}
use Rattle.words.specs.Kinds.{NumValue, Identifier, ColonColon, AtSign}
use Rattle.records.specs.Kinds.{RecName, RecAddress, RecOnePart, RecTwoPart, RecThreePart, RecPair, RecUnit, RecAddressValue}
use Rattle.records.specs.Tree.{Tree, node, none, more, Build, spelled, made, bnone, bmore, build, builds}
use Rattle.sources.specs.Source.{Source, Lexeme, word, after, lex}
use Rattle.answers.specs.Reading.{leaf_of}
use Rattle.grammar.specs.Names.{is_first, first_part, last_part, third_part, second_part, chain}
use Rattle.grammar.specs.Values.{leaf_kind, value_kind, leaf_value, address_value, value}
use Rattle.grammar.specs.Binds.{is_struct}
use Rattle.forms.specs.Line.{shown}
use Rattle.forms.specs.Forms.{FormLine, head, laid}
use Rattle.forms.specs.code.Constructs.{mark_in, spelt, headed}
use Rattle.forms.proofs.Constructs.{laid_leaf, laid-two, laid-three, laid-pair, laid-address}
use Rattle.roundtrip.proofs.Words.{Stops, extends, differs, Headed, wordy}
use Rattle.roundtrip.proofs.Tokens.{Met, met-map, Editions, Rest, Near, at_once, Spelled, Good}
use Rattle.roundtrip.proofs.Answers.{Gives, gives, gives-look, gives-true, gives-false}
use Rattle.roundtrip.proofs.Marks.{widens, is_bar, at_sign, colons, Ends}
use Rattle.roundtrip.proofs.Lists.{Same}

-- a token that goes on with a name; and one by which a binding is no variable
abbrev pub is_colons : ℕ → Bool
is_colons k = eqb k ColonColon

abbrev pub Structs : Lexeme → Type 0
Structs t = is_struct t ≡ true

-- the bytes that would make a longer mark of the `<` or the `|` before them
abbrev pub clashes : ℕ → Bool
clashes b = widens b || is_bar b

pub headed-starts : (w z : List ℕ) → Headed w → Stops clashes (w ++ z)
unfolding is_name is_letter is_digit in_range
headed-starts [] z h = absurd h
headed-starts (a ∷ w) z h = rw (differs is_name 60 a refl h, differs is_name 61 a refl h, differs is_name 124 a refl h)

-- leaves
pub leaf-shown : (c : ℕ) (t : Lexeme) → eqb c RecUnit ≡ false → shown (leaf_of c t) ≡ word t
unfolding laid spelt
leaf-shown c t h = laid_leaf FormLine c _ _ (word t) h

part-shown : (t : Lexeme) → shown (first_part t) ≡ word t
part-shown t = leaf-shown _ t (go (eqb t.kind Identifier))
  where
    go : (b : Bool) → eqb (cond b RecName RecAddress) RecUnit ≡ false
    go true = refl
    go false = refl

part_same : (t t₂ : Lexeme) → t₂.kind ≡ t.kind → word t₂ ≡ word t → build (first_part t₂) ≡ build (first_part t)
unfolding build
part_same t t₂ e g = rw (e, g)

colons-stop : (s : List ℕ) → Stops extends (58 ∷ 58 ∷ s)
unfolding is_name is_letter is_digit in_range
colons-stop s = refl

at-line : (s e : ℕ) (a : Lexeme) → shown (node RecAddressValue s e (more (first_part a) none)) ≡ 64 ∷ word a
unfolding laid headed head mark_in
at-line s e a = laid-address FormLine s e (first_part a) ∙ ap (◌∷◌ 64) (part-shown a)

-- a value of one token: its record's kind is no unit's, and tells that the token is a word
abbrev pub Leaf : ℕ → ℕ → Type 0
Leaf k c = (eqb c RecUnit ≡ false) × (eqb c 0 ≡ false → wordy k ≡ true)

pub leaf-word : (k b : ℕ) → Leaf k (leaf_kind k b)
unfolding leaf_kind
leaf-word k b = go (eqb k 55) refl (eqb k 43) refl (eqb k 1) refl (eqb k 2) refl (eqb k 3) refl (eqb b 120)
  where
    go : (x₁ : Bool) → eqb k 55 ≡ x₁ → (x₂ : Bool) → eqb k 43 ≡ x₂ → (x₃ : Bool) → eqb k 1 ≡ x₃ → (x₄ : Bool) → eqb k 2 ≡ x₄ → (x₅ : Bool) → eqb k 3 ≡ x₅ → (x₆ : Bool)
        → Leaf k (cond x₁ 32 (cond x₂ 33 (cond (x₃ || x₄) 31 (cond x₅ (cond x₆ 34 35) 0))))
    go true e₁ x₂ e₂ x₃ e₃ x₄ e₄ x₅ e₅ x₆ = (refl, λ _. rw (eqb-true k 55 e₁) refl)
    go false e₁ true e₂ x₃ e₃ x₄ e₄ x₅ e₅ x₆ = (refl, λ _. rw (eqb-true k 43 e₂) refl)
    go false e₁ false e₂ true e₃ x₄ e₄ x₅ e₅ x₆ = (refl, λ _. rw (eqb-true k 1 e₃) refl)
    go false e₁ false e₂ false e₃ true e₄ x₅ e₅ x₆ = (refl, λ _. rw (eqb-true k 2 e₄) refl)
    go false e₁ false e₂ false e₃ false e₄ true e₅ true = (refl, λ _. rw (eqb-true k 3 e₅) refl)
    go false e₁ false e₂ false e₃ false e₄ true e₅ false = (refl, λ _. rw (eqb-true k 3 e₅) refl)
    go false e₁ false e₂ false e₃ false e₄ false e₅ x₆ = (refl, λ h. false-true _ (sym h))

module _ (es : Editions) where
  -- a is read as the name c, before z
  pub record Named (c : Tree) (z : List ℕ) (a : Lexeme) : Type 0 where
    pub first : is_first a ≡ true
    pub back : Gives es (Same c) z (chain a)
    pub ahead : (((v : Source) → Rest es v z → Met Structs (lex v)) → eqb a.kind Identifier ≡ true → Met Structs (lex (after a)))

  -- the line of c reads back as a name
  pub record Chain (c : Tree) : Type 0 where
    pub starts : (z : List ℕ) → Stops clashes (shown c ++ z)
    pub reads : (u : Source) (z : List ℕ) → Near es u (shown c ++ z) → Ends es is_colons z → Met (Named c z) (lex u)

  -- one part
  pub chain-one : (a : Lexeme) → Spelled es Identifier (word a) → Chain (leaf_of RecOnePart a)
  unfolding chain build
  chain-one a n = record {
    starts = λ z. rw (leaf-shown RecOnePart a refl) (headed-starts (word a) z n.0);
    reads = λ u z d e. met-map (λ b i. record {
      first = rw i.kind;
      back = gives-true _ _ _ (rw i.kind) (gives-look _ (e.after (after b) i.goes) λ t x. gives-false _ _ _ x (gives-true _ _ _ (rw i.kind) (gives _ _ (ap (spelled RecOnePart) i.spelt) i.goes)));
      ahead = λ h _. h (after b) i.goes;
    }) (n.1 u z (rw (leaf-shown RecOnePart a refl) at d) e.stops);
  }

  -- a name that begins with the parts a and b, by what its line has behind them and by how that is read
  module _ (a b : Lexeme) (f : is_first a ≡ true) (n : Spelled es a.kind (word a)) (m : Spelled es Identifier (word b)) where
    chain-from : (c : Tree) (r : List ℕ → List ℕ) → ((z : List ℕ) → shown c ++ z ≡ word a ++ (58 ∷ 58 ∷ (word b ++ r z))) → ((z : List ℕ) → Ends es is_colons z → Stops extends (r z))
        → ((z : List ℕ) → Ends es is_colons z → (a₂ b₂ : Lexeme) → build (first_part a₂) ≡ build (first_part a) → word b₂ ≡ word b → Rest es (after b₂) (r z) → Gives es (Same c) z (third_part a₂ b₂)) → Chain c
    unfolding chain second_part
    chain-from c r l s k = record {
      starts = λ z. rw (l z) (headed-starts (word a) _ n.0);
      reads = λ u z d e. met-map (λ a₂ i. record {
        first = rw i.kind f;
        back = gives-true _ _ _ (rw i.kind f) (gives-look _ (colons es (after a₂) _ (at_once i.goes) tt) λ t j. gives-true _ _ _ (rw j.kind)
            (gives-look _ (m.1 (after t) (r z) (at_once j.goes) (s z e)) λ b₂ h. gives-true _ _ _ (rw h.kind) (k z e a₂ b₂ (part_same a a₂ i.kind i.spelt) h.spelt h.goes)));
        ahead = λ h _. met-map (λ t j. rw j.kind) (colons es (after a₂) _ (at_once i.goes) tt);
      }) (n.1 u (58 ∷ 58 ∷ (word b ++ r z)) (subst (Near es u) (l z) d) (colons-stop (word b ++ r z)));
    }

    two-line : (k s e : ℕ) → ((x y : Tree) → shown (node k s e (more x (more y none))) ≡ shown x ++ (58 ∷ 58 ∷ shown y)) → (z : List ℕ) → shown (node k s e (more (first_part a) (more (leaf_of RecName b) none))) ++ z ≡ word a ++ (58 ∷ 58 ∷ (word b ++ z))
    two-line k s e h z = rw (h (first_part a) (leaf_of RecName b), part-shown a, leaf-shown RecName b refl) (append_assoc (word a) (58 ∷ 58 ∷ word b) z)

    pub chain-two : (s e : ℕ) → Chain (node RecTwoPart s e (more (first_part a) (more (leaf_of RecName b) none)))
    unfolding third_part build builds laid headed head mark_in
    chain-two s e =
        chain-from (node RecTwoPart s e (more (first_part a) (more (leaf_of RecName b) none))) (λ z. z) (two-line RecTwoPart _ _ (laid-two FormLine _ _)) (λ z e. e.stops) λ z e a₂ b₂ g h i.
        gives-look _ (e.after (after b₂) i) λ t x. gives-false _ _ _ x (gives _ _ (ap₂ (λ (v : Build) (w : List ℕ). made RecTwoPart (bmore v (bmore (spelled RecName w) bnone))) g h) i)

    abbrev pub parts : (s e s₂ e₂ : ℕ) → Lexeme → Tree
    parts s e s₂ e₂ c = node RecThreePart s e (more (node RecPair s₂ e₂ (more (first_part a) (more (leaf_of RecName b) none))) (more (leaf_of RecName c) none))

    three-line : (s e s₂ e₂ : ℕ) (c : Lexeme) (z : List ℕ) → shown (parts s e s₂ e₂ c) ++ z ≡ word a ++ (58 ∷ 58 ∷ (word b ++ (58 ∷ 58 ∷ (word c ++ z))))
    unfolding laid headed head mark_in
    three-line s e s₂ e₂ c z =
        ap (λ (x : List ℕ). x ++ z) (laid-three FormLine s e (node RecPair s₂ e₂ (more (first_part a) (more (leaf_of RecName b) none))) (leaf_of RecName c))
        ∙ append_assoc (shown (node RecPair s₂ e₂ (more (first_part a) (more (leaf_of RecName b) none)))) (58 ∷ 58 ∷ shown (leaf_of RecName c)) z
        ∙ two-line RecPair _ _ (laid-pair FormLine _ _) _ ∙ ap (λ (x : List ℕ). word a ++ (58 ∷ 58 ∷ (word b ++ (58 ∷ 58 ∷ (x ++ z))))) (leaf-shown RecName c refl)

    pub chain-three : (s e s₂ e₂ : ℕ) (c : Lexeme) → Spelled es Identifier (word c) → Chain (parts s e s₂ e₂ c)
    unfolding third_part last_part build builds
    chain-three s e s₂ e₂ c o =
        chain-from (parts s e s₂ e₂ c) (λ z. 58 ∷ 58 ∷ (word c ++ z)) (three-line s e s₂ e₂ c) (λ z e. colons-stop (word c ++ z)) λ z e a₂ b₂ g h i.
        gives-look _ (colons es (after b₂) _ (at_once i) tt) λ t j. gives-true _ _ _ (rw j.kind)
        (gives-look _ (o.1 (after t) z (at_once j.goes) e.stops) λ c₂ v. gives-true _ _ _ (rw v.kind)
        (gives _ _ (rw (g, h, v.spelt)) v.goes))

  -- a token of a kind that is a word
  pub identifier : (t : Lexeme) → Good es t → eqb t.kind Identifier ≡ true → Spelled es Identifier (word t)
  identifier t g c = let e : t.kind ≡ Identifier = eqb-true t.kind Identifier c in subst (λ (k : ℕ). Spelled es k (word t)) e (g.1 (rw e refl))

  pub first_word : (t : Lexeme) → Good es t → is_first t ≡ true → Spelled es t.kind (word t)
  first_word t g c = g.1 (rw c)

  -- values
  abbrev pub ValueBack : Tree → Type 0
  ValueBack x = (u : Source) (z : List ℕ) → Near es u (shown x ++ z) → Ends es is_colons z → Met (λ (a : Lexeme). Gives es (Same x) z (value a)) (lex u)

  pub at_back : (s e : ℕ) (a : Lexeme) → is_first a ≡ true → Spelled es a.kind (word a) → ValueBack (node RecAddressValue s e (more (first_part a) none))
  unfolding value address_value build builds
  at_back s e a f n u z d h =
      met-map (λ t i. gives-true _ _ _ (rw i.kind) (gives-look _ (n.1 (after t) z (at_once i.goes) h.stops) λ a₂ j.
      gives-true _ _ _ (rw j.kind f) (gives _ _ (ap (λ (b : Build). made RecAddressValue (bmore b bnone)) (part_same a a₂ j.kind j.spelt)) j.goes)))
      (at_sign es u (word a ++ z) (rw (at-line s e a) at d) tt)

  pub leaf-back : (t : Lexeme) → Spelled es t.kind (word t) → eqb t.kind AtSign ≡ false → eqb (value_kind t) 0 ≡ false → ValueBack (leaf_of (value_kind t) t)
  unfolding value leaf_value build
  leaf-back t n a h u z d e =
      met-map (λ t₂ i. gives-false _ _ _ (rw i.kind a) (gives-false _ _ _ (rw (i.kind, i.spelt) h)
      (gives-look _ (e.after (after t₂) i.goes) λ t₃ x. gives-false _ _ _ (rw x (and-false (eqb t₂.kind NumValue))) (gives _ _ (rw (i.kind, i.spelt)) i.goes))))
      (n.1 u z (rw (leaf-shown (value_kind t) t (leaf-word t.kind (get_or (word t) 0 0)).0) at d) e.stops)
