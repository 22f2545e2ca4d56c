-- Values: what is laid down, and one law for each way through the code.
use mathlib.Core.Path.{◌≡◌, refl, ap, sym, ◌∙◌, subst}
use mathlib.Core.Bool.{Bool, true, false, cond, ◌&&◌, ◌||◌}
use mathlib.Core.List.{List, [], ◌∷◌, ◌++◌}
use Prim.Native.Nat.{ℕ, zero, suc, ◌-◌, ◌<◌, ◌≤◌}
use native.Mathlib.Omega.{arith}
use native.Mathlib.Nat.{add-zero}
use borrow.Author.Tests.{eq-eqb, ne_eqb, eqb-true, eqb-false}
use lib.Dec.{eqb}
use lib.ListN.{length, get_or, take, drop}
use lib.Seq.{get_or-drop}
use Rattle.classes.specs.Bytes.{bytes}
use Rattle.words.specs.Kinds.{Identifier, NumValue, NumTypedValue, ByteStringValue, ColonColon, False, True, AtSign}
use Rattle.tokens.specs.Refusals.{UnexpectedToken, NoValue}
use Rattle.tokens.specs.Calls.{next_token}
use Rattle.tokens.specs.declared.Refusal.{Refusal}
use Rattle.tokens.specs.declared.Token.{Token}
use Rattle.records.specs.Kinds.{RecName, RecAddress, RecAddressValue, RecUnit}
use Rattle.records.specs.Tree.{node, none, more}
use Rattle.sources.specs.Source.{start, end}
use Rattle.answers.specs.Reading.{leaf_of}
use Rattle.grammar.specs.Names.{first_part}
use Rattle.grammar.specs.Values.{leaf_kind, value_kind, leaf_value, address_value, value}
use Rattle.forms.specs.Forms.{laid}
use Rattle.forms.specs.code.Constructs.{mark_in, spelt, headed}
use Rattle.forms.specs.code.Spots.{last, inside, sealed, Placed, word_of}
use Rattle.forms.specs.declared.Spot.{Spot}
use Rattle.forms.proofs.Placing.{placed-as, placed-both, placed-headed}
use Rattle.forms.proofs.Constructs.{laid-address}
use Rattle.parts.specs.code.Meets.{Fits, held, refused_token, followed_by, ReadsBy}
use Rattle.parts.proofs.Held.{held-end, held-leaf, next-found, look-found, look-refused}
use Rattle.parts.proofs.Contracts.{reads-no, reads-token, reads-read, reads-finished, reads_as}
use Rattle.chains.specs.code.Parts.{some_kind, leaf_at, first_at, address_at}
use Rattle.chains.proofs.Names.{first-other, leaf-laid, when_true, when_false, read-to}
use Rattle.parts.specs.declared.Part.{Part}
use Rattle.std.specs.Prelude.{Result, Ok, Err, Option, Some, None}

-- the first byte of a word
first_taken : (n : ℕ) (l : List ℕ) → 0 < n → get_or (take n l) 0 0 ≡ get_or l 0 0
first_taken zero l h = absurd (omega arith)
first_taken (suc n) [] h = refl
first_taken (suc n) (x ∷ l) h = refl

first_byte : (text : List ℕ) (a : Token) → a.start < a.end → get_or (word_of text a) 0 0 ≡ get_or text a.start 0
first_byte text a h = first_taken (a.end - a.start) (drop a.start text) (omega arith) ∙ (rw add-zero at (get_or-drop a.start text 0 0))

-- it matters for strings only, and these have one
value-kind : (ed : ℕ) (text : List ℕ) (a : Token) (b c : ℕ) → Fits text a → b ≡ get_or text a.start 0 → c ≡ leaf_kind a.kind b → value_kind (held ed text a) ≡ c
unfolding leaf_kind
value-kind ed text a b c f g h = go (eqb a.kind ByteStringValue) refl ∙ sym (h ∙ ap (leaf_kind a.kind) g)
  where
    go : (s : Bool) → eqb a.kind ByteStringValue ≡ s → leaf_kind a.kind (get_or (word_of text a) 0 0) ≡ leaf_kind a.kind (get_or text a.start 0)
    go true e = ap (leaf_kind a.kind) (first_byte text a (omega (arith, f.1, eqb-true a.kind ByteStringValue e)))
    go false e = rw e refl

either : (b : Bool) (m n : ℕ) → eqb m RecUnit ≡ false → eqb n RecUnit ≡ false → eqb (cond b m n) RecUnit ≡ false
either true m n h g = h
either false m n h g = g

leaf-other : (k b : ℕ) → eqb (leaf_kind k b) RecUnit ≡ false
unfolding leaf_kind
leaf-other k b = either (eqb k True) 32 _ refl (either (eqb k False) 33 _ refl (either (eqb k NumValue || eqb k NumTypedValue) 31 _ refl (either (eqb k ByteStringValue) _ 0 (either (eqb b 120) 34 35 refl refl) refl)))

-- the kind of a leaf, told as an option
pub none-kind : (n : ℕ) (r : Option ℕ) → r ≡ some_kind n → r ≡ None → 0 ≡ n
none-kind n r h e = go (eqb n 0) refl
  where
    go : (b : Bool) → eqb n 0 ≡ b → 0 ≡ n
    go true g = sym (eqb-true n 0 g)
    go false g =
        let x : ◌≡◌ {A = Option ℕ} None (Some n) = sym e ∙ h ∙ rw g in
        let y : ◌≡◌ {A = ℕ} 0 1 = cc in
        absurd (omega arith)

pub some-kind-is : (n k : ℕ) (r : Option ℕ) → r ≡ some_kind n → r ≡ Some k → (k ≡ n) × (k ≡ 0 → ⊥)
some-kind-is n k r h e = go (eqb n 0) refl
  where
    go : (b : Bool) → eqb n 0 ≡ b → (k ≡ n) × (k ≡ 0 → ⊥)
    go true g =
        let x : ◌≡◌ {A = Option ℕ} (Some k) None = sym e ∙ h ∙ rw g in
        let y : ◌≡◌ {A = ℕ} 0 1 = cc in
        absurd (omega arith)
    go false g =
        let x : ◌≡◌ {A = Option ℕ} (Some k) (Some n) = sym e ∙ h ∙ rw g in
        let y : k ≡ n = cc in
        (y, λ z. eqb-false n 0 g (sym y ∙ z))

-- an address, laid down
pub address-placed : (f : ℕ) (text : List ℕ) (c : ℕ) (a b : Token) (l m₁ m₂ m : List ℕ) (s i p r : Spot) → length l ≤ last → i ≡ inside f s → Placed l i (mark_in f (bytes "@")) p m₁ → c ≡ cond (eqb b.kind Identifier) RecName RecAddress
    → Placed m₁ p (spelt f c b.start b.end (word_of text b)) r m₂ → m ≡ sealed f RecAddressValue a.start b.end s r m₂ → Placed l s (laid f (address_at text a b)) r m
address-placed f text c a b l m₁ m₂ m s i p r h g x z y d =
    let w : Placed m₁ p (laid f (first_at text b)) r m₂ = placed-as m₁ m₂ (spelt f c b.start b.end (word_of text b)) (laid f (first_at text b)) p r (ap (λ (n : ℕ). spelt f n b.start b.end (word_of text b)) z ∙ sym (leaf-laid f text (cond (eqb b.kind Identifier) RecName RecAddress) b (first-other (eqb b.kind Identifier)))) y in
    let body : Placed l i (mark_in f (bytes "@") ++ laid f (first_at text b)) r m₂ = placed-both l m₁ m₂ (mark_in f (bytes "@")) (laid f (first_at text b)) i p r h x w in
    placed-as l m (headed f RecAddressValue a.start b.end (mark_in f (bytes "@") ++ laid f (first_at text b))) (laid f (address_at text a b)) s r (sym (laid-address f a.start b.end (first_at text b)))
    (placed-headed f RecAddressValue a.start b.end l m₂ m (mark_in f (bytes "@") ++ laid f (first_at text b)) s r h (subst (λ (y : Spot). Placed l y (mark_in f (bytes "@") ++ laid f (first_at text b)) r m₂) g body) d)

module _ (f ed : ℕ) (text : List ℕ) (s : Spot) (l m : List ℕ) (a : Token) where
  -- behind `@`
  abbrev Address : Result Part Refusal → Type 0
  Address r = ReadsBy (laid f) ed text address_value a s l r m

  pub address-bad : (r : Refusal) → next_token ed text a.end ≡ Err r → Address (Err r)
  unfolding address_value
  address-bad r h = reads-no r (λ z. look-refused ed text a z _ r h)

  module _ (b : Token) (h : next_token ed text a.end ≡ Ok b) (c : Bool) (g : c ≡ (eqb b.kind Identifier || eqb b.kind NumValue)) where
    pub address-other : (r : Result Part Refusal) → c ≡ false → r ≡ refused_token UnexpectedToken b → Address r
    unfolding address_value
    address-other r k e =
        reads-token UnexpectedToken b r (λ _. (next-found ed text a.end b h).fits)
        (λ z. look-found ed text a z _ b h ∙ when_false (eqb b.kind Identifier || eqb b.kind NumValue) _ _ (sym g ∙ k)) e

    pub address_read : (to : Spot) (r : Result Part Refusal) → c ≡ true → Placed l s (laid f (address_at text a b)) to m → r ≡ followed_by to b.end (next_token ed text b.end) → Address r
    unfolding address_value
    address_read to r k w e =
        let n = next-found ed text a.end b h in
        reads-finished (address_at text a b) b.end to r (omega (arith, n.from, n.fits.1)) (λ z. (n.fits.0, n.fits.2))
        (λ z. look-found ed text a z _ b h ∙ when_true (eqb b.kind Identifier || eqb b.kind NumValue) _ _ (sym g ∙ k)
        ∙ read-to ed text (node RecAddressValue (start (held ed text a)) (end (held ed text b)) (more (first_part (held ed text b)) none)) (address_at text a b) b n.fits (rw (held-end ed text b n.fits))) w e

  -- by the first token
  abbrev Value : Result Part Refusal → Type 0
  Value r = ReadsBy (laid f) ed text value a s l r m

  pub value-address : (r : Result Part Refusal) → a.kind ≡ AtSign → Address r → Value r
  unfolding value
  value-address r k w = reads_as (omega arith) (λ z. z) (λ z. when_true (eqb a.kind AtSign) _ _ (eq-eqb a.kind AtSign k)) w

  module _ (k : (a.kind ≡ AtSign → ⊥)) (b c : ℕ) (i : b ≡ get_or text a.start 0) (j : c ≡ leaf_kind a.kind b) where
    pub value_none : (r : Result Part Refusal) → c ≡ 0 → r ≡ refused_token NoValue a → Value r
    unfolding value
    value_none r n e =
        reads-token NoValue a r (λ z. z)
        (λ z. when_false (eqb a.kind AtSign) _ _ (ne_eqb a.kind AtSign k)
        ∙ when_true (eqb (value_kind (held ed text a)) 0) _ _ (ap (λ (x : ℕ). eqb x 0) (value-kind ed text a b c z i j) ∙ eq-eqb c 0 n)) e

    module _ (n : (c ≡ 0 → ⊥)) where
      -- the value that the token is by itself
      alone : Fits text a → value (held ed text a) ≡ leaf_value (held ed text a)
      unfolding value
      alone z = when_false (eqb a.kind AtSign) _ _ (ne_eqb a.kind AtSign k) ∙ when_false (eqb (value_kind (held ed text a)) 0) _ _ (ap (λ (x : ℕ). eqb x 0) (value-kind ed text a b c z i j) ∙ ne_eqb c 0 n)

      pub value-bad : (r : Refusal) → next_token ed text a.end ≡ Err r → Value (Err r)
      unfolding leaf_value
      value-bad r h = reads-no r (λ z. alone z ∙ look-refused ed text a z _ r h)

      module _ (d : Token) (h : next_token ed text a.end ≡ Ok d) (t : Bool) (g : t ≡ (eqb a.kind NumValue && eqb d.kind ColonColon)) where
        pub value-colons : (r : Result Part Refusal) → t ≡ true → r ≡ refused_token NoValue a → Value r
        unfolding leaf_value
        value-colons r o e =
            reads-token NoValue a r (λ z. z) (λ z. alone z ∙ look-found ed text a z _ d h ∙ when_true (eqb a.kind NumValue && eqb d.kind ColonColon) _ _ (sym g ∙ o)) e

        pub value-leaf : (to : Spot) → t ≡ false → Placed l s (spelt f c a.start a.end (word_of text a)) to m → Value (Ok (record { to = to; end = a.end; next = d }))
        unfolding leaf_value
        value-leaf to o w =
            reads-read (leaf_at c text a) a.end d to (omega arith)
            (λ z. alone z ∙ look-found ed text a z _ d h ∙ when_false (eqb a.kind NumValue && eqb d.kind ColonColon) _ _ (sym g ∙ o)
            ∙ read-to ed text (leaf_of (value_kind (held ed text a)) (held ed text a)) (leaf_at c text a) a z (held-leaf ed text a z (value_kind (held ed text a)) ∙ ap (λ (x : ℕ). leaf_at x text a) (value-kind ed text a b c z i j))) h
            (placed-as l m (spelt f c a.start a.end (word_of text a)) (laid f (leaf_at c text a)) s to (sym (leaf-laid f text c a (ap (λ (x : ℕ). eqb x RecUnit) j ∙ leaf-other a.kind b))) w)
