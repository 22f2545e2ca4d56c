-- Names: what is laid down, and one law for each way through the code.
use mathlib.Core.Path.{◌≡◌, refl, ap, sym, ◌∙◌, subst}
use mathlib.Core.Bool.{Bool, true, false, cond, ◌||◌}
use mathlib.Core.List.{List, ◌++◌}
use Prim.Native.Nat.{ℕ, ◌≤◌}
use native.Mathlib.Omega.{arith}
use borrow.Author.Tests.{eq-eqb, ne_eqb}
use lib.Dec.{eqb}
use lib.ListN.{length}
use Rattle.classes.specs.Bytes.{bytes}
use Rattle.words.specs.Kinds.{Identifier, NumValue, ColonColon}
use Rattle.tokens.specs.Refusals.{UnexpectedToken}
use Rattle.tokens.specs.Calls.{next_token}
use Rattle.tokens.specs.declared.Refusal.{Refusal}
use Rattle.tokens.specs.declared.Token.{Token as Answer}
use Rattle.records.specs.Kinds.{RecName, RecAddress, RecOnePart, RecTwoPart, RecThreePart, RecPair, RecUnit}
use Rattle.records.specs.Tree.{Tree}
use Rattle.sources.specs.Source.{Source, opened, after}
use Rattle.answers.specs.Reading.{ok, when}
use Rattle.grammar.specs.Names.{pair_of, three_of, last_part, third_part, second_part, chain}
use Rattle.forms.specs.Forms.{laid}
use Rattle.forms.specs.code.Constructs.{mark_in, spelt, headed}
use Rattle.forms.specs.code.Spots.{last, inside, sealed, Placed, word_of}
use Rattle.forms.specs.declared.Spot.{Spot}
use Rattle.forms.proofs.Placing.{placed-long, placed-as, placed-both, placed-headed}
use Rattle.forms.proofs.Constructs.{laid_leaf, laid-two, laid-three, laid-pair}
use Rattle.parts.specs.declared.Way.{Way}
use Rattle.parts.specs.declared.Part.{Part}
use Rattle.parts.specs.code.Meets.{Fits, held, refused_token, followed_by, Follows, Contract, ReadsBy}
use Rattle.parts.proofs.Held.{held-end, held_after, held-leaf, next-found, look-found, look-refused}
use Rattle.parts.proofs.Contracts.{reads-no, reads-token, reads-read, reads-finished, reads_as}
use Rattle.chains.specs.code.Parts.{leaf_at, first_at, pair_at, three_at, pair_bytes, due_at, begins, Past, ReadsBehind}
use Rattle.std.specs.Prelude.{Result, Ok, Err}

-- a record over three pieces: two parts and a mark between them
pub placed-parted : (f k st e : ℕ) (l m₁ m₂ m₃ m xs ys zs : List ℕ) (s i p q r : Spot) → length l ≤ last → i ≡ inside f s → Placed l i xs p m₁ → Placed m₁ p ys q m₂ → Placed m₂ q zs r m₃ → m ≡ sealed f k st e s r m₃
    → Placed l s (headed f k st e (xs ++ (ys ++ zs))) r m
placed-parted f k st e l m₁ m₂ m₃ m xs ys zs s i p q r h g a b c d =
    let n = placed-long l m₁ xs i p a in
    let body : Placed l i (xs ++ (ys ++ zs)) r m₃ = placed-both l m₁ m₃ xs (ys ++ zs) i p r h a (placed-both m₁ m₂ m₃ ys zs p q r (omega (arith, n, h)) b c) in
    placed-headed f k st e l m₃ m (xs ++ (ys ++ zs)) s r h (subst (λ (y : Spot). Placed l y (xs ++ (ys ++ zs)) r m₃) g body) d

pub first-other : (b : Bool) → eqb (cond b RecName RecAddress) RecUnit ≡ false
first-other true = refl
first-other false = refl

module _ (f : ℕ) (text : List ℕ) where
  -- a leaf, laid down
  pub leaf-laid : (c : ℕ) (a : Answer) → eqb c RecUnit ≡ false → laid f (leaf_at c text a) ≡ spelt f c a.start a.end (word_of text a)
  leaf-laid c a h = laid_leaf f c a.start a.end (word_of text a) h

  pub pair-placed : (k c : ℕ) (a b : Answer) (l m₁ m₂ m₃ m : List ℕ) (s i p q r : Spot) → length l ≤ last → i ≡ inside f s → c ≡ cond (eqb a.kind Identifier) RecName RecAddress
      → Placed l i (spelt f c a.start a.end (word_of text a)) p m₁ → Placed m₁ p (mark_in f (bytes "::")) q m₂ → Placed m₂ q (spelt f RecName b.start b.end (word_of text b)) r m₃
      → m ≡ sealed f k a.start b.end s r m₃ → Placed l s (pair_bytes f k text a b) r m
  pair-placed k c a b l m₁ m₂ m₃ m s i p q r h g z x y v d =
      placed-parted f k a.start b.end l m₁ m₂ m₃ m (laid f (first_at text a)) (mark_in f (bytes "::")) (laid f (leaf_at RecName text b)) s i p q r h g
      (placed-as l m₁ (spelt f c a.start a.end (word_of text a)) (laid f (first_at text a)) i p
      (ap (λ (n : ℕ). spelt f n a.start a.end (word_of text a)) z ∙ sym (leaf-laid (cond (eqb a.kind Identifier) RecName RecAddress) a (first-other (eqb a.kind Identifier)))) x)
      y (placed-as m₂ m₃ (spelt f RecName b.start b.end (word_of text b)) (laid f (leaf_at RecName text b)) q r (sym (leaf-laid RecName b refl)) v) d

  pub three-placed : (a b c : Answer) (l m₁ m₂ m₃ m : List ℕ) (s i p q r : Spot) → length l ≤ last → i ≡ inside f s
      → Placed l i (pair_bytes f RecPair text a b) p m₁ → Placed m₁ p (mark_in f (bytes "::")) q m₂ → Placed m₂ q (spelt f RecName c.start c.end (word_of text c)) r m₃
      → m ≡ sealed f RecThreePart a.start c.end s r m₃ → Placed l s (laid f (three_at text a b c)) r m
  three-placed a b c l m₁ m₂ m₃ m s i p q r h g x y v d =
      let pair = laid-pair f a.start b.end (first_at text a) (leaf_at RecName text b) in
      placed-as l m (headed f RecThreePart a.start c.end (laid f (pair_at RecPair text a b) ++ (mark_in f (bytes "::") ++ laid f (leaf_at RecName text c)))) (laid f (three_at text a b c)) s r
      (sym (laid-three f a.start c.end (pair_at RecPair text a b) (leaf_at RecName text c)))
      (placed-parted f RecThreePart a.start c.end l m₁ m₂ m₃ m (laid f (pair_at RecPair text a b)) (mark_in f (bytes "::")) (laid f (leaf_at RecName text c)) s i p q r h g
      (placed-as l m₁ (pair_bytes f RecPair text a b) (laid f (pair_at RecPair text a b)) i p (sym pair) x)
      y (placed-as m₂ m₃ (spelt f RecName c.start c.end (word_of text c)) (laid f (leaf_at RecName text c)) q r (sym (leaf-laid RecName c refl)) v) d)

pub when_true : {A : Type 0} (b : Bool) (f g : Unit {0} → A) → b ≡ true → when b f g ≡ f tt
unfolding when
when_true b f g h = rw h

pub when_false : {A : Type 0} (b : Bool) (f g : Unit {0} → A) → b ≡ false → when b f g ≡ g tt
unfolding when
when_false b f g h = rw h

module _ (ed : ℕ) (text : List ℕ) where
  -- the definitions' trees, by the tokens of the code
  pair_same : (k : ℕ) (a b : Answer) → Fits text a → Fits text b → pair_of k (held ed text a) (held ed text b) ≡ pair_at k text a b
  pair_same k a b fa fb = rw (held-end ed text a fa, held-end ed text b fb)

  three-same : (a b c : Answer) → Fits text a → Fits text b → Fits text c → three_of (held ed text a) (held ed text b) (held ed text c) ≡ three_at text a b c
  three-same a b c fa fb fc = rw (held-end ed text a fa, held-end ed text b fb, held-end ed text c fc)

  -- what was read ends where the token does
  pub read-to : (x y : Tree) (a : Answer) → Fits text a → x ≡ y → ok x (after (held ed text a)) ≡ ok y (opened ed text a.end)
  read-to x y a fa e = ap (λ (u : Source). ok x u) (held_after ed text a fa) ∙ ap (λ (z : Tree). ok z (opened ed text a.end)) e

module _ (f ed : ℕ) (text : List ℕ) (s : Spot) (l m : List ℕ) where
  -- behind the second `::`
  module _ (a b d : Answer) where
    abbrev Last : Result Part Refusal → Type 0
    Last r = Contract (laid f) ed text (Fits text a × Fits text b × Fits text d) (last_part (held ed text a) (held ed text b) (held ed text d)) d.end s l r m

    pub last-bad : (r : Refusal) → next_token ed text d.end ≡ Err r → Last (Err r)
    unfolding last_part
    last-bad r h = reads-no r (λ z. look-refused ed text d z.2 _ r h)

    pub last-other : (c : Answer) (r : Result Part Refusal) → next_token ed text d.end ≡ Ok c → (c.kind ≡ Identifier → ⊥) → r ≡ refused_token UnexpectedToken c → Last r
    unfolding last_part
    last-other c r h k e =
        reads-token UnexpectedToken c r (λ _. (next-found ed text d.end c h).fits)
        (λ z. look-found ed text d z.2 _ c h ∙ when_false (eqb c.kind Identifier) _ _ (ne_eqb c.kind Identifier k)) e

    pub last-three : (c : Answer) (to : Spot) (r : Result Part Refusal) → next_token ed text d.end ≡ Ok c → c.kind ≡ Identifier → Placed l s (laid f (three_at text a b c)) to m → r ≡ followed_by to c.end (next_token ed text c.end) → Last r
    unfolding last_part
    last-three c to r h k w e =
        let n = next-found ed text d.end c h in
        reads-finished (three_at text a b c) c.end to r
        (omega (arith, n.from, n.fits.1)) (λ z. (n.fits.0, n.fits.2))
        (λ z. look-found ed text d z.2 _ c h ∙ when_true (eqb c.kind Identifier) _ _ (eq-eqb c.kind Identifier k)
        ∙ read-to ed text (three_of (held ed text a) (held ed text b) (held ed text c)) (three_at text a b c) c n.fits (three-same ed text a b c z.0 z.1 n.fits)) w e

  -- behind the second part
  module _ (a b : Answer) where
    abbrev Third : Result Part Refusal → Type 0
    Third r = Contract (laid f) ed text (Fits text a × Fits text b) (third_part (held ed text a) (held ed text b)) b.end s l r m

    pub third-bad : (r : Refusal) → next_token ed text b.end ≡ Err r → Third (Err r)
    unfolding third_part
    third-bad r h = reads-no r (λ z. look-refused ed text b z.1 _ r h)

    pub third-more : (d : Answer) (r : Result Part Refusal) → next_token ed text b.end ≡ Ok d → d.kind ≡ ColonColon → Last a b d r → Third r
    unfolding third_part
    third-more d r h k w =
        let n = next-found ed text b.end d h in
        reads_as (omega (arith, n.from, n.fits.1)) (λ z. (z.0, z.1, n.fits))
        (λ z. look-found ed text b z.1 _ d h ∙ when_true (eqb d.kind ColonColon) _ _ (eq-eqb d.kind ColonColon k)) w

    pub third-two : (d : Answer) (to : Spot) → next_token ed text b.end ≡ Ok d → (d.kind ≡ ColonColon → ⊥) → Placed l s (pair_bytes f RecTwoPart text a b) to m → Third (Ok (record { to = to; end = b.end; next = d }))
    unfolding third_part
    third-two d to h k w =
        reads-read (pair_at RecTwoPart text a b) b.end d to (omega arith)
        (λ z. look-found ed text b z.1 _ d h ∙ when_false (eqb d.kind ColonColon) _ _ (ne_eqb d.kind ColonColon k)
        ∙ read-to ed text (pair_of RecTwoPart (held ed text a) (held ed text b)) (pair_at RecTwoPart text a b) b z.1 (pair_same ed text RecTwoPart a b z.0 z.1)) h
        (placed-as l m (pair_bytes f RecTwoPart text a b) (laid f (pair_at RecTwoPart text a b)) s to (sym (laid-two f a.start b.end (first_at text a) (leaf_at RecName text b))) w)

  -- behind the first `::`
  module _ (a d : Answer) where
    abbrev Second : Result Part Refusal → Type 0
    Second r = Contract (laid f) ed text (Fits text a × Fits text d) (second_part (held ed text a) (held ed text d)) d.end s l r m

    pub second-bad : (r : Refusal) → next_token ed text d.end ≡ Err r → Second (Err r)
    unfolding second_part
    second-bad r h = reads-no r (λ z. look-refused ed text d z.1 _ r h)

    pub second-other : (b : Answer) (r : Result Part Refusal) → next_token ed text d.end ≡ Ok b → (b.kind ≡ Identifier → ⊥) → r ≡ refused_token UnexpectedToken b → Second r
    unfolding second_part
    second-other b r h k e =
        reads-token UnexpectedToken b r (λ _. (next-found ed text d.end b h).fits)
        (λ z. look-found ed text d z.1 _ b h ∙ when_false (eqb b.kind Identifier) _ _ (ne_eqb b.kind Identifier k)) e

    pub second-name : (b : Answer) (r : Result Part Refusal) → next_token ed text d.end ≡ Ok b → b.kind ≡ Identifier → Third a b r → Second r
    unfolding second_part
    second-name b r h k w =
        let n = next-found ed text d.end b h in
        reads_as (omega (arith, n.from, n.fits.1)) (λ z. (z.0, n.fits))
        (λ z. look-found ed text d z.1 _ b h ∙ when_true (eqb b.kind Identifier) _ _ (eq-eqb b.kind Identifier k)) w

  -- the first part
  module _ (a : Answer) where
    abbrev Chain : Result Part Refusal → Type 0
    Chain r = ReadsBy (laid f) ed text chain a s l r m

    abbrev first : Bool
    first = eqb a.kind Identifier || eqb a.kind NumValue

    pub chain-other : (c : Bool) (r : Result Part Refusal) → c ≡ first → c ≡ false → r ≡ refused_token UnexpectedToken a → Chain r
    unfolding chain
    chain-other c r h k e = reads-token UnexpectedToken a r (λ z. z) (λ _. when_false first _ _ (sym h ∙ k)) e

    module _ (c : Bool) (g : c ≡ first) (k : c ≡ true) where
      pub chain-bad : (r : Refusal) → next_token ed text a.end ≡ Err r → Chain (Err r)
      unfolding chain
      chain-bad r h = reads-no r (λ z. when_true first _ _ (sym g ∙ k) ∙ look-refused ed text a z _ r h)

      module _ (d : Answer) (h : next_token ed text a.end ≡ Ok d) where
        chain_more : (r : Result Part Refusal) → d.kind ≡ ColonColon → Second a d r → Chain r
        unfolding chain
        chain_more r j w =
            let n = next-found ed text a.end d h in
            reads_as (omega (arith, n.from, n.fits.1)) (λ z. (z, n.fits))
            (λ z. when_true first _ _ (sym g ∙ k) ∙ look-found ed text a z _ d h ∙ when_true (eqb d.kind ColonColon) _ _ (eq-eqb d.kind ColonColon j)) w

        module _ (j : (d.kind ≡ ColonColon → ⊥)) where
          chain-due : (r : Result Part Refusal) → (a.kind ≡ Identifier → ⊥) → r ≡ due_at d a → Chain r
          unfolding chain
          chain-due r i e =
              let n = next-found ed text a.end d h in
              subst (λ (y : Result Part Refusal). ReadsBy (laid f) ed text chain a s l y m) (sym e)
              (reads-no _
              (λ z. when_true first _ _ (sym g ∙ k) ∙ look-found ed text a z _ d h ∙ when_false (eqb d.kind ColonColon) _ _ (ne_eqb d.kind ColonColon j)
              ∙ when_false (eqb a.kind Identifier) _ _ (ne_eqb a.kind Identifier i) ∙ rw (held-end ed text d n.fits, held-end ed text a z)))

          chain-one : (to : Spot) → a.kind ≡ Identifier → Placed l s (spelt f RecOnePart a.start a.end (word_of text a)) to m → Chain (Ok (record { to = to; end = a.end; next = d }))
          unfolding chain
          chain-one to i w =
              reads-read (leaf_at RecOnePart text a) a.end d to (omega arith)
              (λ z. when_true first _ _ (sym g ∙ k) ∙ look-found ed text a z _ d h ∙ when_false (eqb d.kind ColonColon) _ _ (ne_eqb d.kind ColonColon j)
              ∙ when_true (eqb a.kind Identifier) _ _ (eq-eqb a.kind Identifier i) ∙ read-to ed text _ (leaf_at RecOnePart text a) a z (held-leaf ed text a z RecOnePart)) h
              (placed-as l m (spelt f RecOnePart a.start a.end (word_of text a)) (laid f (leaf_at RecOnePart text a)) s to (sym (leaf-laid f text RecOnePart a refl)) w)

-- reading goes on behind a token
pub past-from : (ed : ℕ) (text : List ℕ) (e : ℕ) (r : Result Part Refusal) → Follows ed text e r → Past e r
unfolding Follows Past
past-from ed text e (Ok p) z = let n = next-found ed text p.end p.next z.1 in omega (arith, z.0, n.from, n.fits.1)
past-from ed text e (Err r) z = tt

pub past-read : (e : ℕ) (r : Result Part Refusal) → Past e r → (p : Part) → r ≡ Ok p → e ≤ p.next.end
unfolding Past
past-read e r h p g = subst (Past e) g h

-- a name, by the token behind its first part
module _ (w : Way) (text : List ℕ) (s : Spot) (l m : List ℕ) (a d : Answer) where
  abbrev Behind : Result Part Refusal → Type 0
  Behind r = ReadsBehind w text chain a d s l r m

  pub behind_more : (r : Result Part Refusal) → d.kind ≡ ColonColon → Second w.form w.edition text s l m a d r → Behind r
  behind_more r j v = record { reads = λ h k. chain_more w.form w.edition text s l m a (begins a) refl k d h r j v; past = past-from w.edition text d.end r v.goes }

  module _ (j : (d.kind ≡ ColonColon → ⊥)) where
    pub behind-due : (r : Result Part Refusal) → (a.kind ≡ Identifier → ⊥) → r ≡ due_at d a → Behind r
    unfolding Past
    behind-due r i e = record { reads = λ h k. chain-due w.form w.edition text s l m a (begins a) refl k d h j r i e; past = subst (Past d.end) (sym e) tt }

    pub behind-one : (to : Spot) → a.kind ≡ Identifier → Placed l s (spelt w.form RecOnePart a.start a.end (word_of text a)) to m → Behind (Ok (record { to = to; end = a.end; next = d }))
    unfolding Past
    behind-one to i v = record { reads = λ h k. chain-one w.form w.edition text s l m a (begins a) refl k d h j to i v; past = omega arith }
