-- Bindings and fields: one law for each way through the code.
use mathlib.Core.Path.{◌≡◌, refl, ap, sym, ◌∙◌, subst}
use mathlib.Core.Bool.{Bool, true, false, cond, not}
use mathlib.Core.List.{List, ◌++◌, append_assoc}
use Prim.Native.Nat.{ℕ, suc, ◌-◌, ◌≤◌}
use native.Mathlib.Omega.{arith}
use borrow.Author.Tests.{eq-eqb, ne_eqb, eqb-true, eqb-false}
use lib.Dec.{eqb}
use lib.ListN.{length}
use Rattle.classes.specs.Bytes.{bytes}
use Rattle.classes.proofs.Bools.{false-true}
use Rattle.words.specs.Kinds.{NumValue, Identifier, Colon}
use Rattle.tokens.specs.Refusals.{UnexpectedToken, TooDeep}
use Rattle.tokens.specs.Calls.{next_token}
use Rattle.tokens.specs.declared.Refusal.{Refusal}
use Rattle.tokens.specs.declared.Token.{Token as Answer}
use Rattle.records.specs.Kinds.{RecName, RecVariable, RecField}
use Rattle.records.specs.Tree.{Tree, node, none, more}
use Rattle.sources.specs.Source.{Source, Lexeme, after, LexResult, tok, bad, lex}
use Rattle.answers.specs.Reading.{Ans, ok, then, look, when, leaf_of, Reader}
use Rattle.grammar.specs.Types.{read_type}
use Rattle.grammar.specs.Binds.{unpacked, bind_over, field_over, read_field, read_bind}
use Rattle.forms.specs.Forms.{laid}
use Rattle.forms.specs.code.Constructs.{mark_in, spelt, headed}
use Rattle.forms.specs.code.Spots.{last, inside, Placed, word_of}
use Rattle.forms.specs.declared.Spot.{Spot}
use Rattle.forms.proofs.Placing.{placed-as}
use Rattle.forms.proofs.Constructs.{laid-field}
use Rattle.parts.specs.code.Meets.{Fits, held, refused_token, Contract, ReadsBy}
use Rattle.parts.proofs.Held.{held-leaf, Next, next-found, look-found, look-refused}
use Rattle.parts.proofs.Contracts.{reads-no, reads-token, reads-read, reads_as}
use Rattle.chains.specs.code.Parts.{leaf_at, begins}
use Rattle.chains.proofs.Names.{leaf-laid, when_true, when_false, read-to, chain-other, chain-bad}
use Rattle.type_walk.proofs.Types.{neither_left}
use Rattle.bind_walk.specs.code.Pieces.{struct_kind, variable_kinds, field_at, bound_by, field_name, headed_by}
use Rattle.bind_walk.proofs.Parted.{front, closed-by}
use Rattle.bind_walk.proofs.Structs.{unpack-unnamed}
use Rattle.parts.specs.declared.Part.{Part}
use Rattle.std.specs.Prelude.{Result, Ok, Err}

-- what the kinds of a binding's first two tokens say
module _ (k n : ℕ) where
  variable-yes : variable_kinds k n ≡ true → (k ≡ Identifier) × (struct_kind n ≡ false)
  variable-yes = go (eqb k Identifier) refl (struct_kind n) refl
    where
      go : (b : Bool) → eqb k Identifier ≡ b → (c : Bool) → struct_kind n ≡ c → cond b (not c) false ≡ true → (k ≡ Identifier) × (struct_kind n ≡ false)
      go true d true e h = false-true _ h
      go true d false e h = (eqb-true k Identifier d, e)
      go false d c e h = false-true _ h

  variable-no : (A : Type 0) → variable_kinds k n ≡ false → ((k ≡ Identifier → ⊥) → A) → (k ≡ Identifier → struct_kind n ≡ true → A) → A
  variable-no A = go (eqb k Identifier) refl (struct_kind n) refl
    where
      go : (b : Bool) → eqb k Identifier ≡ b → (c : Bool) → struct_kind n ≡ c → cond b (not c) false ≡ false → ((k ≡ Identifier → ⊥) → A) → (k ≡ Identifier → struct_kind n ≡ true → A) → A
      go true d true e h f g = g (eqb-true k Identifier d) e
      go true d false e h f g = false-true _ (sym h)
      go false d c e h f g = f (eqb-false k Identifier d)

-- a field by what it binds
when-then : (c : Bool) (l : LexResult) (f : Reader) (y : Tree) (v : Source) (k : Tree → Source → Ans Tree) → when c (λ _. look l (λ b. then (f b) k)) (λ _. k y v) ≡ then (when c (λ _. look l f) (λ _. ok y v)) k
unfolding when look then
when-then true (tok t) f y v k = refl
when-then true (bad r) f y v k = refl
when-then false l f y v k = refl

module _ (f ed : ℕ) (text : List ℕ) (s : Spot) (l m : List ℕ) (a : Answer) where
  module _ (n : ℕ) where
    -- bindings, where n levels are left
    abbrev bind : Ans Tree
    bind = read_bind n (held ed text a)

    abbrev Bind : Result Part Refusal → Type 0
    Bind r = Contract (laid f) ed text (Fits text a) bind a.end s l r m

    abbrev Unpack : Result Part Refusal → Type 0
    Unpack r = ReadsBy (laid f) ed text (unpacked (read_type (n - 1)) (field_at (n - 1))) a s l r m

    pub bind-deep : (r : Result Part Refusal) → n ≡ 0 → r ≡ refused_token TooDeep a → Bind r
    unfolding read_bind
    bind-deep r h e = reads-token TooDeep a r (λ z. z) (λ _. rw h) e

    module _ (h : n ≡ 0 → ⊥) where
      bind-level : (z : Lexeme) → read_bind n z ≡ bind_over (read_type (n - 1)) (field_at (n - 1)) z
      unfolding read_bind
      bind-level z = let e : n ≡ suc (n - 1) = omega (arith, h) in ap (λ (k : ℕ). read_bind k z) e

      bind-other : (r : Result Part Refusal) → (a.kind ≡ Identifier → ⊥) → Unpack r → Bind r
      unfolding bind_over
      bind-other r k d =
          reads_as (omega arith) (λ z. z)
          (λ _. bind-level (held ed text a) ∙ when_false (eqb a.kind Identifier) _ _ (ne_eqb a.kind Identifier k)) d

      module _ (k : a.kind ≡ Identifier) where
        bind-bad : (r : Refusal) → next_token ed text a.end ≡ Err r → Bind (Err r)
        unfolding bind_over
        bind-bad r e =
            reads-no r (λ z. bind-level (held ed text a) ∙ when_true (eqb a.kind Identifier) _ _ (eq-eqb a.kind Identifier k) ∙ look-refused ed text a z _ r e)

        module _ (d : Answer) (e : next_token ed text a.end ≡ Ok d) (c : Bool) (g : c ≡ struct_kind d.kind) where
          bind-struct : (r : Result Part Refusal) → c ≡ true → Unpack r → Bind r
          unfolding bind_over
          bind-struct r b w =
              reads_as (omega arith) (λ z. z)
              (λ z. bind-level (held ed text a) ∙ when_true (eqb a.kind Identifier) _ _ (eq-eqb a.kind Identifier k) ∙ look-found ed text a z _ d e
              ∙ when_true (struct_kind d.kind) _ _ (sym g ∙ b)) w

          bind-variable : (to : Spot) → c ≡ false → Placed l s (spelt f RecVariable a.start a.end (word_of text a)) to m → Bind (Ok (record { to = to; end = a.end; next = d }))
          unfolding bind_over
          bind-variable to b w =
              reads-read (leaf_at RecVariable text a) a.end d to (omega arith)
              (λ z. bind-level (held ed text a) ∙ when_true (eqb a.kind Identifier) _ _ (eq-eqb a.kind Identifier k) ∙ look-found ed text a z _ d e
              ∙ when_false (struct_kind d.kind) _ _ (sym g ∙ b) ∙ read-to ed text (leaf_of RecVariable (held ed text a)) (leaf_at RecVariable text a) a z (held-leaf ed text a z RecVariable)) e
              (placed-as l m (spelt f RecVariable a.start a.end (word_of text a)) (laid f (leaf_at RecVariable text a)) s to (sym (leaf-laid f text RecVariable a refl)) w)

      -- by its first two tokens
      pub bind-unnamed : (r : Result Part Refusal) → begins a ≡ false → r ≡ refused_token UnexpectedToken a → Bind r
      bind-unnamed r b e =
          let k = neither_left (eqb a.kind Identifier) (eqb a.kind NumValue) b in
          subst (λ (y : Result Part Refusal). Bind y) (sym e)
          (bind-other _ (eqb-false a.kind Identifier k) (unpack-unnamed f ed text (n - 1) a s s l m r (chain-other f ed text s l m a (begins a) r refl b e) _ e))

      pub bind-refused : (r : Refusal) → begins a ≡ true → next_token ed text a.end ≡ Err r → Bind (Err r)
      bind-refused r b e = go (eqb a.kind Identifier) refl
        where
          go : (c : Bool) → eqb a.kind Identifier ≡ c → Bind (Err r)
          go true d = bind-bad (eqb-true a.kind Identifier d) r e
          go false d = bind-other (Err r) (eqb-false a.kind Identifier d) (unpack-unnamed f ed text (n - 1) a s s l m (Err r) (chain-bad f ed text s l m a (begins a) refl b r e) r refl)

      module _ (d : Answer) (e : next_token ed text a.end ≡ Ok d) (c : Bool) (g : c ≡ variable_kinds a.kind d.kind) where
        pub bind-one : (to : Spot) → c ≡ true → Placed l s (spelt f RecVariable a.start a.end (word_of text a)) to m → Bind (Ok (record { to = to; end = a.end; next = d }))
        bind-one to b w = let y = variable-yes a.kind d.kind (sym g ∙ b) in bind-variable y.0 d e (struct_kind d.kind) refl to y.1 w

        pub bind-unpack : (r : Result Part Refusal) → c ≡ false → Unpack r → Bind r
        bind-unpack r b w = variable-no a.kind d.kind (Bind r) (sym g ∙ b) (λ k. bind-other r k w) (λ k h. bind-struct k d e (struct_kind d.kind) refl r h w)

    -- fields
    abbrev field : Ans Tree
    field = field_at n (held ed text a)

    abbrev Field : Result Part Refusal → Type 0
    Field r = Contract (laid f) ed text (Fits text a) field a.end s l r m

    pub field-deep : (r : Result Part Refusal) → n ≡ 0 → r ≡ refused_token TooDeep a → Field r
    unfolding read_field
    field-deep r h e = reads-token TooDeep a r (λ z. z) (λ _. rw h) e

    module _ (h : n ≡ 0 → ⊥) where
      field-level : (z : Lexeme) → field_at n z ≡ field_over (read_bind n) z
      unfolding read_field
      field-level z = let e : n ≡ suc (n - 1) = omega (arith, h) in ap (λ (k : ℕ). read_field k (read_bind n) z) e

      pub field-other : (r : Result Part Refusal) → (a.kind ≡ Identifier → ⊥) → r ≡ refused_token UnexpectedToken a → Field r
      unfolding field_over
      field-other r k e = reads-token UnexpectedToken a r (λ z. z) (λ _. field-level (held ed text a) ∙ when_false (eqb a.kind Identifier) _ _ (ne_eqb a.kind Identifier k)) e

      module _ (k : a.kind ≡ Identifier) where
        pub field-bad : (r : Refusal) → next_token ed text a.end ≡ Err r → Field (Err r)
        unfolding field_over
        field-bad r e =
            reads-no r (λ z. field-level (held ed text a) ∙ when_true (eqb a.kind Identifier) _ _ (eq-eqb a.kind Identifier k) ∙ look-refused ed text a z _ r e)

        module _ (d : Answer) (e : next_token ed text a.end ≡ Ok d) where
          abbrev field_of : Tree → ℕ → Tree
          field_of x q = node RecField a.start q (more (leaf_at RecName text a) (more x none))

          field_is : Fits text a → field ≡ then (bound_by n (held ed text a) (held ed text d)) (λ x u. ok (field_of x u.at) u)
          unfolding field_over bound_by
          field_is z =
              field-level (held ed text a) ∙ when_true (eqb a.kind Identifier) _ _ (eq-eqb a.kind Identifier k) ∙ look-found ed text a z _ d e
              ∙ when-then (eqb d.kind Colon) (lex (after (held ed text d))) (read_bind n) (leaf_of RecVariable (held ed text a)) (after (held ed text a)) _
              ∙ ap (λ (t : Tree). then (bound_by n (held ed text a) (held ed text d)) (λ x u. ok (node RecField a.start u.at (more t (more x none))) u)) (held-leaf ed text a z RecName)

          pub field_bound : length l ≤ last → (q : Spot) (l₂ m₂ : List ℕ) (p r : Result Part Refusal) → Placed l (inside f s) (field_name f text a) q l₂ → Contract (laid f) ed text (Fits text a) (bound_by n (held ed text a) (held ed text d)) a.end q l₂ p m₂
              → (r ≡ p) × (m ≡ headed_by f RecField a.start s p m₂) → Field r
          field_bound i q l₂ m₂ p r w j v =
              let name = leaf_at RecName text a in
              let bound = bound_by n (held ed text a) (held ed text d) in
              subst (λ (r : Result Part Refusal). Field r) (sym v.0)
              (record {
                meets = λ z. closed-by (λ t. field_name f text a ++ laid f t) f ed text field bound field_of RecField a.start s l m₂ m p i (field_is z)
                    (λ t u q _. laid-field f a.start q name t ∙ ap (headed f RecField a.start q) (sym (append_assoc (laid f name) (mark_in f (bytes ": ")) (laid f t))))
                    (front (laid f) ed text bound (field_name f text a) (inside f s) q l l₂ m₂ p i w (j.meets z)) v.1;
                goes = j.goes;
              })

-- what a field binds
module _ (f ed : ℕ) (text : List ℕ) (s : Spot) (l m : List ℕ) (n : ℕ) (a d : Answer) (e : next_token ed text a.end ≡ Ok d) where
  abbrev Bound : Result Part Refusal → Type 0
  Bound r = Contract (laid f) ed text (Fits text a) (bound_by n (held ed text a) (held ed text d)) a.end s l r m

  pub bound-short : (to : Spot) → (d.kind ≡ Colon → ⊥) → Placed l s (spelt f RecVariable a.start a.end (word_of text a)) to m → Bound (Ok (record { to = to; end = a.end; next = d }))
  unfolding bound_by
  bound-short to c w =
      reads-read (leaf_at RecVariable text a) a.end d to (omega arith)
      (λ z. when_false (eqb d.kind Colon) _ _ (ne_eqb d.kind Colon c) ∙ read-to ed text (leaf_of RecVariable (held ed text a)) (leaf_at RecVariable text a) a z (held-leaf ed text a z RecVariable)) e
      (placed-as l m (spelt f RecVariable a.start a.end (word_of text a)) (laid f (leaf_at RecVariable text a)) s to (sym (leaf-laid f text RecVariable a refl)) w)

  module _ (c : d.kind ≡ Colon) where
    abbrev colon : Next ed text a.end d
    colon = next-found ed text a.end d e

    pub bound-bad : (r : Refusal) → next_token ed text d.end ≡ Err r → Bound (Err r)
    unfolding bound_by
    bound-bad r g =
        reads-no r (λ z. when_true (eqb d.kind Colon) _ _ (eq-eqb d.kind Colon c) ∙ look-refused ed text d colon.fits _ r g)

    pub bound-bind : (b : Answer) → next_token ed text d.end ≡ Ok b → (r : Result Part Refusal) → ReadsBy (laid f) ed text (read_bind n) b s l r m → Bound r
    unfolding bound_by
    bound-bind b g r w =
        let y = next-found ed text d.end b g in
        reads_as (omega (arith, colon.from, colon.fits.1, y.from, y.fits.1)) (λ _. y.fits)
        (λ z. when_true (eqb d.kind Colon) _ _ (eq-eqb d.kind Colon c) ∙ look-found ed text d colon.fits _ b g) w
