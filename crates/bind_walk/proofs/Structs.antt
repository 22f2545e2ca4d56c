-- Structs and their fields: one law for each way through the code.
use mathlib.Core.Path.{◌≡◌, refl, ap, sym, ◌∙◌, subst}
use mathlib.Core.Bool.{Bool, true, false, cond}
use mathlib.Core.List.{List, ◌++◌, append_assoc}
use Prim.Native.Nat.{ℕ, ◌≤◌}
use native.Mathlib.Omega.{arith}
use borrow.Author.Tests.{eq-eqb, ne_eqb, eqb-true, eqb-false}
use lib.Dec.{eqb}
use lib.ListN.{length}
use Rattle.classes.specs.Bytes.{bytes}
use Rattle.words.specs.Kinds.{Less, Greater, LBrace, RBrace}
use Rattle.tokens.specs.Refusals.{UnexpectedToken}
use Rattle.tokens.specs.Calls.{next_token}
use Rattle.tokens.specs.declared.Refusal.{Refusal}
use Rattle.tokens.specs.declared.Token.{Token as Answer}
use Rattle.records.specs.Kinds.{RecStruct, RecStructTyped}
use Rattle.records.specs.Tree.{Tree, node, Trees, more, joined}
use Rattle.sources.specs.Source.{Source, opened, Lexeme, lex}
use Rattle.answers.specs.Reading.{Ans, ok, then, look, when, list_behind}
use Rattle.grammar.specs.Names.{chain}
use Rattle.grammar.specs.Types.{read_type}
use Rattle.grammar.specs.Binds.{fields, struct_over, unpacked}
use Rattle.forms.specs.Forms.{laid}
use Rattle.forms.specs.code.Constructs.{mark_in, headed, laid_items}
use Rattle.forms.specs.code.Spots.{last, inside, Placed}
use Rattle.forms.specs.declared.Spot.{Spot}
use Rattle.forms.proofs.Placing.{placed-both}
use Rattle.forms.proofs.Constructs.{laid-struct, laid-struct-typed}
use Rattle.frames.proofs.Told.{types-behind, fields-every}
use Rattle.parts.specs.declared.Way.{Way}
use Rattle.parts.specs.declared.Part.{Part}
use Rattle.parts.specs.code.Meets.{Fits, held, refused_token, Had, Contract, ReadsBy}
use Rattle.parts.proofs.Held.{Next, next-found}
use Rattle.parts.proofs.Contracts.{reads-no, reads-token, reads_as, reads-had, reads-goes, reads-not, goes-from, refuses-look}
use Rattle.lists.specs.code.Lists.{part_of, ListContract}
use Rattle.chains.specs.code.Parts.{Past}
use Rattle.chains.proofs.Names.{when_true, when_false, past-from}
use Rattle.bind_walk.specs.code.Pieces.{field_at, angled, braced, ended_by, marked_by, headed_by, TypesBehind}
use Rattle.bind_walk.proofs.Parted.{then_ok, front, marked, closed-by}
use Rattle.lists.specs.declared.Items.{Items}
use Rattle.std.specs.Prelude.{Result, Ok, Err}

-- looking at the token that stands at a place
look_at : {B : Type 0} (ed : ℕ) (text : List ℕ) (q : ℕ) (b : Answer) (g : Lexeme → Ans B) → next_token ed text q ≡ Ok b → look (lex (opened ed text q)) g ≡ g (held ed text b)
unfolding look
look_at ed text q b g h = rw (next-found ed text q b h).is

-- five pieces, bracketed otherwise
joins : (a b c d e : List ℕ) → a ++ (b ++ (c ++ (d ++ e))) ≡ (a ++ (b ++ (c ++ d))) ++ e
joins a b c d e = simp append_assoc

-- the types behind the `<` o
pub types-enclosed : (f ed : ℕ) (text : List ℕ) (n : ℕ) (o : Answer) (s q : Spot) (l l₂ m₂ m : List ℕ) (t : Result Items Refusal) (p r : Result Part Refusal) → length l ≤ last → Placed l s (mark_in f (bytes "<")) q l₂
    → ListContract f ed text (read_type n) Greater o q l₂ t m₂ → p ≡ part_of t → (r ≡ ended_by f 62 p) × (m ≡ marked_by f 62 p m₂)
    → ReadsBy (angled f) ed text (list_behind (read_type n) Greater) o s l r m
types-enclosed f ed text n o s q l l₂ m₂ m t p r h g d e w =
    let items : ReadsBy (laid_items f) ed text (list_behind (read_type n) Greater) o q l₂ p m₂ = rw e d.reads in
    marked f 62 (bytes "<") h g items w.0 w.1

-- the types, or none
module _ (w : Way) (text : List ℕ) (p : Part) (l : List ℕ) where
  pub behind-none : (p.next.kind ≡ Less → ⊥) → TypesBehind w text p l (Ok p) l
  unfolding Past
  behind-none k = record { plain = λ _. (refl, refl); typed = λ h. absurd (k h); past = omega arith }

  pub behind-types : (r : Result Part Refusal) (m : List ℕ) → p.next.kind ≡ Less → ReadsBy (angled w.form) w.edition text (list_behind (read_type w.left) Greater) p.next p.to l r m → TypesBehind w text p l r m
  behind-types r m k d = record { plain = λ h. absurd (h k); typed = λ _. d; past = past-from w.edition text p.next.end r d.goes }

module _ (f ed : ℕ) (text : List ℕ) (n : ℕ) where
  -- fields
  module _ (b : Answer) (s : Spot) (l m : List ℕ) where
    abbrev braces : Ans Trees
    braces = fields (read_type n) (field_at n) (held ed text b)

    abbrev Fields : Result Part Refusal → Type 0
    Fields r = Contract (braced f) ed text (Fits text b) braces b.end s l r m

    pub fields-other : (r : Result Part Refusal) → (b.kind ≡ LBrace → ⊥) → r ≡ refused_token UnexpectedToken b → Fields r
    unfolding fields
    fields-other r k e = reads-token UnexpectedToken b r (λ z. z) (λ _. when_false (eqb b.kind LBrace) _ _ (ne_eqb b.kind LBrace k)) e

    pub fields-enclosed : (q : Spot) (l₂ m₂ : List ℕ) (t : Result Items Refusal) (p r : Result Part Refusal) → length l ≤ last → b.kind ≡ LBrace → Placed l s (mark_in f (bytes " {")) q l₂
        → ListContract f ed text (field_at n) RBrace b q l₂ t m₂ → p ≡ part_of t → (r ≡ ended_by f 125 p) × (m ≡ marked_by f 125 p m₂) → Fields r
    unfolding fields
    fields-enclosed q l₂ m₂ t p r h k g d e w =
        let items : ReadsBy (laid_items f) ed text (list_behind (field_at n) RBrace) b q l₂ p m₂ = rw e d.reads in
        reads_as (omega arith) (λ z. z) (λ _. when_true (eqb b.kind LBrace) _ _ (eq-eqb b.kind LBrace k)) (marked f 125 (bytes " {") h g items w.0 w.1)

  -- structs
  module _ (a : Answer) (s i : Spot) (l l₁ : List ℕ) (c : Result Part Refusal) (d : ReadsBy (laid f) ed text chain a i l c l₁) where
    abbrev struct : Ans Tree
    struct = unpacked (read_type n) (field_at n) (held ed text a)

    abbrev Unpack : Result Part Refusal → List ℕ → Type 0
    Unpack r m = Contract (laid f) ed text (Fits text a) struct a.end s l r m

    -- the name is refused, or the token behind it
    pub unpack-unnamed : (r : Refusal) → c ≡ Err r → Unpack (Err r) l₁
    unfolding unpacked struct_over
    unpack-unnamed r e = reads-no r (λ z. refuses-look (chain (held ed text a)) r _ (reads-not d r e z))

    module _ (p : Part) (e : c ≡ Ok p) where
      name-had : Fits text a → Had (laid f) ed text (chain (held ed text a)) i l p l₁
      name-had = reads-had d p e

      name-goes : (a.end ≤ p.end) × (next_token ed text p.end ≡ Ok p.next)
      name-goes = reads-goes d p e

      abbrev here : Next ed text p.end p.next
      here = next-found ed text p.end p.next name-goes.1

      -- behind the name x
      abbrev plain : Tree → Ans Tree
      plain x = then (fields (read_type n) (field_at n) (held ed text p.next)) (λ fs v. ok (node RecStruct a.start v.at (more x fs)) v)

      abbrev typed : Tree → Ans Tree
      typed x = then (list_behind (read_type n) Greater (held ed text p.next)) (λ xs v. look (lex v) (λ t. then (fields (read_type n) (field_at n) t) (λ fs w. ok (node RecStructTyped a.start w.at (more x (joined xs fs))) w)))

      is-named : (z : Fits text a) → struct ≡ when (eqb p.next.kind Less) (λ _. typed (name-had z).what) (λ _. plain (name-had z).what)
      unfolding unpacked struct_over
      is-named z =
          let w = name-had z in
          then_ok (chain (held ed text a)) (λ x u. struct_over (read_type n) (field_at n) (held ed text a) x u) w.what (opened ed text p.end) w.is ∙ look_at ed text p.end p.next _ name-goes.1

      -- no types
      unpack-plain : length l ≤ last → i ≡ inside f s → (p.next.kind ≡ Less → ⊥) → (q r : Result Part Refusal) (m₂ m : List ℕ)
          → ReadsBy (braced f) ed text (fields (read_type n) (field_at n)) p.next p.to l₁ q m₂ → (r ≡ q) × (m ≡ headed_by f RecStruct a.start s q m₂) → Unpack r m
      unpack-plain h j k q r m₂ m g w =
          let y = fields (read_type n) (field_at n) (held ed text p.next) in
          subst (λ (x : Result Part Refusal). Unpack x m) (sym w.0)
          (record {
            meets = λ z.
                (let v = name-had z in
                closed-by (λ fs. laid f v.what ++ braced f fs) f ed text struct y (λ fs x. node RecStruct a.start x (more v.what fs)) RecStruct a.start s l m₂ m q h
                (is-named z ∙ when_false (eqb p.next.kind Less) _ _ (ne_eqb p.next.kind Less k))
                (λ fs u x _. laid-struct f a.start x v.what fs)
                (front (braced f) ed text y (laid f v.what) (inside f s) p.to l l₁ m₂ q h (subst (λ (x : Spot). Placed l x (laid f v.what) p.to l₁) j v.bytes) (g.meets here.fits)) w.1);
            goes = goes-from ed text p.next.end a.end q (omega (arith, name-goes.0, here.from, here.fits.1)) g.goes;
          })

      -- types in `<` and `>`
      module _ (k : p.next.kind ≡ Less) (t : Result Part Refusal) (l₂ : List ℕ)
          (g : ReadsBy (angled f) ed text (list_behind (read_type n) Greater) p.next p.to l₁ t l₂) where
        abbrev types : Ans Trees
        types = list_behind (read_type n) Greater (held ed text p.next)

        is-typed : (z : Fits text a) → struct ≡ typed (name-had z).what
        is-typed z = is-named z ∙ when_true (eqb p.next.kind Less) _ _ (eq-eqb p.next.kind Less k)

        unpack-untyped : (r : Refusal) → t ≡ Err r → Unpack (Err r) l₂
        unpack-untyped r x =
            reads-no r (λ z. is-typed z ∙ refuses-look types r _ (reads-not g r x here.fits))

        module _ (q : Part) (x : t ≡ Ok q) where
          types-had : Had (angled f) ed text types p.to l₁ q l₂
          types-had = reads-had g q x here.fits

          types-goes : (p.next.end ≤ q.end) × (next_token ed text q.end ≡ Ok q.next)
          types-goes = reads-goes g q x

          abbrev there : Next ed text q.end q.next
          there = next-found ed text q.end q.next types-goes.1

          abbrev rest : Ans Trees
          rest = fields (read_type n) (field_at n) (held ed text q.next)

          is-both : (z : Fits text a) → struct ≡ then rest (λ fs w. ok (node RecStructTyped a.start w.at (more (name-had z).what (joined types-had.what fs))) w)
          is-both z = is-typed z ∙ then_ok types _ types-had.what (opened ed text q.end) types-had.is ∙ look_at ed text q.end q.next _ types-goes.1

          -- the name and the types, laid down
          both-laid : length l ≤ last → i ≡ inside f s → (z : Fits text a) → Placed l (inside f s) (laid f (name-had z).what ++ angled f types-had.what) q.to l₂
          both-laid h j z =
              let v = name-had z in
              placed-both l l₁ l₂ (laid f v.what) (angled f types-had.what) (inside f s) p.to q.to h (subst (λ (x : Spot). Placed l x (laid f v.what) p.to l₁) j v.bytes) types-had.bytes

          struct-laid : (y : Tree) (fs : Trees) (u : Source) (e : ℕ) → rest ≡ ok fs u
              → laid f (node RecStructTyped a.start e (more y (joined types-had.what fs))) ≡ headed f RecStructTyped a.start e ((laid f y ++ angled f types-had.what) ++ braced f fs)
          struct-laid y fs u e o =
              laid-struct-typed f a.start e y types-had.what fs (types-behind n (held ed text p.next) types-had.what (opened ed text q.end) types-had.is) (fields-every n (held ed text q.next) fs u o)
              ∙ ap (headed f RecStructTyped a.start e) (joins (laid f y) (mark_in f (bytes "<")) (laid_items f types-had.what) (mark_in f (bytes ">")) (braced f fs))

          unpack-typed : length l ≤ last → i ≡ inside f s → (v r : Result Part Refusal) (m₂ m : List ℕ) → Contract (braced f) ed text (Fits text q.next) rest q.next.end q.to l₂ v m₂
              → (r ≡ v) × (m ≡ headed_by f RecStructTyped a.start s v m₂) → Unpack r m
          unpack-typed h j v r m₂ m o w =
              subst (λ (x : Result Part Refusal). Unpack x m) (sym w.0)
              (record {
                meets = λ z.
                    (let y = (name-had z).what in
                    let before = laid f y ++ angled f types-had.what in
                    closed-by (λ fs. before ++ braced f fs) f ed text struct rest (λ fs e. node RecStructTyped a.start e (more y (joined types-had.what fs))) RecStructTyped a.start s l m₂ m v h (is-both z)
                    (λ fs u e x. struct-laid y fs u e x)
                    (front (braced f) ed text rest before (inside f s) q.to l l₂ m₂ v h (both-laid h j z) (o.meets there.fits)) w.1);
                goes = goes-from ed text q.next.end a.end v (omega (arith, name-goes.0, here.from, here.fits.1, types-goes.0, there.from, there.fits.1)) o.goes;
              })

      -- types or none
      module _ (t : Result Part Refusal) (l₂ : List ℕ) (g : TypesBehind (record { form = f; edition = ed; left = n }) text p l₁ t l₂) where
        pub unpack-bad : (r : Refusal) → t ≡ Err r → Unpack (Err r) l₂
        unpack-bad r x = go (eqb p.next.kind Less) refl
          where
            go : (b : Bool) → eqb p.next.kind Less ≡ b → Unpack (Err r) l₂
            go true k = let y = eqb-true p.next.kind Less k in unpack-untyped y t l₂ (g.typed y) r x
            go false k =
                let y : Ok p ≡ Err r = sym (g.plain (eqb-false p.next.kind Less k)).0 ∙ x in
                let z : ◌≡◌ {A = ℕ} 0 1 = cc in
                absurd (omega arith)

        abbrev Fielded : Part → List ℕ → Result Part Refusal → List ℕ → Type 0
        Fielded q k v m₂ = ReadsBy (braced f) ed text (fields (read_type n) (field_at n)) q.next q.to k v m₂

        pub unpack-fields : length l ≤ last → i ≡ inside f s → (k : ℕ) → k ≡ cond (eqb p.next.kind Less) RecStructTyped RecStruct → (q : Part) → t ≡ Ok q → (v r : Result Part Refusal) (m₂ m : List ℕ) → Fielded q l₂ v m₂
            → (r ≡ v) × (m ≡ headed_by f k a.start s v m₂) → Unpack r m
        unpack-fields h j k c q x v r m₂ m o w = go (eqb p.next.kind Less) refl
          where
            headed-as : (b : Bool) → eqb p.next.kind Less ≡ b → m ≡ headed_by f (cond b RecStructTyped RecStruct) a.start s v m₂
            headed-as b e = w.1 ∙ ap (λ (z : ℕ). headed_by f z a.start s v m₂) (c ∙ ap (λ (z : Bool). cond z RecStructTyped RecStruct) e)

            go : (b : Bool) → eqb p.next.kind Less ≡ b → Unpack r m
            go true e = let y = eqb-true p.next.kind Less e in unpack-typed y t l₂ (g.typed y) q x h j v r m₂ m o (w.0, headed-as true e)
            go false e =
                let y = g.plain (eqb-false p.next.kind Less e) in
                let z : Ok p ≡ Ok q = sym y.0 ∙ x in
                let u : p ≡ q = cc in
                unpack-plain h j (eqb-false p.next.kind Less e) v r m₂ m
                (subst (λ (b : Part). Fielded b l₁ v m₂) (sym u) (subst (λ (b : List ℕ). Fielded q b v m₂) y.1 o)) (w.0, headed-as false e)
