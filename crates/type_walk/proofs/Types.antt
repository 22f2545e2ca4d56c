-- Types: what is laid down, and one law for each way through the code, over the reader of a type one level deeper.
use mathlib.Core.Path.{◌≡◌, refl, ap, sym, ◌∙◌, subst}
use mathlib.Core.Bool.{Bool, true, false, cond, ◌||◌}
use mathlib.Core.List.{List, [], ◌++◌, append-nil}
use Prim.Native.Nat.{ℕ, suc, ◌-◌, ◌<◌, ◌≤◌}
use native.Mathlib.Omega.{arith}
use borrow.Author.Tests.{eq-eqb, ne_eqb, eqb-true, eqb-false}
use lib.Dec.{eqb}
use lib.ListN.{length}
use lib.Seq.{sets}
use Rattle.classes.specs.Bytes.{bytes}
use Rattle.classes.proofs.Bools.{false-true}
use Rattle.words.specs.Kinds.{NumValue, Identifier, Amp, AmpMut, LParen, RParen, Less, Greater, Pipe}
use Rattle.tokens.specs.Refusals.{UnexpectedToken, TooDeep}
use Rattle.tokens.specs.Calls.{next_token}
use Rattle.tokens.specs.declared.Refusal.{Refusal}
use Rattle.tokens.specs.declared.Token.{Token as Answer}
use Rattle.records.specs.Kinds.{RecType, RecRef, RecRefMut, RecFunction}
use Rattle.records.specs.Tree.{Tree, node, Trees, none, more, behind}
use Rattle.sources.specs.Source.{Source, opened, Lexeme, start, tok, lex}
use Rattle.answers.specs.Reading.{Ans, ok, then, look, when, Reader, list_behind}
use Rattle.grammar.specs.Names.{chain}
use Rattle.grammar.specs.Types.{spanned, bracketed, brackets, reference, function, with_arguments, named, type_over, read_type}
use Rattle.forms.specs.Forms.{laid}
use Rattle.forms.specs.code.Constructs.{mark_in, headed, laid_items, in_bars, in_angles}
use Rattle.forms.specs.code.Spots.{last, moved_by, inside, sealed, Placed}
use Rattle.forms.specs.declared.Spot.{Spot}
use Rattle.forms.proofs.Placing.{placed-long, placed-as, placed-both, placed-front, placed-headed}
use Rattle.forms.proofs.Constructs.{laid-ref, laid-ref-mut, laid-unit, laid-brackets, laid-tuple, laid-function, laid-type}
use Rattle.parts.specs.declared.Part.{Part}
use Rattle.parts.specs.code.Meets.{Fits, held, refused_token, Refuses, Had, Contract, ReadsBy}
use Rattle.parts.proofs.Held.{Next, next-found, look-found, look-refused}
use Rattle.parts.proofs.Contracts.{reads-no, reads-token, reads-refused, reads-built, reads_as, reads-had, reads-goes, reads-not, refuses-ok, refuses-look}
use Rattle.lists.specs.declared.Items.{Items}
use Rattle.lists.specs.code.Lists.{count_of, ListContract}
use Rattle.lists.proofs.Laying.{bars-laid}
use Rattle.lists.proofs.Contracts.{all-had, all-goes, all-not, all-counts}
use Rattle.chains.specs.code.Parts.{begins}
use Rattle.chains.proofs.Names.{placed-parted, when_true, when_false, chain-other, chain-bad}
use Rattle.type_walk.specs.code.Types.{brackets_kind, Angled}
use Rattle.std.specs.Prelude.{Result, Ok, Err}

-- what is read, by what its parts are
module _ (item : Reader) (a : Lexeme) where
  function_of : (xs : Trees) (u : Source) (b : Lexeme) → list_behind item Pipe a ≡ ok xs u → lex u ≡ tok b → function item a ≡ then (item b) (λ x v. ok (spanned RecFunction a v (behind xs x)) v)
  unfolding function then look
  function_of xs u b e h = rw (e, h)

  named-of : (c : Tree) (u : Source) (o : Lexeme) → chain a ≡ ok c u → lex u ≡ tok o
      → named item a ≡ when (eqb o.kind Less) (λ _. then (list_behind item Greater o) λ xs v. ok (spanned RecType a v (more c xs)) v) (λ _. ok (spanned RecType a u (more c none)) u)
  unfolding named with_arguments then look
  named-of c u o e h = rw (e, h)

-- what is laid down
module _ (f : ℕ) where
  bracketed-laid : (a : Lexeme) (u : Source) (ts : Trees) → laid f (bracketed a u ts) ≡ headed f (brackets_kind (count_of ts)) (start a) u.at (mark_in f (bytes "(") ++ (laid_items f ts ++ mark_in f (bytes ")")))
  unfolding bracketed count_of
  bracketed-laid a u none = laid-unit f (start a) u.at
  bracketed-laid a u (more x none) = laid-brackets f (start a) u.at (more x none)
  bracketed-laid a u (more x (more y xs)) = laid-tuple f (start a) u.at (more x (more y xs))

  reference-laid : (b : Bool) (st e : ℕ) (x : Tree) → laid f (node (cond b RecRefMut RecRef) st e (more x none)) ≡ headed f (cond b RecRefMut RecRef) st e (mark_in f (cond b (bytes "&mut ") (bytes "& ")) ++ laid f x)
  reference-laid true st e x = laid-ref-mut f st e x
  reference-laid false st e x = laid-ref f st e x

  -- arguments, by whether there are any
  module _ (l k m : List ℕ) (s j b r : Spot) (h : length l ≤ last) (g : j ≡ moved_by s (length (mark_in f (bytes "<")))) where
    angled-none : Placed l j [] b k → Angled f true k s b r m → Placed l s [] r m
    angled-none y d = record { ends = d.ends; holds = d.holds ∙ y.holds }

    angled-some : (xs : List ℕ) → Placed l j xs b k → Angled f false k s b r m → Placed l s (mark_in f (bytes "<") ++ (xs ++ mark_in f (bytes ">"))) r m
    angled-some xs y d =
        let k₂ = sets k b.pos (mark_in f (bytes ">")) in
        let z : Placed k b (mark_in f (bytes ">")) r k₂ = record { ends = d.ends; holds = refl } in
        placed-front l k₂ m (mark_in f (bytes "<")) (xs ++ mark_in f (bytes ">")) s r h
        (subst (λ (q : Spot). Placed l q (xs ++ mark_in f (bytes ">")) r k₂) g (placed-both l k k₂ xs (mark_in f (bytes ">")) j b r h y z)) d.holds

    angled-placed : (ts : Trees) → Placed l j (laid_items f ts) b k → Angled f (eqb (count_of ts) 0) k s b r m → Placed l s (in_angles f ts) r m
    unfolding in_angles laid_items count_of
    angled-placed none y d = angled-none y d
    angled-placed (more x none) y d = angled-some (laid_items f (more x none)) y d
    angled-placed (more x (more z ts)) y d = angled-some (laid_items f (more x (more z ts))) y d

module _ (f ed : ℕ) (text : List ℕ) (item : Reader) (a : Answer) (s : Spot) (l : List ℕ) where
  abbrev Is : Ans Tree → Result Part Refusal → List ℕ → Type 0
  Is x r m = Contract (laid f) ed text (Fits text a) x a.end s l r m

  -- brackets
  module _ (p : Spot) (m₁ m₂ : List ℕ) (t : Result Items Refusal) (w : ListContract f ed text item RParen a p m₁ t m₂) where
    abbrev types : Ans Trees
    types = list_behind item RParen (held ed text a)

    pub brackets-refused : (r : Refusal) → t ≡ Err r → Is (brackets item (held ed text a)) (Err r) m₂
    unfolding brackets
    brackets-refused r e =
        reads-refused r (λ fit. refuses-ok types r (λ xs u. bracketed (held ed text a) u xs) (all-not w r e fit))

    module _ (n : Items) (e : t ≡ Ok n) (h : length l ≤ last) (i : Spot) (g : i ≡ inside f s) (y : Placed l i (mark_in f (bytes "(")) p m₁) where
      pub brackets-read : (to : Spot) (m₃ m : List ℕ) (k : ℕ) → Placed m₂ n.part.to (mark_in f (bytes ")")) to m₃ → k ≡ brackets_kind n.count → m ≡ sealed f k a.start n.part.end s to m₃
          → Is (brackets item (held ed text a)) (Ok (record { to = to; end = n.part.end; next = n.part.next })) m
      unfolding brackets then
      brackets-read to m₃ m k v c d =
          let goes = all-goes w n e in
          reads-built (record { to = to; end = n.part.end; next = n.part.next }) built goes.0 goes.1
        where
          built : Fits text a → Had (laid f) ed text (brackets item (held ed text a)) s l (record { to = to; end = n.part.end; next = n.part.next }) m
          built fit =
              let z = all-had w n e fit in
              let what = bracketed (held ed text a) (opened ed text n.part.end) z.what in
              let same = ap (λ (x : ℕ). headed f x a.start n.part.end (mark_in f (bytes "(") ++ (laid_items f z.what ++ mark_in f (bytes ")")))) (c ∙ ap brackets_kind (all-counts w n e fit z.what _ z.is)) in
              record {
                what = what;
                is = ap (λ (x : Ans Trees). then x (λ xs u. ok (bracketed (held ed text a) u xs) u)) z.is;
                bytes =
                    placed-as l m _ (laid f what) s to (same ∙ sym (bracketed-laid f (held ed text a) (opened ed text n.part.end) z.what))
                    (placed-parted f k a.start n.part.end l m₁ m₂ m₃ m (mark_in f (bytes "(")) (laid_items f z.what) (mark_in f (bytes ")")) s i p n.part.to to h g y z.bytes v d);
              }

  -- references
  module _ (b : Bool) where
    abbrev refer : Ans Tree
    refer = reference item (cond b RecRefMut RecRef) (held ed text a)

    pub reference-bad : (m : List ℕ) (r : Refusal) → next_token ed text a.end ≡ Err r → Is refer (Err r) m
    unfolding reference
    reference-bad m r h = reads-no r (λ fit. look-refused ed text a fit _ r h)

    module _ (c : Answer) (h : next_token ed text a.end ≡ Ok c) (q : Spot) (m₁ m₂ : List ℕ) (t : Result Part Refusal) (w : ReadsBy (laid f) ed text item c q m₁ t m₂) where
      abbrev next : Next ed text a.end c
      next = next-found ed text a.end c h

      refer-is : Fits text a → refer ≡ then (item (held ed text c)) (λ x u. ok (spanned (cond b RecRefMut RecRef) (held ed text a) u (more x none)) u)
      unfolding reference
      refer-is fit = look-found ed text a fit _ c h

      pub reference-refused : (r : Refusal) → t ≡ Err r → Is refer (Err r) m₂
      reference-refused r e =
          reads-refused r (λ fit. subst (λ (x : Ans Tree). Refuses x r) (sym (refer-is fit))
          (refuses-ok (item (held ed text c)) r (λ x u. spanned (cond b RecRefMut RecRef) (held ed text a) u (more x none)) (reads-not w r e next.fits)))

      pub reference-read : (p : Part) → t ≡ Ok p → length l ≤ last → (i : Spot) → i ≡ inside f s → Placed l i (mark_in f (cond b (bytes "&mut ") (bytes "& "))) q m₁ → (m : List ℕ) (k : ℕ) → k ≡ cond b RecRefMut RecRef
          → m ≡ sealed f k a.start p.end s p.to m₂ → Is refer (Ok p) m
      unfolding then
      reference-read p e g i z y m k c₁ d =
          let v = reads-had w p e next.fits in
          let goes = reads-goes w p e in
          let marks = mark_in f (cond b (bytes "&mut ") (bytes "& ")) in
          let what = node (cond b RecRefMut RecRef) a.start p.end (more v.what none) in
          let body = placed-both l m₁ m₂ marks (laid f v.what) i q p.to g y v.bytes in
          let all = placed-headed f k a.start p.end l m₂ m (marks ++ laid f v.what) s p.to g (subst (λ (x : Spot). Placed l x (marks ++ laid f v.what) p.to m₂) z body) d in
          reads-built p
          (λ fit. record {
            what = what;
            is = refer-is fit ∙ ap (λ (x : Ans Tree). then x (λ x u. ok (spanned (cond b RecRefMut RecRef) (held ed text a) u (more x none)) u)) v.is;
            bytes = placed-as l m _ (laid f what) s p.to (ap (λ (x : ℕ). headed f x a.start p.end (marks ++ laid f v.what)) c₁ ∙ sym (reference-laid f b a.start p.end v.what)) all;
          })
          (omega (arith, next.from, next.fits.1, goes.0)) goes.1

  -- functions
  module _ (p : Spot) (m₁ m₂ : List ℕ) (t : Result Items Refusal) (w : ListContract f ed text item Pipe a p m₁ t m₂) where
    abbrev arguments : Ans Trees
    arguments = list_behind item Pipe (held ed text a)

    abbrev result : Trees → Tree → Source → Ans Tree
    result xs x u = ok (spanned RecFunction (held ed text a) u (behind xs x)) u

    pub function-refused : (r : Refusal) → t ≡ Err r → Is (function item (held ed text a)) (Err r) m₂
    unfolding function
    function-refused r e =
        reads-no r (λ fit. refuses-look arguments r _ (all-not w r e fit))

    module _ (n : Items) (e : t ≡ Ok n) (d : Spot) (m₄ m₅ : List ℕ) (x : Result Part Refusal) (v : ReadsBy (laid f) ed text item n.part.next d m₄ x m₅) where
      abbrev goes : (a.end ≤ n.part.end) × (next_token ed text n.part.end ≡ Ok n.part.next)
      goes = all-goes w n e

      abbrev next_one : Next ed text n.part.end n.part.next
      next_one = next-found ed text n.part.end n.part.next goes.1

      abbrev had-all : Fits text a → Had (laid_items f) ed text arguments p m₁ (n.part) m₂
      had-all fit = all-had w n e fit

      function-is : (fit : Fits text a) → function item (held ed text a) ≡ then (item (held ed text n.part.next)) (result (had-all fit).what)
      function-is fit = function_of item (held ed text a) (had-all fit).what (opened ed text n.part.end) (held ed text n.part.next) (had-all fit).is next_one.is

      pub result-refused : (r : Refusal) → x ≡ Err r → Is (function item (held ed text a)) (Err r) m₅
      result-refused r z =
          reads-refused r (λ fit. subst (λ (y : Ans Tree). Refuses y r) (sym (function-is fit))
          (refuses-ok (item (held ed text n.part.next)) r (λ y u. spanned RecFunction (held ed text a) u (behind (had-all fit).what y))
          (reads-not v r z next_one.fits)))

      pub function-read : (y : Part) → x ≡ Ok y → length l ≤ last → (i c : Spot) (m₃ : List ℕ) → i ≡ inside f s → Placed l i (mark_in f (bytes "|")) p m₁
          → Placed m₂ n.part.to (mark_in f (cond (eqb n.count 0) (bytes " |") (bytes "|"))) c m₃ → Placed m₃ c (mark_in f (bytes " ")) d m₄ → (m : List ℕ) → m ≡ sealed f RecFunction a.start y.end s y.to m₅
          → Is (function item (held ed text a)) (Ok y) m
      unfolding then
      function-read y z h i c m₃ g bar close blank m seal =
          let had = reads-had v y z next_one.fits in
          let on = reads-goes v y z in
          reads-built y
          (λ fit.
          let all = had-all fit in
          let end = mark_in f (cond (eqb n.count 0) (bytes " |") (bytes "|")) in
          let what = node RecFunction a.start y.end (behind all.what had.what) in
          let i₁ = placed-long l m₁ (mark_in f (bytes "|")) i p bar in
          let items = placed-both m₁ m₂ m₃ (laid_items f all.what) end p n.part.to c (omega (arith, h, i₁)) all.bytes close in
          let named = bars-laid f all.what n.count (all-counts w n e fit all.what _ all.is) in
          let bars = placed-as l m₃ _ (in_bars f all.what) i c named (placed-both l m₁ m₃ (mark_in f (bytes "|")) (laid_items f all.what ++ end) i p c h bar items) in
          record {
            what = what;
            is = function-is fit ∙ ap (λ (q : Ans Tree). then q (result all.what)) had.is;
            bytes =
                placed-as l m _ (laid f what) s y.to (sym (laid-function f a.start y.end all.what had.what))
                (placed-parted f RecFunction a.start y.end l m₃ m₄ m₅ m (in_bars f all.what) (mark_in f (bytes " ")) (laid f had.what) s i c d y.to h g bars blank had.bytes seal);
          })
          (omega (arith, goes.0, next_one.from, next_one.fits.1, on.0)) on.1

  -- names
  module _ (i : Spot) (m₁ : List ℕ) (t : Result Part Refusal) (w : ReadsBy (laid f) ed text chain a i l t m₁) where
    pub named-refused : (r : Refusal) → t ≡ Err r → Is (named item (held ed text a)) (Err r) m₁
    unfolding named with_arguments
    named-refused r e =
        reads-no r (λ fit. refuses-look (chain (held ed text a)) r _ (reads-not w r e fit))

    module _ (p : Part) (e : t ≡ Ok p) where
      abbrev on : (a.end ≤ p.end) × (next_token ed text p.end ≡ Ok p.next)
      on = reads-goes w p e

      abbrev after-name : Next ed text p.end p.next
      after-name = next-found ed text p.end p.next on.1

      abbrev name : Fits text a → Had (laid f) ed text (chain (held ed text a)) i l p m₁
      name fit = reads-had w p e fit

      abbrev argued : Ans Trees
      argued = list_behind item Greater (held ed text p.next)

      named-is : (fit : Fits text a) → named item (held ed text a)
          ≡ when (eqb p.next.kind Less) (λ _. then argued λ xs v. ok (spanned RecType (held ed text a) v (more (name fit).what xs)) v) (λ _. ok (spanned RecType (held ed text a) (opened ed text p.end) (more (name fit).what none)) (opened ed text p.end))
      named-is fit = named-of item (held ed text a) (name fit).what (opened ed text p.end) (held ed text p.next) (name fit).is after-name.is

      pub named-alone : (p.next.kind ≡ Less → ⊥) → length l ≤ last → i ≡ inside f s → (m : List ℕ) → m ≡ sealed f RecType a.start p.end s p.to m₁ → Is (named item (held ed text a)) (Ok p) m
      unfolding in_angles
      named-alone k h g m d =
          reads-built p
          (λ fit.
          let c = name fit in
          let what = node RecType a.start p.end (more c.what none) in
          record {
            what = what;
            is = named-is fit ∙ when_false (eqb p.next.kind Less) _ _ (ne_eqb p.next.kind Less k);
            bytes =
                placed-as l m _ (laid f what) s p.to (ap (headed f RecType a.start p.end) (sym (append-nil (laid f c.what))) ∙ sym (laid-type f a.start p.end c.what none))
                (placed-headed f RecType a.start p.end l m₁ m (laid f c.what) s p.to h (subst (λ (x : Spot). Placed l x (laid f c.what) p.to m₁) g c.bytes) d);
          })
          on.0 on.1

      module _ (k : p.next.kind ≡ Less) (j : Spot) (m₂ : List ℕ) (x : Result Items Refusal) (v : ListContract f ed text item Greater p.next j m₁ x m₂) where
        argued-is : (fit : Fits text a) → named item (held ed text a) ≡ then argued (λ xs u. ok (spanned RecType (held ed text a) u (more (name fit).what xs)) u)
        argued-is fit = named-is fit ∙ when_true (eqb p.next.kind Less) _ _ (eq-eqb p.next.kind Less k)

        pub arguments-refused : (r : Refusal) → x ≡ Err r → Is (named item (held ed text a)) (Err r) m₂
        arguments-refused r z =
            reads-refused r (λ fit. subst (λ (y : Ans Tree). Refuses y r) (sym (argued-is fit))
            (refuses-ok argued r (λ xs u. spanned RecType (held ed text a) u (more (name fit).what xs)) (all-not v r z after-name.fits)))

        pub named-read : (n : Items) → x ≡ Ok n → length l ≤ last → i ≡ inside f s → j ≡ moved_by p.to (length (mark_in f (bytes "<"))) → (to : Spot) (m₃ m : List ℕ) → Angled f (eqb n.count 0) m₂ p.to n.part.to to m₃
            → m ≡ sealed f RecType a.start n.part.end s to m₃ → Is (named item (held ed text a)) (Ok (record { to = to; end = n.part.end; next = n.part.next })) m
        unfolding then
        named-read n z h g q to m₃ m y d =
            let all = all-had v n z after-name.fits in
            let goes = all-goes v n z in
            reads-built (record { to = to; end = n.part.end; next = n.part.next })
            (λ fit.
            let c = name fit in
            let what = node RecType a.start n.part.end (more c.what all.what) in
            let i₁ = placed-long l m₁ (laid f c.what) i p.to c.bytes in
            let angles = angled-placed f m₁ m₂ m₃ p.to j n.part.to to (omega (arith, h, i₁)) q all.what all.bytes (subst (λ (b : ℕ). Angled f (eqb b 0) m₂ p.to n.part.to to m₃) (all-counts v n z after-name.fits all.what _ all.is) y) in
            let body = placed-both l m₁ m₃ (laid f c.what) (in_angles f all.what) i p.to to h c.bytes angles in
            record {
              what = what;
              is = argued-is fit ∙ ap (λ (b : Ans Trees). then b (λ xs u. ok (spanned RecType (held ed text a) u (more c.what xs)) u)) all.is;
              bytes =
                  placed-as l m _ (laid f what) s to (sym (laid-type f a.start n.part.end c.what all.what))
                  (placed-headed f RecType a.start n.part.end l m₃ m (laid f c.what ++ in_angles f all.what) s to h (subst (λ (b : Spot). Placed l b (laid f c.what ++ in_angles f all.what) to m₃) g body) d);
            })
            (omega (arith, on.0, after-name.from, after-name.fits.1, goes.0)) goes.1

-- the kinds that begin a reference
pub neither_left : (a b : Bool) → (a || b) ≡ false → a ≡ false
neither_left true b h = false-true _ (sym h)
neither_left false b h = refl

neither_right : (a b : Bool) → (a || b) ≡ false → b ≡ false
neither_right true b h = false-true _ (sym h)
neither_right false b h = h

module _ (k : ℕ) (x : Bool) (r : x ≡ (eqb k Amp || eqb k AmpMut)) where
  pub begins-reference : x ≡ true → 0 < k
  begins-reference e = go (eqb k Amp) refl
    where
      go : (b : Bool) → eqb k Amp ≡ b → 0 < k
      go true d = omega (arith, eqb-true k Amp d)
      go false d = omega (arith, eqb-true k AmpMut (sym (ap (λ (b : Bool). b || eqb k AmpMut) d) ∙ (sym r ∙ e)))

  pub no-reference : x ≡ false → k ≡ Amp → ⊥
  no-reference e = eqb-false k Amp (neither_left (eqb k Amp) (eqb k AmpMut) (sym r ∙ e))

  pub no-reference-mut : x ≡ false → k ≡ AmpMut → ⊥
  no-reference-mut e = eqb-false k AmpMut (neither_right (eqb k Amp) (eqb k AmpMut) (sym r ∙ e))

-- a type by its first token
module _ (item : Reader) (t : Lexeme) where
  over-brackets : t.kind ≡ LParen → type_over item t ≡ brackets item t
  unfolding type_over
  over-brackets e = when_true (eqb t.kind LParen) _ _ (eq-eqb _ _ e)

  module _ (d : (t.kind ≡ LParen → ⊥)) where
    over-ref : t.kind ≡ Amp → type_over item t ≡ reference item RecRef t
    unfolding type_over
    over-ref e = when_false (eqb t.kind LParen) _ _ (ne_eqb _ _ d) ∙ when_true (eqb t.kind Amp) _ _ (eq-eqb _ _ e)

    module _ (g : (t.kind ≡ Amp → ⊥)) where
      over-ref-mut : t.kind ≡ AmpMut → type_over item t ≡ reference item RecRefMut t
      unfolding type_over
      over-ref-mut e = when_false (eqb t.kind LParen) _ _ (ne_eqb _ _ d) ∙ when_false (eqb t.kind Amp) _ _ (ne_eqb _ _ g) ∙ when_true (eqb t.kind AmpMut) _ _ (eq-eqb _ _ e)

      module _ (h : (t.kind ≡ AmpMut → ⊥)) where
        over-function : t.kind ≡ Pipe → type_over item t ≡ function item t
        unfolding type_over
        over-function e =
            when_false (eqb t.kind LParen) _ _ (ne_eqb _ _ d) ∙ when_false (eqb t.kind Amp) _ _ (ne_eqb _ _ g) ∙ when_false (eqb t.kind AmpMut) _ _ (ne_eqb _ _ h)
            ∙ when_true (eqb t.kind Pipe) _ _ (eq-eqb _ _ e)

        over-named : (t.kind ≡ Pipe → ⊥) → type_over item t ≡ named item t
        unfolding type_over
        over-named e =
            when_false (eqb t.kind LParen) _ _ (ne_eqb _ _ d) ∙ when_false (eqb t.kind Amp) _ _ (ne_eqb _ _ g) ∙ when_false (eqb t.kind AmpMut) _ _ (ne_eqb _ _ h)
            ∙ when_false (eqb t.kind Pipe) _ _ (ne_eqb _ _ e)

    over-reference : (eqb t.kind Amp || eqb t.kind AmpMut) ≡ true → type_over item t ≡ reference item (cond (eqb t.kind AmpMut) RecRefMut RecRef) t
    over-reference e = go (eqb t.kind Amp) refl
      where
        go : (b : Bool) → eqb t.kind Amp ≡ b → type_over item t ≡ reference item (cond (eqb t.kind AmpMut) RecRefMut RecRef) t
        go true h =
            let q = eqb-true t.kind Amp h in
            over-ref q ∙ ap (λ (b : Bool). reference item (cond b RecRefMut RecRef) t) (sym (ne_eqb t.kind AmpMut (λ w. absurd (omega (arith, q, w)))))
        go false h =
            let y = sym (ap (λ (b : Bool). b || eqb t.kind AmpMut) h) ∙ e in
            over-ref-mut (eqb-false t.kind Amp h) (eqb-true t.kind AmpMut y) ∙ ap (λ (b : Bool). reference item (cond b RecRefMut RecRef) t) (sym y)

-- the kinds that begin a name
begins-kind : (a : Answer) (P : ℕ → Type 0) → P Identifier → P NumValue → begins a ≡ true → P a.kind
begins-kind a P x y e = go (eqb a.kind Identifier) refl
  where
    go : (b : Bool) → eqb a.kind Identifier ≡ b → P a.kind
    go true d = subst P (sym (eqb-true a.kind Identifier d)) x
    go false d = subst P (sym (eqb-true a.kind NumValue (sym (ap (λ (b : Bool). b || eqb a.kind NumValue) d) ∙ e))) y

pub begins-some : (a : Answer) → begins a ≡ true → 0 < a.kind
begins-some a e = begins-kind a (λ k. 0 < k) (omega arith) (omega arith) e

module _ (f ed : ℕ) (text : List ℕ) (item : Reader) (a : Answer) (s : Spot) (l m : List ℕ) (r : Result Part Refusal) where
  abbrev Whole : Ans Tree → Type 0
  Whole x = Contract (laid f) ed text (Fits text a) x a.end s l r m

  over-as : (x : Ans Tree) → type_over item (held ed text a) ≡ x → Whole x → Whole (type_over item (held ed text a))
  over-as x e d = reads_as (omega arith) (λ fit. fit) (λ fit. e) d

  pub marked-brackets : a.kind ≡ LParen → Whole (brackets item (held ed text a)) → Whole (type_over item (held ed text a))
  marked-brackets e d = over-as (brackets item (held ed text a)) (over-brackets item (held ed text a) e) d

  module _ (k₁ : (a.kind ≡ LParen → ⊥)) where
    pub marked-reference : (x : Bool) → x ≡ (eqb a.kind Amp || eqb a.kind AmpMut) → x ≡ true
        → Whole (reference item (cond (eqb a.kind AmpMut) RecRefMut RecRef) (held ed text a)) → Whole (type_over item (held ed text a))
    marked-reference x r e d =
        over-as (reference item (cond (eqb a.kind AmpMut) RecRefMut RecRef) (held ed text a)) (over-reference item (held ed text a) k₁ (sym r ∙ e)) d

    module _ (k₂ : (a.kind ≡ Amp → ⊥)) (k₃ : (a.kind ≡ AmpMut → ⊥)) where
      pub marked-function : a.kind ≡ Pipe → Whole (function item (held ed text a)) → Whole (type_over item (held ed text a))
      marked-function e d = over-as (function item (held ed text a)) (over-function item (held ed text a) k₁ k₂ k₃ e) d

      pub marked_other : (a.kind ≡ Pipe → ⊥) → begins a ≡ false → r ≡ refused_token UnexpectedToken a → Whole (type_over item (held ed text a))
      marked_other e b d =
          over-as (named item (held ed text a)) (over-named item (held ed text a) k₁ k₂ k₃ e)
          (subst (λ (y : Result Part Refusal). ReadsBy (laid f) ed text (named item) a s l y m) (sym d)
          (named-refused f ed text item a s l s m r (chain-other f ed text s l m a (begins a) r refl b d) _ d))

  -- a name begins it
  module _ (b : begins a ≡ true) where
    pub begun-named : Whole (named item (held ed text a)) → Whole (type_over item (held ed text a))
    begun-named d =
        over-as (named item (held ed text a))
        (begins-kind a (λ k. (k ≡ a.kind → type_over item (held ed text a) ≡ named item (held ed text a)))
        (λ q. over-named item (held ed text a) (λ w. absurd (omega (arith, q, w))) (λ w. absurd (omega (arith, q, w))) (λ w. absurd (omega (arith, q, w))) (λ w. absurd (omega (arith, q, w))))
        (λ q. over-named item (held ed text a) (λ w. absurd (omega (arith, q, w))) (λ w. absurd (omega (arith, q, w))) (λ w. absurd (omega (arith, q, w))) (λ w. absurd (omega (arith, q, w))))
        b refl) d

pub begun-bad : (f ed : ℕ) (text : List ℕ) (item : Reader) (a : Answer) (s : Spot) (l m : List ℕ) (r : Refusal) → begins a ≡ true → next_token ed text a.end ≡ Err r
    → ReadsBy (laid f) ed text (type_over item) a s l (Err r) m
begun-bad f ed text item a s l m r b h =
    begun-named f ed text item a s l m (Err r) b (named-refused f ed text item a s l s m (Err r) (chain-bad f ed text s l m a (begins a) refl b r h) r refl)

module _ (f ed : ℕ) (text : List ℕ) (left : ℕ) (a : Answer) (s : Spot) (l m : List ℕ) (r : Result Part Refusal) where
  abbrev Levelled : Ans Tree → Type 0
  Levelled x = Contract (laid f) ed text (Fits text a) x a.end s l r m

  pub type-deep : left ≡ 0 → r ≡ refused_token TooDeep a → Levelled (read_type left (held ed text a))
  unfolding read_type
  type-deep h e = reads-token TooDeep a r (λ fit. fit) (λ _. rw h) e

  pub type-over : 0 < left → Levelled (type_over (read_type (left - 1)) (held ed text a)) → Levelled (read_type left (held ed text a))
  unfolding read_type
  type-over h d =
      let e : left ≡ suc (left - 1) = omega (arith, h) in
      reads_as (omega arith) (λ fit. fit) (λ fit. ap (λ (n : ℕ). read_type n (held ed text a)) e) d
