-- An instance of the law: whatever is read has a line that reads back, with as many levels left.
use mathlib.Core.Path.{◌≡◌, refl, sym, ap, ◌∙◌, subst}
use mathlib.Core.Bool.{Bool, true, false}
use mathlib.Core.List.{List, [], ◌∷◌}
use Prim.Native.Nat.{ℕ}
use borrow.Author.Tests.{eqb-true}
use lib.Dec.{eqb}
use lib.ListN.{get_or}
use Rattle.classes.proofs.Bools.{false-true}
use Rattle.words.specs.Kinds.{Identifier, AtSign, Pipe}
use Rattle.records.specs.Kinds.{RecName, RecPair}
use Rattle.records.specs.Tree.{Tree, node, Trees, none, more, behind, joined, build, builds}
use Rattle.sources.specs.Source.{Source, Lexeme, start, word, tok, lex}
use Rattle.answers.specs.Reading.{Ans, ok, no, leaf_of, Reader}
use Rattle.grammar.specs.Names.{is_first, first_part, chain}
use Rattle.grammar.specs.Values.{leaf_kind, value}
use Rattle.grammar.specs.Types.{levels, read_type}
use Rattle.grammar.specs.Binds.{read_bind_list, read_lambda_list}
use Rattle.forms.specs.Line.{kind_of_build}
use Rattle.frames.specs.code.Related.{Sort, a_name, a_pair, a_value, a_type, a_field, a_bind, a_bind_list, a_lambda_list, Role, Fits, kind_of, Lone, a_part, a_variable, Part, mark, leaf, one, many, Rule, pair, two, three, address, shared, mutable, function, plain, applied, struct, typed, field, several, alone, lambda, Frame, RelReader, Lawful, Starts, Literal, Short}
use Rattle.frames.proofs.Readers.{chain-rel, value-rel, type-same, bind-list-same, lambda-list-same}
use Rattle.frames.proofs.Facts.{Facts, about, Fact, Of, reader-of, met}
use Rattle.roundtrip.specs.Arguments.{is_function}
use Rattle.roundtrip.proofs.Tokens.{Each, Editions, Spelled, Good, lex-good}
use Rattle.roundtrip.proofs.Answers.{Here, Every, map-every}
use Rattle.roundtrip.proofs.Lists.{All, all_map}
use Rattle.roundtrip.proofs.Names.{leaf-word, Chain, chain-one, chain-two, chain-three, identifier, first_word, ValueBack, at_back, leaf-back}
use Rattle.roundtrip.proofs.Types.{bracketed-build, grouped-kind, Typed, Argument, type-back, group-back, ref_back, mut_back, function-back}
use Rattle.roundtrip.proofs.Binds.{Bound, Fielded, variable-back, field_back, struct_back, typed-back, ListBack, list_back, LambdaBack, lambda-back}

-- a literal is no `@`
no-at : (k b : ℕ) → eqb (leaf_kind k b) 0 ≡ false → eqb k AtSign ≡ false
unfolding leaf_kind
no-at k b h = go (eqb k AtSign) refl
  where
    go : (c : Bool) → eqb k AtSign ≡ c → c ≡ false
    go false e = refl
    go true e = false-true _ (sym h ∙ ap (λ (i : ℕ). eqb (leaf_kind i b) 0) (eqb-true k AtSign e))

module _ (es : Editions) where
  -- the first two of three parts
  data Paired : Tree → Type 0 where
    paired : (a b : Lexeme) (s e : ℕ) → is_first a ≡ true → Spelled es a.kind (word a) → Spelled es Identifier (word b) → Paired (node RecPair s e (more (first_part a) (more (leaf_of RecName b) none)))

  -- what is read from the token a, by its sort; and an item of a list, whose first token does not close it
  abbrev Back : Sort → Lexeme → Tree → Type 0
  Back a_name a x = Chain es x
  Back a_pair a x = Paired x
  Back a_value a x = ValueBack es x
  Back (a_type n) a x = Typed es n x × (eqb a.kind Pipe ≡ false → is_function (build x) ≡ false)
  Back (a_field n) a x = Fielded es n x
  Back (a_bind n) a x = Bound es n x
  Back a_bind_list a x = ListBack es x
  Back a_lambda_list a x = LambdaBack es x

  abbrev Item : Sort → ℕ → Tree → Type 0
  Item s close x = (t : Lexeme) × (eqb t.kind close ≡ false) × Back s t x

  data Row : List Part → Trees → Type 0 where
    nothing : Row [] none
    marked : {k : ℕ} {r : List Part} {ts : Trees} → Row r ts → Row (mark k ∷ r) ts
    leafed : {l : Role} {r : List Part} {ts : Trees} (t : Lexeme) → Good es t → Fits l t → Row r ts → Row (leaf l ∷ r) (behind ts (leaf_of (kind_of l t) t))
    oned : {s : Sort} {r : List Part} {ts : Trees} (t : Lexeme) (x : Tree) → Back s t x → Row r ts → Row (one s ∷ r) (behind ts x)
    manied : {s : Sort} {c : ℕ} {r : List Part} {ts : Trees} (us : Trees) → All (Item s c) us → Row r ts → Row (many s c ∷ r) (joined ts us)

  types_of : (n c : ℕ) (ts : Trees) → All (Item (a_type n) c) ts → All (Typed es n) ts
  types_of n c = all_map (Item (a_type n) c) (Typed es n) λ t h. h.2.0

  arguments-of : (n : ℕ) (ts : Trees) → All (Item (a_type n) Pipe) ts → All (Argument es n) ts
  arguments-of n = all_map (Item (a_type n) Pipe) (Argument es n) λ t h. (h.2.0, h.2.1 h.1)

  fields-of : (n c : ℕ) (ts : Trees) → All (Item (a_field n) c) ts → All (Fielded es n) ts
  fields-of n c = all_map (Item (a_field n) c) (Fielded es n) λ t h. h.2

  binds-of : (n c : ℕ) (ts : Trees) → All (Item (a_bind n) c) ts → All (Bound es n) ts
  binds-of n c = all_map (Item (a_bind n) c) (Bound es n) λ t h. h.2

  -- each record
  made-back : {s : Sort} {c : ℕ} {r : List Part} {xs : Trees} → Rule s c r → (a : Lexeme) (e : ℕ) → Starts r a → Row r xs → Back s a (node c (start a) e xs)
  unfolding behind joined build kind_of_build
  made-back pair a e z (leafed b g i (marked (leafed t h f nothing))) = paired t b _ _ f (first_word es t h f) (identifier es b g i)
  made-back two a e z (leafed b g i (marked (leafed t h f nothing))) = chain-two es t b f (first_word es t h f) (identifier es b g i) _ _
  made-back three a e z (leafed c k l (marked (oned q x (paired t b s₂ e₂ f n m) nothing))) = chain-three es t b f n m _ _ s₂ e₂ c (identifier es c k l)
  made-back address a e z (leafed t g f (marked nothing)) = at_back es _ _ t f (first_word es t g f)
  made-back (shared {n = n}) a e z (oned t x h (marked nothing)) = (ref_back es n _ _ x h.0, λ _. refl)
  made-back (mutable {n = n}) a e z (oned t x h (marked nothing)) = (mut_back es n _ _ x h.0, λ _. refl)
  made-back (function {n = n}) a e z (oned t x h (manied ts i (marked nothing))) = (function-back es n _ _ ts x (arguments-of n ts i) h.0, λ y. false-true _ (sym y ∙ z))
  made-back (plain {n = n}) a e z (oned t c h nothing) = (type-back es n _ _ c none h tt, λ _. refl)
  made-back (applied {n = n}) a e z (manied ts i (marked (oned t c h nothing))) = (type-back es n _ _ c ts h (types_of n _ ts i), λ _. refl)
  made-back (struct {n = n}) a e z (manied fs i (marked (oned t c h nothing))) = struct_back es n _ _ c fs h (fields-of n _ fs i)
  made-back (typed {n = n}) a e z (manied fs i (marked (manied ts j (marked (oned t c h nothing))))) = typed-back es n _ _ c ts fs h (types_of n _ ts j) (fields-of n _ fs i)
  made-back (field {n = n}) a e z (oned t x h (marked (leafed b g i nothing))) = field_back es n _ _ b x (identifier es b g i) h
  made-back several a e z (manied xs i (marked nothing)) = list_back es _ _ xs (binds-of levels _ xs i)
  made-back alone a e z (oned t x h nothing) = list_back es _ _ (more x none) (h, tt)
  made-back lambda a e z (manied xs i (marked nothing)) = lambda-back es _ _ xs (binds-of levels _ xs i)

  lone-back : {s : Sort} {l : Role} → Lone s l → (a : Lexeme) → Good es a → Fits l a → Back s a (leaf_of (kind_of l a) a)
  lone-back a_part a g f = chain-one es a (identifier es a g f)
  lone-back (a_variable {n = n}) a g f = variable-back es n a (identifier es a g f)

  abbrev facts : Facts
  facts =
      record {
        source = Here es;
        token = Good es;
        refusal = λ r. Unit {0};
        tree = λ s a u x. Back s a x;
        row = λ r a u xs. Row r xs;
        items = λ s c u v xs. All (Item s c) xs;
      }

  abbrev F : Frame
  F = about facts

  token-fact : (t : Lexeme) → Good es t → Fact facts t
  token-fact t g = record { good = g; on = g.0; half = λ _. g.0 }

  found : (u : Source) (t : Lexeme) → Here es u → lex u ≡ tok t → Fact facts t
  found u t h l = token-fact t (subst (Each (Good es)) l (lex-good es u h))

  law : Lawful F
  law =
      record {
        next = met facts found (λ u r h l. tt);
        refused_at = λ n t t₂ h g d. tt;
        refused_before = λ n t t₂ o o₂ h g d e. tt;
        colons_due = λ t t₂ a a₂ d e. tt;
        begin = λ x. nothing;
        mark = λ k h m. marked h;
        leaf = λ {t = t} l h p f. leafed t p.step.good f h;
        one = λ {t = t} {x = x} s h p d. oned t x d h;
        many = λ {ts = ts} s c h i. manied ts i h;
        empty = λ s c p o j. tt;
        last = λ {t = t} s c p n x q o j. ((t, n, x), tt);
        more = λ {t = t} s c p n x q xs. ((t, n, x), xs);
        lone = λ {a = a} s l i x f o. lone-back i a x.good f;
        made = λ {a = a} {u = u} s c r i x z h o. made-back i a u.at z h;
        brackets = λ {a = a} {u = u} {xs = xs} n x k i o. (group-back es n a u xs (types_of n _ xs i), λ _. rw (bracketed-build a u xs) (grouped-kind (builds xs)).0);
      }

  literal : Literal F
  literal a a₂ x c o = let b = get_or (word a) 0 0 in leaf-back es a (x.good.1 ((leaf-word a.kind b).1 c)) (no-at a.kind b c) c

  short : Short F
  short n a a₂ x k o = let i = identifier es a x.good k in field_back es n _ _ a (leaf_of 20 a) i (variable-back es n a i)

  sure : (s : Sort) (item : Reader) → RelReader F s item item → (a : Lexeme) → Good es a → Every es (Back s a) (item a)
  sure s item h a g = go (item a) (reader-of facts s item h a (token-fact a g))
    where
      go : (b : Ans Tree) → Of facts (λ u x. Back s a x) b → Every es (Back s a) b
      go (ok x u) r = (r.1, r.0)
      go (no q) r = tt

  pub chain-sure : (a : Lexeme) → Good es a → Every es (Chain es) (chain a)
  chain-sure a g = sure a_name chain (chain-rel F law) a g

  pub value-sure : (a : Lexeme) → Good es a → Every es (ValueBack es) (value a)
  value-sure a g = sure a_value value (value-rel F law literal) a g

  pub type-sure : (n : ℕ) (a : Lexeme) → Good es a → Every es (Typed es n) (read_type n a)
  type-sure n a g = map-every es _ (Typed es n) (read_type n a) (λ x h. h.0) (sure (a_type n) (read_type n) (type-same F law refl n) a g)

  pub list-sure : (a : Lexeme) → Good es a → Every es (ListBack es) (read_bind_list a)
  list-sure a g = sure a_bind_list read_bind_list (bind-list-same F law refl short) a g

  pub lambda-sure : (a : Lexeme) → Good es a → Every es (LambdaBack es) (read_lambda_list a)
  lambda-sure a g = sure a_lambda_list read_lambda_list (lambda-list-same F law refl short) a g
