-- The law: in a lawful frame every reader gives related answers from related first tokens. This is the one walk over the readers; what is
-- to be proved of what they read is said by frames.
use mathlib.Core.Path.{◌≡◌, refl, ap, ap₂, sym, ◌∙◌, subst}
use mathlib.Core.Bool.{Bool, true, false, cond, ◌&&◌, ◌||◌}
use mathlib.Core.List.{List, [], ◌∷◌}
use Prim.Native.Nat.{ℕ, zero, suc}
use native.Mathlib.Omega.{arith}
use lib.Dec.{eqb}
use lib.ListN.{get_or}
use Rattle.classes.proofs.Bools.{false-true}
use Rattle.words.specs.Kinds.{NumValue, NumTypedValue, ByteStringValue, Identifier, ColonColon, False, True, AtSign, Amp, AmpMut, LParen, RParen, Colon, Less, Greater, Pipe, LBrace, RBrace}
use Rattle.tokens.specs.Refusals.{TooDeep}
use Rattle.records.specs.Tree.{Tree, Trees, behind, joined}
use Rattle.sources.specs.Source.{Source, Lexeme, word, after}
use Rattle.answers.specs.Reading.{ok, no, then, refused_at, Reader, list_behind}
use Rattle.grammar.specs.Names.{is_first, last_part, third_part, second_part, chain}
use Rattle.grammar.specs.Values.{leaf_kind, value_kind, leaf_value, address_value, value}
use Rattle.grammar.specs.Types.{levels, spanned, bracketed, brackets, reference, function, with_arguments, named, type_by, type_over, read_type}
use Rattle.grammar.specs.Binds.{is_struct, fields, struct_over, unpacked, bind_over, field_over, read_field, read_bind, bind_list_over, lambda_list_over, read_bind_list, read_lambda_list}
use Rattle.grammar.specs.Items.{kind_over, read_kind}
use Rattle.frames.specs.code.Related.{Sort, a_name, a_pair, a_value, a_type, a_field, a_bind, a_bind_list, a_lambda_list, Role, name, first, one_part, variable, Fits, a_part, a_variable, Part, mark, one, many, Rule, pair, two, three, address, shared, mutable, function as functional, plain, applied, struct, typed, field as fielded, several, alone, lambda, Frame, Goes, Step, At, Mark, Rel, oks, nos, Near, RelReader, Lawful, Starts, Literal, Short}
use Rattle.frames.proofs.Ways.{goes, is, begins, marks, on, past, look-rel, when-rel, by_kind, then-rel, at-rel, unexpected-rel, also, behind-rel}

-- the kinds of tokens that begin a name or are a value by themselves
first_goes : (t : Lexeme) → is_first t ≡ true → Goes t.kind
first_goes t h = go (eqb t.kind Identifier) refl (eqb t.kind NumValue) refl h
  where
    go : (a : Bool) → eqb t.kind Identifier ≡ a → (b : Bool) → eqb t.kind NumValue ≡ b → (a || b) ≡ true → Goes t.kind
    go true x b y h = goes t.kind Identifier x refl
    go false x true y h = goes t.kind NumValue y refl
    go false x false y h = false-true _ h

pub leaf-goes : (k b : ℕ) → eqb (leaf_kind k b) 0 ≡ false → Goes k
unfolding leaf_kind
leaf-goes k b h = go (eqb k True) refl (eqb k False) refl (eqb k NumValue) refl (eqb k NumTypedValue) refl (eqb k ByteStringValue) refl h
  where
    go : (t : Bool) → eqb k True ≡ t → (f : Bool) → eqb k False ≡ f → (n : Bool) → eqb k NumValue ≡ n → (y : Bool) → eqb k NumTypedValue ≡ y → (s : Bool) → eqb k ByteStringValue ≡ s
        → eqb (cond t 32 (cond f 33 (cond (n || y) 31 (cond s (cond (eqb b 120) 34 35) 0)))) 0 ≡ false → Goes k
    go true x f z n z₂ y z₃ s z₄ h = goes k True x refl
    go false x true z n z₂ y z₃ s z₄ h = goes k False z refl
    go false x false z true z₂ y z₃ s z₄ h = goes k NumValue z₂ refl
    go false x false z false z₂ true z₃ s z₄ h = goes k NumTypedValue z₃ refl
    go false x false z false z₂ false z₃ true z₄ h = goes k ByteStringValue z₄ refl
    go false x false z false z₂ false z₃ false z₄ h = false-true _ (sym h)

pub fits-goes : (l : Role) (t : Lexeme) → Fits l t → Goes t.kind
fits-goes name t h = goes t.kind Identifier h refl
fits-goes first t h = first_goes t h
fits-goes one_part t h = goes t.kind Identifier h refl
fits-goes variable t h = goes t.kind Identifier h refl

-- tests that come out alike
module _ {F : Frame} {t t₂ : Lexeme} where
  first-is : Step F t t₂ → is_first t ≡ is_first t₂
  first-is d = ap (λ (k : ℕ). eqb k Identifier || eqb k NumValue) d.kind

  pub value-is : Step F t t₂ → value_kind t ≡ value_kind t₂
  value-is d = ap (λ (k : ℕ). leaf_kind k (get_or (word t) 0 0)) d.kind ∙ ap (λ (w : List ℕ). leaf_kind t₂.kind (get_or w 0 0)) d.spelled

  struct_is : Step F t t₂ → is_struct t ≡ is_struct t₂
  struct_is d = ap (λ (k : ℕ). eqb k LBrace || eqb k Less || eqb k ColonColon) d.kind

-- the sort of each kind of item
abbrev pub sort_of : ℕ → Sort
sort_of kind = cond (eqb kind 1) a_name (cond (eqb kind 2) a_value (cond (eqb kind 3) (a_type levels) (cond (eqb kind 4) a_bind_list a_lambda_list)))

-- the readers on the right, which are those of the grammar but for what they make of brackets
abbrev pub wrapped : (Lexeme → Source → Trees → Tree) → Reader → Reader
wrapped wrap type a = then (list_behind type RParen a) λ xs u. ok (wrap a u xs) u

module _ (wrap : Lexeme → Source → Trees → Tree) where
  unfoldable pub type_beside : ℕ → Reader
  type_beside zero a = no (refused_at TooDeep a)
  type_beside (suc n) a = type_by (type_beside n) (wrapped wrap (type_beside n)) a

  unfoldable pub bind_beside : ℕ → Reader
  bind_beside zero a = no (refused_at TooDeep a)
  bind_beside (suc n) a = bind_over (type_beside n) (read_field n (bind_beside n)) a

module _ (F : Frame) (L : Lawful F) where
  pub chain-rel : RelReader F a_name chain chain
  unfolding chain second_part third_part last_part behind
  chain-rel m m₂ a a₂ x =
      when-rel F L (is_first a) (is_first a₂) _ _ _ _ (first-is x.step)
      (λ f.
      let i = on x (first_goes a f) in
      look-rel F L (after a) (after a₂) _ _ i λ d d₂ p e.
      by_kind F L ColonColon e.step _ _ _ _
      (λ k.
      let r = L.mark ColonColon (L.leaf first (L.begin x.step) (begins x.step) f) (marks p ColonColon k refl) in
      look-rel F L (after d) (after d₂) _ _ (past e ColonColon k refl) λ b b₂ p e.
      by_kind F L Identifier e.step _ _ _ _
      (λ k.
      let r = L.leaf name r p k in
      let j = past e Identifier k refl in
      look-rel F L (after b) (after b₂) _ _ j λ g g₂ p e.
      by_kind F L ColonColon e.step _ _ _ _
      (λ k.
      let r = L.mark ColonColon (L.one a_pair (L.begin x.step) (begins x.step) (L.made a_pair 6 _ pair x.step f r j.good)) (marks p ColonColon k refl) in
      look-rel F L (after g) (after g₂) _ _ (past e ColonColon k refl) λ c c₂ p e.
      by_kind F L Identifier e.step _ _ _ _ (λ k. let o = past e Identifier k refl in oks (L.made a_name 5 _ three x.step tt (L.leaf name r p k) o.good) o)
      (λ _. unexpected-rel F L e.step))
      (λ _. oks (L.made a_name 4 _ two x.step f r j.good) j))
      (λ _. unexpected-rel F L e.step))
      (λ _. by_kind F L Identifier x.step _ _ _ _ (λ k. oks (L.lone a_name one_part a_part x.step k i.good) i) (λ _. nos (L.colons_due d d₂ a a₂ e.step x.step))))
      (λ _. unexpected-rel F L x.step)

  pub value-rel : Literal F → RelReader F a_value value value
  unfolding value address_value leaf_value behind
  value-rel W m m₂ a a₂ x =
      by_kind F L AtSign x.step _ _ _ _
      (λ k. look-rel F L (after a) (after a₂) _ _ (past x AtSign k refl) λ t t₂ p e.
      when-rel F L (is_first t) (is_first t₂) _ _ _ _ (first-is e.step)
      (λ f. let i = on e (first_goes t f) in oks (L.made a_value 30 _ address x.step k (L.leaf first (L.mark AtSign (L.begin x.step) (marks (begins x.step) AtSign k refl)) p f) i.good) i)
      (λ _. unexpected-rel F L e.step))
      (λ _. when-rel F L (eqb (value_kind a) 0) (eqb (value_kind a₂) 0) _ _ _ _ (ap (λ (k : ℕ). eqb k 0) (value-is x.step)) (λ _. at-rel F L 13 (omega arith) (omega arith) x.step)
      (λ c.
      let i = on x (leaf-goes a.kind (get_or (word a) 0 0) c) in
      look-rel F L (after a) (after a₂) _ _ i λ t t₂ p e.
      when-rel F L (eqb a.kind NumValue && eqb t.kind ColonColon) (eqb a₂.kind NumValue && eqb t₂.kind ColonColon) _ _ _ _
      (ap (λ (b : Bool). b && eqb t.kind ColonColon) (is NumValue x.step) ∙ ap (λ (b : Bool). eqb a₂.kind NumValue && b) (is ColonColon e.step))
      (λ _. at-rel F L 13 (omega arith) (omega arith) x.step)
      (λ _. oks (W a a₂ x.step c i.good) i)))

  -- types, over the readers of a type one level deeper
  module _ (n : ℕ) (item item₂ : Reader) (alike : RelReader F (a_type n) item item₂) where
    reference-rel : (k c : ℕ) → Rule (a_type (suc n)) c (one (a_type n) ∷ mark k ∷ []) → Goes k → {m m₂ : ℕ} (a a₂ : Lexeme) → Near F m m₂ a a₂ → eqb a.kind k ≡ true
        → Rel F m m₂ (F.tree (a_type (suc n)) a a₂) (reference item c a) (reference item₂ c a₂)
    unfolding reference behind
    reference-rel k c r g {m = m} {m₂ = m₂} a a₂ x i =
        look-rel F L (after a) (after a₂) _ _ (past x k i g) λ b b₂ p e.
        then-rel F L _ _ (alike m m₂ b b₂ e) λ y z u u₂ h o. oks (L.made (a_type (suc n)) c _ r x.step i (L.one (a_type n) (L.mark k (L.begin x.step) (marks (begins x.step) k i g)) p h) o.good) o

    pub type-over-rel : RelReader F (a_type (suc n)) (type_over item) (type_by item₂ (wrapped F.wrap item₂))
    unfolding type_over brackets function named with_arguments behind joined
    type-over-rel m m₂ a a₂ x =
        by_kind F L LParen x.step _ _ _ _
        (λ k. then-rel F L _ _ (behind-rel F L (a_type n) item item₂ alike RParen refl a a₂ x.step (past x LParen k refl)) λ xs ys u u₂ h o. oks (L.brackets n x.step k h o.good) o)
        (λ _. by_kind F L Amp x.step _ _ _ _ (reference-rel Amp 11 shared refl a a₂ x)
        (λ _. by_kind F L AmpMut x.step _ _ _ _ (reference-rel AmpMut 12 mutable refl a a₂ x)
        (λ _. by_kind F L Pipe x.step _ _ _ _
        (λ k. then-rel F L _ _ (behind-rel F L (a_type n) item item₂ alike Pipe refl a a₂ x.step (past x Pipe k refl)) λ xs ys u u₂ h o.
        let r = L.many (a_type n) Pipe (L.mark Pipe (L.begin x.step) (marks (begins x.step) Pipe k refl)) h in
        look-rel F L u u₂ _ _ o λ b b₂ p e.
        then-rel F L _ _ (alike m m₂ b b₂ e) λ y z v v₂ j o. oks (L.made (a_type (suc n)) 13 _ functional x.step k (L.one (a_type n) r p j) o.good) o)
        (λ _. then-rel F L _ _ (chain-rel m m₂ a a₂ x) λ c c₂ u u₂ y o.
        let r = L.one a_name (L.begin x.step) (begins x.step) y in
        look-rel F L u u₂ _ _ o λ t t₂ p e.
        by_kind F L Less e.step _ _ _ _
        (λ k. then-rel F L _ _ (behind-rel F L (a_type n) item item₂ alike Greater refl t t₂ e.step (past e Less k refl)) λ xs ys v v₂ h o.
        oks (L.made (a_type (suc n)) 10 _ applied x.step tt (L.many (a_type n) Greater (L.mark Less r (marks p Less k refl)) h) o.good) o)
        (λ _. oks (L.made (a_type (suc n)) 10 _ plain x.step tt r o.good) o)))))

  -- bindings, over the readers of a type and of a field one level deeper
  module _ (n : ℕ) (type type₂ field field₂ : Reader) (types : RelReader F (a_type n) type type₂) (alike : RelReader F (a_field n) field field₂) where
    -- the fields in braces behind what was read of a struct
    fields-rel : {m m₂ : ℕ} {r : List Part} (c : ℕ) → Rule (a_bind (suc n)) c (many (a_field n) RBrace ∷ mark LBrace ∷ r) → {a a₂ b b₂ : Lexeme} {u u₂ : Source} {xs ys : Trees} → Step F a a₂ → Starts (many (a_field n) RBrace ∷ mark LBrace ∷ r) a → F.row r a a₂ u u₂ xs ys
        → At F u u₂ b b₂ → Near F m m₂ b b₂
        → Rel F m m₂ (F.tree (a_bind (suc n)) a a₂) (then (fields type field b) λ fs v. ok (spanned c a v (joined xs fs)) v) (then (fields type₂ field₂ b₂) λ fs v. ok (spanned c a₂ v (joined ys fs)) v)
    unfolding fields
    fields-rel {r = r} c l {b = b} {b₂ = b₂} {u = u} {u₂ = u₂} x z h p e =
        then-rel F L _ _
        (by_kind F L LBrace e.step _ _ _ _ (λ k. also {Z = Mark F LBrace u u₂ b b₂} (marks p LBrace k refl) (behind-rel F L (a_field n) field field₂ alike RBrace refl b b₂ e.step (past e LBrace k refl))) (λ _. unexpected-rel F L e.step))
        (λ fs gs v v₂ i o. oks (L.made (a_bind (suc n)) c _ l x z (L.many (a_field n) RBrace (L.mark LBrace h i.0) i.1) o.good) o)

    unpacked-rel : RelReader F (a_bind (suc n)) (unpacked type field) (unpacked type₂ field₂)
    unfolding unpacked struct_over behind joined
    unpacked-rel m m₂ a a₂ x =
        then-rel F L _ _ (chain-rel m m₂ a a₂ x) λ c c₂ u u₂ y o.
        let r = L.one a_name (L.begin x.step) (begins x.step) y in
        look-rel F L u u₂ _ _ o λ t t₂ p e.
        by_kind F L Less e.step _ _ _ _
        (λ k. then-rel F L _ _ (behind-rel F L (a_type n) type type₂ types Greater refl t t₂ e.step (past e Less k refl)) λ ts us v v₂ h o.
        let r = L.many (a_type n) Greater (L.mark Less r (marks p Less k refl)) h in
        look-rel F L v v₂ _ _ o λ b b₂ q j. fields-rel 22 typed x.step tt r q j)
        (λ _. fields-rel 21 struct x.step tt r p e)

    pub bind-over-rel : RelReader F (a_bind (suc n)) (bind_over type field) (bind_over type₂ field₂)
    unfolding bind_over
    bind-over-rel m m₂ a a₂ x =
        by_kind F L Identifier x.step _ _ _ _
        (λ k. let i = past x Identifier k refl in look-rel F L (after a) (after a₂) _ _ i λ t t₂ p e.
        when-rel F L (is_struct t) (is_struct t₂) _ _ _ _ (struct_is e.step) (λ _. unpacked-rel m m₂ a a₂ x) (λ _. oks (L.lone (a_bind (suc n)) variable a_variable x.step k i.good) i))
        (λ _. unpacked-rel m m₂ a a₂ x)

  pub field-over-rel : Short F → (n : ℕ) (bind bind₂ : Reader) → RelReader F (a_bind (suc n)) bind bind₂ → RelReader F (a_field (suc n)) (field_over bind) (field_over bind₂)
  unfolding field_over behind
  field-over-rel S n bind bind₂ alike m m₂ a a₂ x =
      by_kind F L Identifier x.step _ _ _ _
      (λ k. let i = past x Identifier k refl in look-rel F L (after a) (after a₂) _ _ i λ d d₂ p e.
      by_kind F L Colon e.step _ _ _ _
      (λ j. look-rel F L (after d) (after d₂) _ _ (past e Colon j refl) λ b b₂ q g.
      then-rel F L _ _ (alike m m₂ b b₂ g) λ y z u u₂ h o.
      oks (L.made (a_field (suc n)) 24 _ fielded x.step k (L.one (a_bind (suc n)) (L.mark Colon (L.leaf name (L.begin x.step) (begins x.step) k) (marks p Colon j refl)) q h) o.good) o)
      (λ _. oks (S n a a₂ x.step k i.good) i))
      (λ _. unexpected-rel F L x.step)

  -- by the levels left
  pub type-rel : (n : ℕ) → RelReader F (a_type n) (read_type n) (type_beside F.wrap n)
  unfolding read_type type_beside
  type-rel zero m m₂ a a₂ x = at-rel F L 14 (omega arith) (omega arith) x.step
  type-rel (suc n) m m₂ a a₂ x = type-over-rel n (read_type n) (type_beside F.wrap n) (type-rel n) m m₂ a a₂ x

  module _ (S : Short F) where
    pub field-rel : (n : ℕ) → RelReader F (a_bind n) (read_bind n) (bind_beside F.wrap n) → RelReader F (a_field n) (read_field n (read_bind n)) (read_field n (bind_beside F.wrap n))
    unfolding read_field
    field-rel zero alike m m₂ a a₂ x = at-rel F L 14 (omega arith) (omega arith) x.step
    field-rel (suc n) alike m m₂ a a₂ x = field-over-rel S n (read_bind (suc n)) (bind_beside F.wrap (suc n)) alike m m₂ a a₂ x

    pub bind-rel : (n : ℕ) → RelReader F (a_bind n) (read_bind n) (bind_beside F.wrap n)
    unfolding read_bind bind_beside
    bind-rel zero m m₂ a a₂ x = at-rel F L 14 (omega arith) (omega arith) x.step
    bind-rel (suc n) m m₂ a a₂ x =
        bind-over-rel n (read_type n) (type_beside F.wrap n) (read_field n (read_bind n)) (read_field n (bind_beside F.wrap n)) (type-rel n) (field-rel n (bind-rel n)) m m₂ a a₂ x

    -- the two lists
    pub bind-list-rel : RelReader F a_bind_list read_bind_list (bind_list_over (bind_beside F.wrap levels))
    unfolding read_bind_list behind joined
    bind-list-rel m m₂ a a₂ x =
        by_kind F L LParen x.step _ _ _ _
        (λ k. then-rel F L _ _ (behind-rel F L (a_bind levels) (read_bind levels) (bind_beside F.wrap levels) (bind-rel levels) RParen refl a a₂ x.step (past x LParen k refl)) λ xs ys u u₂ h o. oks (L.made a_bind_list 25 _ several x.step k (L.many (a_bind levels) RParen (L.mark LParen (L.begin x.step) (marks (begins x.step) LParen k refl)) h) o.good) o)
        (λ _. then-rel F L _ _ (bind-rel levels m m₂ a a₂ x) λ y z u u₂ h o. oks (L.made a_bind_list 25 _ alone x.step tt (L.one (a_bind levels) (L.begin x.step) (begins x.step) h) o.good) o)

    pub lambda-list-rel : RelReader F a_lambda_list read_lambda_list (lambda_list_over (bind_beside F.wrap levels))
    unfolding read_lambda_list joined
    lambda-list-rel m m₂ a a₂ x =
        by_kind F L Pipe x.step _ _ _ _
        (λ k. then-rel F L _ _ (behind-rel F L (a_bind levels) (read_bind levels) (bind_beside F.wrap levels) (bind-rel levels) Pipe refl a a₂ x.step (past x Pipe k refl)) λ xs ys u u₂ h o. oks (L.made a_lambda_list 26 _ lambda x.step k (L.many (a_bind levels) Pipe (L.mark Pipe (L.begin x.step) (marks (begins x.step) Pipe k refl)) h) o.good) o)
        (λ _. unexpected-rel F L x.step)

    -- every kind of item
    pub kind-rel : (kind : ℕ) → (eqb kind 2 ≡ true → Literal F) → RelReader F (sort_of kind) (read_kind kind) (kind_over (type_beside F.wrap levels) (bind_list_over (bind_beside F.wrap levels)) (lambda_list_over (bind_beside F.wrap levels)) kind)
    unfolding read_kind
    kind-rel kind W m m₂ a a₂ x =
        when-rel F L (eqb kind 1) (eqb kind 1) _ _ _ _ refl (λ b. rw b (chain-rel m m₂ a a₂ x))
        (λ b. rw b (when-rel F L (eqb kind 2) (eqb kind 2) _ _ _ _ refl (λ c. rw c (value-rel (W c) m m₂ a a₂ x))
        (λ c. rw c (when-rel F L (eqb kind 3) (eqb kind 3) _ _ _ _ refl (λ d. rw d (type-rel levels m m₂ a a₂ x))
        (λ d. rw d (when-rel F L (eqb kind 4) (eqb kind 4) _ _ _ _ refl (λ e. rw e (bind-list-rel m m₂ a a₂ x)) (λ e. rw e (lambda-list-rel m m₂ a a₂ x))))))))

-- where brackets are made into the same, the readers on the right are those of the grammar
type-is : (n : ℕ) → type_beside bracketed n ≡ read_type n
unfolding type_beside read_type type_over brackets
type-is zero = refl
type-is (suc n) = ap (λ (item : Reader). λ (a : Lexeme). type_by item (wrapped bracketed item) a) (type-is n)

bind_is : (n : ℕ) → bind_beside bracketed n ≡ read_bind n
unfolding bind_beside read_bind
bind_is zero = refl
bind_is (suc n) = ap₂ (λ (type bind : Reader). λ (a : Lexeme). bind_over type (read_field n bind) a) (type-is n) (bind_is n)

module _ (F : Frame) (L : Lawful F) (h : F.wrap ≡ bracketed) where
  types_are : (n : ℕ) → type_beside F.wrap n ≡ read_type n
  types_are n = rw h (type-is n)

  binds-are : (n : ℕ) → bind_beside F.wrap n ≡ read_bind n
  binds-are n = rw h (bind_is n)

  pub type-same : (n : ℕ) → RelReader F (a_type n) (read_type n) (read_type n)
  type-same n = subst (RelReader F (a_type n) (read_type n)) (types_are n) (type-rel F L n)

  module _ (S : Short F) where
    pub field-same : (n : ℕ) → RelReader F (a_field n) (read_field n (read_bind n)) (read_field n (read_bind n))
    field-same n = subst (λ (bind : Reader). RelReader F (a_field n) (read_field n (read_bind n)) (read_field n bind)) (binds-are n) (field-rel F L S n (bind-rel F L S n))

    pub bind-same : (n : ℕ) → RelReader F (a_bind n) (read_bind n) (read_bind n)
    bind-same n = subst (RelReader F (a_bind n) (read_bind n)) (binds-are n) (bind-rel F L S n)

    pub bind-list-same : RelReader F a_bind_list read_bind_list read_bind_list
    unfolding read_bind_list
    bind-list-same = subst (λ (bind : Reader). RelReader F a_bind_list read_bind_list (bind_list_over bind)) (binds-are levels) (bind-list-rel F L S)

    pub lambda-list-same : RelReader F a_lambda_list read_lambda_list read_lambda_list
    unfolding read_lambda_list
    lambda-list-same = subst (λ (bind : Reader). RelReader F a_lambda_list read_lambda_list (lambda_list_over bind)) (binds-are levels) (lambda-list-rel F L S)

    pub kind-same : (kind : ℕ) → (eqb kind 2 ≡ true → Literal F) → RelReader F (sort_of kind) (read_kind kind) (read_kind kind)
    unfolding read_kind read_bind_list read_lambda_list
    kind-same kind W =
        subst (λ (type : Reader). RelReader F (sort_of kind) (read_kind kind) (kind_over type (bind_list_over (read_bind levels)) (lambda_list_over (read_bind levels)) kind)) (types_are levels)
        (subst (λ (bind : Reader). RelReader F (sort_of kind) (read_kind kind) (kind_over (type_beside F.wrap levels) (bind_list_over bind) (lambda_list_over bind) kind)) (binds-are levels) (kind-rel F L S kind W))
