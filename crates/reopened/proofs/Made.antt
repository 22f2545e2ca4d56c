-- The records that the grammar makes are legal: one clause for each row of what records are made of, which holds that table and the table
-- of children together.
use mathlib.Core.Path.{◌≡◌, refl, ap, sym, subst}
use mathlib.Core.Bool.{Bool, true, false, cond, not, ◌&&◌, ◌||◌}
use mathlib.Core.List.{List, [], ◌∷◌}
use Prim.Native.Nat.{ℕ, suc, ◌+◌, ◌-◌, ◌≤◌}
use native.Mathlib.Omega.{arith}
use lib.Dec.{eqb}
use lib.ListN.{take, drop}
use Rattle.classes.specs.Class.{in_range}
use Rattle.words.specs.Kinds.{NumValue, NumTypedValue, ByteStringValue, Identifier, False, True}
use Rattle.records.specs.Kinds.{RecRef, RecRefMut, RecFunction, RecType, RecTuple, RecBrackets, RecStruct, RecStructTyped, RecField, RecBindList, RecLambdaBindList, RecAddressValue, RecUnit}
use Rattle.records.specs.Tree.{Tree, leaf as a_leaf, node, Trees, none, more, behind, joined}
use Rattle.records.specs.Spans.{start_of, Within}
use Rattle.sources.specs.Source.{Lexeme, start, end, word}
use Rattle.answers.specs.Reading.{leaf_of}
use Rattle.grammar.specs.Values.{leaf_kind}
use Rattle.frames.specs.code.Related.{Sort, a_name, a_pair, a_value, a_type, a_field, a_bind, a_bind_list, a_lambda_list, Role, name, first, one_part, variable, kind_of as role_kind, Lone, a_part, a_variable, Part, mark, leaf, one, many, Rule, pair, two, three, address, shared, mutable, function, plain, applied, struct, typed, field, several, alone, lambda}
use Rattle.saved.specs.Children.{is_chain, is_type, is_binding, is_kind, allows, row_of, slot, may, least, is_none, is_leaf}
use Rattle.saved.specs.Open.{levels}
use Rattle.saved.specs.Child.{kind_of}
use Rattle.saved.specs.Legal.{LegalChildren, word_in}
use Rattle.saved.specs.declared.Allowed.{Allowed}
use Rattle.saved.specs.declared.Allowed.TheVariants.{FirstPart, NamePart, PairPart, AnyChain, AnyType, AnyBinding, AnyField, TypesThenFields}
use Rattle.reopened.proofs.Kids.{single, deep, fielded, Good, Kid, Kids, Words, words-none, words_more, words-joined, kid, kids-end, kids, node-good, leaf-good, from_one, from-none}

-- the table of children
unfoldable pub table : Unit {0}
unfolding in_range is_chain is_type is_binding is_kind allows row_of slot is_none kind_of
table = tt

joined-none : (ts : Trees) → joined ts none ≡ ts
unfolding joined
joined-none none = refl
joined-none (more t ts) = ap (more t) (joined-none ts)

behind-joined : (ts : Trees) (x : Tree) → behind ts x ≡ joined ts (more x none)
unfolding behind joined
behind-joined none x = refl
behind-joined (more t ts) x = ap (more t) (behind-joined ts x)

module _ (text : List ℕ) where
  -- what is read of a sort, with so many levels left
  abbrev pub Sorted : Sort → Tree → Type 0
  Sorted a_name x = Kid text AnyChain 1 x
  Sorted a_pair x = Kid text PairPart 1 x
  Sorted a_value x = Good text 1 x
  Sorted (a_type n) x = Kid text AnyType n x
  Sorted (a_field n) x = Kid text AnyField n x
  Sorted (a_bind n) x = Kid text AnyBinding n x
  Sorted a_bind_list x = Good text levels x
  Sorted a_lambda_list x = Good text levels x

  abbrev pub AllSorted : Sort → Trees → Type 0
  AllSorted s none = Unit {0}
  AllSorted s (more t ts) = Sorted s t × AllSorted s ts

  abbrev pub role_as : Role → Allowed
  role_as name = NamePart
  role_as first = FirstPart
  role_as one_part = AnyChain
  role_as variable = AnyBinding

  all-kids : (s : Sort) (a : Allowed) (room : ℕ) → ((x : Tree) → Sorted s x → Kid text a room x) → (ts : Trees) → AllSorted s ts → Kids text a room ts
  all-kids s a room f none h = tt
  all-kids s a room f (more t ts) h = (f t h.0, all-kids s a room f ts h.1)

  types : (n : ℕ) (ts : Trees) → AllSorted (a_type n) ts → Kids text AnyType n ts
  types n = all-kids (a_type n) AnyType n (λ x h. h)

  fields : (n : ℕ) (ts : Trees) → AllSorted (a_field n) ts → Kids text AnyField n ts
  fields n = all-kids (a_field n) AnyField n (λ x h. h)

  bindings : (n : ℕ) (ts : Trees) → AllSorted (a_bind n) ts → Kids text AnyBinding n ts
  bindings n = all-kids (a_bind n) AnyBinding n (λ x h. h)

  -- the shapes of records: one child; two; one and a list; a list
  module _ (c b e room : ℕ) (k : is_kind c ≡ true) (l : is_leaf c ≡ false) (some : 1 ≤ room) where
    one-kid : (a : Allowed) (r : ℕ) (x : Tree) → single a ≡ true → Kid text a r x → ((j : ℕ) → allows a false j ≡ true → may c 0 false j ≡ true) → least c ≤ 1 → r + cond (deep a) 1 0 ≤ room
        → Good text room (node c b e (more x none))
    one-kid a r x s h m t v =
        node-good text c b e (more x none) room k l (words_more text x none h.good.words (words-none text)) some
        (λ n g p. kid text c b e n room g a r x none p 0 false s h (m (kind_of x) h.kind) v (kids-end text c b e n room g (start_of x) 1 (false || fielded a) t))

    two-kids : (a a₂ : Allowed) (r r₂ : ℕ) (x y : Tree) → single a ≡ true → single a₂ ≡ true → Kid text a r x → Kid text a₂ r₂ y → ((j : ℕ) → allows a false j ≡ true → may c 0 false j ≡ true)
        → ((j : ℕ) → allows a₂ false j ≡ true → may c 1 (fielded a) j ≡ true) → least c ≤ 2 → r + cond (deep a) 1 0 ≤ room → r₂ + cond (deep a₂) 1 0 ≤ room → Good text room (node c b e (more x (more y none)))
    two-kids a a₂ r r₂ x y s s₂ h h₂ m m₂ t v v₂ =
        node-good text c b e (more x (more y none)) room k l (words_more text x (more y none) h.good.words (words_more text y none h₂.good.words (words-none text))) some
        (λ n g p.
        kid text c b e n room g a r x (more y none) p 0 false s h (m (kind_of x) h.kind) v
        (kid text c b e n room g a₂ r₂ y none (start_of x) 1 (fielded a) s₂ h₂ (m₂ (kind_of y) h₂.kind) v₂ (kids-end text c b e n room g (start_of y) 2 (fielded a || fielded a₂) t)))

    -- of the list none of the children is a field, or it stands last
    one-and-list : (a a₂ : Allowed) (r r₂ : ℕ) (x : Tree) (us : Trees) → single a ≡ true → single a₂ ≡ true → fielded a ≡ false → Kid text a r x → Kids text a₂ r₂ us → ((j : ℕ) → allows a false j ≡ true → may c 0 false j ≡ true)
        → ((i : ℕ) (d : Bool) (j : ℕ) → 1 ≤ i → (fielded a₂ ≡ false → d ≡ false) → allows a₂ false j ≡ true → may c i d j ≡ true) → least c ≤ 1 → r + cond (deep a) 1 0 ≤ room → r₂ + cond (deep a₂) 1 0 ≤ room
        → Good text room (node c b e (more x us))
    one-and-list a a₂ r r₂ x us s s₂ f h h₂ m m₂ t v v₂ =
        node-good text c b e (more x us) room k l (words_more text x us h.good.words (subst (Words text) (joined-none us) (words-joined text a₂ r₂ us none h₂ (words-none text)))) some
        (λ n g p.
        kid text c b e n room g a r x us p 0 false s h (m (kind_of x) h.kind) v
        (subst (λ (d : Bool). start_of-legal n d) (sym f)
        (subst (λ (ts : Trees). b ≤ start_of x → Within (start_of x) ts e → LegalChildren n c b e 1 false ts) (joined-none us)
        (kids text c b e n room g a₂ r₂ us none (start_of x) 1 false s₂ h₂ m₂ v₂ (λ q j d i z. kids-end text c b e n room g q j d (omega arith))))))
      where
        start_of-legal : (n : ℕ) (d : Bool) → Type 0
        start_of-legal n d = b ≤ start_of x → Within (start_of x) us e → LegalChildren n c b e 1 d us

    a-list : (a : Allowed) (r : ℕ) (us : Trees) → single a ≡ true → fielded a ≡ false → Kids text a r us → ((i j : ℕ) → allows a false j ≡ true → may c i false j ≡ true) → least c ≤ 0 → r + cond (deep a) 1 0 ≤ room
        → Good text room (node c b e us)
    a-list a r us s f h m t v =
        node-good text c b e us room k l (subst (Words text) (joined-none us) (words-joined text a r us none h (words-none text))) some
        (λ n g p.
        subst (λ (ts : Trees). b ≤ p → Within p ts e → LegalChildren n c b e 0 false ts) (joined-none us)
        (kids text c b e n room g a r us none p 0 false s h (λ i d j y z w. subst (λ (x : Bool). may c i x j ≡ true) (sym (z f)) (m i j w)) v (λ q j d i z. kids-end text c b e n room g q j d (omega arith))))

  -- from the second child on
  later-as : (c : ℕ) (a a₂ : Allowed) → (row_of c).second ≡ a → (row_of c).later ≡ a → ((d : Bool) (j : ℕ) → (fielded a₂ ≡ false → d ≡ false) → allows a₂ false j ≡ true → allows a d j ≡ true)
      → (i : ℕ) (d : Bool) (j : ℕ) → 1 ≤ i → (fielded a₂ ≡ false → d ≡ false) → allows a₂ false j ≡ true → may c i d j ≡ true
  later-as c a a₂ x y m i d j h z w = subst (λ (s : Allowed). allows s d j ≡ true) (sym (from_one (row_of c) a i x y h)) (m d j z w)

  any-as : (c : ℕ) (a : Allowed) → (row_of c).first ≡ a → (row_of c).second ≡ a → (row_of c).later ≡ a → (i j : ℕ) → allows a false j ≡ true → may c i false j ≡ true
  any-as c a x y z i j w = subst (λ (s : Allowed). allows s false j ≡ true) (sym (from-none (row_of c) a i x y z)) w

  -- in a struct with `<`: types, and then fields
  typed-types : (d : Bool) (j : ℕ) → (fielded AnyType ≡ false → d ≡ false) → allows AnyType false j ≡ true → allows TypesThenFields d j ≡ true
  unfolding allows
  typed-types d j z h = subst (λ (x : Bool). (eqb j RecField || (not x && is_type j)) ≡ true) (sym (z refl)) (either (eqb j RecField))
    where
      either : (b : Bool) → (b || is_type j) ≡ true
      either true = refl
      either false = h

  typed-fields : (d : Bool) (j : ℕ) → allows AnyField false j ≡ true → allows TypesThenFields d j ≡ true
  unfolding allows
  typed-fields d j h = rw h

  -- the children that the parts of a record leave, the last part first
  pub data Parts : List Part → Trees → Type 0 where
    nothing : Parts [] none
    marked : {k : ℕ} {r : List Part} {ts : Trees} → Parts r ts → Parts (mark k ∷ r) ts
    leafed : {l : Role} {r : List Part} {ts : Trees} (x : Tree) → Parts r ts → Kid text (role_as l) 1 x → Parts (leaf l ∷ r) (behind ts x)
    oned : {s : Sort} {r : List Part} {ts : Trees} (x : Tree) → Parts r ts → Sorted s x → Parts (one s ∷ r) (behind ts x)
    manied : {s : Sort} {k : ℕ} {r : List Part} {ts : Trees} (us : Trees) → Parts r ts → AllSorted s us → Parts (many s k ∷ r) (joined ts us)

  module _ (b e : ℕ) where
    struct-typed : (n : ℕ) (x : Tree) (us fs : Trees) → Kid text AnyChain 1 x → Kids text AnyType n us → Kids text AnyField n fs → Good text (suc n) (node RecStructTyped b e (more x (joined us fs)))
    unfolding table
    struct-typed n x us fs h t f =
        node-good text RecStructTyped b e (more x (joined us fs)) (suc n) refl refl
        (words_more text x (joined us fs) h.good.words (words-joined text AnyType n us fs t (subst (Words text) (joined-none fs) (words-joined text AnyField n fs none f (words-none text))))) (omega arith)
        (λ m g p.
        kid text RecStructTyped b e m (suc n) g AnyChain 1 x (joined us fs) p 0 false refl h h.kind (omega arith)
        (kids text RecStructTyped b e m (suc n) g AnyType n us fs (start_of x) 1 false refl t (later-as RecStructTyped TypesThenFields AnyType refl refl typed-types) (omega arith)
        (λ q i d v z.
        subst (λ (ts : Trees). b ≤ q → Within q ts e → LegalChildren m RecStructTyped b e i d ts) (joined-none fs)
        (kids text RecStructTyped b e m (suc n) g AnyField n fs none q i d refl f
        (λ j y k w u s. later-as RecStructTyped TypesThenFields AnyField refl refl (λ c l o r. typed-fields c l r) j y k (omega arith) (λ o. absurd (true-not-false o)) s) (omega arith)
        (λ q₂ j y w u. kids-end text RecStructTyped b e m (suc n) g q₂ j y (omega arith))))))
      where
        true-not-false : true ≡ false → ⊥
        true-not-false o = let w : ◌≡◌ {A = ℕ} 0 1 = cc in omega arith

    function-good : (n : ℕ) (x : Tree) (us : Trees) → Kid text AnyType n x → Kids text AnyType n us → Good text (suc n) (node RecFunction b e (joined us (more x none)))
    unfolding table
    function-good n x us h t =
        node-good text RecFunction b e (joined us (more x none)) (suc n) refl refl (words-joined text AnyType n us (more x none) t (words_more text x none h.good.words (words-none text))) (omega arith)
        (λ m g p.
        kids text RecFunction b e m (suc n) g AnyType n us (more x none) p 0 false refl t (λ j d k v z w. allowed j d k (z refl) w) (omega arith)
        (λ q j d v z. kid text RecFunction b e m (suc n) g AnyType n x none q j d refl h (allowed j d (kind_of x) (z refl) h.kind) (omega arith) (kids-end text RecFunction b e m (suc n) g (start_of x) (suc j) (d || false) (omega arith))))
      where
        allowed : (j : ℕ) (d : Bool) (k : ℕ) → d ≡ false → allows AnyType false k ≡ true → may RecFunction j d k ≡ true
        allowed j d k z w = subst (λ (y : Bool). may RecFunction j y k ≡ true) (sym z) (any-as RecFunction AnyType refl refl refl j k w)

    tuple-good : (n : ℕ) (x y : Tree) (us : Trees) → Kid text AnyType n x → Kid text AnyType n y → Kids text AnyType n us → Good text (suc n) (node RecTuple b e (more x (more y us)))
    unfolding table
    tuple-good n x y us h i t =
        node-good text RecTuple b e (more x (more y us)) (suc n) refl refl
        (words_more text x (more y us) h.good.words (words_more text y us i.good.words (subst (Words text) (joined-none us) (words-joined text AnyType n us none t (words-none text))))) (omega arith)
        (λ m g p.
        kid text RecTuple b e m (suc n) g AnyType n x (more y us) p 0 false refl h h.kind (omega arith)
        (kid text RecTuple b e m (suc n) g AnyType n y us (start_of x) 1 false refl i i.kind (omega arith)
        (subst (λ (ts : Trees). b ≤ start_of y → Within (start_of y) ts e → LegalChildren m RecTuple b e 2 false ts) (joined-none us)
        (kids text RecTuple b e m (suc n) g AnyType n us none (start_of y) 2 false refl t
        (λ j d k v z w. subst (λ (s : Bool). may RecTuple j s k ≡ true) (sym (z refl)) (any-as RecTuple AnyType refl refl refl j k w)) (omega arith)
        (λ q j d v z. kids-end text RecTuple b e m (suc n) g q j d (omega arith))))))

    struct-good : (n : ℕ) (x : Tree) (us : Trees) → Kid text AnyChain 1 x → Kids text AnyField n us → Good text (suc n) (node RecStruct b e (more x us))
    unfolding table
    struct-good n x us h t =
        one-and-list RecStruct b e (suc n) refl refl (omega arith) AnyChain AnyField 1 n x us refl refl refl h t (λ j w. w) (later-as RecStruct AnyField AnyField refl refl (λ d j z w. w)) (omega arith) (omega arith) (omega arith)

    type-good : (n : ℕ) (x : Tree) (us : Trees) → Kid text AnyChain 1 x → Kids text AnyType n us → Good text (suc n) (node RecType b e (more x us))
    unfolding table
    type-good n x us h t =
        one-and-list RecType b e (suc n) refl refl (omega arith) AnyChain AnyType 1 n x us refl refl refl h t (λ j w. w) (later-as RecType AnyType AnyType refl refl (λ d j z w. w)) (omega arith) (omega arith) (omega arith)

    pub field-sorted : (n : ℕ) (x y : Tree) → Kid text NamePart 1 x → Kid text AnyBinding (suc n) y → Sorted (a_field (suc n)) (node RecField b e (more x (more y none)))
    unfolding table
    field-sorted n x y h i = record { good = two-kids RecField b e (suc n) refl refl (omega arith) NamePart AnyBinding 1 (suc n) x y refl refl h i (λ j w. w) (λ j w. w) (omega arith) (omega arith) (omega arith); kind = refl }

    bindings-good : (c : ℕ) → is_kind c ≡ true → is_leaf c ≡ false → least c ≤ 0 → ((i j : ℕ) → allows AnyBinding false j ≡ true → may c i false j ≡ true) → (us : Trees) → Kids text AnyBinding levels us → Good text levels (node c b e us)
    bindings-good c k l t m us h = a-list c b e levels k l (omega arith) AnyBinding levels us refl refl h m t (omega arith)

    -- a clause for each row
    pub made : {s : Sort} {c : ℕ} {r : List Part} {ts : Trees} → Rule s c r → Parts r ts → Sorted s (node c b e ts)
    unfolding table behind joined
    made pair (leafed y (marked (leafed x nothing h)) i) = record { good = two-kids 6 b e 1 refl refl (omega arith) FirstPart NamePart 1 1 x y refl refl h i (λ j w. w) (λ j w. w) (omega arith) (omega arith) (omega arith); kind = refl }
    made two (leafed y (marked (leafed x nothing h)) i) = record { good = two-kids 4 b e 1 refl refl (omega arith) FirstPart NamePart 1 1 x y refl refl h i (λ j w. w) (λ j w. w) (omega arith) (omega arith) (omega arith); kind = refl }
    made three (leafed y (marked (oned x nothing h)) i) = record { good = two-kids 5 b e 1 refl refl (omega arith) PairPart NamePart 1 1 x y refl refl h i (λ j w. w) (λ j w. w) (omega arith) (omega arith) (omega arith); kind = refl }
    made address (leafed x (marked nothing) h) = one-kid RecAddressValue b e 1 refl refl (omega arith) FirstPart 1 x refl h (λ j w. w) (omega arith) (omega arith)
    made (shared {n}) (oned x (marked nothing) h) = record { good = one-kid RecRef b e (suc n) refl refl (omega arith) AnyType n x refl h (λ j w. w) (omega arith) (omega arith); kind = refl }
    made (mutable {n}) (oned x (marked nothing) h) = record { good = one-kid RecRefMut b e (suc n) refl refl (omega arith) AnyType n x refl h (λ j w. w) (omega arith) (omega arith); kind = refl }
    made (function {n}) (oned x (manied us (marked nothing) i) h) = record { good = subst (λ (ts : Trees). Good text (suc n) (node RecFunction b e ts)) (sym (behind-joined us x)) (function-good n x us h (types n us i)); kind = refl }
    made (plain {n}) (oned x nothing h) = record { good = type-good n x none h tt; kind = refl }
    made (applied {n}) (manied us (marked (oned x nothing h)) i) = record { good = type-good n x us h (types n us i); kind = refl }
    made (struct {n}) (manied us (marked (oned x nothing h)) i) = record { good = struct-good n x us h (fields n us i); kind = refl }
    made (typed {n}) (manied fs (marked (manied us (marked (oned x nothing h)) i)) j) = record { good = struct-typed n x us fs h (types n us i) (fields n fs j); kind = refl }
    made (field {n}) (oned y (marked (leafed x nothing h)) i) = field-sorted n x y h i
    made several (manied us (marked nothing) i) = bindings-good RecBindList refl refl (omega arith) (any-as RecBindList AnyBinding refl refl refl) us (bindings levels us i)
    made alone (oned x nothing h) = bindings-good RecBindList refl refl (omega arith) (any-as RecBindList AnyBinding refl refl refl) (more x none) (h, tt)
    made lambda (manied us (marked nothing) i) = bindings-good RecLambdaBindList refl refl (omega arith) (any-as RecLambdaBindList AnyBinding refl refl refl) us (bindings levels us i)

    -- brackets round none, one or more
    pub unit-sorted : (n : ℕ) → Sorted (a_type (suc n)) (a_leaf RecUnit b e [])
    unfolding table word_in
    unit-sorted n = record { good = leaf-good text RecUnit b e [] refl refl (omega arith) refl (suc n) (omega arith); kind = refl }

    pub brackets-sorted : (n : ℕ) (x : Tree) → Sorted (a_type n) x → Sorted (a_type (suc n)) (node RecBrackets b e (more x none))
    unfolding table
    brackets-sorted n x h = record { good = one-kid RecBrackets b e (suc n) refl refl (omega arith) AnyType n x refl h (λ j w. w) (omega arith) (omega arith); kind = refl }

    pub tuple-sorted : (n : ℕ) (x y : Tree) (us : Trees) → Sorted (a_type n) x → Sorted (a_type n) y → AllSorted (a_type n) us → Sorted (a_type (suc n)) (node RecTuple b e (more x (more y us)))
    unfolding table
    tuple-sorted n x y us h i t = record { good = tuple-good n x y us h i (types n us t); kind = refl }

  -- leaves: the bytes of a token
  module _ (t : Lexeme) (spelled : word t ≡ take (end t - start t) (drop (start t) text)) where
    pub role-kid : (l : Role) → Kid text (role_as l) 1 (leaf_of (role_kind l t) t)
    unfolding table word_in
    role-kid name = record { good = leaf-good text 1 (start t) (end t) (word t) refl refl (omega arith) spelled 1 (omega arith); kind = refl }
    role-kid one_part = record { good = leaf-good text 3 (start t) (end t) (word t) refl refl (omega arith) spelled 1 (omega arith); kind = refl }
    role-kid variable = record { good = leaf-good text 20 (start t) (end t) (word t) refl refl (omega arith) spelled 1 (omega arith); kind = refl }
    role-kid first = go (eqb t.kind Identifier)
      where
        go : (b : Bool) → Kid text FirstPart 1 (leaf_of (cond b 1 2) t)
        go true = record { good = leaf-good text 1 (start t) (end t) (word t) refl refl (omega arith) spelled 1 (omega arith); kind = refl }
        go false = record { good = leaf-good text 2 (start t) (end t) (word t) refl refl (omega arith) spelled 1 (omega arith); kind = refl }

    pub variable-kid : (room : ℕ) → 1 ≤ room → Kid text AnyBinding room (leaf_of 20 t)
    unfolding table word_in
    variable-kid room h = record { good = leaf-good text 20 (start t) (end t) (word t) refl refl (omega arith) spelled room h; kind = refl }

    pub lone-sorted : {s : Sort} {l : Role} → Lone s l → Sorted s (leaf_of (role_kind l t) t)
    lone-sorted a_part = role-kid one_part
    lone-sorted (a_variable {n}) = variable-kid (suc n) (omega arith)

    -- a value of one token
    pub literal-sorted : (k b : ℕ) → eqb (leaf_kind k b) 0 ≡ false → Sorted a_value (leaf_of (leaf_kind k b) t)
    unfolding leaf_kind table word_in
    literal-sorted k b h = go (eqb k True) (eqb k False) (eqb k NumValue || eqb k NumTypedValue) (eqb k ByteStringValue) (eqb b 120) h
      where
        go : (x f n s y : Bool) → eqb (cond x 32 (cond f 33 (cond n 31 (cond s (cond y 34 35) 0)))) 0 ≡ false → Good text 1 (leaf_of (cond x 32 (cond f 33 (cond n 31 (cond s (cond y 34 35) 0)))) t)
        go true f n s y h = leaf-good text 32 (start t) (end t) (word t) refl refl (omega arith) spelled 1 (omega arith)
        go false true n s y h = leaf-good text 33 (start t) (end t) (word t) refl refl (omega arith) spelled 1 (omega arith)
        go false false true s y h = leaf-good text 31 (start t) (end t) (word t) refl refl (omega arith) spelled 1 (omega arith)
        go false false false true true h = leaf-good text 34 (start t) (end t) (word t) refl refl (omega arith) spelled 1 (omega arith)
        go false false false true false h = leaf-good text 35 (start t) (end t) (word t) refl refl (omega arith) spelled 1 (omega arith)
        go false false false false y h = let z : ◌≡◌ {A = Bool} true false = h in absurd (true-is-not z)
          where
            true-is-not : true ≡ false → ⊥
            true-is-not z = let w : ◌≡◌ {A = ℕ} 0 1 = cc in omega arith
