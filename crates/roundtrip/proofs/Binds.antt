-- Bindings, their fields and the two lists of bindings read back.
use mathlib.Core.Path.{◌≡◌, refl, subst, sym, ap, ap₂, ◌∙◌}
use mathlib.Core.Bool.{Bool, true, false}
use mathlib.Core.List.{List, ◌∷◌, ◌++◌, append_assoc}
use Prim.Native.Nat.{ℕ, suc}
use lib.Dec.{eqb}
use Rattle.classes.specs.Bytes.{bytes}
use Rattle.classes.specs.Class.{in_range, is_digit, is_letter, is_name}
use Rattle.words.specs.Kinds.{Identifier, RParen, Greater, Pipe, LBrace, RBrace}
use Rattle.records.specs.Kinds.{RecName, RecVariable, RecStruct, RecStructTyped, RecField, RecBindList, RecLambdaBindList}
use Rattle.records.specs.Tree.{Tree, node, Trees, none, more, joined, Build, spelled, made, Builds, bnone, bmore, build, builds}
use Rattle.sources.specs.Source.{Source, Lexeme, word, after, lex}
use Rattle.answers.specs.Reading.{leaf_of}
use Rattle.grammar.specs.Types.{levels, read_type}
use Rattle.grammar.specs.Binds.{fields, struct_over, unpacked, bind_over, field_over, read_field, read_bind, read_bind_list, read_lambda_list}
use Rattle.forms.specs.Line.{is_field, is_type, kind_of_build, shown}
use Rattle.forms.specs.Forms.{FormLine, head, laid}
use Rattle.forms.specs.code.Constructs.{mark_in, headed, laid_items}
use Rattle.forms.proofs.Constructs.{Every as EachKind, laid-field, laid-struct, laid-struct-typed, laid-bind-list, laid-lambda-list}
use Rattle.roundtrip.proofs.Words.{Stops, extends}
use Rattle.roundtrip.proofs.Tokens.{Met, met-map, Editions, Rest, Near, at_once, blank, Word, Spelled}
use Rattle.roundtrip.proofs.Answers.{Gives, gives, gives_then, gives-look, gives-true, gives-false, gives-when}
use Rattle.roundtrip.proofs.Marks.{widens, is_bar, lparen, lbrace, rbrace, colon, less, bar, Ends, ends}
use Rattle.roundtrip.proofs.Lists.{All, all_map, join, join-listed, Same, SameAll, Reads, Opens, Begins, opened, Closed, closed-mark, closed-greater, list-reads}
use Rattle.roundtrip.proofs.Names.{is_colons, Structs, clashes, headed-starts, leaf-shown, Chain}
use Rattle.roundtrip.proofs.Types.{round, inner, inner-near, bars-line, firsts, Typed, types-open, angle-opens, bar-opens, closed-close, closed-bar}

-- one list of trees behind another
bjoined : Builds → Builds → Builds
bjoined bnone cs = cs
bjoined (bmore b bs) cs = bmore b (bjoined bs cs)

builds-joined : (ts us : Trees) → builds (joined ts us) ≡ bjoined (builds ts) (builds us)
unfolding bjoined joined builds
builds-joined none us = refl
builds-joined (more t ts) us = ap (bmore (build t)) (builds-joined ts us)

joined_same : (xs ys ts us : Trees) → SameAll ts xs → SameAll us ys → builds (joined xs ys) ≡ builds (joined ts us)
joined_same xs ys ts us e g = builds-joined xs ys ∙ ap₂ bjoined e g ∙ sym (builds-joined ts us)

kinds-of : (p : ℕ → Bool) (ts : Trees) → All (λ (t : Tree). p (kind_of_build (build t)) ≡ true) ts → EachKind p ts
kinds-of p none a = tt
kinds-of p (more t ts) a = (a.0, kinds-of p ts a.1)

-- the lines, in front of what follows
abbrev braced : Trees → List ℕ → List ℕ
braced fs z = 123 ∷ join fs (125 ∷ z)

abbrev with_types : Trees → Trees → List ℕ → List ℕ
with_types ts fs z = 60 ∷ join ts (62 ∷ 32 ∷ braced fs z)

braces-line : (fs : Trees) (z : List ℕ) → (bytes " {" ++ (laid_items FormLine fs ++ bytes "}")) ++ z ≡ 32 ∷ braced fs z
braces-line fs z = ap (λ (x : List ℕ). 32 ∷ 123 ∷ x) (round fs 125 z)

module _ (s e : ℕ) where
  field-line : (a : Lexeme) (x : Tree) (z : List ℕ) → shown (node RecField s e (more (leaf_of RecName a) (more x none))) ++ z ≡ word a ++ (58 ∷ 32 ∷ (shown x ++ z))
  unfolding laid headed head mark_in
  field-line a x z =
      ap (λ (y : List ℕ). y ++ z) (laid-field FormLine s e (leaf_of RecName a) x ∙ ap (λ (y : List ℕ). y ++ (58 ∷ 32 ∷ shown x)) (leaf-shown RecName a refl)) ∙ append_assoc (word a) (58 ∷ 32 ∷ shown x) z

  struct-line : (c : Tree) (fs : Trees) (z : List ℕ) → shown (node RecStruct s e (more c fs)) ++ z ≡ shown c ++ (32 ∷ braced fs z)
  unfolding laid headed head mark_in
  struct-line c fs z = ap (λ (y : List ℕ). y ++ z) (laid-struct FormLine s e c fs) ∙ append_assoc (shown c) (bytes " {" ++ (laid_items FormLine fs ++ bytes "}")) z ∙ ap (◌++◌ (shown c)) (braces-line fs z)

  typed-line : (c : Tree) (ts fs : Trees) → EachKind is_type ts → EachKind is_field fs → (z : List ℕ) → shown (node RecStructTyped s e (more c (joined ts fs))) ++ z ≡ shown c ++ with_types ts fs z
  unfolding laid headed head mark_in
  typed-line c ts fs d g z =
      let b : List ℕ = bytes " {" ++ (laid_items FormLine fs ++ bytes "}") in
      ap (λ (y : List ℕ). y ++ z) (laid-struct-typed FormLine s e c ts fs d g) ∙ append_assoc (shown c) (60 ∷ (laid_items FormLine ts ++ (62 ∷ b))) z
      ∙ ap (λ (y : List ℕ). shown c ++ (60 ∷ y)) (append_assoc (laid_items FormLine ts) (62 ∷ b) z ∙ ap (λ (y : List ℕ). laid_items FormLine ts ++ (62 ∷ y)) (braces-line fs z) ∙ join-listed ts (62 ∷ 32 ∷ braced fs z))

  list-line : (xs : Trees) (z : List ℕ) → shown (node RecBindList s e xs) ++ z ≡ 40 ∷ join xs (41 ∷ z)
  unfolding laid headed head mark_in
  list-line xs z = ap (λ (y : List ℕ). y ++ z) (laid-bind-list FormLine s e xs) ∙ ap (◌∷◌ 40) (round xs 41 z)

  lambda-line : (xs : Trees) (z : List ℕ) → shown (node RecLambdaBindList s e xs) ++ z ≡ 124 ∷ inner xs (124 ∷ z)
  unfolding laid headed head
  lambda-line xs z = ap (λ (y : List ℕ). y ++ z) (laid-lambda-list FormLine s e xs) ∙ bars-line xs z

colon-stops : (s : List ℕ) → Stops extends (58 ∷ s)
unfolding is_name is_letter is_digit in_range
colon-stops s = refl

module _ (es : Editions) where
  -- x is a binding, and a field, whose line reads back with n levels left
  pub record Bound (n : ℕ) (x : Tree) : Type 0 where
    pub starts : (z : List ℕ) → Stops clashes (shown x ++ z)
    pub reads : Reads es (read_bind n) (Begins firsts) x

  pub record Fielded (n : ℕ) (x : Tree) : Type 0 where
    pub reads : Reads es (read_field n (read_bind n)) (Begins λ k. eqb k Identifier) x
    pub marked : is_field (kind_of_build (build x)) ≡ true

  -- the items of a list of bindings, and of fields
  binds-open : (n close : ℕ) → firsts close ≡ false → (xs : Trees) → All (Bound n) xs → All (Reads es (read_bind n) (Opens close)) xs
  binds-open n close h = all_map (Bound n) (Reads es (read_bind n) (Opens close)) λ x d. opened es (read_bind n) firsts close h refl refl x d.reads

  fields_open : (n : ℕ) (xs : Trees) → All (Fielded n) xs → All (Reads es (read_field n (read_bind n)) (Opens RBrace)) xs
  fields_open n = all_map (Fielded n) (Reads es (read_field n (read_bind n)) (Opens RBrace)) λ x d. opened es (read_field n (read_bind n)) (λ k. eqb k Identifier) RBrace refl refl refl x d.reads

  pub variable-back : (n : ℕ) (a : Lexeme) → Spelled es Identifier (word a) → Bound (suc n) (leaf_of RecVariable a)
  unfolding read_bind bind_over build
  variable-back n a m = record {
    starts = λ z. rw (leaf-shown RecVariable a refl) (headed-starts (word a) z m.0);
    reads = λ u z d e. met-map (λ b i. (
      rw i.kind,
      gives-true _ _ _ (rw i.kind)
          (gives-look _ (e.after (after b) i.goes) λ t x. gives-false _ _ _ x (gives _ _ (ap (spelled RecVariable) i.spelt) i.goes)),
    ))
        (m.1 u z (rw (leaf-shown RecVariable a refl) at d) e.stops);
  }

  pub field_back : (n s e : ℕ) (a : Lexeme) (x : Tree) → Spelled es Identifier (word a) → Bound (suc n) x → Fielded (suc n) (node RecField s e (more (leaf_of RecName a) (more x none)))
  unfolding read_field field_over build builds is_field kind_of_build
  field_back n s e a x m h = record {
    marked = refl;
    reads = λ u z d g. met-map (λ b i. (
      rw i.kind,
      gives-true _ _ _ (rw i.kind)
          (gives-look _ (colon es (after b) (32 ∷ (shown x ++ z)) (at_once i.goes) (shown x ++ z, refl)) λ t j. gives-true _ _ _ (rw j.kind)
          (gives-look _ (h.reads (after t) z (blank j.goes) g) λ c k. gives_then _ k.1 λ y v l w.
          gives _ _ (ap₂ (λ (p : List ℕ) (q : Build). made RecField (bmore (spelled RecName p) (bmore q bnone))) i.spelt l) w)),
    ))
        (m.1 u (58 ∷ 32 ∷ (shown x ++ z)) (subst (Near es u) (field-line s e a x z) d) (colon-stops (32 ∷ (shown x ++ z))));
  }

  closed-brace : (z : List ℕ) → Closed es RBrace (125 ∷ z) z
  unfolding is_name is_letter is_digit in_range
  closed-brace z = closed-mark es (rbrace es) refl refl z tt refl refl

  -- structs, over parts with n levels left
  module _ (n : ℕ) where
    fields_back : (fs : Trees) → All (Fielded n) fs → (z : List ℕ) (t : Lexeme) → Word es LBrace (bytes "{") (join fs (125 ∷ z)) t → Gives es (SameAll fs) z (fields (read_type n) (read_field n (read_bind n)) t)
    unfolding fields
    fields_back fs a z t i = gives-true _ _ _ (rw i.kind) (list-reads es (read_field n (read_bind n)) RBrace t refl (125 ∷ z) z (closed-brace z) fs (fields_open n fs a) (at_once i.goes))

    -- a struct named c, whose line goes on with f
    struct-like : (c x : Tree) (f : List ℕ → List ℕ) → ((z : List ℕ) → shown x ++ z ≡ shown c ++ f z) → Chain es c → ((z : List ℕ) → Ends es is_colons (f z)) → ((z : List ℕ) (v : Source) → Rest es v (f z) → Met Structs (lex v))
        → ((b : Lexeme) (y : Tree) → Same c y → (z : List ℕ) (v : Source) → Rest es v (f z) → Gives es (Same x) z (struct_over (read_type n) (read_field n (read_bind n)) b y v)) → Bound (suc n) x
    unfolding read_bind bind_over unpacked
    struct-like c x f l h e g k = record {
      starts = λ z. rw (l z) (h.starts (f z));
      reads = λ u z d _. met-map (λ b i. (
        i.first,
        let o : Gives es (Same x) z (unpacked (read_type n) (read_field n (read_bind n)) b) = gives_then _ i.back λ y v j w. k b y j z v w in
            gives-when _ _ _ (λ q. gives-look _ (i.ahead (g z) q) λ t r. gives-true _ _ _ r o) λ _. o,
      ))
          (h.reads u (f z) (subst (Near es u) (l z) d) (e z));
    }

    pub struct_back : (s e : ℕ) (c : Tree) (fs : Trees) → Chain es c → All (Fielded n) fs → Bound (suc n) (node RecStruct s e (more c fs))
    unfolding struct_over build builds is_name is_letter is_digit in_range
    struct_back s e c fs h a =
        struct-like c (node RecStruct s e (more c fs)) (λ z. 32 ∷ braced fs z) (struct-line s e c fs) h (λ z. ends es is_colons (lbrace es) (join fs (125 ∷ z)) _ tt refl refl refl λ u. blank)
        (λ z v i. met-map (λ t j. rw j.kind) (lbrace es v (join fs (125 ∷ z)) (blank i) tt)) λ b y g z v i.
        gives-look _ (lbrace es v (join fs (125 ∷ z)) (blank i) tt) λ o j. gives-false _ _ _ (rw j.kind) (gives_then _ (fields_back fs a z o j) λ ys w k q.
        gives _ _ (ap₂ (λ (p : Build) (r : Builds). made RecStruct (bmore p r)) g k) q)

    types-opens : (ts : Trees) (y : List ℕ) → All (Typed es n) ts → Stops widens (join ts (62 ∷ y))
    types-opens none y a = refl
    types-opens (more t ts) y a = angle-opens es n t ts (62 ∷ y) a

    pub typed-back : (s e : ℕ) (c : Tree) (ts fs : Trees) → Chain es c → All (Typed es n) ts → All (Fielded n) fs → Bound (suc n) (node RecStructTyped s e (more c (joined ts fs)))
    unfolding struct_over build builds is_name is_letter is_digit in_range
    typed-back s e c ts fs h a b =
        let y : List ℕ → List ℕ = λ z. 32 ∷ braced fs z in
        struct-like c (node RecStructTyped s e (more c (joined ts fs))) (with_types ts fs)
        (typed-line s e c ts fs (kinds-of is_type ts (all_map (Typed es n) _ (λ t d. d.no_field) ts a)) (kinds-of is_field fs (all_map (Fielded n) _ (λ t d. d.marked) fs b))) h
        (λ z. ends es is_colons (less es) (join ts (62 ∷ y z)) _ (types-opens ts (y z) a) refl refl refl λ u. at_once)
        (λ z v i. met-map (λ t j. rw j.kind) (less es v (join ts (62 ∷ y z)) (at_once i) (types-opens ts (y z) a))) λ o x g z v i.
        gives-look _ (less es v (join ts (62 ∷ y z)) (at_once i) (types-opens ts (y z) a)) λ o j. gives-true _ _ _ (rw j.kind)
        (gives_then _ (list-reads es (read_type n) Greater o refl (62 ∷ y z) (y z) (closed-greater es (y z) refl) ts (types-open es n Greater (λ v. refl) ts a) (at_once j.goes)) λ xs w k q.
        gives-look _ (lbrace es w (join fs (125 ∷ z)) (blank q) tt) λ p l. gives_then _ (fields_back fs b z p l) λ ys m r r₂.
        gives _ _ (ap₂ (λ (v : Build) (w : Builds). made RecStructTyped (bmore v w)) g (joined_same xs ys ts fs k r)) r₂)

  -- the two lists
  abbrev pub ListBack : Tree → Type 0
  ListBack x = (u : Source) (z : List ℕ) → Near es u (shown x ++ z) → Met (λ (a : Lexeme). Gives es (Same x) z (read_bind_list a)) (lex u)

  pub list_back : (s e : ℕ) (xs : Trees) → All (Bound levels) xs → ListBack (node RecBindList s e xs)
  unfolding read_bind_list build
  list_back s e xs h u z d =
      met-map (λ a i. gives-true _ _ _ (rw i.kind) (gives_then _ (list-reads es (read_bind levels) RParen a refl (41 ∷ z) z (closed-close es z) xs (binds-open levels RParen refl xs h) (at_once i.goes)) λ ys v j k. gives _ _ (ap (made RecBindList) j) k))
      (lparen es u (join xs (41 ∷ z)) (subst (Near es u) (list-line s e xs z) d) tt)

  abbrev pub LambdaBack : Tree → Type 0
  LambdaBack x = (u : Source) (z : List ℕ) → Near es u (shown x ++ z) → Stops is_bar z → Met (λ (a : Lexeme). Gives es (Same x) z (read_lambda_list a)) (lex u)

  pub lambda-back : (s e : ℕ) (xs : Trees) → All (Bound levels) xs → LambdaBack (node RecLambdaBindList s e xs)
  unfolding read_lambda_list build
  lambda-back s e xs h u z d g =
      met-map (λ a i. gives-true _ _ _ (rw i.kind) (gives_then _ (list-reads es (read_bind levels) Pipe a refl (124 ∷ z) z (closed-bar es z g) xs (binds-open levels Pipe refl xs h) (inner-near es (after a) xs _ i.goes)) λ ys v j k. gives _ _ (ap (made RecLambdaBindList) j) k))
      (bar es u (inner xs (124 ∷ z)) (subst (Near es u) (lambda-line s e xs z) d) (bar-opens (Bound levels) (λ x i. i.starts) xs (124 ∷ z) h))
