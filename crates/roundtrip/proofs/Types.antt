-- Types read back: each form of a type does where its parts do, and so does what is read with any number of levels left.
use mathlib.Core.Path.{◌≡◌, refl, subst, sym, ap, ap₂, ◌∙◌}
use mathlib.Core.Bool.{Bool, true, false, not, ◌&&◌, ◌||◌}
use mathlib.Core.List.{List, [], ◌∷◌, ◌++◌, append_assoc}
use Prim.Native.Nat.{ℕ, suc}
use lib.Dec.{eqb}
use Rattle.classes.specs.Bytes.{bytes}
use Rattle.classes.specs.Class.{in_range, is_digit, is_letter, is_name}
use Rattle.classes.proofs.Bools.{or_left, or_right}
use Rattle.words.specs.Kinds.{NumValue, Identifier, Amp, AmpMut, LParen, RParen, Less, Greater, Pipe, LBrace, ColonColon}
use Rattle.records.specs.Kinds.{RecType, RecRef, RecRefMut, RecFunction, RecUnit, RecTuple, RecBrackets}
use Rattle.records.specs.Tree.{Tree, node, Trees, none, more, behind, Build, spelled, made, Builds, bnone, bmore, build, builds}
use Rattle.sources.specs.Source.{Source, Lexeme, after, lex}
use Rattle.answers.specs.Reading.{when}
use Rattle.grammar.specs.Names.{is_first}
use Rattle.grammar.specs.Types.{bracketed, brackets, reference, function, with_arguments, named, type_over, read_type}
use Rattle.forms.specs.Line.{is_field, is_type, kind_of_build, shown}
use Rattle.forms.specs.Forms.{FormLine, head, laid}
use Rattle.forms.specs.code.Constructs.{mark_in, headed, laid_items, in_bars, in_angles}
use Rattle.forms.proofs.Constructs.{laid-ref, laid-ref-mut, laid-unit, laid-brackets, laid-tuple, laid-type, laid-function}
use Rattle.roundtrip.specs.Arguments.{is_function}
use Rattle.roundtrip.proofs.Words.{Stops, stops-less, differs}
use Rattle.roundtrip.proofs.Tokens.{Met, met-map, Editions, Rest, Near, at_once, blank}
use Rattle.roundtrip.proofs.Answers.{Gives, gives, gives_then, gives-look, gives-true, gives-false}
use Rattle.roundtrip.proofs.Marks.{widens, is_bar, lparen, rparen, amp, amp-mut, less, bar, Ends, ends}
use Rattle.roundtrip.proofs.Lists.{All, all_map, rest, join, join-listed, Same, SameAll, structs, Reads, Opens, Begins, opened, Closed, closed-mark, closed-greater, list-reads}
use Rattle.roundtrip.proofs.Names.{is_colons, clashes, Chain}

-- trees put together
bbehind : Builds → Build → Builds
bbehind bnone u = bmore u bnone
bbehind (bmore b bs) u = bmore b (bbehind bs u)

builds-behind : (ts : Trees) (t : Tree) → builds (behind ts t) ≡ bbehind (builds ts) (build t)
unfolding bbehind behind builds
builds-behind none t = refl
builds-behind (more u ts) t = ap (bmore (build u)) (builds-behind ts t)

behind-same : (xs ts : Trees) (x t : Tree) → SameAll ts xs → Same t x → builds (behind xs x) ≡ builds (behind ts t)
behind-same xs ts x t e g = builds-behind xs x ∙ ap₂ bbehind e g ∙ sym (builds-behind ts t)

pub grouped : Builds → Build
grouped bnone = spelled RecUnit []
grouped (bmore b bnone) = made RecBrackets (bmore b bnone)
grouped (bmore b (bmore c bs)) = made RecTuple (bmore b (bmore c bs))

pub bracketed-build : (a : Lexeme) (u : Source) (ts : Trees) → build (bracketed a u ts) ≡ grouped (builds ts)
unfolding grouped bracketed build builds
bracketed-build a u none = refl
bracketed-build a u (more t none) = refl
bracketed-build a u (more t (more v ts)) = refl

-- marks round a list, in front of what follows
pub round : (ts : Trees) (a : ℕ) (z : List ℕ) → (laid_items FormLine ts ++ (a ∷ [])) ++ z ≡ join ts (a ∷ z)
round ts a z = append_assoc (laid_items FormLine ts) (a ∷ []) z ∙ join-listed ts (a ∷ z)

abbrev angled : Trees → List ℕ → List ℕ
angled none z = z
angled (more t ts) z = 60 ∷ join (more t ts) (62 ∷ z)

-- `|a, b|`, and `| |`: what stands between the bars
abbrev pub inner : Trees → List ℕ → List ℕ
inner none y = 32 ∷ y
inner (more t ts) y = join (more t ts) y

pub bars-line : (ts : Trees) (y : List ℕ) → in_bars FormLine ts ++ y ≡ 124 ∷ inner ts (124 ∷ y)
unfolding in_bars mark_in
bars-line none y = refl
bars-line (more t ts) y = ap (◌∷◌ 124) (round (more t ts) 124 y)

module _ (s e : ℕ) where
  type-line : (c : Tree) (ts : Trees) (z : List ℕ) → shown (node RecType s e (more c ts)) ++ z ≡ shown c ++ angled ts z
  unfolding laid headed head mark_in in_angles
  type-line c none z = ap (λ (x : List ℕ). x ++ z) (laid-type FormLine s e c none) ∙ append_assoc (shown c) [] z
  type-line c (more t ts) z =
      ap (λ (x : List ℕ). x ++ z) (laid-type FormLine s e c (more t ts)) ∙ append_assoc (shown c) (60 ∷ (laid_items FormLine (more t ts) ++ (62 ∷ []))) z
      ∙ ap (λ (x : List ℕ). shown c ++ (60 ∷ x)) (round (more t ts) 62 z)

  function-line : (ts : Trees) (t : Tree) (z : List ℕ) → shown (node RecFunction s e (behind ts t)) ++ z ≡ 124 ∷ inner ts (124 ∷ 32 ∷ (shown t ++ z))
  unfolding laid headed head mark_in
  function-line ts t z = ap (λ (x : List ℕ). x ++ z) (laid-function FormLine s e ts t) ∙ append_assoc (in_bars FormLine ts) (32 ∷ shown t) z ∙ bars-line ts (32 ∷ (shown t ++ z))

group-line : (a : Lexeme) (u : Source) (ts : Trees) (z : List ℕ) → shown (bracketed a u ts) ++ z ≡ 40 ∷ join ts (41 ∷ z)
unfolding laid headed head mark_in bracketed laid_items
group-line a u none z = ap (λ (x : List ℕ). x ++ z) (laid-unit FormLine _ _)
group-line a u (more t none) z = ap (λ (x : List ℕ). x ++ z) (laid-brackets FormLine _ _ (more t none)) ∙ ap (◌∷◌ 40) (round (more t none) 41 z)
group-line a u (more t (more v ts)) z = ap (λ (x : List ℕ). x ++ z) (laid-tuple FormLine _ _ (more t (more v ts))) ∙ ap (◌∷◌ 40) (round (more t (more v ts)) 41 z)

-- the tokens that begin a name
abbrev pub firsts : ℕ → Bool
firsts k = eqb k Identifier || eqb k NumValue

-- the tokens that begin a type, a `|` only where it is a function type; and the bytes that no such line begins with
abbrev pub begins_type : Bool → ℕ → Bool
begins_type v k = firsts k || (eqb k LParen || (eqb k Amp || (eqb k AmpMut || (eqb k Pipe && v))))

abbrev pub type_clashes : Bool → ℕ → Bool
type_clashes v b = widens b || (not v && is_bar b)

-- what stands behind a `|`
pub bar-opens : (P : Tree → Type 0) → ((t : Tree) → P t → (z : List ℕ) → Stops clashes (shown t ++ z)) → (ts : Trees) (y : List ℕ) → All P ts → Stops is_bar (inner ts y)
bar-opens P f none y a = refl
bar-opens P f (more t ts) y a = stops-less is_bar clashes (λ b h. or_right (widens b) (is_bar b) h) (join (more t ts) y) (f t a.0 (rest ts y))

pub grouped-kind : (bs : Builds) → (is_function (grouped bs) ≡ false) × (is_type (kind_of_build (grouped bs)) ≡ true)
unfolding grouped is_type is_field kind_of_build
grouped-kind bnone = (refl, refl)
grouped-kind (bmore b bnone) = (refl, refl)
grouped-kind (bmore b (bmore c bs)) = (refl, refl)

module _ (es : Editions) where
  pub inner-near : (u : Source) (ts : Trees) (y : List ℕ) → Rest es u (inner ts y) → Near es u (join ts y)
  inner-near u none y e = blank e
  inner-near u (more t ts) y e = at_once e

  -- t is a type whose line reads back with n levels left
  pub record Typed (n : ℕ) (t : Tree) : Type 0 where
    pub starts : (z : List ℕ) → Stops (type_clashes (is_function (build t))) (shown t ++ z)
    pub reads : Reads es (read_type n) (Begins (begins_type (is_function (build t)))) t
    pub no_field : is_type (kind_of_build (build t)) ≡ true

  -- an argument of a function type is none itself, as it stands
  abbrev pub Argument : ℕ → Tree → Type 0
  Argument n t = Typed n t × (is_function (build t) ≡ false)

  -- the items of a list of types
  module _ (n : ℕ) where
    pub types-open : (close : ℕ) → ((v : Bool) → begins_type v close ≡ false) → (ts : Trees) → All (Typed n) ts → All (Reads es (read_type n) (Opens close)) ts
    types-open close h = all_map (Typed n) (Reads es (read_type n) (Opens close)) λ t d. opened es (read_type n) (begins_type (is_function (build t))) close (h _) refl refl t d.reads

    arguments-open : (ts : Trees) → All (Argument n) ts → All (Reads es (read_type n) (Opens Pipe)) ts
    arguments-open = all_map (Argument n) (Reads es (read_type n) (Opens Pipe)) λ t d. opened es (read_type n) (begins_type (is_function (build t))) Pipe (rw d.1) refl refl t d.0.reads

    -- what stands behind a `<`
    pub angle-opens : (t : Tree) (ts : Trees) (y : List ℕ) → All (Typed n) (more t ts) → Stops widens (join (more t ts) y)
    angle-opens t ts y a = stops-less widens _ (λ b h. or_left (widens b) (not (is_function (build t)) && is_bar b) h) (join (more t ts) y) (a.0.starts (rest ts y))

  -- an end of a type ends its name too
  to-colons : {z : List ℕ} → Ends es structs z → Ends es is_colons z
  to-colons d = record { stops = d.stops; no_equal = d.no_equal; after = λ u e. met-map (λ t x. or_right (eqb t.kind LBrace || eqb t.kind Less) (eqb t.kind ColonColon) x) (d.after u e) }

  -- closing marks
  pub closed-close : (z : List ℕ) → Closed es RParen (41 ∷ z) z
  unfolding is_name is_letter is_digit in_range
  closed-close z = closed-mark es (rparen es) refl refl z tt refl refl

  pub closed-bar : (z : List ℕ) → Stops is_bar z → Closed es Pipe (124 ∷ z) z
  unfolding is_name is_letter is_digit in_range
  closed-bar z h = closed-mark es (bar es) refl refl z h refl refl

  -- each form of a type, over parts with n levels left
  module _ (n : ℕ) where
    angled-ends : (ts : Trees) (z : List ℕ) → All (Typed n) ts → Ends es structs z → Ends es is_colons (angled ts z)
    unfolding is_name is_letter is_digit in_range
    angled-ends none z a d = to-colons d
    angled-ends (more t ts) z a d = ends es is_colons (less es) (join (more t ts) (62 ∷ z)) _ (angle-opens n t ts (62 ∷ z) a) refl refl refl λ u. at_once

    arguments-back : (s e : ℕ) (c : Tree) (ts : Trees) → All (Typed n) ts → (b : Lexeme) (x : Tree) → Same c x → (z : List ℕ) → Ends es structs z → (u : Source) → Rest es u (angled ts z)
        → Gives es (Same (node RecType s e (more c ts))) z (with_arguments (read_type n) b x u)
    unfolding with_arguments build builds
    arguments-back s e c none a b x g z d u h =
        gives-look _ (d.after u h) λ o y.
        gives-false _ _ _ (or_right (eqb o.kind LBrace) (eqb o.kind Less) (or_left (eqb o.kind LBrace || eqb o.kind Less) (eqb o.kind ColonColon) y)) (gives _ _ (ap (λ (v : Build). made RecType (bmore v bnone)) g) h)
    arguments-back s e c (more t ts) a b x g z d u h =
        gives-look _ (less es u (join (more t ts) (62 ∷ z)) (at_once h) (angle-opens n t ts (62 ∷ z) a)) λ o i. gives-true _ _ _ (rw i.kind)
        (gives_then _ (list-reads es (read_type n) Greater o refl (62 ∷ z) z (closed-greater es z d.no_equal) (more t ts) (types-open n Greater (λ v. refl) (more t ts) a) (at_once i.goes)) λ xs v j k.
        gives _ _ (ap₂ (λ (v : Build) (w : Builds). made RecType (bmore v w)) g j) k)

    -- a token that begins a name is no mark
    name_back : {P : Tree → Type 0} {z : List ℕ} (b : Lexeme) → is_first b ≡ true → Gives es P z (named (read_type n) b) → Gives es P z (type_over (read_type n) b)
    unfolding type_over
    name_back b f h =
        let no : (k : ℕ) → firsts k ≡ false → eqb b.kind k ≡ false = λ k e. differs firsts k b.kind e f in
        gives-false _ _ _ (no LParen refl) (gives-false _ _ _ (no Amp refl) (gives-false _ _ _ (no AmpMut refl) (gives-false _ _ _ (no Pipe refl) h)))

    pub type-back : (s e : ℕ) (c : Tree) (ts : Trees) → Chain es c → All (Typed n) ts → Typed (suc n) (node RecType s e (more c ts))
    unfolding read_type named build builds is_type is_field kind_of_build
    type-back s e c ts h a = record {
      starts = λ z. rw (type-line s e c ts z) (h.starts (angled ts z));
      no_field = refl;
      reads = λ u z d g. met-map (λ b i. (rw i.first, name_back b i.first (gives_then _ i.back λ x v j k. arguments-back s e c ts a b x j z g v k)))
          (h.reads u (angled ts z) (subst (Near es u) (type-line s e c ts z) d) (angled-ends ts z a g));
    }

    pub group-back : (b : Lexeme) (v : Source) (ts : Trees) → All (Typed n) ts → Typed (suc n) (bracketed b v ts)
    unfolding read_type type_over brackets
    group-back b v ts a = record {
      starts = λ z. rw (group-line b v ts z, bracketed-build b v ts, (grouped-kind (builds ts)).0) refl;
      no_field = rw (bracketed-build b v ts) (grouped-kind (builds ts)).1;
      reads = λ u z d e. met-map (λ c i. (
        rw i.kind,
        gives-true _ _ _ (rw i.kind)
            (gives_then _ (list-reads es (read_type n) RParen c refl (41 ∷ z) z (closed-close z) ts (types-open n RParen (λ v. refl) ts a) (at_once i.goes)) λ xs w g h.
            gives _ _ (bracketed-build c w xs ∙ ap grouped g ∙ sym (bracketed-build b v ts)) h),
      ))
          (lparen es u (join ts (41 ∷ z)) (subst (Near es u) (group-line b v ts z) d) tt);
    }

    -- a reference of kind c, whose mark m is a token of kind k
    reference-back : (c k s e : ℕ) (t : Tree) → Typed n t → (m : List ℕ) → ((z : List ℕ) → shown (node c s e (more t none)) ++ z ≡ m ++ (shown t ++ z)) → ((z : List ℕ) → Stops clashes (m ++ z))
        → eqb c RecFunction ≡ false → is_type c ≡ true → begins_type false k ≡ true → ((a : Lexeme) → a.kind ≡ k → type_over (read_type n) a ≡ reference (read_type n) c a)
        → ((u : Source) (z : List ℕ) → Near es u (m ++ z) → Met (λ (a : Lexeme). (a.kind ≡ k) × Near es (after a) z) (lex u)) → Typed (suc n) (node c s e (more t none))
    unfolding read_type reference build builds kind_of_build
    reference-back c k s e t h m l y p q f r w = record {
      starts = λ z. rw (p, l z) (y (shown t ++ z));
      no_field = q;
      reads = λ u z d g. met-map (λ a i. (
        rw (p, i.0) f,
        rw (r a i.0) (gives-look _ (h.reads (after a) z i.1 g) λ b j. gives_then _ j.1 λ x v y w.
            gives _ _ (ap (λ (q : Build). made c (bmore q bnone)) y) w),
      )) (w u (shown t ++ z) (subst (Near es u) (l z) d));
    }

    pub ref_back : (s e : ℕ) (t : Tree) → Typed n t → Typed (suc n) (node RecRef s e (more t none))
    unfolding type_over when laid headed head mark_in is_type is_field
    ref_back s e t h =
        reference-back RecRef Amp s e t h (bytes "& ") (λ z. ap (λ (x : List ℕ). x ++ z) (laid-ref FormLine s e t)) (λ z. refl) refl refl refl (λ a i. rw i) λ u z d.
        met-map (λ a i. (i.kind, blank i.goes)) (amp es u (32 ∷ z) d (z, refl))

    pub mut_back : (s e : ℕ) (t : Tree) → Typed n t → Typed (suc n) (node RecRefMut s e (more t none))
    unfolding type_over when laid headed head mark_in is_type is_field
    mut_back s e t h =
        reference-back RecRefMut AmpMut s e t h (bytes "&mut ") (λ z. ap (λ (x : List ℕ). x ++ z) (laid-ref-mut FormLine s e t)) (λ z. refl) refl refl refl (λ a i. rw i) λ u z d.
        met-map (λ a i. (i.kind, at_once i.goes)) (amp-mut es u z d tt)

    pub function-back : (s e : ℕ) (ts : Trees) (t : Tree) → All (Argument n) ts → Typed n t → Typed (suc n) (node RecFunction s e (behind ts t))
    unfolding read_type type_over function build is_type is_field kind_of_build
    function-back s e ts t a h = record {
      starts = λ z. rw (function-line s e ts t z) refl;
      no_field = refl;
      reads = λ u z d g. met-map (λ b i. (
        rw i.kind,
        gives-false _ _ _ (rw i.kind) (gives-false _ _ _ (rw i.kind) (gives-false _ _ _ (rw i.kind) (gives-true _ _ _ (rw i.kind)
            (gives_then _ (list-reads es (read_type n) Pipe b refl (124 ∷ 32 ∷ (shown t ++ z)) (32 ∷ (shown t ++ z)) (closed-bar (32 ∷ (shown t ++ z)) refl) ts (arguments-open n ts a) (inner-near (after b) ts _ i.goes)) λ xs v j k.
            gives-look _ (h.reads v z (blank k) g) λ c l. gives_then _ l.1 λ x w y q. gives _ _ (ap (made RecFunction) (behind-same xs ts x t j y)) q)))),
      ))
          (bar es u (inner ts (124 ∷ 32 ∷ (shown t ++ z))) (subst (Near es u) (function-line s e ts t z) d) (bar-opens (Argument n) (λ t d. rw d.1 at d.0.starts) ts (124 ∷ 32 ∷ (shown t ++ z)) a));
    }
