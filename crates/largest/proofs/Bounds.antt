-- The bounds, as one more instance of the walk over the readers. A type read from s up to v has at most one record more than bytes, a name
-- at most as many, a list behind its opening mark at most as many. Three bytes have at most three records, and two have three only where the
-- first is `&`.
use mathlib.Core.Path.{◌≡◌, refl, subst, ◌∙◌}
use mathlib.Core.Bool.{Bool, true, false}
use mathlib.Core.List.{List, [], ◌∷◌}
use Prim.Native.Nat.{ℕ, suc, ◌+◌, ◌<◌, ◌≤◌}
use native.Mathlib.Omega.{arith}
use borrow.Author.Tests.{eqb-true, eqb-false}
use lib.Dec.{eqb}
use lib.ListN.{get_or}
use Rattle.classes.proofs.Bools.{false-true}
use Rattle.words.specs.Kinds.{ColonColon, Amp, AmpMut, LParen, Less, Greater, Pipe}
use Rattle.records.specs.Tree.{Tree, none, builds}
use Rattle.records.specs.Stored.{counted_all, records}
use Rattle.sources.specs.Source.{Source, opened, Lexeme, start, end, word, tok, lex}
use Rattle.answers.specs.Reading.{ok, leaf_of}
use Rattle.grammar.specs.Types.{read_type}
use Rattle.frames.specs.code.Related.{Sort, a_name, a_pair, a_value, a_type, a_field, a_bind, a_bind_list, a_lambda_list, Role, name, first, kind_of, Fits, Lone, a_part, a_variable, Part, mark, leaf, one, many, Rule, pair, two, three, address, shared, mutable, function, plain, applied, struct, typed, field, several, alone, lambda, Frame, Lawful, Starts}
use Rattle.frames.proofs.Ways.{goes_some}
use Rattle.frames.proofs.Readers.{fits-goes, type-same}
use Rattle.frames.proofs.Facts.{Facts, about, Fact, stands, Of, reader-of, met}
use Rattle.largest.proofs.Counts.{node-count, leaf-count, none-count, more-count, behind-count, behind-leaf, joined-count, bracketed-count}
use Rattle.largest.proofs.Tokens.{size, sized, InText, after-in, split-in, amp-first, amp-alone}

abbrev is_type : Sort → Bool
is_type a_name = false
is_type a_pair = false
is_type a_value = false
is_type (a_type n) = true
is_type (a_field n) = false
is_type (a_bind n) = false
is_type a_bind_list = false
is_type a_lambda_list = false

-- c records that were read from s up to v. Of a name: no more than bytes, and only one where it has at most three bytes, since `::` has two
record Named (s c v : ℕ) : Type 0 where
  some : s < v
  few : c + s ≤ v
  short : (v ≤ s + 3 → c ≤ 1)

-- of the items of a list, behind its opening mark and up to behind its closing one: no more than bytes, and none where there is only the
-- closing mark
record Listed (s c v : ℕ) : Type 0 where
  some : s < v
  few : c + s ≤ v
  empty : (v ≡ s + 1 → c ≡ 0)

module _ (text : List ℕ) where
  -- of a type: at most one more than bytes; of three bytes three; of two bytes two, unless the first is `&`
  pub record Typed (s c v : ℕ) : Type 0 where
    pub some : s < v
    pub few : c + s ≤ v + 1
    pub three : (v ≡ s + 3 → c ≤ 3)
    pub two : (v ≡ s + 2 → (get_or text s 0 ≡ 38 → ⊥) → c ≤ 2)

  -- one that has no more records than bytes
  at-most-bytes : {s c v : ℕ} → s < v → c + s ≤ v → Typed s c v
  at-most-bytes h g = record { some = h; few = omega arith; three = λ e. omega arith; two = λ e n. omega arith }

  -- by sort; what is no type and no name needs no bound here
  abbrev Bound : Sort → (s c v : ℕ) → Type 0
  Bound a_name s c v = Named s c v
  Bound a_pair s c v = Named s c v
  Bound a_value s c v = Unit {0}
  Bound (a_type n) s c v = Typed s c v
  Bound (a_field n) s c v = Unit {0}
  Bound (a_bind n) s c v = Unit {0}
  Bound a_bind_list s c v = Unit {0}
  Bound a_lambda_list s c v = Unit {0}

  of-type : (z : Sort) {s c v : ℕ} → is_type z ≡ true → Bound z s c v → Typed s c v
  of-type a_name k b = false-true _ k
  of-type a_pair k b = false-true _ k
  of-type a_value k b = false-true _ k
  of-type (a_type n) k b = b
  of-type (a_field n) k b = false-true _ k
  of-type (a_bind n) k b = false-true _ k
  of-type a_bind_list k b = false-true _ k
  of-type a_lambda_list k b = false-true _ k

  -- the parts of a record, each from where the one before it ends
  data Row : List Part → (s c v : ℕ) → Type 0 where
    begun : {s c v : ℕ} → c ≡ 0 → v ≡ s → Row [] s c v
    after_mark : {r : List Part} {s c v p k : ℕ} → Row r s c p → p + size k ≤ v → (k ≡ Amp → get_or text v 0 ≡ 38 → ⊥) → Row (mark k ∷ r) s c v
    after_leaf : {r : List Part} {s c v p b : ℕ} {l : Role} → Row r s b p → c ≡ b + 1 → p < v → Row (leaf l ∷ r) s c v
    after_one : {r : List Part} {s c v p b : ℕ} {z : Sort} (q x : ℕ) → Row r s b p → c ≡ b + x → p ≤ q → Bound z q x v → Row (one z ∷ r) s c v
    after_many : {r : List Part} {s c v p b k : ℕ} {z : Sort} (x : ℕ) → Row r s b p → c ≡ b + x → (is_type z ≡ true → Listed p x v) → Row (many z k ∷ r) s c v

  -- a record over its parts; m counts it too
  module _ {s c v m : ℕ} (counts : m ≡ suc c) where
    pair-bound : Row (leaf name ∷ mark ColonColon ∷ leaf first ∷ []) s c v → Named s m v
    pair-bound (after_leaf (after_mark (after_leaf (begun a b) d e) f g) h i) = record { some = omega arith; few = omega arith; short = λ j. omega arith }

    three-bound : Row (leaf name ∷ mark ColonColon ∷ one a_pair ∷ []) s c v → Named s m v
    three-bound (after_leaf (after_mark (after_one q y (begun a b) d e x) f g) h i) = record { some = omega (arith, x.some); few = omega (arith, x.few); short = λ j. omega (arith, x.some) }

    shared-bound : {n : ℕ} → get_or text s 0 ≡ 38 → Row (one (a_type n) ∷ mark Amp ∷ []) s c v → Typed s m v
    shared-bound amp (after_one {p = p} q y (after_mark (begun a b) f g) d e x) =
        record { some = omega (arith, x.some); few = omega (arith, x.few); three = λ h. go h (eqb q (s + 1)) refl; two = λ h n. absurd (n amp) }
      where
        go : v ≡ s + 3 → (t : Bool) → eqb q (s + 1) ≡ t → m ≤ 3
        go h true i =
            let j = eqb-true q (s + 1) i in
            let k : p ≡ q = omega arith in
            omega (arith, x.two (omega arith) (λ l. g refl (subst (λ (o : ℕ). get_or text o 0 ≡ 38) (omega arith) l)))
        go h false i = omega (arith, x.few, eqb-false q (s + 1) i)

    mutable-bound : {n : ℕ} → Row (one (a_type n) ∷ mark AmpMut ∷ []) s c v → Typed s m v
    mutable-bound (after_one q y (after_mark (begun a b) f g) d e x) = at-most-bytes (omega (arith, x.some)) (omega (arith, x.few))

    function-bound : {n : ℕ} → Row (one (a_type n) ∷ many (a_type n) Pipe ∷ mark Pipe ∷ []) s c v → Typed s m v
    function-bound (after_one q y (after_many z (after_mark (begun a b) f g) h i) d e x) =
        let l = i refl in
        record { some = omega (arith, x.some, l.some); few = omega (arith, x.few, l.few); three = λ j. omega (arith, x.few, x.some, l.some, l.empty (omega (arith, x.some, l.some))); two = λ j n. absurd (omega (arith, x.some, l.some)) }

    plain-bound : Row (one a_name ∷ []) s c v → Typed s m v
    plain-bound (after_one q y (begun a b) d e x) =
        record { some = omega (arith, x.some); few = omega (arith, x.few); three = λ j. omega (arith, x.short (omega arith)); two = λ j n. omega (arith, x.short (omega arith)) }

    applied-bound : {n : ℕ} → Row (many (a_type n) Greater ∷ mark Less ∷ one a_name ∷ []) s c v → Typed s m v
    applied-bound (after_many z (after_mark (after_one q y (begun a b) d e x) f g) h i) = let l = i refl in at-most-bytes (omega (arith, x.some, l.some)) (omega (arith, x.few, l.few))

    made-bound : {z : Sort} {k : ℕ} {r : List Part} → (a : Lexeme) → (a.kind ≡ Amp → get_or text s 0 ≡ 38) → Rule z k r → Starts r a → Row r s c v → Bound z s m v
    made-bound a amp pair w h = pair-bound h
    made-bound a amp two w h = pair-bound h
    made-bound a amp three w h = three-bound h
    made-bound a amp address w h = tt
    made-bound a amp shared w h = shared-bound (amp (eqb-true a.kind Amp w)) h
    made-bound a amp mutable w h = mutable-bound h
    made-bound a amp function w h = function-bound h
    made-bound a amp plain w h = plain-bound h
    made-bound a amp applied w h = applied-bound h
    made-bound a amp struct w h = tt
    made-bound a amp typed w h = tt
    made-bound a amp field w h = tt
    made-bound a amp several w h = tt
    made-bound a amp alone w h = tt
    made-bound a amp lambda w h = tt

  -- a token of the text: every token but EOF takes a byte, some take two, and behind `&` stands no other `&`
  pub record TokenInText (t : Lexeme) : Type 0 where
    pub takes : (0 < t.kind → start t < end t)
    pub long : (0 < t.kind → start t + size t.kind ≤ end t)
    pub amp : (t.kind ≡ Amp → get_or text (start t) 0 ≡ 38)
    pub alone : (t.kind ≡ Amp → get_or text (end t) 0 ≡ 38 → ⊥)

  abbrev facts : Facts
  facts =
      record {
        source = InText text;
        token = TokenInText;
        refusal = λ r. Unit {0};
        tree = λ z a u x. Bound z (start a) (records x) u.at;
        row = λ r a u xs. Row r (start a) (counted_all (builds xs)) u.at;
        items = λ z c u v xs. is_type z ≡ true → Listed u.at (counted_all (builds xs)) v.at;
      }

  abbrev F : Frame
  F = about facts

  found : (u : Source) (t : Lexeme) → InText text u → lex u ≡ tok t → Fact facts t
  found u t h l =
      let d = stands u t l in
      record {
        good = record { takes = λ k. omega (arith, d.takes k); long = λ k. omega (arith, sized u t d k); amp = amp-first text u t d h; alone = amp-alone text u t d h };
        on = after-in text u t d h;
        half = λ _. split-in text u t d h;
      }

  marks : (t : Lexeme) (k : ℕ) {p : ℕ} → p ≤ start t → TokenInText t → t.kind ≡ k → 0 < t.kind → p + size k ≤ end t
  marks t k h d e g = let l = rw e at (d.long g) in omega arith

  lone-bound : (z : Sort) (l : Role) → Lone z l → (a : Lexeme) → Fits l a → start a < end a → Bound z (start a) (records (leaf_of (kind_of l a) a)) (end a)
  lone-bound z l a_part a f h = let c = leaf-count (kind_of l a) (start a) (end a) (word a) in record { some = h; few = omega arith; short = λ _. omega arith }
  lone-bound z l a_variable a f h = tt

  law : Lawful F
  law =
      record {
        next = met facts found (λ u r h l. tt);
        refused_at = λ n t t₂ h g d. tt;
        refused_before = λ n t t₂ o o₂ h g d e. tt;
        colons_due = λ t t₂ a a₂ d e. tt;
        begin = λ x. begun none-count refl;
        mark = λ {t = t} k h m. after_mark h (marks t k m.here.from m.here.step.good (eqb-true t.kind k m.is) (goes_some t.kind m.goes)) (λ e. m.here.step.good.alone (eqb-true t.kind k m.is ∙ e));
        leaf = λ {t = t} {xs = xs} l h p f.
            after_leaf {v = end t} h (behind-leaf xs (kind_of l t) (start t) (end t) (word t)) (omega (arith, p.from, p.step.good.takes (goes_some t.kind (fits-goes l t f))));
        one = λ {t = t} {xs = xs} {x = x} z h p d. after_one (start t) (records x) h (behind-count xs x) p.from d;
        many = λ {xs = xs} {ts = ts} z c h i. after_many (counted_all (builds ts)) h (joined-count xs ts) i;
        empty = λ z c p o j. λ _. record { some = omega (arith, p.from); few = omega (arith, none-count, p.from); empty = λ _. none-count };
        last = λ {x = x} z c p n d q o j. λ k. let y = of-type z k d in
            record { some = omega (arith, p.from, q.from, y.some); few = omega (arith, more-count x none, none-count, p.from, q.from, y.few); empty = λ e. absurd (omega (arith, p.from, q.from, y.some)) };
        more = λ {c = q} {x = x} {xs = xs} z c p n d m i. λ k. let y = of-type z k d in let l = i k in let b = m.here.step.good.takes (goes_some q.kind m.goes) in
            record { some = omega (arith, p.from, m.here.from, y.some, l.some); few = omega (arith, more-count x xs, p.from, m.here.from, y.few, l.few); empty = λ e. absurd (omega (arith, p.from, m.here.from, y.some, l.some)) };
        lone = λ {a = a} z l i x f o. lone-bound z l i a f (x.good.takes (goes_some a.kind (fits-goes l a f)));
        made = λ {a = a} {u = u} {xs = xs} z c r i x w h o. made-bound (node-count c (start a) u.at xs) a x.good.amp i w h;
        brackets = λ {a = a} {u = u} {xs = xs} n x k h o. let l = h refl in let b = x.good.takes (omega (arith, eqb-true a.kind LParen k)) in
            at-most-bytes (omega (arith, l.some)) (omega (arith, bracketed-count a u xs, l.few));
      }

-- every type, with any number of levels left
pub type-bound : (ed : ℕ) (text : List ℕ) (p : ℕ) (a : Lexeme) → lex (opened ed text p) ≡ tok a → (m : ℕ) (t : Tree) (u : Source) → read_type m a ≡ ok t u → Typed text (start a) (records t) u.at
type-bound ed text p a h m t u e =
    (subst (Of (facts text) (λ v x. Typed text (start a) (records x) v.at)) e (reader-of (facts text) (a_type m) (read_type m) (type-same (F text) (law text) refl m) a (found text (opened ed text p) a refl h))).0
