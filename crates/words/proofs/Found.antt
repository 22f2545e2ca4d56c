-- What each search through rows of the marks has found.
use mathlib.Core.Path.{◌≡◌, refl, ap, sym, ◌∙◌}
use mathlib.Core.Bool.{Bool, true, false, cond, not, ◌&&◌}
use mathlib.Core.List.{List, [], ◌∷◌, ◌++◌}
use Prim.Native.Nat.{ℕ, zero, suc, ◌+◌, ◌<◌, ◌≤◌}
use native.Mathlib.Omega.{arith}
use native.Mathlib.Numerals.{add-one}
use borrow.Author.Tests.{eqb-true, eqb-false, eq-eqb, ne_eqb, not-true, leb-true, lt-ltb, le-ltb}
use lib.Dec.{eqb, leb}
use lib.ListN.{length, get_or, take, drop, drop_of_length-le, length-take}
use lib.Seq.{get_or-drop, slice, slice-cons}
use Rattle.classes.specs.Bytes.{begins}
use Rattle.words.specs.Tables.{Entry, none, long_marks, double_marks, single_marks, marks}
use Rattle.words.specs.Search.{no_fit, mark_of, first_fit}
use Rattle.words.specs.code.Rows.{value_if, row_fit}
use Rattle.words.specs.declared.Fit.{Fit}
use Rattle.classes.proofs.Bools.{and_left, and_right, and-true}
use Rattle.words.proofs.Tests.{all, all_head, all_tail, all-at, all_left, all_right, plain, plain-some, plain-tail}
use Rattle.words.proofs.Rows.{mark_rows, size_at, MarkRow, mark-row}
use Rattle.words.proofs.Marks.{mark-first}

-- a table in two parts: the first part decides where an entry of it fits
hit-step : (b : Bool) (f g h : Fit) → ((cond b f g).len ≡ 0 → ⊥) → ((g.len ≡ 0 → ⊥) → h ≡ g) → cond b f h ≡ cond b f g
hit-step true f g h n r = refl
hit-step false f g h n r = r n

over-hit : (t u : List Entry) (s : List ℕ) → ((first_fit t s).len ≡ 0 → ⊥) → first_fit (t ++ u) s ≡ first_fit t s
unfolding first_fit
over-hit [] u s h = absurd (h refl)
over-hit (e ∷ es) u s h = hit-step (begins e.word s) _ (first_fit es s) (first_fit (es ++ u) s) h (over-hit es u s)

-- an entry of the table: one to five bytes, and a kind that is not 0
is_mark : Entry → Bool
is_mark e = (leb 1 (length e.word) && leb (length e.word) 5) && not (eqb e.kind 0)

all-marks : all is_mark marks ≡ true
unfolding is_mark marks long_marks double_marks single_marks
all-marks = refl

longs : all is_mark long_marks ≡ true
unfolding marks
longs = all_left is_mark long_marks (double_marks ++ single_marks) all-marks

doubles : all is_mark double_marks ≡ true
unfolding marks
doubles = all_left is_mark double_marks single_marks (all_right is_mark long_marks (double_marks ++ single_marks) all-marks)

mark-of : (k : ℕ) → k < 37 → is_mark (get_or marks k none) ≡ true
unfolding marks long_marks double_marks single_marks
mark-of k h = all-at is_mark marks k all-marks h

module _ (e : Entry) (h : is_mark e ≡ true) where
  lengths : leb 1 (length e.word) && leb (length e.word) 5 ≡ true
  unfolding is_mark
  lengths = and_left (leb 1 (length e.word) && leb (length e.word) 5) (not (eqb e.kind 0)) h

  one-or-more : 1 ≤ length e.word
  one-or-more = leb-true _ _ (and_left (leb 1 (length e.word)) (leb (length e.word) 5) lengths)

  five-or-less : length e.word ≤ 5
  five-or-less = leb-true _ _ (and_right (leb 1 (length e.word)) (leb (length e.word) 5) lengths)

  has-kind : e.kind ≡ 0 → ⊥
  unfolding is_mark
  has-kind = eqb-false _ _ (not-true _ (and_right (leb 1 (length e.word) && leb (length e.word) 5) (not (eqb e.kind 0)) h))

miss-step : (b : Bool) (e : Entry) (g h k : Fit) → is_mark e ≡ true → (cond b (record { len = length e.word; kind = e.kind }) g).len ≡ 0
    → (g.len ≡ 0 → h ≡ k) → cond b (record { len = length e.word; kind = e.kind }) h ≡ k
miss-step true e g h k p z r = let q : 1 ≤ length e.word = one-or-more e p in absurd (omega arith)
miss-step false e g h k p z r = r z

over-miss : (t u : List Entry) (s : List ℕ) → all is_mark t ≡ true → (first_fit t s).len ≡ 0 → first_fit (t ++ u) s ≡ first_fit u s
unfolding first_fit
over-miss [] u s p z = refl
over-miss (e ∷ es) u s p z =
    miss-step (begins e.word s) e (first_fit es s) (first_fit (es ++ u) s) (first_fit u s) (all_head is_mark e es p) z
    (over-miss es u s (all_tail is_mark e es p))

-- the search through the rows from k up to hi, f being what the entry k alone finds
module _ (hi k : ℕ) (s : List ℕ) where
  pub fit-end : hi ≤ k → first_fit (slice k hi marks) s ≡ no_fit
  unfolding first_fit
  fit-end h = rw (drop_of_length-le (take hi marks) {i = k} (rw length-take (omega arith)))

  module _ (m : hi ≤ 37) (h : k < hi) where
    module _ (f : Fit) (e : f ≡ first_fit (get_or marks k none ∷ []) s) where
      here : slice k hi marks ≡ (get_or marks k none ∷ []) ++ slice (k + 1) hi marks
      unfolding marks long_marks double_marks single_marks
      here = rw (add-one k) (slice-cons k hi marks none h m)

      fit-hit : (f.len ≡ 0 → ⊥) → first_fit (slice k hi marks) s ≡ f
      fit-hit g =
          rw here (over-hit (get_or marks k none ∷ []) (slice (k + 1) hi marks) s (λ p. g (ap (λ (x : Fit). x.len) e ∙ p))) ∙ sym e

      fit_next : f.len ≡ 0 → first_fit (slice k hi marks) s ≡ first_fit (slice (k + 1) hi marks) s
      fit_next z =
          rw here (over-miss (get_or marks k none ∷ []) (slice (k + 1) hi marks) s (rw (mark-of k (omega arith))) (ap (λ (x : Fit). x.len) (sym e) ∙ z))

-- a fit of n bytes, where the kind is not 0
fit_for : ℕ → ℕ → Fit
fit_for n k = cond (eqb k 0) no_fit (record { len = n; kind = k })

fit_is : (n k : ℕ) → (k ≡ 0 → ⊥) → fit_for n k ≡ record { len = n; kind = k }
unfolding fit_for
fit_is n k h = rw (ne_eqb k 0 h)

fit-not : (n k : ℕ) → k ≡ 0 → fit_for n k ≡ no_fit
unfolding fit_for
fit-not n k h = rw (eq-eqb k 0 h)

fit-if : (b : Bool) (n k : ℕ) → (k ≡ 0 → ⊥) → fit_for n (cond b k 0) ≡ cond b (record { len = n; kind = k }) no_fit
unfolding fit_for
fit-if true n k h = rw (ne_eqb k 0 h)
fit-if false n k h = refl

-- an entry of one byte, and one of two
single-begins : (w : List ℕ) (a : ℕ) → 1 ≡ length w → begins w (a ∷ []) ≡ eqb a (get_or w 0 0)
unfolding begins
single-begins [] a h = absurd (omega arith)
single-begins (x ∷ []) a h = and-true (eqb a x)
single-begins (x ∷ y ∷ w) a h = absurd (omega arith)

double-begins : (w : List ℕ) (a b : ℕ) → 2 ≡ length w → begins w (a ∷ b ∷ []) ≡ eqb a (get_or w 0 0) && eqb b (get_or w 1 0)
unfolding begins
double-begins [] a b h = absurd (omega arith)
double-begins (x ∷ []) a b h = absurd (omega arith)
double-begins (x ∷ y ∷ []) a b h = ap (λ (c : Bool). eqb a x && c) (and-true (eqb b y))
double-begins (x ∷ y ∷ z ∷ w) a b h = absurd (omega arith)

single-fit : (e : Entry) (a : ℕ) → 1 ≡ length e.word → (e.kind ≡ 0 → ⊥)
    → fit_for 1 (value_if a (get_or e.word 0 0) e.kind) ≡ first_fit (e ∷ []) (a ∷ [])
unfolding first_fit value_if
single-fit e a l n = fit-if (eqb a (get_or e.word 0 0)) 1 e.kind n ∙ rw (single-begins e.word a l, ← l)

double-fit : (e : Entry) (a b : ℕ) → 2 ≡ length e.word → (e.kind ≡ 0 → ⊥) → get_or e.word 0 0 ≡ a
    → fit_for 2 (value_if b (get_or e.word 1 0) e.kind) ≡ first_fit (e ∷ []) (a ∷ b ∷ [])
unfolding first_fit value_if
double-fit e a b l n p =
    fit-if (eqb b (get_or e.word 1 0)) 2 e.kind n ∙ rw (double-begins e.word a b l, eq-eqb a (get_or e.word 0 0) (sym p), ← l)

double-off : (e : Entry) (a b : ℕ) → 2 ≡ length e.word → (get_or e.word 0 0 ≡ a → ⊥) → no_fit ≡ first_fit (e ∷ []) (a ∷ b ∷ [])
unfolding first_fit
double-off e a b l n = rw (double-begins e.word a b l, ne_eqb a (get_or e.word 0 0) (λ p. n (sym p)))

-- a word of which the first byte is another than that of s
other-first : (w s : List ℕ) → 1 ≤ length w → (get_or w 0 0 ≡ get_or s 0 0 → ⊥) → begins w s ≡ false
unfolding begins
other-first [] s h n = absurd (omega arith)
other-first (x ∷ w) [] h n = refl
other-first (x ∷ w) (b ∷ s) h n = rw (ne_eqb b x (λ p. n (sym p)))

-- the rows of three bytes and more
pub row_fits : (row s : List ℕ) (n : ℕ) → n ≡ get_or row 5 0 → (b : Bool) → b ≡ begins (take n row) s → b ≡ true
    → record { len = n; kind = get_or row 6 0 } ≡ row_fit row s
unfolding row_fit
row_fits row s n e b p q = rw (← e, ← p, q)

pub row-off : (row s : List ℕ) (n : ℕ) → n ≡ get_or row 5 0 → (b : Bool) → b ≡ begins (take n row) s → b ≡ false → no_fit ≡ row_fit row s
unfolding row_fit
row-off row s n e b p q = rw (← e, ← p, q)

module _ (k : ℕ) (h : k < 3) where
  long : MarkRow k
  long = mark-row k (omega arith)

  some_bytes : 1 ≤ length (get_or marks k none).word
  some_bytes = one-or-more (get_or marks k none) (mark-of k (omega arith))

  pub long-room : (0 < get_or (get_or mark_rows k []) 5 0) × (get_or (get_or mark_rows k []) 5 0 ≤ 5)
  long-room = rw long.size (some_bytes, five-or-less (get_or marks k none) (mark-of k (omega arith)))

  module _ (s : List ℕ) where
    long-row : row_fit (get_or mark_rows k []) s ≡ first_fit (get_or marks k none ∷ []) s
    unfolding row_fit first_fit
    long-row = rw (long.bytes, long.size, long.kind)

    pub long-hit : (f : Fit) → f ≡ row_fit (get_or mark_rows k []) s → 0 < f.len → first_fit (slice k 3 marks) s ≡ f
    long-hit f e g = fit-hit 3 k s (omega arith) h f (e ∙ long-row) (λ z. absurd (omega arith))

    pub long-miss : no_fit ≡ row_fit (get_or mark_rows k []) s → first_fit (slice k 3 marks) s ≡ first_fit (slice (k + 1) 3 marks) s
    long-miss e = fit_next 3 k s (omega arith) h no_fit (e ∙ long-row) refl

    pub long-other : (get_or (get_or mark_rows k []) 0 0 ≡ get_or s 0 0 → ⊥) → first_fit (slice k 3 marks) s ≡ first_fit (slice (k + 1) 3 marks) s
    unfolding first_fit
    long-other g =
        fit_next 3 k s (omega arith) h no_fit (rw (other-first (get_or marks k none).word s some_bytes (λ p. g (long.first ∙ p)))) refl

-- the rows of two bytes, from the row 3 on
module _ (a b : ℕ) (k : ℕ) (l : 3 ≤ k) (h : k < 13) where
  pair : MarkRow k
  pair = mark-row k (omega arith)

  double-length : 2 ≡ length (get_or marks k none).word
  unfolding size_at
  double-length = rw (le-ltb k 3 l, lt-ltb k 13 h) at pair.sized

  pub double-other : (get_or (get_or mark_rows k []) 0 0 ≡ a → ⊥) → first_fit (slice k 13 marks) (a ∷ b ∷ []) ≡ first_fit (slice (k + 1) 13 marks) (a ∷ b ∷ [])
  double-other g =
      fit_next 13 k (a ∷ b ∷ []) (omega arith) h no_fit (double-off (get_or marks k none) a b double-length (λ p. g (pair.first ∙ p))) refl

  module _ (p : get_or (get_or mark_rows k []) 0 0 ≡ a) (v : ℕ) (e : v ≡ value_if b (get_or (get_or mark_rows k []) 1 0) (get_or (get_or mark_rows k []) 6 0)) where
    double-value : fit_for 2 v ≡ first_fit (get_or marks k none ∷ []) (a ∷ b ∷ [])
    double-value =
        rw (e, pair.second, pair.kind)
        (double-fit (get_or marks k none) a b double-length (has-kind (get_or marks k none) (mark-of k (omega arith))) (sym pair.first ∙ p))

    pub double-hit : (v ≡ 0 → ⊥) → first_fit (slice k 13 marks) (a ∷ b ∷ []) ≡ record { len = 2; kind = v }
    double-hit g =
        fit-hit 13 k (a ∷ b ∷ []) (omega arith) h (record { len = 2; kind = v }) (sym (fit_is 2 v g) ∙ double-value)
        (λ z. let y : ◌≡◌ {A = ℕ} 2 0 = z in absurd (omega arith))

    pub double-miss : v ≡ 0 → first_fit (slice k 13 marks) (a ∷ b ∷ []) ≡ first_fit (slice (k + 1) 13 marks) (a ∷ b ∷ [])
    double-miss z = fit_next 13 k (a ∷ b ∷ []) (omega arith) h no_fit (sym (fit-not 2 v z) ∙ double-value) refl

-- the rows of one byte, from the row 13 on
module _ (a : ℕ) (k : ℕ) (l : 13 ≤ k) (h : k < 37) where
  sole : MarkRow k
  sole = mark-row k h

  single-length : 1 ≡ length (get_or marks k none).word
  unfolding size_at
  single-length = rw (le-ltb k 3 (omega arith), le-ltb k 13 l) at sole.sized

  module _ (v : ℕ) (e : v ≡ value_if a (get_or (get_or mark_rows k []) 0 0) (get_or (get_or mark_rows k []) 6 0)) where
    single-value : fit_for 1 v ≡ first_fit (get_or marks k none ∷ []) (a ∷ [])
    single-value =
        rw (e, sole.first, sole.kind)
        (single-fit (get_or marks k none) a single-length (has-kind (get_or marks k none) (mark-of k h)))

    pub single-hit : (v ≡ 0 → ⊥) → first_fit (slice k 37 marks) (a ∷ []) ≡ record { len = 1; kind = v }
    single-hit g =
        fit-hit 37 k (a ∷ []) (omega arith) h (record { len = 1; kind = v }) (sym (fit_is 1 v g) ∙ single-value)
        (λ z. let y : ◌≡◌ {A = ℕ} 1 0 = z in absurd (omega arith))

    pub single-miss : v ≡ 0 → first_fit (slice k 37 marks) (a ∷ []) ≡ first_fit (slice (k + 1) 37 marks) (a ∷ [])
    single-miss z = fit_next 37 k (a ∷ []) (omega arith) h no_fit (sym (fit-not 1 v z) ∙ single-value) refl

-- the first n bytes, filled up with zeros, are enough for marks of n bytes
front : ℕ → List ℕ → List ℕ
front zero s = []
front (suc n) s = get_or s 0 0 ∷ front n (drop 1 s)

begins-front : (w s : List ℕ) → plain w ≡ true → begins w (front (length w) s) ≡ begins w s
unfolding begins front
begins-front [] s h = refl
begins-front (x ∷ w) [] h = let p : 0 < x = plain-some x w h in rw (ne_eqb 0 x (λ e. absurd (omega arith)))
begins-front (x ∷ w) (b ∷ s) h = rw (begins-front w s (plain-tail x w h))

sized : ℕ → Entry → Bool
sized n e = eqb (length e.word) n && plain e.word

fit-front : (n : ℕ) (t : List Entry) (s : List ℕ) → all (sized n) t ≡ true → first_fit t (front n s) ≡ first_fit t s
unfolding first_fit sized
fit-front n [] s h = refl
fit-front n (e ∷ es) s h =
    let l : length e.word ≡ n = eqb-true _ _ (and_left (eqb (length e.word) n) (plain e.word) (all_head (sized n) e es h)) in
    let q : begins e.word (front n s) ≡ begins e.word s
    = ap (λ (m : ℕ). begins e.word (front m s)) (sym l) ∙ begins-front e.word s (and_right (eqb (length e.word) n) (plain e.word) (all_head (sized n) e es h)) in
    rw (q, fit-front n es s (all_tail (sized n) e es h))

-- the ways through the code, at a place of the text
pub past_end : (text : List ℕ) (at : ℕ) → length text ≤ at → no_fit ≡ mark_of (drop at text)
unfolding first_fit begins marks long_marks double_marks single_marks
past_end text at h = rw (drop_of_length-le text h) (sym (mark-first []))

module _ (text : List ℕ) (at : ℕ) where
  pub place : get_or text at 0 ≡ get_or (drop at text) 0 0
  place = let e : at + 0 ≡ at = omega arith in sym (get_or-drop at text 0 0 ∙ rw e)

  next : get_or text (at + 1) 0 ≡ get_or (drop 1 (drop at text)) 0 0
  next = sym (get_or-drop 1 (drop at text) 0 0 ∙ get_or-drop at text 1 0)

  two-front : first_fit double_marks (get_or text at 0 ∷ get_or text (at + 1) 0 ∷ []) ≡ first_fit double_marks (drop at text)
  unfolding front sized plain double_marks
  two-front = rw (place, next) (fit-front 2 double_marks (drop at text) refl)

  one-front : first_fit single_marks (get_or text at 0 ∷ []) ≡ first_fit single_marks (drop at text)
  unfolding front sized plain single_marks
  one-front = rw place (fit-front 1 single_marks (drop at text) refl)

  pub is-long : (long : Fit) → long ≡ first_fit long_marks (drop at text) → 0 < long.len → long ≡ mark_of (drop at text)
  unfolding marks
  is-long long g m =
      g
      ∙ sym (mark-first (drop at text)
      ∙ over-hit long_marks (double_marks ++ single_marks) (drop at text) (λ p. let z : long.len ≡ 0 = ap (λ (x : Fit). x.len) g ∙ p in absurd (omega arith)))

  -- where no row of three bytes and more fits
  module _ (g : no_fit ≡ first_fit long_marks (drop at text)) (b : ℕ) (q : b ≡ get_or text (at + 1) 0) where
    past-long : mark_of (drop at text) ≡ first_fit (double_marks ++ single_marks) (drop at text)
    unfolding marks
    past-long =
        mark-first (drop at text)
        ∙ over-miss long_marks (double_marks ++ single_marks) (drop at text) longs (ap (λ (x : Fit). x.len) (sym g))

    two : (double : Fit) → double ≡ first_fit double_marks (get_or text at 0 ∷ b ∷ []) → double ≡ first_fit double_marks (drop at text)
    two double d = d ∙ rw q two-front

    pub is-double : (double : Fit) → double ≡ first_fit double_marks (get_or text at 0 ∷ b ∷ []) → 0 < double.len → double ≡ mark_of (drop at text)
    is-double double d m =
        two double d
        ∙ sym (past-long
        ∙ over-hit double_marks single_marks (drop at text) (λ p. let z : double.len ≡ 0 = ap (λ (x : Fit). x.len) (two double d) ∙ p in absurd (omega arith)))

    pub is-single : no_fit ≡ first_fit double_marks (get_or text at 0 ∷ b ∷ []) → (single : Fit)
        → single ≡ first_fit single_marks (get_or text at 0 ∷ []) → single ≡ mark_of (drop at text)
    is-single d single r =
        r ∙ one-front ∙ sym (past-long ∙ over-miss double_marks single_marks (drop at text) doubles (ap (λ (x : Fit). x.len) (sym (two no_fit d))))
