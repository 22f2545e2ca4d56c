-- The passes over the notes, one law for each way through the code.
use mathlib.Core.Path.{subst, ◌≡◌, refl, ap, sym, ◌∙◌}
use mathlib.Core.Bool.{Bool, true, false, cond, ◌||◌, not}
use mathlib.Core.List.{List, [], ◌∷◌, map}
use mathlib.Core.Logic.{inl, inr}
use Prim.Native.Nat.{ℕ, zero, suc, min, ◌+◌, ◌<◌, ◌≤◌}
use native.Mathlib.Omega.{arith}
use native.Mathlib.Nat.{not-suc-le-zero}
use borrow.Author.Count.{below_more}
use borrow.Author.Tests.{eqb-true, eqb-false, ne_eqb, ltb-true, ltb-false, leb-true, leb-false, lt-ltb, le-ltb, le-leb, lt-leb}
use lib.Dec.{eqb, leb, ltb}
use lib.ListN.{length, get_or, take, set, length-take, length-set, length-map}
use lib.Seq.{get_or-take, get_or-set_same, get_or-set_other, ext_get_or}
use Rattle.tokens.specs.Answers.{refusal}
use Rattle.tokens.specs.Walk.{Listed, refused, next, tokens_at}
use Rattle.tokens.proofs.Again.{found-fits}
use Rattle.tokens.proofs.Walks.{at_next}
use Rattle.starts.specs.code.Step.{step, reached, step_to}
use Rattle.starts.specs.declared.Step.{Step}
use Rattle.carried.specs.Carry.{refusal_of, is_start, covers, covering_start, bad_note}
use Rattle.carried.specs.Promised.{ToEOF}
use Rattle.carried.specs.code.Passes.{begins_at, start_of, lesser, LeastOf, lower, LowestBad, Movable, exchanged, replaced}
use Rattle.carried.proofs.Walked.{Walked, over, stopped, going, walked}
use Rattle.carried.proofs.Together.{covers-in, no-refusal, read-pair}
use Rattle.carried.proofs.Covering.{or-either, from, start-token, Settled, settled-rest, settled-within, covering-back, start-settled}
use Rattle.tokens.specs.declared.Refusal.{Refusal}
use Rattle.tokens.specs.declared.Token.{Token}
use Rattle.std.specs.Bool.{then_some}
use Rattle.std.specs.Prelude.{unwrap_or, IfSome, Result, Ok, Err, ⊤}

or-false : (a : Bool) → a || false ≡ a
or-false true = refl
or-false false = refl

-- what a walk to the text's end met: EOF, or the refusal
abbrev pub fault_by : Result Token Refusal → Result ⊤ Refusal
fault_by (Ok t) = Ok tt
fault_by (Err r) = Err r

module _ {ed : ℕ} {text : List ℕ} where
  reached-fault : {at : ℕ} {l : Listed} → Walked ed text at l → refusal_of l ≡ fault_by (reached (length text) at l).met
  unfolding refusal_of reached
  reached-fault (over a b c d) = refl
  reached-fault (stopped i q) = refl
  reached-fault (going {t = t} e a b c d w) = rw (le-ltb (length text) t.end c) (reached-fault w)

  -- a list from `at` on has no start before
  none_before : {at : ℕ} {l : Listed} → Walked ed text at l → (x : ℕ) → x < at → is_start l x ≡ false
  none_before {l = l} w x h = go (is_start l x) refl
    where
      go : (b : Bool) → is_start l x ≡ b → is_start l x ≡ false
      go true q = let t = start-token l x q in absurd (omega (arith, from w t.0 t.1, t.2))
      go false q = q

  -- x is a start where the first token that ends behind it, or EOF, starts there
  starts_by_lem : {at : ℕ} {l : Listed} → Walked ed text at l → (x : ℕ) → is_start l x ≡ begins_at (reached x at l).met x
  unfolding is_start reached begins_at
  starts_by_lem (over a b c d) x = refl
  starts_by_lem (stopped i q) x = refl
  starts_by_lem {at} (going {t = t} {l = l} e a b c d w) x = go (ltb x t.end) refl (starts_by_lem w x)
    where
      go : (v : Bool) → ltb x t.end ≡ v → is_start l x ≡ begins_at (reached x t.end l).met x
          → eqb t.start x || is_start l x ≡ begins_at (cond v (step at (Ok t)) (reached x t.end l)).met x
      go true q ih = rw (none_before w x (ltb-true x t.end q)) (or-false (eqb t.start x))
      go false q ih = rw (ne_eqb t.start x (λ z. absurd (omega (arith, ltb-false x t.end q)))) ih

  -- and its start is the covering one
  covering-by : {at : ℕ} {l : Listed} → Walked ed text at l → ToEOF l → (x : ℕ) → Settled text l x → covering_start l x ≡ start_of (reached x at l).met
  unfolding covering_start reached start_of refusal_of
  covering-by (over a b c d) o x h = refl
  covering-by (stopped {r = r} i q) o x h = absurd (no-refusal (refused r) r refl o)
  covering-by {at} (going {t = t} {l = l} e a b c d w) o x h = go (ltb x t.end) (covers t x) refl refl (λ g. covering-by w o x g)
    where
      here : covers t x ≡ false → x < t.end → Settled text l x → ⊥
      here q k (inl (u, m, i)) = omega (arith, from w u m, covers-in u x i)
      here q k (inr z) = omega arith

      go : (v u : Bool) → ltb x t.end ≡ v → covers t x ≡ u → (Settled text l x → covering_start l x ≡ start_of (reached x t.end l).met)
          → cond u t.start (covering_start l x) ≡ start_of (cond v (step at (Ok t)) (reached x t.end l)).met
      go true true q p ih = refl
      go true false q p ih = absurd (here p (ltb-true x t.end q) (settled-rest text t l x p h))
      go false true q p ih = absurd (omega (arith, covers-in t x p, ltb-false x t.end q))
      go false false q p ih = ih (settled-rest text t l x p h)

  -- a walk goes on from where its last step began
  on-from : {at : ℕ} {l : Listed} → Walked ed text at l → l ≡ tokens_at ed text at → (x y : ℕ) → x ≤ y → step_to ed text (reached x at l).from y ≡ reached y at l
  unfolding step_to reached
  on-from {at} (over {t = t} a b c d) q x y h = ap (reached y at) (sym q)
  on-from {at} (stopped {r = r} i e) q x y h = ap (reached y at) (sym q)
  on-from {at} (going {t = t} {l = l} e a b c d w) q x y h = go (ltb x t.end) refl (on-from w rest x y h)
    where
      rest : l ≡ tokens_at ed text t.end
      rest = let n : next t l ≡ next t (tokens_at ed text t.end) = q ∙ (at_next ed text at (found-fits ed text at t e).1 t e d).0 in cc

      go : (v : Bool) → ltb x t.end ≡ v → reached y (reached x t.end l).from (tokens_at ed text (reached x t.end l).from) ≡ reached y t.end l
          → reached y (cond v (step at (Ok t)) (reached x t.end l)).from (tokens_at ed text (cond v (step at (Ok t)) (reached x t.end l)).from) ≡ reached y at (next t l)
      go true p ih = ap (reached y at) (sym q)
      go false p ih = rw (le-ltb y t.end (omega (arith, ltb-false x t.end p))) ih

-- the walk over the whole text
pub walk-met : (ed : ℕ) (text : List ℕ) (s : Step) → s ≡ step_to ed text 0 (length text) → (m : Result Token Refusal) → s.met ≡ m → fault_by m ≡ refusal_of (tokens_at ed text 0)
unfolding step_to
walk-met ed text s e m q = ap fault_by (sym q ∙ ap (λ (x : Step). x.met) e) ∙ sym (reached-fault (walked ed text 0 (omega arith)))

-- from offsets of p on, the walk from `at` meets what the walk from 0 meets
abbrev pub Steps : ℕ → List ℕ → ℕ → ℕ → Type 0
Steps ed text p at = (y : ℕ) → p ≤ y → step_to ed text at y ≡ step_to ed text 0 y

module _ (ed : ℕ) (text : List ℕ) (p at x : ℕ) (h : Steps ed text p at) (g : p ≤ x) (s : Step) (e : s ≡ step_to ed text at x) where
  from_zero : s ≡ step_to ed text 0 x
  from_zero = e ∙ h x g

  pub steps_next : Steps ed text (x + 1) s.from
  unfolding step_to
  steps_next y i = ap (λ (z : Step). step_to ed text z.from y) from_zero ∙ on-from (walked ed text 0 (omega arith)) refl x y (omega arith)

  pub begins-met : begins_at s.met x ≡ is_start (tokens_at ed text 0) x
  unfolding step_to
  begins-met = ap (λ (z : Step). begins_at z.met x) from_zero ∙ sym (starts_by_lem (walked ed text 0 (omega arith)) x)

  pub start-met : ToEOF (tokens_at ed text 0) → Settled text (tokens_at ed text 0) x → start_of s.met ≡ covering_start (tokens_at ed text 0) x
  unfolding step_to
  start-met o i = ap (λ (z : Step). start_of z.met) from_zero ∙ sym (covering-by (walked ed text 0 (omega arith)) o x i)

-- the least entry that is at least p
module _ (p : ℕ) (notes : List ℕ) where
  pub least-none : LeastOf p notes 0 (length notes)
  least-none = record { within = omega arith; found = λ h. absurd (omega arith); least = λ i h g. absurd (not-suc-le-zero h); lowest = λ i h g e. absurd (omega arith) }

  module _ (i k : ℕ) (l : LeastOf p notes i k) (h : i < length notes) where
    abbrev x : ℕ
    x = get_or notes i 0

    kept : (p ≤ x → (k < length notes) × (get_or notes k 0 ≤ x)) → LeastOf p notes (i + 1) k
    kept f = record {
      within = l.within;
      found = λ g. let e = l.found g in (omega (arith, e.0), e.1);
      least = below_more (λ (j : ℕ). p ≤ get_or notes j 0 → (k < length notes) × (get_or notes k 0 ≤ get_or notes j 0)) i l.least f;
      lowest = l.lowest;
    }

    taken : p ≤ x → ((j : ℕ) → j < i → p ≤ get_or notes j 0 → x < get_or notes j 0) → LeastOf p notes (i + 1) i
    taken g f = record {
      within = omega arith;
      found = λ _. (omega arith, g);
      least = below_more (λ (j : ℕ). p ≤ get_or notes j 0 → (i < length notes) × (x ≤ get_or notes j 0)) i (λ j m n. (h, omega (arith, f j m n))) (λ n. (h, omega arith));
      lowest = λ j m n e. absurd (omega (arith, f j m (omega arith)));
    }

    pub least_step : (r : ℕ) → r ≡ lesser p notes k i → LeastOf p notes (i + 1) r
    unfolding lesser
    least_step r e = rw e (go (ltb x p) (leb (length notes) k) (ltb x (get_or notes k 0)) refl refl refl)
      where
        go : (u v w : Bool) → ltb x p ≡ u → leb (length notes) k ≡ v → ltb x (get_or notes k 0) ≡ w → LeastOf p notes (i + 1) (cond u k (cond v i (cond w i k)))
        go true v w a b c = kept (λ n. absurd (omega (arith, ltb-true x p a)))
        go false true w a b c = taken (ltb-false x p a) (λ j m n. absurd (omega (arith, (l.least j m n).0, leb-true (length notes) k b)))
        go false false true a b c = taken (ltb-false x p a) (λ j m n. omega (arith, (l.least j m n).1, ltb-true x (get_or notes k 0) c))
        go false false false a b c = kept (λ n. (leb-false (length notes) k b, ltb-false x (get_or notes k 0) c))

-- what is answered of the index at the end: none where it is the list's length
pub least-answer : (p : ℕ) (notes : List ℕ) (k : ℕ) → LeastOf p notes (length notes) k
    → (LeastOf p notes (length notes) (unwrap_or (then_some (ltb k (length notes)) k) (length notes))) × IfSome (then_some (ltb k (length notes)) k) (λ j. j < length notes)
least-answer p notes k l = go (ltb k (length notes)) refl
  where
    go : (b : Bool) → ltb k (length notes) ≡ b → (LeastOf p notes (length notes) (unwrap_or (then_some b k) (length notes))) × IfSome (then_some b k) (λ j. j < length notes)
    go true q = (l, ltb-true k (length notes) q)
    go false q = (subst (λ (j : ℕ). LeastOf p notes (length notes) j) (omega (arith, l.within, ltb-false k (length notes) q)) l, tt)

-- the lowest bad index among the entries below p
pub record BadBelow (old : Listed) (notes : List ℕ) (p bad : ℕ) : Type 0 where
  pub within : bad ≤ length notes
  pub good : ((i : ℕ) → i < bad → get_or notes i 0 < p → is_start old (get_or notes i 0) ≡ true)
  pub none : (bad < length notes → is_start old (get_or notes bad 0) ≡ false)

module _ (old : Listed) (notes : List ℕ) where
  pub bad-none : BadBelow old notes 0 (length notes)
  bad-none = record { within = omega arith; good = λ i h g. absurd (not-suc-le-zero g); none = λ h. absurd (omega arith) }

  module _ (p bad k : ℕ) (b : BadBelow old notes p bad) (l : LeastOf p notes (length notes) k) where
    pub bad-all : length notes ≤ k → LowestBad old notes bad
    bad-all h = record { within = b.within; good = λ i g. b.good i g (below i (omega (arith, b.within)) (ltb (get_or notes i 0) p) refl); none = b.none }
      where
        below : (i : ℕ) → i < length notes → (v : Bool) → ltb (get_or notes i 0) p ≡ v → get_or notes i 0 < p
        below i g true q = ltb-true (get_or notes i 0) p q
        below i g false q = absurd (omega (arith, (l.least i g (ltb-false (get_or notes i 0) p q)).0))

    module _ (h : k < length notes) where
      abbrev y : ℕ
      y = get_or notes k 0

      -- an entry up to the least one is below p, or it is that one
      by-least : (A : Type 0) (i : ℕ) → i < length notes → get_or notes i 0 < y + 1 → (get_or notes i 0 < p → A) → (get_or notes i 0 ≡ y → A) → A
      by-least A i g j f n = go (ltb (get_or notes i 0) p) refl
        where
          go : (v : Bool) → ltb (get_or notes i 0) p ≡ v → A
          go true q = f (ltb-true (get_or notes i 0) p q)
          go false q = n (omega (arith, (l.least i g (ltb-false (get_or notes i 0) p q)).1))

      pub bad-step : (g : Bool) → g ≡ is_start old y → (r : ℕ) → r ≡ lower bad k g → BadBelow old notes (y + 1) r
      unfolding lower
      bad-step true q r e = rw e record {
        within = b.within;
        good = λ i j n. by-least (is_start old (get_or notes i 0) ≡ true) i (omega (arith, b.within)) n (b.good i j) (λ z. ap (is_start old) z ∙ sym q);
        none = b.none;
      }
      bad-step false q r e = rw e record {
        within = omega (arith, b.within);
        good = λ i j n. by-least (is_start old (get_or notes i 0) ≡ true) i (omega (arith, b.within)) n (b.good i (omega arith)) (λ z. absurd (l.lowest i (omega arith) h z));
        none = λ j. which (ltb bad k) refl;
      }
        where
          which : (v : Bool) → ltb bad k ≡ v → is_start old (get_or notes (min bad k) 0) ≡ false
          which true w = let m : min bad k ≡ bad = omega (arith, ltb-true bad k w) in rw m (b.none (omega (arith, ltb-true bad k w)))
          which false w = let m : min bad k ≡ k = omega (arith, ltb-false bad k w) in rw m (sym q)

  -- where the least entry is the largest offset that there is
  pub bad_last : (p bad : ℕ) → BadBelow old notes p bad → ((i : ℕ) → get_or notes i 0 < p) → LowestBad old notes bad
  bad_last p bad b f = record { within = b.within; good = λ i g. b.good i g (f i); none = b.none }

-- refusal 20 by the lowest bad index
module _ (old : Listed) where
  bad-at : (notes : List ℕ) (j r : ℕ) → ((i : ℕ) → i < r → is_start old (get_or notes i 0) ≡ true) → j + r ≤ 256 → r < length notes
      → leb 256 (j + r) || not (is_start old (get_or notes r 0)) ≡ true → (n : ℕ) → j + r ≡ n → Err (refusal 20 n n) ≡ bad_note old j notes
  unfolding bad_note
  bad-at [] j r f h g e n q = absurd (not-suc-le-zero g)
  bad-at (a ∷ notes) j zero f h g e n q = let d : j ≡ n = omega arith in let k : j + 0 ≡ j = omega arith in rw (rw k at e) (ap (λ (i : ℕ). Err (refusal 20 i i)) (sym d))
  bad-at (a ∷ notes) j (suc r) f h g e n q =
      let k : j + suc r ≡ suc j + r = omega arith in
      rw (lt-leb 256 j (omega arith), f 0 (omega arith)) (bad-at notes (suc j) r (λ i m. f (suc i) (omega arith)) (omega arith) (omega arith) (rw k at e) n (omega arith))

  pub no-bad-note : (i : ℕ) (notes : List ℕ) → i + length notes ≤ 256 → ((j : ℕ) → j < length notes → is_start old (get_or notes j 0) ≡ true) → bad_note old i notes ≡ Ok tt
  unfolding bad_note
  no-bad-note i [] h g = refl
  no-bad-note i (x ∷ notes) h g = rw (lt-leb 256 i (omega arith), g 0 (omega arith)) (no-bad-note (suc i) notes (omega arith) (λ j k. g (suc j) (omega arith)))

  module _ (notes : List ℕ) (n : ℕ) (en : n ≡ min 256 (length notes)) (r : ℕ) (b : LowestBad old (take n notes) r) where
    short : length (take n notes) ≡ n
    short = length-take n notes ∙ omega arith

    good-before : (i : ℕ) → i < r → is_start old (get_or notes i 0) ≡ true
    good-before i h = ap (is_start old) (sym (get_or-take n notes i 0 (omega (arith, b.within, short)))) ∙ b.good i h

    pub fault-at : r < length notes → Err (refusal 20 r r) ≡ bad_note old 0 notes
    fault-at h = bad-at notes 0 r good-before (omega (arith, b.within, short)) h (go (ltb r n) refl) r (omega arith)
      where
        go : (v : Bool) → ltb r n ≡ v → leb 256 (0 + r) || not (is_start old (get_or notes r 0)) ≡ true
        go true q =
            let e : is_start old (get_or notes r 0) ≡ false = ap (is_start old) (sym (get_or-take n notes r 0 (ltb-true r n q))) ∙ b.none (omega (arith, ltb-true r n q, short)) in
            rw e (or-either (leb 256 (0 + r)) true refl)
        go false q = rw (le-leb 256 (0 + r) (omega (arith, ltb-false r n q)))

    pub fault-none : length notes ≤ r → (Ok tt) ≡ bad_note old 0 notes
    fault-none h = sym (no-bad-note 0 notes (omega (arith, b.within, short)) (λ j g. good-before j (omega arith)))

-- every x exchanged for v, up to i
pub get_d_map : (f : ℕ → ℕ) (l : List ℕ) (i : ℕ) → i < length l → get_or (map f l) i 0 ≡ f (get_or l i 0)
get_d_map f [] i h = absurd (not-suc-le-zero h)
get_d_map f (a ∷ l) zero h = refl
get_d_map f (a ∷ l) (suc i) h = get_d_map f l i (omega arith)

pub record Exchanging (x v : ℕ) (a : List ℕ) (i : ℕ) (b : List ℕ) : Type 0 where
  pub same : length b ≡ length a
  pub done : ((j : ℕ) → j < i → get_or b j 0 ≡ exchanged x v (get_or a j 0))
  pub left : ((j : ℕ) → i ≤ j → get_or b j 0 ≡ get_or a j 0)

module _ (x v : ℕ) (a : List ℕ) where
  pub exchanging-none : Exchanging x v a 0 a
  exchanging-none = record { same = refl; done = λ j h. absurd (not-suc-le-zero h); left = λ j h. refl }

  module _ (i : ℕ) (b : List ℕ) (e : Exchanging x v a i b) where
    pub exchanging-step : i < length b → (r : ℕ) → r ≡ exchanged x v (get_or b i 0) → Exchanging x v a (i + 1) (set b i r)
    exchanging-step h r q = record {
      same = length-set b i r ∙ e.same;
      done = below_more (λ (j : ℕ). get_or (set b i r) j 0 ≡ exchanged x v (get_or a j 0)) i
          (λ j k. get_or-set_other b i j r 0 (λ z. absurd (omega arith)) ∙ e.done j k)
          (get_or-set_same b i r 0 h ∙ q ∙ ap (exchanged x v) (e.left i (omega arith)));
      left = λ j k. get_or-set_other b i j r 0 (λ z. absurd (omega arith)) ∙ e.left j (omega arith);
    }

    pub exchanging-done : length b ≤ i → b ≡ replaced x v a
    exchanging-done h =
        ext_get_or 0 b (map (exchanged x v) a) (e.same ∙ sym (length-map a (exchanged x v)))
        (λ j k. e.done j (omega arith) ∙ sym (get_d_map (exchanged x v) a j (omega (arith, e.same))))

-- the entries below p moved, the others as they were lent
module _ (f : ℕ → ℕ) where
  abbrev moved_to : ℕ → ℕ → ℕ
  moved_to p y = cond (ltb y p) (f y) y

  below-zero : (notes : List ℕ) → notes ≡ map (moved_to 0) notes
  below-zero [] = refl
  below-zero (y ∷ notes) = rw (le-ltb y 0 (omega arith)) (ap (λ (l : List ℕ). y ∷ l) (below-zero notes))

  one-step : (p x y : ℕ) → p ≤ x → f y ≤ y → (p ≤ y → x ≤ y) → exchanged x (f x) (moved_to p y) ≡ moved_to (x + 1) y
  unfolding exchanged
  one-step p x y h g k = go (ltb y p) (eqb y x) refl refl
    where
      go : (u v : Bool) → ltb y p ≡ u → eqb y x ≡ v → cond (eqb (cond u (f y) y) x) (f x) (cond u (f y) y) ≡ moved_to (x + 1) y
      go true v a b = let l = ltb-true y p a in rw (ne_eqb (f y) x (λ z. absurd (omega arith)), lt-ltb y (x + 1) (omega arith))
      go false true a b = rw (b, lt-ltb y (x + 1) (omega (arith, eqb-true y x b))) (ap f (sym (eqb-true y x b)))
      go false false a b = rw (b, le-ltb y (x + 1) (omega (arith, k (ltb-false y p a), eqb-false y x b)))

  all-step : (notes : List ℕ) (p x : ℕ) → p ≤ x → ((i : ℕ) → i < length notes → f (get_or notes i 0) ≤ get_or notes i 0) → ((i : ℕ) → i < length notes → p ≤ get_or notes i 0 → x ≤ get_or notes i 0)
      → replaced x (f x) (map (moved_to p) notes) ≡ map (moved_to (x + 1)) notes
  all-step [] p x h g k = refl
  all-step (y ∷ notes) p x h g k =
      rw (one-step p x y h (g 0 (omega arith)) (k 0 (omega arith)))
      (ap (λ (l : List ℕ). moved_to (x + 1) y ∷ l) (all-step notes p x h (λ i j. g (suc i) (omega arith)) (λ i j. k (suc i) (omega arith))))

  all_done : (notes : List ℕ) (p : ℕ) → ((i : ℕ) → i < length notes → get_or notes i 0 < p) → map (moved_to p) notes ≡ map f notes
  all_done [] p h = refl
  all_done (y ∷ notes) p h = rw (lt-ltb y p (h 0 (omega arith))) (ap (λ (l : List ℕ). f y ∷ l) (all_done notes p (λ i j. h (suc i) (omega arith))))

-- one turn of the search for the lowest bad index
pub bad-next : (text notes : List ℕ) (p at bad k : ℕ) → Steps 1 text p at → BadBelow (tokens_at 1 text 0) notes p bad → LeastOf p notes (length notes) k → k < length notes
    → (s : Step) → s ≡ step_to 1 text at (get_or notes k 0) → (g : Bool) → g ≡ begins_at s.met (get_or notes k 0) → (r : ℕ) → r ≡ lower bad k g
    → BadBelow (tokens_at 1 text 0) notes (get_or notes k 0 + 1) r
bad-next text notes p at bad k h b l i s es g eg r er =
    bad-step (tokens_at 1 text 0) notes p bad k b l i g (eg ∙ begins-met 1 text p at (get_or notes k 0) h (l.found i).1 s es) r er

-- the moving of notes that can be moved
module _ (text lent : List ℕ) (m : Movable text lent) where
  abbrev moves : ℕ → ℕ
  moves x = covering_start (tokens_at 2 text 0) x

  pub record Moving (at p : ℕ) (notes : List ℕ) : Type 0 where
    pub is : notes ≡ map (moved_to moves p) lent
    pub steps : Steps 2 text p at

  pub settled : (i : ℕ) → i < length lent → Settled text (tokens_at 2 text 0) (get_or lent i 0)
  settled i h = start-settled text (get_or lent i 0) (read-pair text m.first) (m.started i h)

  pub back : (i : ℕ) → i < length lent → moves (get_or lent i 0) ≤ get_or lent i 0
  back i h = covering-back (walked 2 text 0 (omega arith)) (get_or lent i 0) (settled i h)

  pub moving-none : Moving 0 0 lent
  moving-none = record { is = below-zero moves lent; steps = λ y h. refl }

  module _ (at p : ℕ) (notes : List ℕ) (v : Moving at p notes) where
    pub moving-length : length notes ≡ length lent
    moving-length = ap length v.is ∙ length-map lent (moved_to moves p)

    entry : (i : ℕ) → i < length lent → get_or notes i 0 ≡ moved_to moves p (get_or lent i 0)
    entry i h = ap (λ (l : List ℕ). get_or l i 0) v.is ∙ get_d_map (moved_to moves p) lent i h

    lent-entry : (i : ℕ) → i < length lent → p ≤ get_or lent i 0 → get_or notes i 0 ≡ get_or lent i 0
    lent-entry i h g = entry i h ∙ rw (le-ltb (get_or lent i 0) p g)

    module _ (k : ℕ) (l : LeastOf p notes (length notes) k) where
      pub moving-done : length notes ≤ k → notes ≡ map moves lent
      moving-done h = v.is ∙ all_done moves lent p (λ i g. go i g (ltb (get_or lent i 0) p) refl)
        where
          go : (i : ℕ) → i < length lent → (b : Bool) → ltb (get_or lent i 0) p ≡ b → get_or lent i 0 < p
          go i g true q = ltb-true (get_or lent i 0) p q
          go i g false q =
              let j = ltb-false (get_or lent i 0) p q in
              absurd (omega (arith, (l.least i (omega (arith, moving-length)) (omega (arith, lent-entry i g j))).0))

      module _ (h : k < length notes) where
        -- the entry is as it was lent
        as_lent : get_or notes k 0 ≡ get_or lent k 0
        as_lent = go (ltb (get_or lent k 0) p) refl
          where
            go : (b : Bool) → ltb (get_or lent k 0) p ≡ b → get_or notes k 0 ≡ get_or lent k 0
            go false q = lent-entry k (omega (arith, moving-length)) (ltb-false (get_or lent k 0) p q)
            go true q =
                let i : k < length lent = omega (arith, moving-length) in
                let e : get_or notes k 0 ≡ moves (get_or lent k 0) = entry k i ∙ rw q in
                absurd (omega (arith, (l.found h).1, back k i, ltb-true (get_or lent k 0) p q))

        at-settled : Settled text (tokens_at 2 text 0) (get_or notes k 0)
        at-settled = rw as_lent (settled k (omega (arith, moving-length)))

        pub moving-within : get_or notes k 0 ≤ length text
        moving-within = settled-within (walked 2 text 0 (omega arith)) (get_or notes k 0) at-settled

        pub moving-step : (s : Step) → s ≡ step_to 2 text at (get_or notes k 0) → (u : ℕ) → u ≡ start_of s.met → (new : List ℕ) → new ≡ replaced (get_or notes k 0) u notes
            → Moving s.from (get_or notes k 0 + 1) new
        moving-step s es u eu new en = record {
          is = en ∙ ap (λ (w : ℕ). replaced (get_or notes k 0) w notes) (eu ∙ start-met 2 text p at (get_or notes k 0) v.steps (l.found h).1 s es m.second at-settled)
              ∙ ap (replaced (get_or notes k 0) (moves (get_or notes k 0))) v.is
              ∙ all-step moves lent p (get_or notes k 0) (l.found h).1 back (λ i j g. omega (arith, (l.least i (omega (arith, moving-length)) (omega (arith, lent-entry i j g))).1, lent-entry i j g));
          steps = steps_next 2 text p at (get_or notes k 0) v.steps (l.found h).1 s es;
        }
