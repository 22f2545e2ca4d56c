-- The walk to the closing quote: at a place of the text, in the code's own words; and its bounds, its shift, its end and its byte.
use mathlib.Core.Path.{◌≡◌, ◌∙◌, refl, sym, subst}
use mathlib.Core.Bool.{Bool, true, false}
use mathlib.Core.List.{List, [], ◌∷◌, ◌++◌}
use Prim.Native.Nat.{ℕ, suc, ◌+◌, ◌-◌, ◌<◌, ◌≤◌, max}
use native.Mathlib.Omega.{arith}
use native.Mathlib.Numerals.{add-one}
use borrow.Author.Tests.{eqb-true, ne_eqb, leb-true, leb-false}
use lib.Dec.{eqb, leb}
use lib.ListN.{length, get_or, take, drop, drop_of_length-le}
use lib.Seq.{drop-cons}
use Rattle.std.proofs.Common.{Ok, Err}
use Rattle.words.specs.Quote.{Quote, ends_line, turn, quote_from, raised}
use Rattle.words.proofs.Places.{behind}

pub quote-end : (s : List ℕ) (i : ℕ) (t : Bool) → length s ≤ i → quote_from t i (drop i s) ≡ Err i
unfolding quote_from
quote-end s i t h = rw (drop_of_length-le s h)

-- the walk is over, from the place `at` on
pub quote-over : (s : List ℕ) (at i : ℕ) (t : Bool) → length s ≤ i → (at ≤ length s → i ≤ length s) → quote_from false at (drop at s) ≡ quote_from t i (drop i s)
    → Err (max at (length s)) ≡ quote_from false at (drop at s)
quote-over s at i t h g e = go (leb at (length s)) refl
  where
    go : (b : Bool) → leb at (length s) ≡ b → Err (max at (length s)) ≡ quote_from false at (drop at s)
    go true q =
        let l : at ≤ length s = leb-true _ _ q in
        let k : i ≤ length s = g l in
        let m : max at (length s) ≡ i = omega arith in rw m (sym (e ∙ quote-end s i t h))
    go false q =
        let l : length s < at = leb-false _ _ q in
        let m : max at (length s) ≡ at = omega arith in rw m (sym (quote-end s at false (omega arith)))

-- a byte that ends no line, is not escaped and is no closing quote
turn-on : (x y : Bool) (i : ℕ) (go : Bool → Quote) → y ≡ false → turn false false x y i go ≡ go x
turn-on true y i go h = refl
turn-on false y i go h = rw h

module _ (s : List ℕ) (i : ℕ) (h : i < length s) where
  one : (t : Bool) → quote_from t i (drop i s)
      ≡ turn (ends_line (get_or s i 0) (get_or s (i + 1) 0)) t (eqb (get_or s i 0) 92) (eqb (get_or s i 0) 34) i (λ u. quote_from u (i + 1) (drop (i + 1) s))
  unfolding quote_from
  one t = rw (drop-cons s i 0 h, behind s i, add-one i)

  module _ (r : Bool) (f : r ≡ ends_line (get_or s i 0) (get_or s (i + 1) 0)) (t : Bool) where
    pub line-over : r ≡ true → quote_from t i (drop i s) ≡ Err i
    line-over e = rw (one t, ← f, e)

    module _ (e : r ≡ false) where
      pub quote : t ≡ false → get_or s i 0 ≡ 34 → quote_from t i (drop i s) ≡ Ok i
      quote p q = rw (one t, ← f, e, p, q)

      pub behind-backslash : t ≡ true → quote_from t i (drop i s) ≡ quote_from false (i + 1) (drop (i + 1) s)
      behind-backslash p = rw (one t, ← f, e, p)

      pub passed : t ≡ false → (get_or s i 0 ≡ 34 → ⊥) → quote_from t i (drop i s) ≡ quote_from (eqb (get_or s i 0) 92) (i + 1) (drop (i + 1) s)
      passed p g =
          rw (one t, ← f, e, p)
          (turn-on (eqb (get_or s i 0) 92) (eqb (get_or s i 0) 34) i (λ u. quote_from u (i + 1) (drop (i + 1) s)) (ne_eqb (get_or s i 0) 34 g))

-- the answer's place is within the bytes, and that of the end of a line may be behind the last
abbrev pub Within : ℕ → ℕ → Quote → Type 0
Within i n (Ok q) = (i ≤ q) × (q < i + n)
Within i n (Err e) = (i ≤ e) × (e ≤ i + n)

widen : (i n : ℕ) (r : Quote) → Within (suc i) n r → Within i (suc n) r
widen i n (Ok q) h = (omega arith, omega arith)
widen i n (Err e) h = (omega arith, omega arith)

turn-within : (l b x y : Bool) (i n : ℕ) (go : Bool → Quote) → ((u : Bool) → Within i (suc n) (go u)) → Within i (suc n) (turn l b x y i go)
turn-within true b x y i n go h = (omega arith, omega arith)
turn-within false true x y i n go h = h false
turn-within false false true y i n go h = h true
turn-within false false false true i n go h = (omega arith, omega arith)
turn-within false false false false i n go h = h false

pub within : (s : List ℕ) (b : Bool) (i : ℕ) → Within i (length s) (quote_from b i s)
unfolding quote_from
within [] b i = (omega arith, omega arith)
within (a ∷ s) b i =
    turn-within (ends_line a (get_or s 0 0)) b (eqb a 92) (eqb a 34) i (length s) (λ u. quote_from u (suc i) s)
    (λ u. widen i (length s) (quote_from u (suc i) s) (within s u (suc i)))

-- from a place that is k higher the answer's is k higher
turn-raised : (l b x y : Bool) (k i : ℕ) (go higher : Bool → Quote) → ((u : Bool) → higher u ≡ raised k (go u))
    → turn l b x y (k + i) higher ≡ raised k (turn l b x y i go)
turn-raised true b x y k i go higher h = refl
turn-raised false true x y k i go higher h = h false
turn-raised false false true y k i go higher h = h true
turn-raised false false false true k i go higher h = refl
turn-raised false false false false k i go higher h = h false

pub quote-shift : (s : List ℕ) (b : Bool) (k i : ℕ) → quote_from b (k + i) s ≡ raised k (quote_from b i s)
unfolding quote_from
quote-shift [] b k i = refl
quote-shift (a ∷ s) b k i =
    turn-raised (ends_line a (get_or s 0 0)) b (eqb a 92) (eqb a 34) k i (λ u. quote_from u (suc i) s) (λ u. quote_from u (suc (k + i)) s)
    (λ u. let e : suc (k + i) ≡ k + suc i = omega arith in rw e (quote-shift s u k (suc i)))

-- nothing behind the closing quote matters: what stands there may change the next byte of no line's end but the quote's own
turn-local : (l m b x y : Bool) (i q : ℕ) (go other : Bool → Quote) → turn l b x y i go ≡ Ok q
    → ((u : Bool) → go u ≡ Ok q → (m ≡ l) × (other u ≡ Ok q)) → (y ≡ true → m ≡ false) → turn m b x y i other ≡ Ok q
turn-local true m b x y i q go other h r t = let z : ◌≡◌ {A = ℕ} 0 1 = cc in absurd (omega arith)
turn-local false m true x y i q go other h r t = rw (r false h).0 (r false h).1
turn-local false m false true y i q go other h r t = rw (r true h).0 (r true h).1
turn-local false m false false true i q go other h r t = rw (t refl) h
turn-local false m false false false i q go other h r t = rw (r false h).0 (r false h).1

not_line : (a v : ℕ) → eqb a 34 ≡ true → ends_line a v ≡ false
unfolding ends_line
not_line a v h = rw (eqb-true a 34 h)

front : (s : List ℕ) (u : Bool) (i q n : ℕ) (z : List ℕ) → quote_from u i s ≡ Ok q → get_or (take (suc n) s ++ z) 0 0 ≡ get_or s 0 0
unfolding quote_from
front [] u i q n z h = let e : ◌≡◌ {A = ℕ} 0 1 = cc in absurd (omega arith)
front (a ∷ s) u i q n z h = refl

pub quote-local : (s : List ℕ) (b : Bool) (i q : ℕ) → quote_from b i s ≡ Ok q → (z : List ℕ) → quote_from b i (take (suc (q - i)) s ++ z) ≡ Ok q
unfolding quote_from
quote-local [] b i q h z = let e : ◌≡◌ {A = ℕ} 0 1 = cc in absurd (omega arith)
quote-local (a ∷ s) b i q h z =
    turn-local (ends_line a (get_or s 0 0)) (ends_line a (get_or (take (q - i) s ++ z) 0 0)) b (eqb a 92) (eqb a 34) i q
    (λ u. quote_from u (suc i) s) (λ u. quote_from u (suc i) (take (q - i) s ++ z)) h
    (λ u p.
    let l : (suc i ≤ q) × (q < suc i + length s) = subst (Within (suc i) (length s)) p (within s u (suc i)) in
    let n : q - i ≡ suc (q - suc i) = omega arith in
    rw n (rw (front s u (suc i) q (q - suc i) z p) refl, quote-local s u (suc i) q p z))
    (not_line a (get_or (take (q - i) s ++ z) 0 0))

-- a quote stands where one was found
turn-there : (P : Type 0) (l b x y : Bool) (i q : ℕ) (go : Bool → Quote) → turn l b x y i go ≡ Ok q → ((u : Bool) → go u ≡ Ok q → P) → (y ≡ true → i ≡ q → P) → P
turn-there P true b x y i q go h r t = let z : ◌≡◌ {A = ℕ} 0 1 = cc in absurd (omega arith)
turn-there P false true x y i q go h r t = r false h
turn-there P false false true y i q go h r t = r true h
turn-there P false false false true i q go h r t = t refl cc
turn-there P false false false false i q go h r t = r false h

pub quote-there : (s : List ℕ) (b : Bool) (i q : ℕ) → quote_from b i s ≡ Ok q → get_or s (q - i) 0 ≡ 34
unfolding quote_from
quote-there [] b i q h = let e : ◌≡◌ {A = ℕ} 0 1 = cc in absurd (omega arith)
quote-there (a ∷ s) b i q h =
    turn-there (get_or (a ∷ s) (q - i) 0 ≡ 34) (ends_line a (get_or s 0 0)) b (eqb a 92) (eqb a 34) i q (λ u. quote_from u (suc i) s) h
    (λ u p.
    let l : (suc i ≤ q) × (q < suc i + length s) = subst (Within (suc i) (length s)) p (within s u (suc i)) in
    let n : q - i ≡ suc (q - suc i) = omega arith in
    rw n (quote-there s u (suc i) q p))
    (λ y e. let n : q - i ≡ 0 = omega arith in rw n (eqb-true a 34 y))
