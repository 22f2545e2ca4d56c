-- Tests that antt computes, over the numbers below a bound, the bytes of a word and the entries of a table.
use mathlib.Core.Path.{◌≡◌, refl, ap, ◌∙◌}
use mathlib.Core.Bool.{Bool, true, false, ◌&&◌}
use mathlib.Core.List.{List, [], ◌∷◌, ◌++◌}
use Prim.Native.Nat.{ℕ, zero, suc, ◌<◌}
use native.Mathlib.Omega.{arith}
use native.Mathlib.Nat.{not-suc-le-zero, le_of_suc-le-suc}
use borrow.Author.Tests.{eqb-true, eqb-false, ltb-true}
use lib.Dec.{eqb, ltb}
use lib.ListN.{length, get_or}
use Rattle.words.specs.Tables.{Entry, none}
use Rattle.words.specs.Search.{same}
use Rattle.classes.proofs.Bools.{and_left, and_right, false-true}

-- two spellings that are the same are equal
pub same-equal : (w v : List ℕ) → same w v ≡ true → w ≡ v
unfolding same
same-equal [] [] h = refl
same-equal [] (b ∷ v) h = false-true _ h
same-equal (a ∷ w) [] h = false-true _ h
same-equal (a ∷ w) (b ∷ v) h =
    rw (eqb-true a b (and_left (eqb a b) (same w v) h), same-equal w v (and_right (eqb a b) (same w v) h))

-- what a test finds of each number below n holds of k
abbrev pub below : (ℕ → Bool) → ℕ → Bool
below p zero = true
below p (suc n) = p n && below p n

pub below_at : (p : ℕ → Bool) (n k : ℕ) → below p n ≡ true → k < n → p k ≡ true
below_at p zero k h g = absurd (not-suc-le-zero g)
below_at p (suc n) k h g = go (eqb k n) refl (λ l. below_at p n k (and_right (p n) (below p n) h) l)
  where
    go : (b : Bool) → eqb k n ≡ b → (k < n → p k ≡ true) → p k ≡ true
    go true e r = ap p (eqb-true k n e) ∙ and_left (p n) (below p n) h
    go false e r = let u : k ≡ n → ⊥ = eqb-false k n e in r (omega arith)

-- what a test finds of each entry holds of the first, of those behind it, and of the entry k
abbrev pub all : (Entry → Bool) → List Entry → Bool
all p [] = true
all p (e ∷ es) = p e && all p es

module _ (p : Entry → Bool) (e : Entry) (es : List Entry) (h : all p (e ∷ es) ≡ true) where
  pub all_head : p e ≡ true
  all_head = and_left (p e) (all p es) h

  pub all_tail : all p es ≡ true
  all_tail = and_right (p e) (all p es) h

pub all-at : (p : Entry → Bool) (t : List Entry) (k : ℕ) → all p t ≡ true → k < length t → p (get_or t k none) ≡ true
all-at p [] k h g = absurd (not-suc-le-zero g)
all-at p (e ∷ es) zero h g = all_head p e es h
all-at p (e ∷ es) (suc k) h g = all-at p es k (all_tail p e es h) (le_of_suc-le-suc g)

-- what a test finds of each entry of a table holds of each of two parts
pub all_left : (p : Entry → Bool) (t u : List Entry) → all p (t ++ u) ≡ true → all p t ≡ true
all_left p [] u h = refl
all_left p (e ∷ es) u h = rw (and_left (p e) (all p (es ++ u)) h) (all_left p es u (and_right (p e) (all p (es ++ u)) h))

pub all_right : (p : Entry → Bool) (t u : List Entry) → all p (t ++ u) ≡ true → all p u ≡ true
all_right p [] u h = h
all_right p (e ∷ es) u h = all_right p es u (and_right (p e) (all p (es ++ u)) h)

-- bytes, none of them zero
unfoldable pub plain : List ℕ → Bool
plain [] = true
plain (b ∷ w) = (ltb 0 b && ltb b 256) && plain w

module _ (b : ℕ) (w : List ℕ) (h : plain (b ∷ w) ≡ true) where
  plain-head : ltb 0 b && ltb b 256 ≡ true
  unfolding plain
  plain-head = and_left (ltb 0 b && ltb b 256) (plain w) h

  pub plain-some : 0 < b
  plain-some = ltb-true 0 b (and_left (ltb 0 b) (ltb b 256) plain-head)

  pub plain_byte : b < 256
  plain_byte = ltb-true b 256 (and_right (ltb 0 b) (ltb b 256) plain-head)

  pub plain-tail : plain w ≡ true
  unfolding plain
  plain-tail = and_right (ltb 0 b && ltb b 256) (plain w) h
