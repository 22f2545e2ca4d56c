-- The digits of a number: runs over two classes, what they begin with and what they go on with.
use mathlib.Core.Path.{◌≡◌, refl, ap, sym, ◌∙◌}
use mathlib.Core.Bool.{Bool, true, false, cond, ◌&&◌, ◌||◌, not}
use mathlib.Core.List.{List, [], ◌∷◌}
use Prim.Native.Nat.{ℕ, zero, suc, ◌+◌, ◌<◌, ◌≤◌}
use native.Mathlib.Omega.{arith}
use native.Mathlib.Nat.{add-zero, not-suc-le-zero}
use borrow.Author.Tests.{ltb-true, ltb-false, eqb-true, eq-eqb, ne_eqb}
use lib.Dec.{eqb, ltb}
use lib.ListN.{length, get_or, take, drop, drop_of_length-le, length-drop}
use lib.Seq.{drop-cons, take-nil}
use Rattle.classes.specs.Class.{is_digit, is_hex, is_digit_or_underscore, is_hex_or_underscore, in_range, in_class}
use Rattle.classes.specs.Run.{run_len, run_end}
use Rattle.classes.proofs.Cut.{run-cut}
use Rattle.classes.proofs.Bools.{false-true, and-false}
use Rattle.classes.proofs.Runs.{run_past, run_short, run-stops, run_inside, len-same}
use Rattle.words.specs.Search.{is_edition2}
use Rattle.tokens.specs.Token.{digits_len, more_digits, more_hex, decimal_len, hex_len}
use Rattle.tokens.specs.code.Found.{digits_class, hex_class, begun, digits_end}

module _ (f g : ℕ → Bool) where
  -- no more than there are bytes, and at least the first where it is of the first class
  pub digits-short : (s : List ℕ) → digits_len f g s ≤ length s
  unfolding digits_len
  digits-short [] = omega arith
  digits-short (a ∷ s) = go (f a)
    where
      go : (v : Bool) → cond v (suc (run_len g s)) 0 ≤ length (a ∷ s)
      go true = omega (arith, run_short g s)
      go false = omega arith

  pub digits-take : (a : ℕ) (s : List ℕ) → f a ≡ true → 0 < digits_len f g (a ∷ s)
  unfolding digits_len
  digits-take a s e = rw e (omega arith)

  -- the first is of the first class, the others are of the second
  pub digits-first : (s : List ℕ) → 0 < digits_len f g s → f (get_or s 0 0) ≡ true
  unfolding digits_len
  digits-first [] h = absurd (not-suc-le-zero h)
  digits-first (a ∷ s) h = go (f a) refl h
    where
      go : (v : Bool) → f a ≡ v → 0 < cond v (suc (run_len g s)) 0 → f a ≡ true
      go true e k = e
      go false e k = absurd (not-suc-le-zero k)

  pub digits-inside : (s : List ℕ) (k : ℕ) → suc k < digits_len f g s → g (get_or s (suc k) 0) ≡ true
  unfolding digits_len
  digits-inside [] k h = absurd (not-suc-le-zero h)
  digits-inside (a ∷ s) k h = go (f a) h
    where
      go : (v : Bool) → suc k < cond v (suc (run_len g s)) 0 → g (get_or s k 0) ≡ true
      go true l = run_inside g s k (omega arith)
      go false l = absurd (not-suc-le-zero l)

  -- the byte behind them, if any, is not of the second; where there are none, the byte there is not of the first
  pub digits-stop : (s : List ℕ) → 0 < digits_len f g s → digits_len f g s < length s → g (get_or s (digits_len f g s) 0) ≡ false
  unfolding digits_len
  digits-stop [] h k = absurd (not-suc-le-zero h)
  digits-stop (a ∷ s) h k = go (f a) h k
    where
      go : (v : Bool) → 0 < cond v (suc (run_len g s)) 0 → cond v (suc (run_len g s)) 0 < length (a ∷ s) → g (get_or (a ∷ s) (cond v (suc (run_len g s)) 0) 0) ≡ false
      go true l m = run-stops g s (omega arith)
      go false l m = absurd (not-suc-le-zero l)

  pub digits-none : (a : ℕ) (s : List ℕ) → digits_len f g (a ∷ s) ≡ 0 → f a ≡ false
  unfolding digits_len
  digits-none a s h = go (f a) refl h
    where
      go : (v : Bool) → f a ≡ v → cond v (suc (run_len g s)) 0 ≡ 0 → f a ≡ false
      go true e k = absurd (omega arith)
      go false e k = e

  -- where the first byte is of both classes they are the run of the second
  pub digits-run : (a : ℕ) (s : List ℕ) → f a ≡ true → g a ≡ true → digits_len f g (a ∷ s) ≡ run_len g (a ∷ s)
  unfolding digits_len run_len
  digits-run a s h k = rw (h, k)

  -- digits with v bytes behind them, and no more
  pub digits-typed : (s : List ℕ) (v : ℕ) → digits_len f g (take (digits_len f g s + v) s) ≡ digits_len f g s
  unfolding digits_len
  digits-typed [] v = rw (take-nil (0 + v))
  digits-typed (a ∷ s) v = go (f a) refl v
    where
      go : (b : Bool) → f a ≡ b → (v : ℕ) → digits_len f g (take (cond b (suc (run_len g s)) 0 + v) (a ∷ s)) ≡ cond b (suc (run_len g s)) 0
      go true e v =
          let n : suc (run_len g s) + v ≡ suc (run_len g s + v) = omega arith in
          rw (n, e) (omega (arith, run-cut g s (run_len g s + v)))
      go false e zero = let n : 0 + 0 ≡ 0 = omega arith in rw n
      go false e (suc v) = let n : 0 + suc v ≡ suc v = omega arith in rw (n, e)

  -- where the text from a place on ends, or the byte there is of both classes or of neither, they end where the run does
  module _ (text : List ℕ) (at : ℕ) where
    end-past : length text ≤ at → at ≡ digits_end f g text at
    unfolding digits_end digits_len
    end-past h = rw (drop_of_length-le text h, add-zero)

    pub end_none : f (get_or text at 0) ≡ false → at ≡ digits_end f g text at
    unfolding digits_end digits_len
    end_none e = go (ltb at (length text)) refl
      where
        go : (v : Bool) → ltb at (length text) ≡ v → at ≡ digits_end f g text at
        go true l = rw (drop-cons text at 0 (ltb-true at (length text) l), e, add-zero)
        go false l = end-past (ltb-false at (length text) l)

    pub end-run : f (get_or text at 0) ≡ g (get_or text at 0) → run_end g text at ≡ digits_end f g text at
    unfolding digits_end digits_len run_end run_len
    end-run e = go (ltb at (length text)) refl
      where
        go : (v : Bool) → ltb at (length text) ≡ v → run_end g text at ≡ digits_end f g text at
        go true l = rw (drop-cons text at 0 (ltb-true at (length text) l), e)
        go false l = run_past g text at (ltb-false at (length text) l) ∙ end-past (ltb-false at (length text) l)

    pub end-to : at ≤ length text → digits_end f g text at ≤ length text
    unfolding digits_end
    end-to h = omega (arith, digits-short (drop at text), length-drop at text)

-- in one class they are the run of that class
pub digits-one : (f : ℕ → Bool) (s : List ℕ) → digits_len f f s ≡ run_len f s
unfolding digits_len run_len
digits-one f [] = refl
digits-one f (a ∷ s) = refl

-- two pairs of tests that agree have the same digits
pub digits_same : (f f₂ g g₂ : ℕ → Bool) → ((b : ℕ) → f b ≡ f₂ b) → ((b : ℕ) → g b ≡ g₂ b) → (s : List ℕ) → digits_len f g s ≡ digits_len f₂ g₂ s
unfolding digits_len
digits_same f f₂ g g₂ e h [] = refl
digits_same f f₂ g g₂ e h (a ∷ s) = rw (e a, len-same g g₂ h s)

-- a class without `_`, and the class with it, but for `_`
module _ (f : ℕ → Bool) (h : f 95 ≡ false) (b : ℕ) where
  but-low : f b && not (eqb b 95) ≡ f b
  but-low = go (f b) refl (eqb b 95) refl
    where
      go : (u : Bool) → f b ≡ u → (v : Bool) → eqb b 95 ≡ v → u && not v ≡ u
      go false d v e = refl
      go true d false e = refl
      go true d true e = false-true _ (sym h ∙ ap f (sym (eqb-true b 95 e)) ∙ d)

  or-low : (f b || eqb b 95) && not (eqb b 95) ≡ f b
  or-low = go (eqb b 95) refl
    where
      go : (v : Bool) → eqb b 95 ≡ v → (f b || v) && not v ≡ f b
      go true e = ap (λ (u : Bool). (u || true) && false) z ∙ sym z
        where
          z : f b ≡ false
          z = ap f (eqb-true b 95 e) ∙ h
      go false e = both (f b)
        where
          both : (u : Bool) → (u || false) && true ≡ u
          both true = refl
          both false = refl

-- at a place of a text whose byte is b, in the code's own words
module _ (k : ℕ) (text : List ℕ) (at b : ℕ) (e : b ≡ get_or text at 0) where
  pub begun-low : b ≡ 95 → at ≡ digits_end (begun k) (in_class k) text at
  unfolding begun
  begun-low h = end_none (begun k) (in_class k) text at (rw (← e, eq-eqb b 95 h) (and-false (in_class k b)))

  pub begun-run : (b ≡ 95 → ⊥) → run_end (in_class k) text at ≡ digits_end (begun k) (in_class k) text at
  unfolding begun
  begun-run h = end-run (begun k) (in_class k) text at (rw (← e, ne_eqb b 95 h) (go (in_class k b)))
    where
      go : (v : Bool) → v && true ≡ v
      go true = refl
      go false = refl

-- what digits begin with and go on with, by the number of the class
low_digit : is_digit 95 ≡ false
unfolding is_digit in_range
low_digit = refl

low-hex : is_hex 95 ≡ false
unfolding is_hex in_range
low-hex = refl

begun-digit : (ed b : ℕ) → begun (digits_class ed) b ≡ is_digit b
unfolding begun digits_class in_class is_digit_or_underscore
begun-digit ed b = go (is_edition2 ed)
  where
    go : (v : Bool) → in_class (cond v 6 1) b && not (eqb b 95) ≡ is_digit b
    go true = or-low is_digit low_digit b
    go false = but-low is_digit low_digit b

begun-hex : (ed b : ℕ) → begun (hex_class ed) b ≡ is_hex b
unfolding begun hex_class in_class is_hex_or_underscore
begun-hex ed b = go (is_edition2 ed)
  where
    go : (v : Bool) → in_class (cond v 7 2) b && not (eqb b 95) ≡ is_hex b
    go true = or-low is_hex low-hex b
    go false = but-low is_hex low-hex b

digits-told : (ed b : ℕ) → in_class (digits_class ed) b ≡ more_digits ed b
unfolding digits_class more_digits in_class
digits-told ed b = go (is_edition2 ed)
  where
    go : (v : Bool) → in_class (cond v 6 1) b ≡ cond v (is_digit_or_underscore b) (is_digit b)
    go true = refl
    go false = refl

hex-told : (ed b : ℕ) → in_class (hex_class ed) b ≡ more_hex ed b
unfolding hex_class more_hex in_class
hex-told ed b = go (is_edition2 ed)
  where
    go : (v : Bool) → in_class (cond v 7 2) b ≡ cond v (is_hex_or_underscore b) (is_hex b)
    go true = refl
    go false = refl

-- where digits end that the code found by the number of their class
module _ (ed : ℕ) (text : List ℕ) (at m n : ℕ) where
  pub digits-by-class : m ≡ digits_class ed → n ≡ digits_end (begun m) (in_class m) text at → n ≡ digits_end is_digit (more_digits ed) text at
  unfolding digits_end
  digits-by-class h g = g ∙ rw h (ap (λ (i : ℕ). at + i) (digits_same _ _ _ _ (begun-digit ed) (digits-told ed) (drop at text)))

  pub hex-by-class : m ≡ hex_class ed → n ≡ digits_end (begun m) (in_class m) text at → n ≡ digits_end is_hex (more_hex ed) text at
  unfolding digits_end
  hex-by-class h g = g ∙ rw h (ap (λ (i : ℕ). at + i) (digits_same _ _ _ _ (begun-hex ed) (hex-told ed) (drop at text)))

-- in edition 1 the digits of a number are the run of digits
pub decimal-one : (s : List ℕ) → decimal_len 1 s ≡ run_len is_digit s
unfolding decimal_len more_digits
decimal-one s = digits_same is_digit is_digit (more_digits 1) is_digit (λ b. refl) (λ b. refl) s ∙ digits-one is_digit s

pub hex-one : (s : List ℕ) → hex_len 1 s ≡ 2 + run_len is_hex (drop 2 s)
unfolding hex_len more_hex
hex-one s = ap (λ (n : ℕ). 2 + n) (digits_same is_hex is_hex (more_hex 1) is_hex (λ b. refl) (λ b. refl) (drop 2 s) ∙ digits-one is_hex (drop 2 s))
