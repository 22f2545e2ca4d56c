-- Bytes that are all of a class: lists put together and cut, and the run at the front.
use mathlib.Core.Path.{◌≡◌, refl, sym, ◌∙◌, subst}
use mathlib.Core.Bool.{Bool, true, false, cond, ◌||◌}
use mathlib.Core.List.{List, [], ◌∷◌, ◌++◌}
use Prim.Native.Nat.{ℕ, zero, suc, ◌<◌, ◌≤◌}
use native.Mathlib.Omega.{arith}
use native.Mathlib.Nat.{not-suc-le-zero, le_of_suc-le-suc}
use borrow.Author.Tests.{leb-true, le-leb, lt-ltb, eqb-true}
use lib.Dec.{leb, eqb}
use lib.ListN.{length, get_or, take, drop}
use lib.Seq.{take-take}
use Rattle.classes.specs.Class.{in_range, is_digit, is_hex, is_letter, is_name, is_ascii, shows, is_digit_or_underscore, is_hex_or_underscore}
use Rattle.classes.specs.Run.{run_len, all_of}
use Rattle.classes.proofs.Bools.{and_left, and_right}

module _ (f : ℕ → Bool) where
  pub all_join : (xs ys : List ℕ) → all_of f xs ≡ true → all_of f ys ≡ true → all_of f (xs ++ ys) ≡ true
  unfolding all_of
  all_join [] ys h g = g
  all_join (a ∷ xs) ys h g = rw (and_left (f a) (all_of f xs) h) (all_join xs ys (and_right (f a) (all_of f xs) h) g)

  pub all_take : (n : ℕ) (s : List ℕ) → all_of f s ≡ true → all_of f (take n s) ≡ true
  unfolding all_of
  all_take zero s h = refl
  all_take (suc n) [] h = refl
  all_take (suc n) (a ∷ s) h = rw (and_left (f a) (all_of f s) h) (all_take n s (and_right (f a) (all_of f s) h))

  pub all_drop : (n : ℕ) (s : List ℕ) → all_of f s ≡ true → all_of f (drop n s) ≡ true
  unfolding all_of
  all_drop zero s h = h
  all_drop (suc n) [] h = h
  all_drop (suc n) (a ∷ s) h = all_drop n s (and_right (f a) (all_of f s) h)

  pub all-at : (s : List ℕ) (k : ℕ) → all_of f s ≡ true → k < length s → f (get_or s k 0) ≡ true
  unfolding all_of
  all-at [] k h g = absurd (not-suc-le-zero g)
  all-at (a ∷ s) zero h g = and_left (f a) (all_of f s) h
  all-at (a ∷ s) (suc k) h g = all-at s k (and_right (f a) (all_of f s) h) (le_of_suc-le-suc g)

  -- the run at the front, and a part of it
  run_step : (a : ℕ) (s : List ℕ) (b : Bool) → f a ≡ b → all_of f (take (run_len f s) s) ≡ true → all_of f (take (cond b (suc (run_len f s)) 0) (a ∷ s)) ≡ true
  unfolding all_of
  run_step a s true e h = rw e h
  run_step a s false e h = refl

  pub all-run : (s : List ℕ) → all_of f (take (run_len f s) s) ≡ true
  unfolding run_len all_of
  all-run [] = refl
  all-run (a ∷ s) = run_step a s (f a) refl (all-run s)

  pub all-front : (n : ℕ) (s : List ℕ) → n ≤ run_len f s → all_of f (take n s) ≡ true
  all-front n s h = subst (λ (w : List ℕ). all_of f w ≡ true) (take-take n (run_len f s) s h) (all_take n (take (run_len f s) s) (all-run s))

-- bytes of one class that are all of another
pub all_more : (f g : ℕ → Bool) → ((a : ℕ) → f a ≡ true → g a ≡ true) → (s : List ℕ) → all_of f s ≡ true → all_of g s ≡ true
unfolding all_of
all_more f g i [] h = refl
all_more f g i (a ∷ s) h = rw (i a (and_left (f a) (all_of f s) h)) (all_more f g i s (and_right (f a) (all_of f s) h))

-- a range in another
in-range : (lo hi lo₂ hi₂ x : ℕ) → lo₂ ≤ lo → hi ≤ hi₂ → in_range lo hi x ≡ true → in_range lo₂ hi₂ x ≡ true
unfolding in_range
in-range lo hi lo₂ hi₂ x g i h =
    let l : lo ≤ x = leb-true lo x (and_left (leb lo x) (leb x hi) h) in
    let r : x ≤ hi = leb-true x hi (and_right (leb lo x) (leb x hi) h) in
    rw (le-leb lo₂ x (omega arith), le-leb x hi₂ (omega arith))

or-true : (A : Type 0) (a b : Bool) → (a ≡ true → A) → (b ≡ true → A) → a || b ≡ true → A
or-true A true b f g h = f refl
or-true A false b f g h = g h

-- digits are name bytes, name bytes show, and what shows is ASCII
pub digit-name : (a : ℕ) → is_digit a ≡ true → is_name a ≡ true
unfolding is_name
digit-name a h = go (is_letter a)
  where
    go : (b : Bool) → b || is_digit a ≡ true
    go true = refl
    go false = h

pub hex-name : (a : ℕ) → is_hex a ≡ true → is_name a ≡ true
unfolding is_hex is_name is_letter is_digit
hex-name a h = go (in_range 97 122 a) refl (in_range 65 90 a) refl (eqb a 95) (in_range 48 57 a) refl
  where
    go : (p : Bool) → in_range 97 122 a ≡ p → (q : Bool) → in_range 65 90 a ≡ q → (r d : Bool) → in_range 48 57 a ≡ d → (p || q || r) || d ≡ true
    go true u q v r d w = refl
    go false u true v r d w = refl
    go false u false v true d w = refl
    go false u false v false true w = refl
    go false u false v false false w =
        or-true (false ≡ true) (in_range 48 57 a || in_range 65 70 a) (in_range 97 102 a)
        (or-true (false ≡ true) (in_range 48 57 a) (in_range 65 70 a) (λ e. sym w ∙ e) (λ e. sym v ∙ in-range 65 70 65 90 a (omega arith) (omega arith) e))
        (λ e. sym u ∙ in-range 97 102 97 122 a (omega arith) (omega arith) e) h

-- `_` is a name byte, and so are digits or `_`, hex digits or `_`
low-name : is_name 95 ≡ true
unfolding is_name is_letter is_digit in_range
low-name = refl

under-name : (a : ℕ) → eqb a 95 ≡ true → is_name a ≡ true
under-name a e = subst (λ (x : ℕ). is_name x ≡ true) (sym (eqb-true a 95 e)) low-name

pub digit-or-name : (a : ℕ) → is_digit_or_underscore a ≡ true → is_name a ≡ true
unfolding is_digit_or_underscore
digit-or-name a h = or-true (is_name a ≡ true) (is_digit a) (eqb a 95) (digit-name a) (under-name a) h

pub hex-or-name : (a : ℕ) → is_hex_or_underscore a ≡ true → is_name a ≡ true
unfolding is_hex_or_underscore
hex-or-name a h = or-true (is_name a ≡ true) (is_hex a) (eqb a 95) (hex-name a) (under-name a) h

low-line : shows 95 ≡ true
unfolding shows in_range
low-line = refl

pub name-shows : (a : ℕ) → is_name a ≡ true → shows a ≡ true
unfolding is_name is_letter is_digit shows
name-shows a h =
    or-true (shows a ≡ true) (is_letter a) (in_range 48 57 a)
    (or-true (shows a ≡ true) (in_range 97 122 a || in_range 65 90 a) (eqb a 95)
    (or-true (shows a ≡ true) (in_range 97 122 a) (in_range 65 90 a) (in-range 97 122 32 126 a (omega arith) (omega arith)) (in-range 65 90 32 126 a (omega arith) (omega arith)))
    (λ e. subst (λ (x : ℕ). shows x ≡ true) (sym (eqb-true a 95 e)) low-line))
    (in-range 48 57 32 126 a (omega arith) (omega arith)) h

pub shows-ascii : (a : ℕ) → shows a ≡ true → is_ascii a ≡ true
unfolding shows in_range is_ascii
shows-ascii a h = lt-ltb a 128 (let r : a ≤ 126 = leb-true a 126 (and_right (leb 32 a) (leb a 126) h) in omega arith)
