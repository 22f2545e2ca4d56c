-- The rule of the table of classes: what an entry tells of a property is what the definition by ranges says of the byte.
use mathlib.Core.Path.{◌≡◌, refl, ap, sym, ◌∙◌}
use mathlib.Core.Bool.{Bool, true, false, ◌&&◌, not}
use mathlib.Core.List.{List, [], ◌∷◌}
use Prim.Native.Nat.{ℕ, zero, suc, ◌+◌, ◌<◌, ◌≤◌}
use borrow.Author.Tests.{leb-true, leb-false, le-ltb, lt-leb, ne_eqb, eqb-true}
use native.Mathlib.Omega.{arith}
use native.Mathlib.Nat.{add-zero, zero-add, add-suc, suc-add, le_of_suc-le-suc, not-suc-le-zero}
use lib.Dec.{eqb, leb}
use lib.ListN.{length, get_or, get_or-eq_default}
use Rattle.std.specs.Int.Bits.{bit_and}
use Rattle.classes.specs.Class.{in_range, is_name, is_digit, is_hex, is_ascii, in_line, shows, is_digit_or_underscore, is_hex_or_underscore, is_letter, is_space, begins_part, mark_or_line_feed, space_or_tab, is_none, in_class}
use Rattle.classes.specs.Table.{class_table, bit, entry_of, tells, properties, nth}
use Rattle.classes.specs.code.Search.{known}
use Rattle.classes.proofs.Bools.{and_left, and_right, and-false}

-- a test of places and entries at all of a list
abbrev every : (ℕ → ℕ → Bool) → ℕ → List ℕ → Bool
every f i [] = true
every f i (x ∷ xs) = f i x && every f (suc i) xs

every-at : (f : ℕ → ℕ → Bool) (d : ℕ) (xs : List ℕ) (i k : ℕ) → every f i xs ≡ true → k < length xs → f (i + k) (get_or xs k d) ≡ true
every-at f d [] i k t h = absurd (not-suc-le-zero h)
every-at f d (x ∷ xs) i zero t h = ap (λ (m : ℕ). f m x) (add-zero i) ∙ and_left (f i x) (every f (suc i) xs) t
every-at f d (x ∷ xs) i (suc k) t h =
    ap (λ (m : ℕ). f m (get_or xs k d)) (add-suc i k ∙ sym (suc-add i k))
    ∙ every-at f d xs (suc i) k (and_right (f i x) (every f (suc i) xs) t) (le_of_suc-le-suc h)

abbrev same : Bool → Bool → Bool
same true b = b
same false b = not b

same-is : (a b : Bool) → same a b ≡ true → a ≡ b
same-is true b h = sym h
same-is false true h = h
same-is false false h = refl

-- the class x has, of the properties of a list that are numbered from k on, those that b has
abbrev all : ℕ → ℕ → ℕ → List (ℕ → Bool) → Bool
all x b k [] = true
all x b k (f ∷ fs) = same (bit k x) (f b) && all x b (suc k) fs

all-at : (x b : ℕ) (fs : List (ℕ → Bool)) (k j : ℕ) → all x b k fs ≡ true → j < length fs → bit (k + j) x ≡ nth fs j b
all-at x b [] k j t h = absurd (not-suc-le-zero h)
all-at x b (f ∷ fs) k zero t h =
    ap (λ (m : ℕ). bit m x) (add-zero k) ∙ same-is _ _ (and_left (same (bit k x) (f b)) (all x b (suc k) fs) t)
all-at x b (f ∷ fs) k (suc j) t h =
    ap (λ (m : ℕ). bit m x) (add-suc k j ∙ sym (suc-add k j))
    ∙ all-at x b fs (suc k) j (and_right (same (bit k x) (f b)) (all x b (suc k) fs) t) (le_of_suc-le-suc h)

-- an entry x at place b tells of each property what the ranges say of b: one test, computed over all entries and properties
agrees : ℕ → ℕ → Bool
agrees b x = all x b 0 properties

all-agree : every agrees 0 class_table ≡ true
unfolding agrees class_table bit is_name is_digit is_hex is_ascii in_line shows is_digit_or_underscore is_hex_or_underscore is_letter is_space begins_part mark_or_line_feed space_or_tab is_none in_range
all-agree = refl

pub rule : (k b : ℕ) → k < 14 → b < 256 → tells k b ≡ nth properties k b
unfolding agrees class_table tells entry_of
rule k b g h =
    ap (λ (m : ℕ). bit m (get_or class_table b 16)) (sym (zero-add k))
    ∙ all-at (get_or class_table b 16) b properties 0 k
    (ap (λ (m : ℕ). agrees m (get_or class_table b 16)) (sym (zero-add b)) ∙ every-at agrees 16 class_table 0 b all-agree h) g

-- an entry has sixteen bits
all-fit : every (λ b x. eqb (bit_and x 65535) x) 0 class_table ≡ true
unfolding class_table
all-fit = refl

pub entries-fit : (b : ℕ) → b < 256 → bit_and (entry_of b) 65535 ≡ entry_of b
unfolding class_table entry_of
entries-fit b h = eqb-true _ _ (every-at (λ b x. eqb (bit_and x 65535) x) 16 class_table 0 b all-fit h)

-- numbers that are no bytes: the same of their entry
module _ (x : ℕ) (h : 256 ≤ x) where
  over : (lo hi : ℕ) → hi < 256 → in_range lo hi x ≡ false
  unfolding in_range
  over lo hi g = rw (lt-leb x hi (omega arith)) (and-false (leb lo x))

  other : (n : ℕ) → n < 256 → eqb x n ≡ false
  other n g = ne_eqb x n (λ e. absurd (omega arith))

  past : all 16 x 0 properties ≡ true
  unfolding bit is_name is_digit is_hex is_ascii in_line shows is_digit_or_underscore is_hex_or_underscore is_letter is_space begins_part mark_or_line_feed space_or_tab is_none
  past =
      rw (
        over 97 122 (omega arith),
        over 65 90 (omega arith),
        over 48 57 (omega arith),
        over 65 70 (omega arith),
        over 97 102 (omega arith),
        over 32 126 (omega arith),
        le-ltb x 128 (omega arith),
        other 95 (omega arith),
        other 10 (omega arith),
        other 32 (omega arith),
        other 9 (omega arith),
        other 47 (omega arith),
        other 13 (omega arith),
        other 42 (omega arith),
      )

  beyond : (k : ℕ) → k < 14 → tells k x ≡ nth properties k x
  unfolding tells entry_of class_table
  beyond k g =
      rw (get_or-eq_default class_table 16 h)
      (ap (λ (m : ℕ). bit m 16) (sym (zero-add k)) ∙ all-at 16 x properties 0 k past g)

pub told : (k b : ℕ) → k < 14 → tells k b ≡ nth properties k b
told k b g = go (leb 256 b) refl
  where
    go : (v : Bool) → leb 256 b ≡ v → tells k b ≡ nth properties k b
    go true e = beyond b (leb-true 256 b e) k g
    go false e = rule k b g (leb-false 256 b e)

-- the property of a class
last : (k b : ℕ) → 8 ≤ k → tells (known k) b ≡ in_class k b
unfolding known in_class
last k b h =
    rw (
      lt-leb k 7 (omega (arith, h)),
      ne_eqb k 0 (λ e. absurd (omega arith)),
      ne_eqb k 1 (λ e. absurd (omega arith)),
      ne_eqb k 2 (λ e. absurd (omega arith)),
      ne_eqb k 3 (λ e. absurd (omega arith)),
      ne_eqb k 4 (λ e. absurd (omega arith)),
      ne_eqb k 5 (λ e. absurd (omega arith)),
      ne_eqb k 6 (λ e. absurd (omega arith)),
      ne_eqb k 7 (λ e. absurd (omega arith)),
    ) (told 13 b (omega arith))

pub class-told : (k b : ℕ) → tells (known k) b ≡ in_class k b
unfolding known in_class
class-told zero b = told 0 b (omega arith)
class-told (suc zero) b = told 1 b (omega arith)
class-told (suc (suc zero)) b = told 2 b (omega arith)
class-told (suc (suc (suc zero))) b = told 3 b (omega arith)
class-told (suc (suc (suc (suc zero)))) b = told 4 b (omega arith)
class-told (suc (suc (suc (suc (suc zero))))) b = told 5 b (omega arith)
class-told (suc (suc (suc (suc (suc (suc zero)))))) b = told 6 b (omega arith)
class-told (suc (suc (suc (suc (suc (suc (suc zero))))))) b = told 7 b (omega arith)
class-told (suc (suc (suc (suc (suc (suc (suc (suc k)))))))) b = last (suc (suc (suc (suc (suc (suc (suc (suc k)))))))) b (omega arith)
