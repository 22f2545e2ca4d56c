-- Where a number is longer in edition 2, the byte behind edition 1's is `_`, `u` or the `x` of `0xu`: a letter, and no string opens there.
use mathlib.Core.Path.{◌≡◌, refl, subst}
use mathlib.Core.Bool.{Bool, true, false, cond}
use mathlib.Core.List.{List, [], ◌∷◌}
use Prim.Native.Nat.{ℕ, ◌+◌, ◌<◌, ◌≤◌}
use native.Mathlib.Omega.{arith}
use native.Mathlib.Nat.{not-suc-le-zero, add-zero}
use borrow.Author.Tests.{ne_eqb, eqb-true, eqb-false, ltb-true, ltb-false}
use lib.Dec.{eqb, ltb}
use lib.ListN.{length, get_or, take, drop}
use lib.Seq.{drop-drop, get_or-drop, get_or-take, length-take-le}
use Rattle.classes.specs.Bytes.{bytes, begins}
use Rattle.classes.specs.Class.{in_range, is_digit, is_hex, is_letter, is_name, is_digit_or_underscore, is_hex_or_underscore}
use Rattle.classes.proofs.All.{all-at}
use Rattle.classes.proofs.Bools.{false-true, and_left, and_right}
use Rattle.gap.specs.Gap.{End, clear, broken, gap}
use Rattle.gap.proofs.Gaps.{Ended, gap-ended}
use Rattle.words.specs.Search.{mark_of, front_len, suffixes1, suffixes_of, suffix_len}
use Rattle.words.proofs.Suffix.{later-kept, no-suffix}
use Rattle.tokens.specs.Token.{Front, sized, fault, typed, digits_len, more_digits, more_hex, decimal_len, decimal, hex_typed, hex_len, hex_number, number_token, opens_string, word_token, mark, find_token, tok, placed, behind_gap, scan}
use Rattle.tokens.proofs.Digits.{digits-short, digits-take, digits-first, digits-stop}
use Rattle.tokens.proofs.Editions.{length_of, is-number, digits-longer, goes_on, plain-behind, digit-too, hex-too, no-u-digit, no-u-hex, hex-length}
use Rattle.tokens.proofs.Fronts.{Takes, find-takes}

-- a letter stands at n, and no string opens there
abbrev pub Parts : List ℕ → ℕ → Type 0
Parts s n = (is_letter (get_or s n 0) ≡ true) × (opens_string (get_or s n 0) (get_or s (n + 1) 0) ≡ false)

module _ (s : List ℕ) (n : ℕ) where
  under-parts : get_or s n 0 ≡ 95 → Parts s n
  unfolding is_letter in_range opens_string
  under-parts e = rw e (refl, refl)

  u-parts : get_or s n 0 ≡ 117 → Parts s n
  unfolding is_letter in_range opens_string
  u-parts e = rw e (refl, refl)

  x-parts : get_or s n 0 ≡ 120 → is_name (get_or s (n + 1) 0) ≡ true → Parts s n
  unfolding is_letter in_range opens_string is_name is_digit
  x-parts e h = rw e (refl, ne_eqb (get_or s (n + 1) 0) 34 (λ q. false-true _ (rw q at h)))

-- in a part of the text
parts-drop : (text : List ℕ) (q n m : ℕ) → q + n ≡ m → Parts (drop q text) n → Parts text m
parts-drop text q n m e h =
    let d : m + 1 ≡ q + (n + 1) = omega arith in
    rw (d, ← e, ← get_or-drop q text n 0, ← get_or-drop q text (n + 1) 0) h

-- digits with a type behind them; h has the bytes of g and `_`
module _ (f g h : ℕ → Bool) (more : (x : ℕ) → g x ≡ true → h x ≡ true) (no-u : h 117 ≡ false) (added : (x : ℕ) → g x ≡ false → h x ≡ true → x ≡ 95) where
  some-digits : (s : List ℕ) → 0 < digits_len f h s → 0 < digits_len f g s
  unfolding digits_len
  some-digits [] l = l
  some-digits (a ∷ s) l = digits-take f g a s (digits-first f h (a ∷ s) l)

  module _ (s : List ℕ) where
    abbrev n₁ : ℕ
    n₁ = digits_len f g s

    abbrev n₂ : ℕ
    n₂ = digits_len f h s

    longer-digits : n₁ < n₂ → Parts s (n₁ + suffix_len 1 (drop n₁ s))
    longer-digits l =
        let z : suffix_len 1 (drop n₁ s) ≡ 0 = plain-behind f g h more no-u s l in
        let stop = digits-stop f g s (some-digits s (omega arith)) (omega (arith, digits-short f h s)) in
        rw (z, add-zero n₁) (under-parts s n₁ (added (get_or s n₁ 0) stop (goes_on f g h more s l)))

    added-suffix : (b : Bool) → eqb (get_or s n₁ 0) 117 ≡ b → suffix_len 1 (drop n₁ s) ≡ 0 → 0 < suffix_len 2 (drop n₁ s) → Parts s (n₁ + suffix_len 1 (drop n₁ s))
    added-suffix true q z l = rw (z, add-zero n₁) (u-parts s n₁ (eqb-true (get_or s n₁ 0) 117 q))
    added-suffix false q z l = absurd (omega (arith, no-suffix s n₁ 2 (get_or s n₁ 0) refl (eqb-false (get_or s n₁ 0) 117 q)))

    longer-suffix : (b : Bool) → eqb (suffix_len 1 (drop n₁ s)) 0 ≡ b → suffix_len 1 (drop n₁ s) < suffix_len 2 (drop n₁ s) → Parts s (n₁ + suffix_len 1 (drop n₁ s))
    unfolding suffix_len suffixes_of
    longer-suffix true q l = added-suffix (eqb (get_or s n₁ 0) 117) refl (eqb-true (suffix_len 1 (drop n₁ s)) 0 q) (omega arith)
    longer-suffix false q l =
        absurd (omega (arith, later-kept (drop n₁ s) (front_len suffixes1 (drop n₁ s)) refl (eqb-false (front_len suffixes1 (drop n₁ s)) 0 q)))

    typed-parts : n₁ + suffix_len 1 (drop n₁ s) < n₂ + suffix_len 2 (drop n₂ s) → Parts s (n₁ + suffix_len 1 (drop n₁ s))
    typed-parts l = go (ltb n₁ n₂) refl
      where
        go : (b : Bool) → ltb n₁ n₂ ≡ b → Parts s (n₁ + suffix_len 1 (drop n₁ s))
        go true q = longer-digits (ltb-true n₁ n₂ q)
        go false q =
            let d : n₂ ≡ n₁ = omega (arith, ltb-false n₁ n₂ q, digits-longer f g h more s) in
            longer-suffix (eqb (suffix_len 1 (drop n₁ s)) 0) refl (let k = rw d at l in omega arith)

-- what edition 2 adds to digits
digit-added : (x : ℕ) → more_digits 1 x ≡ false → more_digits 2 x ≡ true → x ≡ 95
unfolding more_digits is_digit_or_underscore
digit-added x h g = eqb-true x 95 (rw h at g)

hex-added : (x : ℕ) → more_hex 1 x ≡ false → more_hex 2 x ≡ true → x ≡ 95
unfolding more_hex is_hex_or_underscore
hex-added x h g = eqb-true x 95 (rw h at g)

-- a number that is longer in edition 2
module _ (s : List ℕ) where
  decimal-parts : length_of (decimal 1 s) < length_of (decimal 2 s) → Parts s (length_of (decimal 1 s))
  unfolding decimal decimal_len typed
  decimal-parts l = typed-parts is_digit (more_digits 1) (more_digits 2) digit-too no-u-digit digit-added s l

  -- the number 0, and behind it `x` with a byte of a name
  zero-parts : begins (bytes "0x") s ≡ true → 2 < length_of (number_token 2 s) → length_of (number_token 2 s) ≤ length s → Parts s 1
  unfolding begins
  zero-parts h l i = by s h (all-at is_name (take n s) 2 (is-number 2 s).named (rw (length-take-le n s i) l))
    where
      n : ℕ
      n = length_of (number_token 2 s)

      by : (w : List ℕ) → begins (bytes "0x") w ≡ true → is_name (get_or (take n w) 2 0) ≡ true → Parts w 1
      by [] q k = false-true _ q
      by (a ∷ []) q k = false-true _ (and_right (eqb a 48) false q)
      by (a ∷ b ∷ w) q k =
          x-parts (a ∷ b ∷ w) 1 (eqb-true b 120 (and_left (eqb b 120) true (and_right (eqb a 48) _ q))) (rw (get_or-take n (a ∷ b ∷ w) 2 0 l) at k)

  hex-by : (x y : ℕ) → 2 ≤ x → cond (eqb x 2) 1 x < cond (eqb y 2) 1 y → (2 < cond (eqb y 2) 1 y → Parts s 1) → (x < y → Parts s x) → Parts s (cond (eqb x 2) 1 x)
  hex-by x y h l f g = go (eqb x 2) (eqb y 2) refl refl l f
    where
      go : (u v : Bool) → eqb x 2 ≡ u → eqb y 2 ≡ v → cond u 1 x < cond v 1 y → (2 < cond v 1 y → Parts s 1) → Parts s (cond u 1 x)
      go true true d e k i = absurd (omega arith)
      go true false d e k i = i (omega (arith, eqb-false y 2 e))
      go false true d e k i = absurd (omega arith)
      go false false d e k i = g k

  hex-parts : begins (bytes "0x") s ≡ true → length_of (hex_number 1 s) < length_of (hex_number 2 s) → (2 < length_of (hex_number 2 s) → Parts s 1) → Parts s (length_of (hex_number 1 s))
  unfolding hex_number hex_len
  hex-parts h l f =
      let d : (ed : ℕ) → drop (digits_len is_hex (more_hex ed) (drop 2 s)) (drop 2 s) ≡ drop (2 + digits_len is_hex (more_hex ed) (drop 2 s)) s = λ ed. drop-drop (digits_len is_hex (more_hex ed) (drop 2 s)) 2 s in
      let e : (ed : ℕ) → length_of (hex_typed (hex_len ed s) (suffix_len ed (drop (hex_len ed s) s))) ≡ cond (eqb (hex_len ed s + suffix_len ed (drop (hex_len ed s) s)) 2) 1 (hex_len ed s + suffix_len ed (drop (hex_len ed s) s)) = λ ed. hex-length (hex_len ed s) (suffix_len ed (drop (hex_len ed s) s)) in
      let t = rw (d 1, d 2) at (typed-parts is_hex (more_hex 1) (more_hex 2) hex-too no-u-hex hex-added (drop 2 s)) in
      rw (e 1)
      (hex-by (hex_len 1 s + suffix_len 1 (drop (hex_len 1 s) s)) (hex_len 2 s + suffix_len 2 (drop (hex_len 2 s) s)) (omega arith) (rw (e 1, e 2) at l) (rw (e 2) at f)
      (λ k. parts-drop s 2 (digits_len is_hex (more_hex 1) (drop 2 s) + suffix_len 1 (drop (hex_len 1 s) s)) (hex_len 1 s + suffix_len 1 (drop (hex_len 1 s) s)) (omega arith) (t (omega arith))))

  number-parts : length_of (number_token 2 s) ≤ length s → length_of (number_token 1 s) < length_of (number_token 2 s) → Parts s (length_of (number_token 1 s))
  unfolding number_token
  number-parts i l = go (begins (bytes "0x") s) refl l (λ h k. zero-parts h k i)
    where
      go : (b : Bool) → begins (bytes "0x") s ≡ b → length_of (cond b (hex_number 1 s) (decimal 1 s)) < length_of (cond b (hex_number 2 s) (decimal 2 s))
          → (begins (bytes "0x") s ≡ true → 2 < length_of (cond (begins (bytes "0x") s) (hex_number 2 s) (decimal 2 s)) → Parts s 1) → Parts s (length_of (cond b (hex_number 1 s) (decimal 1 s)))
      go true q k z = hex-parts q k (rw q at (z q))
      go false q k z = decimal-parts k

inside : (n : ℕ) (x : Front) → Takes n x → length_of x ≤ n
inside n (sized k m) t = t.2
inside n (fault m i j) t = omega arith

-- a token that is longer in edition 2
find-parts : (s : List ℕ) → length_of (find_token 1 s) < length_of (find_token 2 s) → Parts s (length_of (find_token 1 s))
unfolding find_token
find-parts [] l = absurd (not-suc-le-zero l)
find-parts (a ∷ s) l = go (is_digit a) refl l (inside (length (a ∷ s)) (find_token 2 (a ∷ s)) (find-takes 2 a s))
  where
    word : Front
    word = cond (is_letter a) (word_token (a ∷ s)) (mark (mark_of (a ∷ s)))

    go : (b : Bool) → is_digit a ≡ b → length_of (cond b (number_token 1 (a ∷ s)) word) < length_of (cond b (number_token 2 (a ∷ s)) word)
        → length_of (cond (is_digit a) (number_token 2 (a ∷ s)) word) ≤ length (a ∷ s) → Parts (a ∷ s) (length_of (cond b (number_token 1 (a ∷ s)) word))
    go true q k i = number-parts (a ∷ s) (rw q at i) k
    go false q k i = absurd (omega arith)

placed_end : (p : ℕ) (s : List ℕ) (x : Front) (k a b : ℕ) (w r : List ℕ) → placed p s x ≡ tok k a b w r → p + length_of x ≡ b
unfolding placed
placed_end p s (sized c n) k a b w r e = cc
placed_end p s (fault m i j) k a b w r e = let z : ◌≡◌ {A = ℕ} 0 1 = cc in absurd (omega arith)

module _ (text : List ℕ) (at : ℕ) (k₁ a₁ b₁ : ℕ) (w₁ r₁ : List ℕ) (k₂ a₂ b₂ : ℕ) (w₂ r₂ : List ℕ) where
  behind-parts : (e : End) → Ended text at e → behind_gap 1 e ≡ tok k₁ a₁ b₁ w₁ r₁ → behind_gap 2 e ≡ tok k₂ a₂ b₂ w₂ r₂ → b₁ < b₂ → Parts text b₁
  unfolding behind_gap
  behind-parts (clear q s) h e g l =
      let x = placed_end q s (find_token 1 s) k₁ a₁ b₁ w₁ r₁ e in
      let y = placed_end q s (find_token 2 s) k₂ a₂ b₂ w₂ r₂ g in
      let p : Parts s (length_of (find_token 1 s)) = find-parts s (omega arith) in
      parts-drop text q (length_of (find_token 1 s)) b₁ x (subst (λ (u : List ℕ). Parts u (length_of (find_token 1 s))) h.2 p)
  behind-parts (broken o q) h e g l = let z : ◌≡◌ {A = ℕ} 0 1 = cc in absurd (omega arith)

  pub scan-parts : scan 1 at (drop at text) ≡ tok k₁ a₁ b₁ w₁ r₁ → scan 2 at (drop at text) ≡ tok k₂ a₂ b₂ w₂ r₂ → b₁ < b₂ → Parts text b₁
  unfolding scan
  scan-parts = behind-parts (gap 0 at (drop at text)).last (gap-ended text (drop at text) 0 at refl)
