-- The two editions: what is no number is the same token in both, and what is refused is refused in both; a number of edition 1 is a
-- number in edition 2, from the same byte on and no shorter, and all its bytes are bytes of names.
use mathlib.Core.Path.{◌≡◌, refl, ap, sym, ◌∙◌, subst}
use mathlib.Core.Bool.{Bool, true, false, cond, ◌&&◌, ◌||◌}
use mathlib.Core.List.{List, [], ◌∷◌}
use Prim.Native.Nat.{ℕ, suc, ◌+◌, ◌<◌, ◌≤◌}
use native.Mathlib.Omega.{arith}
use native.Mathlib.Nat.{not-suc-le-zero}
use borrow.Author.Tests.{ne_eqb, eqb-true, eqb-false, ltb-true, ltb-false}
use lib.Dec.{eqb, ltb}
use lib.ListN.{length, get_or, take, drop}
use lib.Seq.{drop-drop, take-add, take-take}
use Rattle.gap.specs.Gap.{End, clear, broken, gap}
use Rattle.classes.specs.Bytes.{bytes, begins}
use Rattle.classes.specs.Class.{in_range, is_digit, is_hex, is_letter, is_name, is_ascii, is_digit_or_underscore, is_hex_or_underscore}
use Rattle.classes.specs.Run.{run_len, all_of}
use Rattle.classes.proofs.All.{all_join, all_take, all-run, all_more, digit-name, hex-name, digit-or-name, hex-or-name}
use Rattle.classes.proofs.Bools.{false-true, and_left, and_right}
use Rattle.classes.proofs.Cut.{begins-short}
use Rattle.classes.proofs.Runs.{run_inside}
use Rattle.words.specs.Kinds.{NumValue, NumTypedValue}
use Rattle.words.specs.Search.{kind_of, mark_of, front_len, is_edition2, suffixes1, suffixes2, suffixes_of, suffix_len}
use Rattle.words.specs.Quote.{Quote, quote_from}
use Rattle.std.proofs.Common.{Ok as Closing, Err as Missing}
use Rattle.words.proofs.Above.{name-above, mark-above}
use Rattle.words.proofs.Suffix.{both-lists, later-kept, no-suffix}
use Rattle.tokens.specs.Token.{Front, sized, fault, typed, digits_len, more_digits, more_hex, decimal_len, decimal, hex_typed, hex_len, hex_number, number_token, string_by, string, opens_string, string_refusal, name, word_token, mark, find_token, Scanned, tok, bad, placed, behind_gap, scan}
use Rattle.tokens.specs.declared.Refusal.{Refusal}
use Rattle.tokens.proofs.Digits.{digits_same}
use Rattle.tokens.proofs.Fronts.{Takes, find-takes}
use Rattle.tokens.proofs.Spelled.{begins-is}

-- the first n bytes are bytes of names
abbrev pub Named : List ℕ → ℕ → Type 0
Named s n = all_of is_name (take n s) ≡ true

named-joined : (s : List ℕ) (n m : ℕ) → Named s n → Named (drop n s) m → Named s (n + m)
named-joined s n m h g = subst (λ (w : List ℕ). all_of is_name w ≡ true) (sym (take-add n m s)) (all_join is_name (take n s) (take m (drop n s)) h g)

-- types behind numbers
abbrev words_named : List (List ℕ) → Bool
words_named [] = true
words_named (w ∷ ws) = all_of is_name w && words_named ws

begins-named : (w s : List ℕ) → all_of is_name w ≡ true → begins w s ≡ true → Named s (length w)
begins-named w s t h = subst (λ (v : List ℕ). all_of is_name v ≡ true) (sym (begins-is w s h)) t

front-named : (ws : List (List ℕ)) (s : List ℕ) → words_named ws ≡ true → Named s (front_len ws s)
unfolding front_len all_of
front-named [] s t = refl
front-named (w ∷ ws) s t = go (begins w s) refl (front-named ws s (and_right (all_of is_name w) (words_named ws) t))
  where
    go : (v : Bool) → begins w s ≡ v → Named s (front_len ws s) → Named s (cond v (length w) (front_len ws s))
    go true e ih = begins-named w s (and_left (all_of is_name w) (words_named ws) t) e
    go false e ih = ih

suffix-named : (ed : ℕ) (s : List ℕ) → Named s (suffix_len ed s)
unfolding suffix_len suffixes1 suffixes2 all_of is_name is_letter is_digit in_range
suffix-named ed s = front-named (suffixes_of ed) s (both-lists (λ ws. words_named ws ≡ true) refl refl ed)

-- digits
pub more-digits-named : (x ed : ℕ) → more_digits ed x ≡ true → is_name x ≡ true
unfolding more_digits
more-digits-named x ed h = go (is_edition2 ed) h
  where
    go : (v : Bool) → cond v (is_digit_or_underscore x) (is_digit x) ≡ true → is_name x ≡ true
    go true g = digit-or-name x g
    go false g = digit-name x g

pub more-hex-named : (x ed : ℕ) → more_hex ed x ≡ true → is_name x ≡ true
unfolding more_hex
more-hex-named x ed h = go (is_edition2 ed) h
  where
    go : (v : Bool) → cond v (is_hex_or_underscore x) (is_hex x) ≡ true → is_name x ≡ true
    go true g = hex-or-name x g
    go false g = hex-name x g

digits-named : (f g : ℕ → Bool) → ((x : ℕ) → f x ≡ true → is_name x ≡ true) → ((x : ℕ) → g x ≡ true → is_name x ≡ true) → (s : List ℕ) → Named s (digits_len f g s)
unfolding digits_len all_of
digits-named f g h k [] = refl
digits-named f g h k (a ∷ s) = go (f a) refl
  where
    go : (v : Bool) → f a ≡ v → Named (a ∷ s) (cond v (suc (run_len g s)) 0)
    go true e = rw (h a e) (all_more g is_name k (take (run_len g s) s) (all-run g s))
    go false e = refl

-- a number in an edition: its kind, and that its bytes are bytes of names
abbrev pub is_number : ℕ → Bool
is_number k = eqb k NumValue || eqb k NumTypedValue

abbrev pub length_of : Front → ℕ
length_of (sized k n) = n
length_of (fault m i j) = 0

pub record Number (s : List ℕ) (x : Front) : Type 0 where
  pub kind : ℕ
  pub is : x ≡ sized kind (length_of x)
  pub numeral : is_number kind ≡ true
  pub named : Named s (length_of x)

number-kind : (b : Bool) → is_number (cond b 1 2) ≡ true
number-kind true = refl
number-kind false = refl

typed-number : (s : List ℕ) (n v : ℕ) → Named s (n + v) → Number s (typed n v)
unfolding typed
typed-number s n v h = record { kind = cond (eqb v 0) 1 2; is = refl; numeral = number-kind (eqb v 0); named = h }

number-cond : (s : List ℕ) (b : Bool) (x y : Front) → (b ≡ true → Number s x) → (b ≡ false → Number s y) → Number s (cond b x y)
number-cond s true x y f g = f refl
number-cond s false x y f g = g refl

module _ (ed : ℕ) (s : List ℕ) where
  decimal-number : Number s (decimal ed s)
  unfolding decimal decimal_len
  decimal-number =
      typed-number s (decimal_len ed s) (suffix_len ed (drop (decimal_len ed s) s))
      (named-joined s (decimal_len ed s) (suffix_len ed (drop (decimal_len ed s) s)) (digits-named is_digit (more_digits ed) digit-name (λ x. more-digits-named x ed) s) (suffix-named ed (drop (decimal_len ed s) s)))

  prefix-named : begins (bytes "0x") s ≡ true → Named s 2
  unfolding all_of is_name is_letter is_digit in_range
  prefix-named h = begins-named (bytes "0x") s refl h

  hex-number : begins (bytes "0x") s ≡ true → Number s (hex_number ed s)
  unfolding hex_number hex_typed hex_len
  hex-number h =
      number-cond s (eqb (hex_len ed s + suffix_len ed (drop (hex_len ed s) s)) 2) (sized 1 1) (typed (hex_len ed s) (suffix_len ed (drop (hex_len ed s) s)))
      (λ _. record { kind = 1; is = refl; numeral = refl; named = subst (λ (w : List ℕ). all_of is_name w ≡ true) (take-take 1 2 s (omega arith)) (all_take is_name 1 (take 2 s) (prefix-named h)) })
      (λ _. typed-number s (hex_len ed s) (suffix_len ed (drop (hex_len ed s) s))
      (named-joined s (hex_len ed s) (suffix_len ed (drop (hex_len ed s) s))
      (named-joined s 2 (digits_len is_hex (more_hex ed) (drop 2 s)) (prefix-named h) (digits-named is_hex (more_hex ed) hex-name (λ x. more-hex-named x ed) (drop 2 s))) (suffix-named ed (drop (hex_len ed s) s))))

  pub is-number : Number s (number_token ed s)
  unfolding number_token
  is-number = number-cond s (begins (bytes "0x") s) (hex_number ed s) (decimal ed s) hex-number (λ _. decimal-number)

-- a type of edition 1 is one of edition 2
suffix-longer : (s : List ℕ) → suffix_len 1 s ≤ suffix_len 2 s
unfolding suffix_len suffixes_of
suffix-longer s = go (eqb (front_len suffixes1 s) 0) refl
  where
    go : (v : Bool) → eqb (front_len suffixes1 s) 0 ≡ v → front_len suffixes1 s ≤ front_len suffixes2 s
    go true e = omega (arith, eqb-true (front_len suffixes1 s) 0 e)
    go false e = omega (arith, later-kept s (front_len suffixes1 s) refl (eqb-false (front_len suffixes1 s) 0 e))

-- digits that may go on with more bytes are no fewer; where they are more, no type stands behind the fewer
module _ (f g h : ℕ → Bool) (more : (x : ℕ) → g x ≡ true → h x ≡ true) where
  run-longer : (s : List ℕ) → run_len g s ≤ run_len h s
  unfolding run_len
  run-longer [] = omega arith
  run-longer (a ∷ s) = go (g a) refl (run-longer s)
    where
      go : (v : Bool) → g a ≡ v → run_len g s ≤ run_len h s → cond v (suc (run_len g s)) 0 ≤ cond (h a) (suc (run_len h s)) 0
      go true e ih = rw (more a e) (omega arith)
      go false e ih = omega arith

  pub digits-longer : (s : List ℕ) → digits_len f g s ≤ digits_len f h s
  unfolding digits_len
  digits-longer [] = omega arith
  digits-longer (a ∷ s) = go (f a)
    where
      go : (v : Bool) → cond v (suc (run_len g s)) 0 ≤ cond v (suc (run_len h s)) 0
      go true = omega (arith, run-longer s)
      go false = omega arith

  pub goes_on : (s : List ℕ) → digits_len f g s < digits_len f h s → h (get_or s (digits_len f g s) 0) ≡ true
  unfolding digits_len
  goes_on [] l = absurd (not-suc-le-zero l)
  goes_on (a ∷ s) l = go (f a) l
    where
      go : (v : Bool) → cond v (suc (run_len g s)) 0 < cond v (suc (run_len h s)) 0 → h (get_or (a ∷ s) (cond v (suc (run_len g s)) 0) 0) ≡ true
      go true k = run_inside h s (run_len g s) (omega arith)
      go false k = absurd (not-suc-le-zero k)

  module _ (no-u : h 117 ≡ false) (s : List ℕ) where
    pub plain-behind : digits_len f g s < digits_len f h s → suffix_len 1 (drop (digits_len f g s) s) ≡ 0
    plain-behind l = no-suffix s (digits_len f g s) 1 (get_or s (digits_len f g s) 0) refl (λ e. false-true _ (sym no-u ∙ ap h (sym e) ∙ goes_on s l))

    typed-longer : digits_len f g s + suffix_len 1 (drop (digits_len f g s) s) ≤ digits_len f h s + suffix_len 2 (drop (digits_len f h s) s)
    typed-longer = go (ltb (digits_len f g s) (digits_len f h s)) refl
      where
        go : (v : Bool) → ltb (digits_len f g s) (digits_len f h s) ≡ v → digits_len f g s + suffix_len 1 (drop (digits_len f g s) s) ≤ digits_len f h s + suffix_len 2 (drop (digits_len f h s) s)
        go true e = omega (arith, plain-behind (ltb-true (digits_len f g s) (digits_len f h s) e), digits-longer s)
        go false e =
            let d : digits_len f h s ≡ digits_len f g s = omega (arith, ltb-false (digits_len f g s) (digits_len f h s) e, digits-longer s) in
            rw d (omega (arith, suffix-longer (drop (digits_len f g s) s)))

    -- where both are as long, they have the same digits and the same type
    typed-same : digits_len f g s + suffix_len 1 (drop (digits_len f g s) s) ≡ digits_len f h s + suffix_len 2 (drop (digits_len f h s) s)
        → (digits_len f g s ≡ digits_len f h s) × (suffix_len 1 (drop (digits_len f g s) s) ≡ suffix_len 2 (drop (digits_len f h s) s))
    typed-same e = go (ltb (digits_len f g s) (digits_len f h s)) refl
      where
        go : (v : Bool) → ltb (digits_len f g s) (digits_len f h s) ≡ v → (digits_len f g s ≡ digits_len f h s) × (suffix_len 1 (drop (digits_len f g s) s) ≡ suffix_len 2 (drop (digits_len f h s) s))
        go true q = let l = ltb-true (digits_len f g s) (digits_len f h s) q in absurd (omega (arith, plain-behind l))
        go false q =
            let d : digits_len f g s ≡ digits_len f h s = omega (arith, ltb-false (digits_len f g s) (digits_len f h s) q, digits-longer s) in
            (d, omega arith)

-- so a number of edition 1 is no longer than edition 2's
pub digit-too : (x : ℕ) → more_digits 1 x ≡ true → more_digits 2 x ≡ true
unfolding more_digits is_digit_or_underscore
digit-too x h = rw h

pub hex-too : (x : ℕ) → more_hex 1 x ≡ true → more_hex 2 x ≡ true
unfolding more_hex is_hex_or_underscore
hex-too x h = rw h

pub no-u-digit : more_digits 2 117 ≡ false
unfolding more_digits is_digit_or_underscore is_digit in_range
no-u-digit = refl

pub no-u-hex : more_hex 2 117 ≡ false
unfolding more_hex is_hex_or_underscore is_hex in_range
no-u-hex = refl

pub hex-length : (n v : ℕ) → length_of (hex_typed n v) ≡ cond (eqb (n + v) 2) 1 (n + v)
unfolding hex_typed typed
hex-length n v = go (eqb (n + v) 2)
  where
    go : (b : Bool) → length_of (cond b (sized 1 1) (sized (cond (eqb v 0) 1 2) (n + v))) ≡ cond b 1 (n + v)
    go true = refl
    go false = refl

longer-by : (x y : ℕ) → 2 ≤ x → x ≤ y → cond (eqb x 2) 1 x ≤ cond (eqb y 2) 1 y
longer-by x y h g = go (eqb x 2) (eqb y 2) refl refl
  where
    go : (u v : Bool) → eqb x 2 ≡ u → eqb y 2 ≡ v → cond u 1 x ≤ cond v 1 y
    go true true d e = omega arith
    go true false d e = omega arith
    go false true d e = absurd (omega (arith, eqb-false x 2 d, eqb-true y 2 e))
    go false false d e = g

module _ (s : List ℕ) where
  decimal-longer : length_of (decimal 1 s) ≤ length_of (decimal 2 s)
  unfolding decimal decimal_len typed
  decimal-longer = typed-longer is_digit (more_digits 1) (more_digits 2) digit-too no-u-digit s

  hex-longer : length_of (hex_number 1 s) ≤ length_of (hex_number 2 s)
  unfolding hex_number hex_len
  hex-longer =
      let t = typed-longer is_hex (more_hex 1) (more_hex 2) hex-too no-u-hex (drop 2 s) in
      rw (hex-length (2 + digits_len is_hex (more_hex 1) (drop 2 s)) (suffix_len 1 (drop (2 + digits_len is_hex (more_hex 1) (drop 2 s)) s)), hex-length (2 + digits_len is_hex (more_hex 2) (drop 2 s)) (suffix_len 2 (drop (2 + digits_len is_hex (more_hex 2) (drop 2 s)) s)), ← drop-drop (digits_len is_hex (more_hex 1) (drop 2 s)) 2 s, ← drop-drop (digits_len is_hex (more_hex 2) (drop 2 s)) 2 s)
      (longer-by (2 + digits_len is_hex (more_hex 1) (drop 2 s) + suffix_len 1 (drop (digits_len is_hex (more_hex 1) (drop 2 s)) (drop 2 s))) (2 + digits_len is_hex (more_hex 2) (drop 2 s) + suffix_len 2 (drop (digits_len is_hex (more_hex 2) (drop 2 s)) (drop 2 s))) (omega arith) (omega arith))

  number-longer : length_of (number_token 1 s) ≤ length_of (number_token 2 s)
  unfolding number_token
  number-longer = go (begins (bytes "0x") s)
    where
      go : (v : Bool) → length_of (cond v (hex_number 1 s) (decimal 1 s)) ≤ length_of (cond v (hex_number 2 s) (decimal 2 s))
      go true = hex-longer
      go false = decimal-longer

-- a number that is all of the bytes is the same number
whole_typed : (n v m u k l : ℕ) → typed n v ≡ sized k l → m + u ≤ l → n + v ≤ m + u → (n + v ≡ m + u → (n ≡ m) × (v ≡ u)) → typed m u ≡ sized k l
unfolding typed
whole_typed n v m u k l e h g f =
    let z : n + v ≡ l = ap length_of e in
    let q = f (omega arith) in
    ap (λ (i : ℕ). sized (cond (eqb i 0) 1 2) (m + u)) (sym q.1) ∙ ap (sized (cond (eqb v 0) 1 2)) (omega arith) ∙ e

module _ (s : List ℕ) (k : ℕ) where
  decimal-whole : decimal 1 s ≡ sized k (length s) → length_of (decimal 2 s) ≤ length s → decimal 2 s ≡ sized k (length s)
  unfolding decimal decimal_len typed
  decimal-whole e h =
      whole_typed (decimal_len 1 s) (suffix_len 1 (drop (decimal_len 1 s) s)) (decimal_len 2 s) (suffix_len 2 (drop (decimal_len 2 s) s)) k (length s) e h
      (typed-longer is_digit (more_digits 1) (more_digits 2) digit-too no-u-digit s) (typed-same is_digit (more_digits 1) (more_digits 2) digit-too no-u-digit s)

  hex-by : (n v m u : ℕ) → 2 ≤ length s → 2 ≤ m → hex_typed n v ≡ sized k (length s) → length_of (hex_typed m u) ≤ length s → n + v ≤ m + u → (n + v ≡ m + u → (n ≡ m) × (v ≡ u)) → hex_typed m u ≡ sized k (length s)
  unfolding hex_typed typed
  hex-by n v m u t w e h g f = first (eqb (n + v) 2) refl e
    where
      second : (b : Bool) → eqb (m + u) 2 ≡ b → (n + v ≡ 2 → ⊥) → n + v ≡ length s → typed n v ≡ sized k (length s) → cond b (sized 1 1) (typed m u) ≡ sized k (length s)
      second true q x z y = absurd (omega (arith, eqb-true (m + u) 2 q, x))
      second false q x z y = whole_typed n v m u k (length s) y (rw q at h) g f

      first : (b : Bool) → eqb (n + v) 2 ≡ b → cond b (sized 1 1) (typed n v) ≡ sized k (length s) → cond (eqb (m + u) 2) (sized 1 1) (typed m u) ≡ sized k (length s)
      first true q y = let z : 1 ≡ length s = ap length_of y in absurd (omega arith)
      first false q y = second (eqb (m + u) 2) refl (eqb-false (n + v) 2 q) (ap length_of y) y

  hex-whole : 2 ≤ length s → hex_number 1 s ≡ sized k (length s) → length_of (hex_number 2 s) ≤ length s → hex_number 2 s ≡ sized k (length s)
  unfolding hex_number hex_len
  hex-whole t e h =
      let d : (ed : ℕ) → drop (digits_len is_hex (more_hex ed) (drop 2 s)) (drop 2 s) ≡ drop (2 + digits_len is_hex (more_hex ed) (drop 2 s)) s = λ ed. drop-drop (digits_len is_hex (more_hex ed) (drop 2 s)) 2 s in
      let l = rw (d 1, d 2) at (typed-longer is_hex (more_hex 1) (more_hex 2) hex-too no-u-hex (drop 2 s)) in
      let m = rw (d 1, d 2) at (typed-same is_hex (more_hex 1) (more_hex 2) hex-too no-u-hex (drop 2 s)) in
      hex-by (hex_len 1 s) (suffix_len 1 (drop (hex_len 1 s) s)) (hex_len 2 s) (suffix_len 2 (drop (hex_len 2 s) s)) t (omega arith) e h (omega (arith, l))
      (λ q. let r = m (omega arith) in (omega (arith, r.0), r.1))

  number-whole : number_token 1 s ≡ sized k (length s) → length_of (number_token 2 s) ≤ length s → number_token 2 s ≡ sized k (length s)
  unfolding number_token
  number-whole e h = go (begins (bytes "0x") s) refl e h
    where
      go : (b : Bool) → begins (bytes "0x") s ≡ b → cond b (hex_number 1 s) (decimal 1 s) ≡ sized k (length s) → length_of (cond b (hex_number 2 s) (decimal 2 s)) ≤ length s → cond b (hex_number 2 s) (decimal 2 s) ≡ sized k (length s)
      go true q f g = hex-whole (begins-short (bytes "0x") s q) f g
      go false q f g = decimal-whole f g

-- bytes that are one token in edition 1 are that token in edition 2
inside : (n : ℕ) (x : Front) → Takes n x → length_of x ≤ n
inside n (sized k m) t = t.2
inside n (fault m i j) t = omega arith

pub whole_same : (a : ℕ) (s : List ℕ) (k : ℕ) → find_token 1 (a ∷ s) ≡ sized k (length (a ∷ s)) → find_token 2 (a ∷ s) ≡ sized k (length (a ∷ s))
unfolding find_token
whole_same a s k e = go (is_digit a) refl e (inside (length (a ∷ s)) (find_token 2 (a ∷ s)) (find-takes 2 a s))
  where
    go : (b : Bool) → is_digit a ≡ b → cond b (number_token 1 (a ∷ s)) (cond (is_letter a) (word_token (a ∷ s)) (mark (mark_of (a ∷ s)))) ≡ sized k (length (a ∷ s))
        → length_of (cond (is_digit a) (number_token 2 (a ∷ s)) (cond (is_letter a) (word_token (a ∷ s)) (mark (mark_of (a ∷ s))))) ≤ length (a ∷ s)
        → cond b (number_token 2 (a ∷ s)) (cond (is_letter a) (word_token (a ∷ s)) (mark (mark_of (a ∷ s)))) ≡ sized k (length (a ∷ s))
    go true q f h = number-whole (a ∷ s) k f (rw q at h)
    go false q f h = f

-- what stands at the front in the two editions: the same, and no number; or two numbers, the second no shorter
abbrev NoNumber : Front → Type 0
NoNumber (sized k n) = is_number k ≡ false
NoNumber (fault m i j) = Unit {0}

data Editions (s : List ℕ) (x y : Front) : Type 0 where
  kept : x ≡ y → NoNumber x → Editions s x y
  numbers : Number s x → Number s y → length_of x ≤ length_of y → Editions s x y

above-number : (k : ℕ) → 2 < k → is_number k ≡ false
above-number k h = rw (ne_eqb k 1 (λ e. absurd (omega arith)), ne_eqb k 2 (λ e. absurd (omega arith)))

none-cond : (b : Bool) (x y : Front) → (b ≡ true → NoNumber x) → (b ≡ false → NoNumber y) → NoNumber (cond b x y)
none-cond true x y f g = f refl
none-cond false x y f g = g refl

string-none : (m h : ℕ) (q : Quote) → NoNumber (string_by m h q)
unfolding string_by
string-none m h (Missing e) = tt
string-none m h (Closing q) = none-cond (ltb h q) (fault 9 h (h + 1)) (sized 3 (q + 1)) (λ _. tt) (λ _. refl)

word_none : (s : List ℕ) → NoNumber (word_token s)
unfolding word_token string name
word_none s =
    none-cond (opens_string (get_or s 0 0) (get_or s 1 0)) _ _
    (λ _. string-none (string_refusal (get_or s 0 0)) (2 + run_len is_ascii (drop 2 s)) (quote_from false 2 (drop 2 s)))
    (λ _. above-number (kind_of (take (run_len is_name s) s)) (name-above (take (run_len is_name s) s)))

mark-none : (s : List ℕ) → NoNumber (mark (mark_of s))
unfolding mark
mark-none s =
    none-cond (eqb (mark_of s).len 0) (fault 5 0 0) (sized (mark_of s).kind (mark_of s).len) (λ _. tt)
    (λ e. above-number (mark_of s).kind (mark-above s (omega (arith, eqb-false (mark_of s).len 0 e))))

find-editions : (s : List ℕ) → Editions s (find_token 1 s) (find_token 2 s)
unfolding find_token
find-editions [] = kept refl refl
find-editions (a ∷ s) = go (is_digit a)
  where
    go : (v : Bool) → Editions (a ∷ s) (cond v (number_token 1 (a ∷ s)) (cond (is_letter a) (word_token (a ∷ s)) (mark (mark_of (a ∷ s))))) (cond v (number_token 2 (a ∷ s)) (cond (is_letter a) (word_token (a ∷ s)) (mark (mark_of (a ∷ s)))))
    go true = numbers (is-number 1 (a ∷ s)) (is-number 2 (a ∷ s)) (number-longer (a ∷ s))
    go false = kept refl (none-cond (is_letter a) (word_token (a ∷ s)) (mark (mark_of (a ∷ s))) (λ _. word_none (a ∷ s)) (λ _. mark-none (a ∷ s)))

-- the same of the next token
pub record Longer (a b : ℕ) (l : Scanned) : Type 0 where
  pub kind : ℕ
  pub end : ℕ
  pub word : List ℕ
  pub rest : List ℕ
  pub is : l ≡ tok kind a end word rest
  pub numeral : is_number kind ≡ true
  pub long : b ≤ end
  pub named : all_of is_name word ≡ true

module _ (p : ℕ) (s : List ℕ) (k a b : ℕ) (w r : List ℕ) where
  same_by : (x y : Front) → Editions s x y → placed p s x ≡ tok k a b w r → is_number k ≡ false → placed p s y ≡ tok k a b w r
  unfolding placed
  same_by x y (kept e h) q n = ap (placed p s) (sym e) ∙ q
  same_by x y (numbers g h l) q n =
      let z : tok g.kind p (p + length_of x) (take (length_of x) s) (drop (length_of x) s) ≡ tok k a b w r = ap (placed p s) (sym g.is) ∙ q in
      let j : g.kind ≡ k = cc in
      false-true _ (sym n ∙ ap is_number (sym j) ∙ g.numeral)

  none-by : (x : Front) → NoNumber x → placed p s x ≡ tok k a b w r → is_number k ≡ false
  unfolding placed
  none-by (sized c n) h q = let j : c ≡ k = cc in ap is_number (sym j) ∙ h
  none-by (fault m i j) h q = let z : ◌≡◌ {A = ℕ} 0 1 = cc in absurd (omega arith)

  longer-from : (x y : Front) → Editions s x y → placed p s x ≡ tok k a b w r → is_number k ≡ true → Longer a b (placed p s y)
  unfolding placed
  longer-from x y (kept e h) q n = false-true _ (sym (none-by x h q) ∙ n)
  longer-from x y (numbers g h l) q n =
      let z : tok g.kind p (p + length_of x) (take (length_of x) s) (drop (length_of x) s) ≡ tok k a b w r = ap (placed p s) (sym g.is) ∙ q in
      let i : p ≡ a = cc in
      let j : p + length_of x ≡ b = cc in
      record {
        kind = h.kind;
        end = p + length_of y;
        word = take (length_of y) s;
        rest = drop (length_of y) s;
        is = ap (placed p s) h.is ∙ ap (λ (m : ℕ). tok h.kind m (p + length_of y) (take (length_of y) s) (drop (length_of y) s)) i;
        numeral = h.numeral;
        long = omega arith;
        named = h.named;
      }

refused-by : (p : ℕ) (s : List ℕ) (r : Refusal) (x y : Front) → Editions s x y → placed p s x ≡ bad r → placed p s y ≡ bad r
unfolding placed
refused-by p s r x y (kept e h) q = ap (placed p s) (sym e) ∙ q
refused-by p s r x y (numbers g h l) q =
    let z : tok g.kind p (p + length_of x) (take (length_of x) s) (drop (length_of x) s) ≡ bad r = ap (placed p s) (sym g.is) ∙ q in
    let y : ◌≡◌ {A = ℕ} 0 1 = cc in absurd (omega arith)

module _ (k a b : ℕ) (w r : List ℕ) where
  behind-same : (e : End) → behind_gap 1 e ≡ tok k a b w r → is_number k ≡ false → behind_gap 2 e ≡ tok k a b w r
  unfolding behind_gap
  behind-same (clear p s) q n = same_by p s k a b w r (find_token 1 s) (find_token 2 s) (find-editions s) q n
  behind-same (broken o e) q n = q

  behind-longer : (e : End) → behind_gap 1 e ≡ tok k a b w r → is_number k ≡ true → Longer a b (behind_gap 2 e)
  unfolding behind_gap
  behind-longer (clear p s) q n = longer-from p s k a b w r (find_token 1 s) (find_token 2 s) (find-editions s) q n
  behind-longer (broken o e) q n = let z : ◌≡◌ {A = ℕ} 0 1 = cc in absurd (omega arith)

behind-refused : (r : Refusal) (e : End) → behind_gap 1 e ≡ bad r → behind_gap 2 e ≡ bad r
unfolding behind_gap
behind-refused r (clear p s) q = refused-by p s r (find_token 1 s) (find_token 2 s) (find-editions s) q
behind-refused r (broken o e) q = q

-- a token that is no number is the same in edition 2
pub editions-same : (p : ℕ) (s : List ℕ) (k a b : ℕ) (w r : List ℕ) → scan 1 p s ≡ tok k a b w r → is_number k ≡ false → scan 2 p s ≡ tok k a b w r
unfolding scan
editions-same p s k a b w r = behind-same k a b w r (gap 0 p s).last

-- a number is a number from the same byte on, and no shorter; all its bytes are bytes of names
pub editions-number : (p : ℕ) (s : List ℕ) (k a b : ℕ) (w r : List ℕ) → scan 1 p s ≡ tok k a b w r → is_number k ≡ true → Longer a b (scan 2 p s)
unfolding scan
editions-number p s k a b w r = behind-longer k a b w r (gap 0 p s).last

-- what edition 1 refuses is refused alike
pub editions-refused : (p : ℕ) (s : List ℕ) (r : Refusal) → scan 1 p s ≡ bad r → scan 2 p s ≡ bad r
unfolding scan
editions-refused p s r = behind-refused r (gap 0 p s).last

-- every number but 2 is read as edition 1
module _ (ed : ℕ) (h : is_edition2 ed ≡ false) where
  suffix-first : (s : List ℕ) → suffix_len ed s ≡ suffix_len 1 s
  unfolding suffix_len suffixes_of
  suffix-first s = rw h

  decimal-first : (s : List ℕ) → decimal_len ed s ≡ decimal_len 1 s
  unfolding decimal_len more_digits
  decimal-first s = digits_same is_digit is_digit (more_digits ed) (more_digits 1) (λ b. refl) (λ b. rw h) s

  hex-first : (s : List ℕ) → hex_len ed s ≡ hex_len 1 s
  unfolding hex_len more_hex
  hex-first s = ap (λ (n : ℕ). 2 + n) (digits_same is_hex is_hex (more_hex ed) (more_hex 1) (λ b. refl) (λ b. rw h) (drop 2 s))

  number-first : (s : List ℕ) → number_token ed s ≡ number_token 1 s
  unfolding number_token hex_number decimal
  number-first s = rw (hex-first s, decimal-first s, suffix-first (drop (hex_len 1 s) s), suffix-first (drop (decimal_len 1 s) s)) refl

  find_first : (s : List ℕ) → find_token ed s ≡ find_token 1 s
  unfolding find_token
  find_first [] = refl
  find_first (a ∷ s) = rw (number-first (a ∷ s)) refl

  behind-first : (e : End) → behind_gap ed e ≡ behind_gap 1 e
  unfolding behind_gap
  behind-first (clear p s) = ap (placed p s) (find_first s)
  behind-first (broken o q) = refl

  pub others-first : (p : ℕ) (s : List ℕ) → scan ed p s ≡ scan 1 p s
  unfolding scan
  others-first p s = behind-first (gap 0 p s).last
