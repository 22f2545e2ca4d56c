-- The bytes of a token alone are that token again.
use Rattle.std.specs.Prelude.{Ok, None}
use mathlib.Core.Path.{◌≡◌, refl, ap, sym, ◌∙◌, subst}
use mathlib.Core.Bool.{Bool, true, false, cond, ◌||◌}
use mathlib.Core.List.{List, [], ◌∷◌, append-nil}
use Prim.Native.Nat.{ℕ, zero, suc, ◌+◌, ◌-◌, ◌<◌, ◌≤◌, min}
use native.Mathlib.Omega.{arith}
use native.Mathlib.Nat.{not-suc-le-zero}
use borrow.Author.Tests.{eqb-true, ltb-false, le-ltb}
use lib.Dec.{eqb, ltb}
use lib.ListN.{length, get_or, take, drop, drop_of_length-le}
use lib.Seq.{take-take, length-take-le}
use Rattle.gap.specs.Comments.{part_at}
use Rattle.gap.specs.Gap.{End, clear, broken, gap}
use Rattle.gap.proofs.Stops.{gap-stops, gap-none}
use Rattle.classes.specs.Bytes.{bytes, begins}
use Rattle.classes.specs.Class.{in_range, is_digit, is_hex, is_letter, is_name, is_ascii}
use Rattle.classes.specs.Run.{run_len}
use Rattle.classes.proofs.Bools.{false-true, and_left, and_right, and-false}
use Rattle.classes.proofs.Cut.{begins-cut, begins-uncut, run-cut, drop-cut}
use Rattle.words.specs.Search.{mark_of, suffix_len}
use Rattle.words.specs.Quote.{Quote, quote_from}
use Rattle.std.proofs.Common.{Ok as Found, Err as Missing}
use Rattle.words.proofs.Suffix.{suffix-short, suffix-alone}
use Rattle.words.proofs.Quotes.{Within, within, quote-local}
use Rattle.words.proofs.Marks.{mark-alone}
use Rattle.tokens.specs.Token.{Front, sized, fault, typed, digits_len, more_digits, more_hex, decimal_len, decimal, hex_typed, hex_len, hex_number, number_token, string_by, string, opens_string, string_refusal, name, word_token, mark, find_token, Scanned, tok, bad, placed, behind_gap, scan}
use Rattle.tokens.proofs.Fronts.{Takes, run-takes, letter-in-name, find-takes}
use Rattle.tokens.proofs.Digits.{digits-typed}

-- the front of the bytes s, cut to its length, is the same; f is what it is computed by
abbrev pub Alone : (List ℕ → Front) → List ℕ → Front → Type 0
Alone f s (sized k n) = f (take n s) ≡ sized k n
Alone f s (fault m i j) = Unit {0}

alone-cond : (f : List ℕ → Front) (s : List ℕ) (b : Bool) (x y : Front) → (b ≡ true → Alone f s x) → (b ≡ false → Alone f s y) → Alone f s (cond b x y)
alone-cond f s true x y g h = g refl
alone-cond f s false x y g h = h refl

-- digits, and a type of v bytes behind them
module _ (ed : ℕ) where
  suffix-typed : (n : ℕ) (s : List ℕ) → suffix_len ed (drop n (take (n + suffix_len ed (drop n s)) s)) ≡ suffix_len ed (drop n s)
  suffix-typed n s = rw (drop-cut n (suffix_len ed (drop n s)) s) (suffix-alone ed (drop n s))

  decimal-alone : (s : List ℕ) → decimal ed (take (decimal_len ed s + suffix_len ed (drop (decimal_len ed s) s)) s) ≡ decimal ed s
  unfolding decimal decimal_len
  decimal-alone s =
      rw (digits-typed is_digit (more_digits ed) s (suffix_len ed (drop (decimal_len ed s) s)), suffix-typed (decimal_len ed s) s)

  hex_len-alone : (s : List ℕ) (v : ℕ) → hex_len ed (take (hex_len ed s + v) s) ≡ hex_len ed s
  unfolding hex_len
  hex_len-alone s v =
      let e : 2 + digits_len is_hex (more_hex ed) (drop 2 s) + v ≡ 2 + (digits_len is_hex (more_hex ed) (drop 2 s) + v) = omega arith in
      rw (e, drop-cut 2 (digits_len is_hex (more_hex ed) (drop 2 s) + v) s, digits-typed is_hex (more_hex ed) (drop 2 s) v)

  hex-two : (s : List ℕ) → 2 ≤ hex_len ed s
  unfolding hex_len
  hex-two s = omega arith

  hex-alone : (s : List ℕ) → hex_number ed (take (hex_len ed s + suffix_len ed (drop (hex_len ed s) s)) s) ≡ hex_number ed s
  unfolding hex_number
  hex-alone s = rw (hex_len-alone s (suffix_len ed (drop (hex_len ed s) s)), suffix-typed (hex_len ed s) s)

  -- `0` of `0x` with nothing behind it
  zero_number : number_token ed (48 ∷ []) ≡ sized 1 1
  unfolding number_token begins decimal decimal_len digits_len run_len is_digit in_range typed
  zero_number = let n : suffix_len ed [] ≡ 0 = omega (arith, suffix-short ed []) in rw n

  zero-alone : (s : List ℕ) → begins (bytes "0x") s ≡ true → number_token ed (take 1 s) ≡ sized 1 1
  unfolding begins
  zero-alone [] h = false-true _ h
  zero-alone (a ∷ s) h = let e : a ≡ 48 = eqb-true a 48 (and_left (eqb a 48) (begins (bytes "x") s) h) in rw e zero_number

  typed-alone : (s : List ℕ) (n v : ℕ) → number_token ed (take (n + v) s) ≡ typed n v → Alone (number_token ed) s (typed n v)
  unfolding typed
  typed-alone s n v h = h

  number-hex : (s : List ℕ) (n : ℕ) → 2 ≤ n → begins (bytes "0x") s ≡ true → number_token ed (take n s) ≡ hex_number ed (take n s)
  unfolding number_token
  number-hex s n g h = rw (begins-cut (bytes "0x") s n g h)

  number-decimal : (s : List ℕ) (n : ℕ) → begins (bytes "0x") s ≡ false → number_token ed (take n s) ≡ decimal ed (take n s)
  unfolding number_token
  number-decimal s n h = go (begins (bytes "0x") (take n s)) refl
    where
      go : (b : Bool) → begins (bytes "0x") (take n s) ≡ b → cond (begins (bytes "0x") (take n s)) (hex_number ed (take n s)) (decimal ed (take n s)) ≡ decimal ed (take n s)
      go true e = false-true _ (sym h ∙ begins-uncut (bytes "0x") s n e)
      go false e = rw e

  hex-typed : (n v : ℕ) → eqb (n + v) 2 ≡ false → hex_typed n v ≡ typed n v
  unfolding hex_typed
  hex-typed n v e = rw e

  by-hex : (s : List ℕ) → begins (bytes "0x") s ≡ true → Alone (number_token ed) s (hex_number ed s) → Alone (number_token ed) s (number_token ed s)
  unfolding number_token
  by-hex s h x = rw h x

  by-decimal : (s : List ℕ) → begins (bytes "0x") s ≡ false → Alone (number_token ed) s (decimal ed s) → Alone (number_token ed) s (number_token ed s)
  unfolding number_token
  by-decimal s h x = rw h x

  hex-case : (s : List ℕ) → begins (bytes "0x") s ≡ true → Alone (number_token ed) s (hex_number ed s)
  unfolding hex_number hex_typed
  hex-case s h =
      alone-cond (number_token ed) s (eqb (hex_len ed s + suffix_len ed (drop (hex_len ed s) s)) 2) (sized 1 1) (typed (hex_len ed s) (suffix_len ed (drop (hex_len ed s) s)))
      (λ _. zero-alone s h)
      (λ e. typed-alone s (hex_len ed s) (suffix_len ed (drop (hex_len ed s) s))
      (number-hex s (hex_len ed s + suffix_len ed (drop (hex_len ed s) s)) (omega (arith, hex-two s)) h ∙ hex-alone s ∙ hex-typed (hex_len ed s) (suffix_len ed (drop (hex_len ed s) s)) e))

  decimal-case : (s : List ℕ) → begins (bytes "0x") s ≡ false → Alone (number_token ed) s (decimal ed s)
  unfolding decimal
  decimal-case s h =
      typed-alone s (decimal_len ed s) (suffix_len ed (drop (decimal_len ed s) s))
      (number-decimal s (decimal_len ed s + suffix_len ed (drop (decimal_len ed s) s)) h ∙ decimal-alone s)

  number-alone : (s : List ℕ) → Alone (number_token ed) s (number_token ed s)
  number-alone s = go (begins (bytes "0x") s) refl
    where
      go : (b : Bool) → begins (bytes "0x") s ≡ b → Alone (number_token ed) s (number_token ed s)
      go true h = by-hex s h (hex-case s h)
      go false h = by-decimal s h (decimal-case s h)

-- names
opens-cut : (a b : ℕ) (s : List ℕ) (n : ℕ) → opens_string a (get_or s 0 0) ≡ false → opens_string a (get_or (take n s) 0 0) ≡ false
unfolding opens_string
opens-cut a b s zero h = and-false (eqb a 120 || eqb a 98)
opens-cut a b [] (suc n) h = h
opens-cut a b (c ∷ s) (suc n) h = h

name-word : (a : ℕ) (s : List ℕ) (n : ℕ) → opens_string a (get_or s 0 0) ≡ false → word_token (take (suc n) (a ∷ s)) ≡ name (take (suc n) (a ∷ s))
unfolding word_token
name-word a s n h = rw (opens-cut a 0 s n h)

name-cut : (s : List ℕ) → name (take (run_len is_name s) s) ≡ name s
unfolding name
name-cut s =
    let e : run_len is_name (take (run_len is_name s) s) ≡ run_len is_name s = run-cut is_name s (run_len is_name s) ∙ omega arith in
    rw (e, take-take (run_len is_name s) (run_len is_name s) s (omega arith))

name-alone : (a : ℕ) (s : List ℕ) → 0 < run_len is_name (a ∷ s) → opens_string a (get_or s 0 0) ≡ false → Alone word_token (a ∷ s) (name (a ∷ s))
unfolding name
name-alone a s g h = some (run_len is_name (a ∷ s)) g ∙ name-cut (a ∷ s)
  where
    some : (n : ℕ) → 0 < n → word_token (take n (a ∷ s)) ≡ name (take n (a ∷ s))
    some zero k = absurd (not-suc-le-zero k)
    some (suc n) k = name-word a s n h

-- strings
string-cut : (m a b : ℕ) (s : List ℕ) (q : ℕ) → 2 ≤ q → quote_from false 2 s ≡ Found q → ltb (2 + run_len is_ascii s) q ≡ false
    → string m (take (q + 1) (a ∷ b ∷ s)) ≡ sized 3 (q + 1)
unfolding string string_by
string-cut m a b s q g h l =
    let n : q + 1 ≡ suc (suc (suc (q - 2))) = omega arith in
    let d : quote_from false 2 (take (suc (q - 2)) s) ≡ Found q = rw append-nil at (quote-local s false 2 q h []) in
    let r : run_len is_ascii (take (suc (q - 2)) s) ≡ min (suc (q - 2)) (run_len is_ascii s) = run-cut is_ascii s (suc (q - 2)) in
    rw (n, d, le-ltb (2 + run_len is_ascii (take (suc (q - 2)) s)) q (omega (arith, ltb-false (2 + run_len is_ascii s) q l))) (ap (sized 3) n)

word-string : (a b : ℕ) (s : List ℕ) (n : ℕ) → 2 ≤ n → opens_string a b ≡ true → word_token (take n (a ∷ b ∷ s)) ≡ string (string_refusal a) (take n (a ∷ b ∷ s))
unfolding word_token
word-string a b s zero g h = absurd (not-suc-le-zero g)
word-string a b s (suc zero) g h = absurd (omega arith)
word-string a b s (suc (suc n)) g h = rw h

by-alone : (a b : ℕ) (s : List ℕ) (m : ℕ) (x : Quote) → opens_string a b ≡ true → m ≡ string_refusal a → quote_from false 2 s ≡ x
    → Alone word_token (a ∷ b ∷ s) (string_by m (2 + run_len is_ascii s) x)
unfolding string_by
by-alone a b s m (Missing e) h em q = tt
by-alone a b s m (Found e) h em q =
    let r = subst (Within 2 (length s)) q (within s false 2) in
    alone-cond word_token (a ∷ b ∷ s) (ltb (2 + run_len is_ascii s) e) (fault 9 (2 + run_len is_ascii s) (2 + run_len is_ascii s + 1)) (sized 3 (e + 1)) (λ _. tt)
    (λ l. word-string a b s (e + 1) (omega arith) h ∙ string-cut (string_refusal a) a b s e r.0 q l)

string-alone : (a : ℕ) (s : List ℕ) → opens_string a (get_or s 0 0) ≡ true → Alone word_token (a ∷ s) (string (string_refusal a) (a ∷ s))
unfolding opens_string string
string-alone a [] h = false-true _ (and_right (eqb a 120 || eqb a 98) false h)
string-alone a (b ∷ s) h = by-alone a b s (string_refusal a) (quote_from false 2 s) h refl refl

word-alone : (a : ℕ) (s : List ℕ) → is_letter a ≡ true → Alone word_token (a ∷ s) (word_token (a ∷ s))
unfolding word_token
word-alone a s e =
    alone-cond word_token (a ∷ s) (opens_string a (get_or s 0 0)) (string (string_refusal a) (a ∷ s)) (name (a ∷ s)) (string-alone a s)
    (λ h. name-alone a s (run-takes is_name a s (letter-in-name a e)) h)

marks-alone : (s : List ℕ) → Alone (λ s. mark (mark_of s)) s (mark (mark_of s))
unfolding mark
marks-alone s =
    alone-cond (λ s. mark (mark_of s)) s (eqb (mark_of s).len 0) (fault 5 0 0) (sized (mark_of s).kind (mark_of s).len) (λ _. tt)
    (λ e. rw (mark-alone s, e))

-- the token at the front, by its first byte
module _ (ed : ℕ) where
  as-found : (f : List ℕ → Front) (a : ℕ) (s : List ℕ) (m : ℕ) (x : Front) → ((n : ℕ) → find_token ed (take (suc n) (a ∷ s)) ≡ f (take (suc n) (a ∷ s)))
      → Takes m x → Alone f (a ∷ s) x → Alone (find_token ed) (a ∷ s) x
  as-found f a s m (fault k i j) g t h = tt
  as-found f a s m (sized k zero) g t h = absurd (not-suc-le-zero t.1)
  as-found f a s m (sized k (suc n)) g t h = g n ∙ h

  by_first : (a : ℕ) (s : List ℕ) (b c : Bool) → is_digit a ≡ b → is_letter a ≡ c → Takes (length (a ∷ s)) (find_token ed (a ∷ s)) → Alone (find_token ed) (a ∷ s) (find_token ed (a ∷ s))
  unfolding find_token
  by_first a s true c e f t =
      rw e (as-found (number_token ed) a s (length (a ∷ s)) (number_token ed (a ∷ s)) (λ n. rw e) (rw e at t) (number-alone ed (a ∷ s)))
  by_first a s false true e f t =
      rw (e, f) (as-found word_token a s (length (a ∷ s)) (word_token (a ∷ s)) (λ n. rw (e, f)) (rw (e, f) at t) (word-alone a s f))
  by_first a s false false e f t =
      rw (e, f) (as-found (λ s. mark (mark_of s)) a s (length (a ∷ s)) (mark (mark_of (a ∷ s))) (λ n. rw (e, f)) (rw (e, f) at t) (marks-alone (a ∷ s)))

  pub find-alone : (a : ℕ) (s : List ℕ) → Alone (find_token ed) (a ∷ s) (find_token ed (a ∷ s))
  find-alone a s = by_first a s (is_digit a) (is_letter a) refl refl (find-takes ed a s)

  -- the same of the next token of any bytes
  abbrev pub AloneAgain : Scanned → Type 0
  AloneAgain (tok k s e w r) = (k ≡ 0 → ⊥) → scan ed 0 w ≡ tok k 0 (length w) w []
  AloneAgain (bad r) = Unit {0}

  again : (q : ℕ) (a : ℕ) (s : List ℕ) (x : Front) → part_at q (a ∷ s) ≡ Ok None → Takes (length (a ∷ s)) x → Alone (find_token ed) (a ∷ s) x → AloneAgain (placed q (a ∷ s) x)
  unfolding placed scan behind_gap
  again q a s (fault m i j) g t h = tt
  again q a s (sized k zero) g t h = absurd (not-suc-le-zero t.1)
  again q a s (sized k (suc n)) g t h = λ _.
      let l : length (take (suc n) (a ∷ s)) ≡ suc n = length-take-le (suc n) (a ∷ s) t.2 in
      let z : 0 + suc n ≡ suc n = omega arith in
      rw (gap-none 0 q a s n g, h, z, take-take (suc n) (suc n) (a ∷ s) (omega arith), l)
      (ap (tok k 0 (suc n) (take (suc n) (a ∷ s))) (drop_of_length-le (take (suc n) (a ∷ s)) {i = suc n} (omega arith)))

  none-again : (q : ℕ) → AloneAgain (placed q [] (find_token ed []))
  unfolding placed find_token
  none-again q h = absurd (h refl)

  behind-again : (e : End) → ((q a : ℕ) (s : List ℕ) → e ≡ clear q (a ∷ s) → part_at q (a ∷ s) ≡ Ok None) → AloneAgain (behind_gap ed e)
  unfolding behind_gap
  behind-again (clear q []) h = none-again q
  behind-again (clear q (a ∷ s)) h = again q a s (find_token ed (a ∷ s)) (h q a s refl) (find-takes ed a s) (find-alone a s)
  behind-again (broken o q) h = tt

  pub lex-alone : (p : ℕ) (s : List ℕ) → AloneAgain (scan ed p s)
  unfolding scan
  lex-alone p s = behind-again (gap 0 p s).last (λ q a u. gap-stops q a u s 0 p)
