-- Words in front of other bytes: a name, a keyword, a number or a string is the same token wherever what follows cannot go on with it.
use mathlib.Core.Path.{◌≡◌, refl, ap, sym, ◌∙◌, subst}
use mathlib.Core.Bool.{Bool, true, false, not, cond, ◌&&◌, ◌||◌}
use mathlib.Core.List.{List, [], ◌∷◌, ◌++◌}
use Prim.Native.Nat.{ℕ, zero, suc, ◌+◌, ◌-◌, ◌<◌, ◌≤◌}
use native.Mathlib.Omega.{arith}
use native.Mathlib.Nat.{not-suc-le-zero}
use borrow.Author.Tests.{eqb-true, not-true, ltb-false, le-ltb}
use lib.Dec.{eqb, ltb}
use lib.ListN.{length, get_or, take, drop, length-drop}
use lib.Seq.{take-length, take-append-le, drop-append-le, take-append_seam, drop-append_seam, length-take-le}
use Rattle.classes.specs.Bytes.{bytes, begins}
use Rattle.classes.specs.Class.{in_range, is_digit, is_hex, is_letter, is_name, is_ascii}
use Rattle.classes.specs.Run.{run_len}
use Rattle.classes.proofs.All.{digit-name, hex-name}
use Rattle.classes.proofs.Bools.{false-true, and_left, and_right, and-false, or_left, or_right}
use Rattle.classes.proofs.Cut.{begins-short}
use Rattle.classes.proofs.Runs.{run_short}
use Rattle.gap.specs.Marks.{is_space, is_blank, slashes, opens}
use Rattle.gap.specs.Comments.{part_at}
use Rattle.gap.specs.Gap.{End, clear, broken, gap}
use Rattle.words.specs.Tables.{Entry, marks, long_marks, double_marks, single_marks}
use Rattle.words.specs.Search.{mark_of, first_fit, front_len, suffixes1, suffixes2, suffixes_of, suffix_len}
use Rattle.words.specs.Quote.{Quote, quote_from}
use Rattle.std.proofs.Common.{Ok as Found, Err as Missing}
use Rattle.words.proofs.Quotes.{Within, within, quote-local}
use Rattle.words.proofs.Marks.{mark-first}
use Rattle.words.proofs.Suffix.{both-lists}
use Rattle.tokens.specs.Token.{Front, sized, fault, digits_len, more_digits, more_hex, decimal_len, decimal, hex_len, hex_number, number_token, string_by, string, opens_string, string_refusal, name, word_token, mark, find_token, Scanned, tok, bad, placed, behind_gap, scan}
use Rattle.tokens.proofs.Digits.{digits-short}
use Rattle.tokens.proofs.Editions.{more-digits-named, more-hex-named, whole_same}
use Rattle.tokens.proofs.Fronts.{Takes, find-takes}
use Rattle.tokens.proofs.Alone.{Alone, find-alone}

-- the first byte, where there is one, is outside a class
abbrev pub Stops : (ℕ → Bool) → List ℕ → Type 0
Stops f [] = Unit {0}
Stops f (a ∷ z) = f a ≡ false

-- what would go on with a word: a byte of a name, or the quote that makes a string of `x` or `b`
abbrev pub extends : ℕ → Bool
extends a = is_name a || eqb a 34

pub stops-less : (f g : ℕ → Bool) → ((a : ℕ) → g a ≡ false → f a ≡ false) → (z : List ℕ) → Stops g z → Stops f z
stops-less f g h [] s = tt
stops-less f g h (a ∷ z) s = h a s

-- a byte of a class is not one outside it
pub differs : (f : ℕ → Bool) (n a : ℕ) → f n ≡ false → f a ≡ true → eqb a n ≡ false
differs f n a h t = go (eqb a n) refl
  where
    go : (b : Bool) → eqb a n ≡ b → eqb a n ≡ false
    go false e = e
    go true e = false-true _ (sym h ∙ ap f (sym (eqb-true a n e)) ∙ t)

-- what is no byte of a name is of no class of such bytes
outside : (f : ℕ → Bool) → ((x : ℕ) → f x ≡ true → is_name x ≡ true) → (a : ℕ) → is_name a ≡ false → f a ≡ false
outside f h a n = go (f a) refl
  where
    go : (b : Bool) → f a ≡ b → f a ≡ false
    go false e = e
    go true e = false-true _ (sym n ∙ h a e)

-- a run, and a beginning, is the same with such bytes behind
run-front : (f : ℕ → Bool) (w z : List ℕ) → Stops f z → run_len f (w ++ z) ≡ run_len f w
unfolding run_len
run-front f [] [] s = refl
run-front f [] (a ∷ z) s = rw s
run-front f (a ∷ w) z s = rw (run-front f w z s)

run-grows : (f : ℕ → Bool) (w z : List ℕ) → run_len f w ≤ run_len f (w ++ z)
unfolding run_len
run-grows f [] z = omega arith
run-grows f (a ∷ w) z = go (f a) (run-grows f w z)
  where
    go : (b : Bool) → run_len f w ≤ run_len f (w ++ z) → cond b (suc (run_len f w)) 0 ≤ cond b (suc (run_len f (w ++ z))) 0
    go true h = omega arith
    go false h = omega arith

abbrev every : (ℕ → Bool) → List ℕ → Bool
every f [] = true
every f (a ∷ w) = f a && every f w

begins-front : (v w z : List ℕ) → every is_name v ≡ true → Stops is_name z → begins v (w ++ z) ≡ begins v w
unfolding begins
begins-front [] w z e s = refl
begins-front (a ∷ v) [] [] e s = refl
begins-front (a ∷ v) [] (b ∷ z) e s = rw (differs (λ (n : ℕ). not (is_name n)) a b (rw (and_left (is_name a) (every is_name v) e)) (rw s))
begins-front (a ∷ v) (b ∷ w) z e s = rw (begins-front v w z (and_right (is_name a) (every is_name v) e) s)

-- the first of some words that are made of bytes of names
abbrev all_names : List (List ℕ) → Bool
all_names [] = true
all_names (v ∷ vs) = every is_name v && all_names vs

front-front : (vs : List (List ℕ)) (w z : List ℕ) → all_names vs ≡ true → Stops is_name z → front_len vs (w ++ z) ≡ front_len vs w
unfolding front_len
front-front [] w z h s = refl
front-front (v ∷ vs) w z h s = rw (begins-front v w z (and_left (every is_name v) (all_names vs) h) s, front-front vs w z (and_right (every is_name v) (all_names vs) h) s)

suffix-front : (ed : ℕ) (w z : List ℕ) → Stops is_name z → suffix_len ed (w ++ z) ≡ suffix_len ed w
unfolding suffix_len suffixes1 suffixes2 is_name is_letter is_digit in_range
suffix-front ed w z s = front-front (suffixes_of ed) w z (both-lists (λ vs. all_names vs ≡ true) refl refl ed) s

digits-front : (f g : ℕ → Bool) (w z : List ℕ) → Stops f z → Stops g z → digits_len f g (w ++ z) ≡ digits_len f g w
unfolding digits_len
digits-front f g [] [] s t = refl
digits-front f g [] (a ∷ z) s t = rw s
digits-front f g (a ∷ w) z s t = rw (run-front g w z t)

-- numbers
module _ (ed : ℕ) where
  decimal-short : (w : List ℕ) → decimal_len ed w ≤ length w
  unfolding decimal_len
  decimal-short w = digits-short is_digit (more_digits ed) w

  decimal-len : (w z : List ℕ) → Stops is_name z → decimal_len ed (w ++ z) ≡ decimal_len ed w
  unfolding decimal_len
  decimal-len w z s =
      digits-front is_digit (more_digits ed) w z (stops-less is_digit is_name (outside is_digit digit-name) z s) (stops-less (more_digits ed) is_name (outside (more_digits ed) (λ x. more-digits-named x ed)) z s)

  decimal-front : (w z : List ℕ) → Stops is_name z → decimal ed (w ++ z) ≡ decimal ed w
  unfolding decimal
  decimal-front w z s = rw (decimal-len w z s, drop-append-le (decimal_len ed w) w z (decimal-short w), suffix-front ed (drop (decimal_len ed w) w) z s)

  hex-len : (w z : List ℕ) → 2 ≤ length w → Stops is_name z → hex_len ed (w ++ z) ≡ hex_len ed w
  unfolding hex_len
  hex-len w z g s =
      rw (drop-append-le 2 w z g, digits-front is_hex (more_hex ed) (drop 2 w) z (stops-less is_hex is_name (outside is_hex hex-name) z s) (stops-less (more_hex ed) is_name (outside (more_hex ed) (λ x. more-hex-named x ed)) z s))

  hex-short : (w : List ℕ) → 2 ≤ length w → hex_len ed w ≤ length w
  unfolding hex_len
  hex-short w g = omega (arith, digits-short is_hex (more_hex ed) (drop 2 w), length-drop 2 w)

  hex-front : (w z : List ℕ) → 2 ≤ length w → Stops is_name z → hex_number ed (w ++ z) ≡ hex_number ed w
  unfolding hex_number
  hex-front w z g s = rw (hex-len w z g s, drop-append-le (hex_len ed w) w z (hex-short w g), suffix-front ed (drop (hex_len ed w) w) z s)

  pub number-front : (w z : List ℕ) → Stops is_name z → number_token ed (w ++ z) ≡ number_token ed w
  unfolding number_token is_name is_letter is_digit in_range
  number-front w z s = rw (begins-front (bytes "0x") w z refl s) (go (begins (bytes "0x") w) refl)
    where
      go : (b : Bool) → begins (bytes "0x") w ≡ b → cond b (hex_number ed (w ++ z)) (decimal ed (w ++ z)) ≡ cond b (hex_number ed w) (decimal ed w)
      go true e = hex-front w z (begins-short (bytes "0x") w e) s
      go false e = decimal-front w z s

-- names
opens-front : (a : ℕ) (w z : List ℕ) → Stops extends z → opens_string a (get_or w 0 0) ≡ false → opens_string a (get_or (w ++ z) 0 0) ≡ false
unfolding opens_string
opens-front a [] [] s h = h
opens-front a [] (b ∷ z) s h = rw (or_right (is_name b) (eqb b 34) s) (and-false (eqb a 120 || eqb a 98))
opens-front a (b ∷ w) z s h = h

name-front : (w z : List ℕ) → Stops is_name z → name (w ++ z) ≡ name w
unfolding name
name-front w z s = rw (run-front is_name w z s, take-append-le (run_len is_name w) w z (run_short is_name w))

by_name : (a : ℕ) (s : List ℕ) → opens_string a (get_or s 0 0) ≡ false → word_token (a ∷ s) ≡ name (a ∷ s)
unfolding word_token
by_name a s h = rw h

-- strings: all of them, whatever follows
string-ends : (m a b : ℕ) (u z : List ℕ) (q : ℕ) → quote_from false 2 (u ++ z) ≡ Found q → ltb (2 + run_len is_ascii (u ++ z)) q ≡ false → string m (a ∷ b ∷ (u ++ z)) ≡ sized 3 (q + 1)
unfolding string string_by
string-ends m a b u z q h l = rw (h, l)

string-front : (m a b : ℕ) (u z : List ℕ) (k : ℕ) (x : Quote) → quote_from false 2 u ≡ x → string_by m (2 + run_len is_ascii u) x ≡ sized k (length (a ∷ b ∷ u)) → string m (a ∷ b ∷ (u ++ z)) ≡ sized k (length (a ∷ b ∷ u))
unfolding string_by
string-front m a b u z k (Missing e) h g = let y : ◌≡◌ {A = ℕ} 0 1 = cc in absurd (omega arith)
string-front m a b u z k (Found q) h g = go (ltb (2 + run_len is_ascii u) q) refl g
  where
    go : (c : Bool) → ltb (2 + run_len is_ascii u) q ≡ c → cond c (fault 9 (2 + run_len is_ascii u) (2 + run_len is_ascii u + 1)) (sized 3 (q + 1)) ≡ sized k (length (a ∷ b ∷ u))
        → string m (a ∷ b ∷ (u ++ z)) ≡ sized k (length (a ∷ b ∷ u))
    go true e f = let y : ◌≡◌ {A = ℕ} 0 1 = cc in absurd (omega arith)
    go false e f =
        let n : q + 1 ≡ length (a ∷ b ∷ u) = cc in
        let r : (2 ≤ q) × (q < 2 + length u) = subst (Within 2 (length u)) h (within u false 2) in
        let i : suc (q - 2) ≡ length u = omega arith in
        let t : take (suc (q - 2)) u ≡ u = rw i (take-length u) in
        let d : quote_from false 2 (u ++ z) ≡ Found q = rw t at (quote-local u false 2 q h z) in
        string-ends m a b u z q d (le-ltb (2 + run_len is_ascii (u ++ z)) q (omega (arith, ltb-false (2 + run_len is_ascii u) q e, run-grows is_ascii u z))) ∙ f

by-string : (a b : ℕ) (s : List ℕ) → opens_string a b ≡ true → word_token (a ∷ b ∷ s) ≡ string (string_refusal a) (a ∷ b ∷ s)
unfolding word_token
by-string a b s h = rw h

string-by : (m a b : ℕ) (u : List ℕ) → string m (a ∷ b ∷ u) ≡ string_by m (2 + run_len is_ascii u) (quote_from false 2 u)
unfolding string
string-by m a b u = refl

word-front : (a : ℕ) (w z : List ℕ) (k : ℕ) → Stops extends z → word_token (a ∷ w) ≡ sized k (length (a ∷ w)) → word_token (a ∷ (w ++ z)) ≡ sized k (length (a ∷ w))
unfolding opens_string
word-front a w z k s h = go w (opens_string a (get_or w 0 0)) refl h
  where
    go : (w : List ℕ) (c : Bool) → opens_string a (get_or w 0 0) ≡ c → word_token (a ∷ w) ≡ sized k (length (a ∷ w)) → word_token (a ∷ (w ++ z)) ≡ sized k (length (a ∷ w))
    go w false e h = by_name a (w ++ z) (opens-front a w z s e) ∙ name-front (a ∷ w) z (stops-less is_name extends (λ b. or_left (is_name b) (eqb b 34)) z s) ∙ sym (by_name a w e) ∙ h
    go [] true e h = false-true _ (and_right (eqb a 120 || eqb a 98) false e)
    go (b ∷ u) true e h =
        by-string a b (u ++ z) e ∙ string-front (string_refusal a) a b u z k (quote_from false 2 u) refl (sym (string-by (string_refusal a) a b u) ∙ sym (by-string a b u e) ∙ h)

-- the token at the front, where it begins with a letter or a digit
find-front : (ed a : ℕ) (w z : List ℕ) (k : ℕ) → is_name a ≡ true → Stops extends z → find_token ed (a ∷ w) ≡ sized k (length (a ∷ w)) → find_token ed (a ∷ (w ++ z)) ≡ sized k (length (a ∷ w))
unfolding find_token is_name
find-front ed a w z k n s h = go (is_digit a) refl (is_letter a) refl
  where
    go : (b : Bool) → is_digit a ≡ b → (c : Bool) → is_letter a ≡ c → find_token ed (a ∷ (w ++ z)) ≡ sized k (length (a ∷ w))
    go true e c f = rw e (number-front ed (a ∷ w) z (stops-less is_name extends (λ b. or_left (is_name b) (eqb b 34)) z s) ∙ (rw e at h))
    go false e true f = rw (e, f) (word-front a w z k s (rw (e, f) at h))
    go false e false f = false-true _ (rw (e, f) at n)

-- no gap stands before a letter or a digit
no_part : (a : ℕ) (s : List ℕ) → is_name a ≡ true → (gap 0 0 (a ∷ s)).last ≡ clear 0 (a ∷ s)
unfolding gap part_at is_blank is_space slashes opens is_name is_letter is_digit in_range
no_part a s h = rw (differs is_name 32 a refl h, differs is_name 9 a refl h, differs is_name 10 a refl h, differs is_name 13 a refl h, differs is_name 47 a refl h)

-- w begins with a byte of a name
abbrev pub Headed : List ℕ → Type 0
Headed [] = ⊥
Headed (a ∷ w) = is_name a ≡ true

-- w is a token of kind k in an edition, wherever nothing goes on with it
abbrev pub Spelled : ℕ → ℕ → List ℕ → Type 0
Spelled ed k w = Headed w × ((z : List ℕ) → Stops extends z → scan ed 0 (w ++ z) ≡ tok k 0 (0 + length w) w z)

word-spelled : (ed a : ℕ) (w : List ℕ) (k : ℕ) → is_name a ≡ true → find_token ed (a ∷ w) ≡ sized k (length (a ∷ w)) → Spelled ed k (a ∷ w)
unfolding scan behind_gap placed
word-spelled ed a w k n h = (n, λ z s. rw (no_part a (w ++ z) n, find-front ed a w z k n s h, take-append_seam (a ∷ w) z, drop-append_seam (a ∷ w) z))

-- the kinds of tokens that are words: identifiers, numbers, strings, `true` and `false`
abbrev pub wordy : ℕ → Bool
wordy k = (eqb k 4 || eqb k 1) || (eqb k 2 || (eqb k 3 || (eqb k 43 || eqb k 55)))

-- a word that is scanned is that token in an edition
abbrev pub Good : ℕ → Scanned → Type 0
Good ed (tok k s e w r) = wordy k ≡ true → Spelled ed k w
Good ed (bad r) = Unit {0}

-- no mark is a word
abbrev all : (Entry → Bool) → List Entry → Bool
all p [] = true
all p (e ∷ es) = p e && all p es

marks-not : all (λ e. not (wordy e.kind)) marks ≡ true
unfolding marks long_marks double_marks single_marks
marks-not = refl

fit-not : (t : List Entry) (s : List ℕ) → all (λ e. not (wordy e.kind)) t ≡ true → wordy (first_fit t s).kind ≡ false
unfolding first_fit
fit-not [] s h = refl
fit-not (e ∷ es) s h = go (begins e.word s) (fit-not es s (and_right (not (wordy e.kind)) (all (λ e. not (wordy e.kind)) es) h))
  where
    go : (b : Bool) → wordy (first_fit es s).kind ≡ false → wordy (cond b (record { len = length e.word; kind = e.kind }) (first_fit es s)).kind ≡ false
    go true i = not-true _ (and_left (not (wordy e.kind)) (all (λ e. not (wordy e.kind)) es) h)
    go false i = i

abbrev Unworded : Front → Type 0
Unworded (sized k n) = wordy k ≡ false
Unworded (fault m i j) = Unit {0}

mark-not : (s : List ℕ) → Unworded (mark (mark_of s))
unfolding mark
mark-not s = go (eqb (mark_of s).len 0) (rw (mark-first s) (fit-not marks s marks-not))
  where
    go : (b : Bool) → wordy (mark_of s).kind ≡ false → Unworded (cond b (fault 5 0 0) (sized (mark_of s).kind (mark_of s).len))
    go true h = tt
    go false h = h

no_word : (ed a : ℕ) (s : List ℕ) → is_name a ≡ false → Unworded (find_token ed (a ∷ s))
unfolding find_token is_name
no_word ed a s h = rw (or_right (is_letter a) (is_digit a) h, or_left (is_letter a) (is_digit a) h) (mark-not (a ∷ s))

-- what is found in one edition, where its bytes alone are that token in another
module _ (ed back : ℕ) (same : (a : ℕ) (s : List ℕ) (k : ℕ) → find_token ed (a ∷ s) ≡ sized k (length (a ∷ s)) → find_token back (a ∷ s) ≡ sized k (length (a ∷ s))) where
  found-good : (q a : ℕ) (s : List ℕ) (x : Front) (b : Bool) → is_name a ≡ b → (b ≡ false → Unworded x) → Takes (length (a ∷ s)) x → Alone (find_token ed) (a ∷ s) x → Good back (placed q (a ∷ s) x)
  unfolding placed
  found-good q a s (fault m i j) b e u t h = tt
  found-good q a s (sized k zero) b e u t h = absurd (not-suc-le-zero t.1)
  found-good q a s (sized k (suc n)) true e u t h = λ _.
      let l : length (take (suc n) (a ∷ s)) ≡ suc n = length-take-le (suc n) (a ∷ s) t.2 in
      word-spelled back a (take n s) k e (same a (take n s) k (h ∙ ap (sized k) (sym l)))
  found-good q a s (sized k (suc n)) false e u t h = λ x. false-true _ (sym (u refl) ∙ x)

  behind-good : (e : End) → Good back (behind_gap ed e)
  unfolding behind_gap placed find_token
  behind-good (clear q []) = λ x. false-true _ x
  behind-good (clear q (a ∷ s)) = found-good q a s (find_token ed (a ∷ s)) (is_name a) refl (no_word ed a s) (find-takes ed a s) (find-alone ed a s)
  behind-good (broken o q) = tt

  good : (s : List ℕ) → Good back (scan ed 0 s)
  unfolding scan
  good s = behind-good (gap 0 0 s).last

-- a word is that token again in its own edition; and one of edition 1 is so in edition 2
pub good-own : (ed : ℕ) (s : List ℕ) → Good ed (scan ed 0 s)
good-own ed = good ed ed (λ a s k h. h)

pub good-later : (s : List ℕ) → Good 2 (scan 1 0 s)
good-later = good 1 2 whole_same
