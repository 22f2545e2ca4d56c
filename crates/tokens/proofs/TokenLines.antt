-- No token holds a line feed; so the flags of a walk count lines.
use mathlib.Core.Path.{◌≡◌, refl, ap, sym, ◌∙◌, subst}
use mathlib.Core.Bool.{Bool, true, false, cond, ◌||◌, ◌&&◌}
use mathlib.Core.List.{List, [], ◌∷◌, map}
use Prim.Native.Nat.{ℕ, suc, ◌+◌, ◌-◌, ◌<◌, ◌≤◌}
use native.Mathlib.Omega.{arith}
use borrow.Author.Tests.{eqb-true}
use lib.Dec.{eqb, ltb}
use lib.ListN.{length, get_or, take, drop}
use Rattle.classes.specs.Bytes.{bytes, begins}
use Rattle.classes.specs.Class.{in_range, is_digit, is_hex, is_letter, is_name, is_ascii, is_digit_or_underscore, is_hex_or_underscore}
use Rattle.classes.specs.Run.{run_len}
use Rattle.classes.proofs.Bools.{false-true, and_left, and_right, or_left}
use Rattle.gap.specs.Gap.{End, clear, broken, gap}
use Rattle.gap.specs.LineFeed.{holds_line_feed, line_feed}
use Rattle.gap.proofs.LineFeeds.{line-feed-join, line-feed-from}
use Rattle.words.specs.Search.{mark_of, first_fit, front_len, is_edition2, suffixes1, suffixes2, suffixes_of, suffix_len}
use Rattle.words.specs.Tables.{Entry, long_marks, double_marks, single_marks, marks}
use Rattle.words.specs.Quote.{Quote, ends_line, turn, quote_from}
use Rattle.std.proofs.Common.{Ok as QuoteFound, Err as Missing}
use Rattle.words.proofs.Marks.{mark-first}
use Rattle.words.proofs.Suffix.{both-lists}
use Rattle.words.proofs.Quotes.{Within, within}
use Rattle.tokens.specs.Token.{Front, sized, fault, typed, digits_len, more_digits, more_hex, decimal_len, decimal, hex_typed, hex_len, hex_number, number_token, string_by, string, opens_string, string_refusal, name, word_token, mark, find_token, Scanned, tok, bad, placed, behind_gap, scan}
use Rattle.tokens.specs.Calls.{text_limit, lexed, next_token, line_feed_before, advanced}
use Rattle.tokens.specs.Raise.{raise_lexed}
use Rattle.tokens.specs.declared.Token.{Token}
use Rattle.tokens.proofs.Faults.{admits}
use Rattle.tokens.proofs.Again.{found-fits}
use Rattle.tokens.proofs.Lexing.{Sound, lex-sound}
use Rattle.tokens.proofs.Shift.{token-from}
use Rattle.tokens.specs.declared.Refusal.{Refusal}
use Rattle.std.specs.Prelude.{Result, Ok, Err}

-- two parts of some bytes
joined-holds : (n m : ℕ) (s : List ℕ) → holds_line_feed (take n s) ≡ false → holds_line_feed (take m (drop n s)) ≡ false → holds_line_feed (take (n + m) s) ≡ false
unfolding line_feed
joined-holds n m s h g =
    let a : n + m - 0 ≡ n + m = omega arith in
    let b : n - 0 ≡ n = omega arith in
    let c : n + m - n ≡ m = omega arith in
    (rw (a, b, c) at (line-feed-join s 0 n (n + m) (omega arith) (omega arith))) ∙ rw (h, g)

-- a byte of a class that LF is not of, and a run of such bytes
no-feed : (f : ℕ → Bool) → f 10 ≡ false → (a : ℕ) (v : Bool) → eqb a 10 ≡ v → f a ≡ true → v ≡ false
no-feed f h a true e g = sym g ∙ rw (eqb-true a 10 e) h
no-feed f h a false e g = refl

run_holds : (f : ℕ → Bool) → f 10 ≡ false → (s : List ℕ) → holds_line_feed (take (run_len f s) s) ≡ false
unfolding holds_line_feed run_len
run_holds f h [] = refl
run_holds f h (a ∷ s) = go (f a) refl (run_holds f h s)
  where
    go : (v : Bool) → f a ≡ v → holds_line_feed (take (run_len f s) s) ≡ false → holds_line_feed (take (cond v (suc (run_len f s)) 0) (a ∷ s)) ≡ false
    go true e ih = rw (no-feed f h a (eqb a 10) refl e) ih
    go false e ih = refl

-- what bytes begin with
begins-holds : (w s : List ℕ) → begins w s ≡ true → holds_line_feed w ≡ false → holds_line_feed (take (length w) s) ≡ false
unfolding begins holds_line_feed
begins-holds [] s h g = refl
begins-holds (a ∷ w) [] h g = refl
begins-holds (a ∷ w) (b ∷ s) h g =
    let e : b ≡ a = eqb-true b a (and_left (eqb b a) (begins w s) h) in
    let f : eqb b 10 ≡ false = rw e (or_left (eqb a 10) (holds_line_feed w) g) in
    rw f (begins-holds w s (and_right (eqb b a) (begins w s) h) (rw (or_left (eqb a 10) (holds_line_feed w) g) at g))

-- the first of some words that fits
none_holds : List (List ℕ) → Bool
none_holds [] = true
none_holds (w ∷ ws) = cond (holds_line_feed w) false (none_holds ws)

words_step : (w : List ℕ) (ws : List (List ℕ)) (s : List ℕ) (b c : Bool) → begins w s ≡ b → holds_line_feed w ≡ c → cond c false (none_holds ws) ≡ true
    → (none_holds ws ≡ true → holds_line_feed (take (front_len ws s) s) ≡ false) → holds_line_feed (take (cond b (length w) (front_len ws s)) s) ≡ false
words_step w ws s b true e f g ih = false-true _ g
words_step w ws s true false e f g ih = begins-holds w s e f
words_step w ws s false false e f g ih = ih g

words-hold : (ws : List (List ℕ)) (s : List ℕ) → none_holds ws ≡ true → holds_line_feed (take (front_len ws s) s) ≡ false
unfolding front_len none_holds holds_line_feed
words-hold [] s h = refl
words-hold (w ∷ ws) s h = words_step w ws s (begins w s) (holds_line_feed w) refl refl h (words-hold ws s)

suffix-holds : (ed : ℕ) (s : List ℕ) → holds_line_feed (take (suffix_len ed s) s) ≡ false
unfolding suffix_len suffixes1 suffixes2 none_holds holds_line_feed
suffix-holds ed s = words-hold (suffixes_of ed) s (both-lists (λ ws. none_holds ws ≡ true) refl refl ed)

fit-front : (t : List Entry) (s : List ℕ) → (first_fit t s).len ≡ front_len (map (λ e. e.word) t) s
unfolding first_fit front_len
fit-front [] s = refl
fit-front (e ∷ es) s = go (begins e.word s) (fit-front es s)
  where
    go : (b : Bool) → (first_fit es s).len ≡ front_len (map (λ e. e.word) es) s
        → (cond b (record { len = length e.word; kind = e.kind }) (first_fit es s)).len ≡ cond b (length e.word) (front_len (map (λ e. e.word) es) s)
    go true h = refl
    go false h = h

mark-holds : (s : List ℕ) → holds_line_feed (take (mark_of s).len s) ≡ false
unfolding marks long_marks double_marks single_marks none_holds holds_line_feed
mark-holds s = rw (mark-first s, fit-front marks s) (words-hold (map (λ e. e.word) marks) s refl)

-- a string up to its closing quote
quote-step : (a i q : ℕ) (s : List ℕ) → eqb a 10 ≡ false → (suc i ≤ q) × (holds_line_feed (take (suc (q - suc i)) s) ≡ false) → holds_line_feed (take (suc (q - i)) (a ∷ s)) ≡ false
unfolding holds_line_feed
quote-step a i q s e h = let n : q - i ≡ suc (q - suc i) = omega (arith, h.0) in rw (n, e) h.1

turn_holds : (a : ℕ) (s : List ℕ) (l b x y : Bool) (i q : ℕ) (go : Bool → Quote) → (l ≡ false → eqb a 10 ≡ false) → turn l b x y i go ≡ QuoteFound q
    → ((u : Bool) → go u ≡ QuoteFound q → (suc i ≤ q) × (holds_line_feed (take (suc (q - suc i)) s) ≡ false)) → holds_line_feed (take (suc (q - i)) (a ∷ s)) ≡ false
unfolding holds_line_feed
turn_holds a s true b x y i q go f h r = let z : ◌≡◌ {A = ℕ} 0 1 = cc in absurd (omega arith)
turn_holds a s false true x y i q go f h r = quote-step a i q s (f refl) (r false h)
turn_holds a s false false true y i q go f h r = quote-step a i q s (f refl) (r true h)
turn_holds a s false false false true i q go f h r = let e : i ≡ q = cc in let n : q - i ≡ 0 = omega arith in rw (n, f refl)
turn_holds a s false false false false i q go f h r = quote-step a i q s (f refl) (r false h)

quote-holds : (s : List ℕ) (b : Bool) (i q : ℕ) → quote_from b i s ≡ QuoteFound q → holds_line_feed (take (suc (q - i)) s) ≡ false
unfolding quote_from ends_line
quote-holds [] b i q h = let z : ◌≡◌ {A = ℕ} 0 1 = cc in absurd (omega arith)
quote-holds (a ∷ s) b i q h =
    turn_holds a s (ends_line a (get_or s 0 0)) b (eqb a 92) (eqb a 34) i q (λ u. quote_from u (suc i) s)
    (λ e. or_left (eqb a 10) (eqb a 13 && eqb (get_or s 0 0) 10) e) h
    (λ u p. let l : (suc i ≤ q) × (q < suc i + length s) = subst (Within (suc i) (length s)) p (within s u (suc i)) in (l.0, quote-holds s u (suc i) q p))

-- what stands at the front of the bytes
abbrev InLine : List ℕ → Front → Type 0
InLine s (sized k n) = holds_line_feed (take n s) ≡ false
InLine s (fault m i j) = Unit {0}

in-line-cond : (s : List ℕ) (b : Bool) (x y : Front) → (b ≡ true → InLine s x) → (b ≡ false → InLine s y) → InLine s (cond b x y)
in-line-cond s true x y f g = f refl
in-line-cond s false x y f g = g refl

digit-feed : is_digit 10 ≡ false
unfolding is_digit in_range
digit-feed = refl

hex-feed : is_hex 10 ≡ false
unfolding is_hex in_range
hex-feed = refl

name-feed : is_name 10 ≡ false
unfolding is_name is_letter is_digit in_range
name-feed = refl

-- digits of which LF is none
digits-hold : (f g : ℕ → Bool) → f 10 ≡ false → g 10 ≡ false → (s : List ℕ) → holds_line_feed (take (digits_len f g s) s) ≡ false
unfolding holds_line_feed digits_len
digits-hold f g h k [] = refl
digits-hold f g h k (a ∷ s) = go (f a) refl
  where
    go : (v : Bool) → f a ≡ v → holds_line_feed (take (cond v (suc (run_len g s)) 0) (a ∷ s)) ≡ false
    go true e = rw (no-feed f h a (eqb a 10) refl e) (run_holds g k s)
    go false e = refl

more-digits-feed : (ed : ℕ) → more_digits ed 10 ≡ false
unfolding more_digits is_digit_or_underscore is_digit in_range
more-digits-feed ed = go (is_edition2 ed)
  where
    go : (v : Bool) → cond v (is_digit_or_underscore 10) (is_digit 10) ≡ false
    go true = refl
    go false = refl

more-hex-feed : (ed : ℕ) → more_hex ed 10 ≡ false
unfolding more_hex is_hex_or_underscore is_hex in_range
more-hex-feed ed = go (is_edition2 ed)
  where
    go : (v : Bool) → cond v (is_hex_or_underscore 10) (is_hex 10) ≡ false
    go true = refl
    go false = refl

decimal-in-line : (ed : ℕ) (s : List ℕ) → InLine s (decimal ed s)
unfolding decimal decimal_len typed
decimal-in-line ed s =
    joined-holds (decimal_len ed s) (suffix_len ed (drop (decimal_len ed s) s)) s (digits-hold is_digit (more_digits ed) digit-feed (more-digits-feed ed) s) (suffix-holds ed (drop (decimal_len ed s) s))

-- `0x`, and its first byte alone
prefix_holds : (s : List ℕ) → begins (bytes "0x") s ≡ true → holds_line_feed (take 2 s) ≡ false
unfolding holds_line_feed
prefix_holds s h = begins-holds (bytes "0x") s h refl

first_holds : (s : List ℕ) → holds_line_feed (take 2 s) ≡ false → holds_line_feed (take 1 s) ≡ false
unfolding holds_line_feed
first_holds [] h = refl
first_holds (a ∷ s) h = rw (or_left (eqb a 10) (holds_line_feed (take 1 s)) h)

module _ (ed : ℕ) where
  hex-in-line : (s : List ℕ) → begins (bytes "0x") s ≡ true → InLine s (hex_number ed s)
  unfolding hex_number hex_typed typed hex_len
  hex-in-line s h =
      in-line-cond s (eqb (hex_len ed s + suffix_len ed (drop (hex_len ed s) s)) 2) (sized 1 1) (typed (hex_len ed s) (suffix_len ed (drop (hex_len ed s) s)))
      (λ _. first_holds s (prefix_holds s h))
      (λ _. joined-holds (hex_len ed s) (suffix_len ed (drop (hex_len ed s) s)) s
      (joined-holds 2 (digits_len is_hex (more_hex ed) (drop 2 s)) s (prefix_holds s h) (digits-hold is_hex (more_hex ed) hex-feed (more-hex-feed ed) (drop 2 s))) (suffix-holds ed (drop (hex_len ed s) s)))

  number-in-line : (s : List ℕ) → InLine s (number_token ed s)
  unfolding number_token
  number-in-line s = in-line-cond s (begins (bytes "0x") s) (hex_number ed s) (decimal ed s) (hex-in-line s) (λ _. decimal-in-line ed s)

string-by : (m h a b : ℕ) (s : List ℕ) (k : Quote) → quote_from false 2 s ≡ k → eqb a 10 ≡ false → eqb b 10 ≡ false → InLine (a ∷ b ∷ s) (string_by m h k)
unfolding string_by holds_line_feed
string-by m h a b s (Missing e) q f g = tt
string-by m h a b s (QuoteFound c) q f g =
    let l : (2 ≤ c) × (c < 2 + length s) = subst (Within 2 (length s)) q (within s false 2) in
    let n : c + 1 ≡ suc (suc (suc (c - 2))) = omega arith in
    in-line-cond (a ∷ b ∷ s) (ltb h c) (fault 9 h (h + 1)) (sized 3 (c + 1)) (λ _. tt) (λ _. rw (n, f, g) (quote-holds s false 2 c q))

opener-feed : (a b : ℕ) → opens_string a b ≡ true → (eqb a 10 ≡ false) × (eqb b 10 ≡ false)
unfolding opens_string
opener-feed a b h =
    let y : b ≡ 34 = eqb-true b 34 (and_right (eqb a 120 || eqb a 98) (eqb b 34) h) in
    (go (eqb a 10) refl (and_left (eqb a 120 || eqb a 98) (eqb b 34) h), rw y)
  where
    go : (v : Bool) → eqb a 10 ≡ v → eqb a 120 || eqb a 98 ≡ true → v ≡ false
    go true e g = sym g ∙ rw (eqb-true a 10 e)
    go false e g = refl

opened-in-line : (a : ℕ) (s : List ℕ) → opens_string a (get_or s 0 0) ≡ true → InLine (a ∷ s) (string (string_refusal a) (a ∷ s))
unfolding string opens_string
opened-in-line a [] h = false-true _ (and_right (eqb a 120 || eqb a 98) false h)
opened-in-line a (b ∷ s) h = let o = opener-feed a b h in string-by (string_refusal a) (2 + run_len is_ascii s) a b s (quote_from false 2 s) refl o.0 o.1

word-in-line : (a : ℕ) (s : List ℕ) → InLine (a ∷ s) (word_token (a ∷ s))
unfolding word_token name
word-in-line a s =
    in-line-cond (a ∷ s) (opens_string a (get_or s 0 0)) (string (string_refusal a) (a ∷ s)) (name (a ∷ s)) (opened-in-line a s) (λ _. run_holds is_name name-feed (a ∷ s))

mark-in-line : (s : List ℕ) → InLine s (mark (mark_of s))
unfolding mark
mark-in-line s = in-line-cond s (eqb (mark_of s).len 0) (fault 5 0 0) (sized (mark_of s).kind (mark_of s).len) (λ _. tt) (λ _. mark-holds s)

find-in-line : (ed : ℕ) (s : List ℕ) → InLine s (find_token ed s)
unfolding find_token holds_line_feed
find-in-line ed [] = refl
find-in-line ed (a ∷ s) =
    in-line-cond (a ∷ s) (is_digit a) _ _ (λ _. number-in-line ed (a ∷ s))
    (λ _. in-line-cond (a ∷ s) (is_letter a) _ _ (λ _. word-in-line a s) (λ _. mark-in-line (a ∷ s)))

-- a token's word
abbrev Whole : Scanned → Type 0
Whole (tok k s e w r) = holds_line_feed w ≡ false
Whole (bad r) = Unit {0}

placed-whole : (p : ℕ) (s : List ℕ) (f : Front) → InLine s f → Whole (placed p s f)
unfolding placed
placed-whole p s (sized k n) h = h
placed-whole p s (fault m i j) h = tt

behind-whole : (ed : ℕ) (e : End) → Whole (behind_gap ed e)
unfolding behind_gap
behind-whole ed (clear p s) = placed-whole p s (find_token ed s) (find-in-line ed s)
behind-whole ed (broken o q) = tt

-- no token holds a line feed
whole_by : (text : List ℕ) (at : ℕ) (t : Token) (l : Scanned) → Sound text at l → Whole l → lexed l ≡ Ok t → (at ≤ t.start) × (t.start ≤ t.end) × (line_feed text t.start t.end ≡ false)
unfolding lexed line_feed
whole_by text at t (tok k s e w r) h g q =
    let v : record { kind = k; start = s; end = e } ≡ t = cc in
    let a : s ≡ t.start = ap (λ (x : Token). x.start) v in
    let b : e ≡ t.end = ap (λ (x : Token). x.end) v in
    (omega (arith, h.from), omega (arith, h.ordered), rw (← a, ← b, ← h.spelled) g)
whole_by text at t (bad r) h g q = let z : ◌≡◌ {A = ℕ} 0 1 = cc in absurd (omega arith)

pub tokens-hold-no-line-feed : (ed : ℕ) (text : List ℕ) (at : ℕ) (t : Token) → next_token ed text at ≡ Ok t → (at ≤ t.start) × (t.start ≤ t.end) × (line_feed text t.start t.end ≡ false)
unfolding next_token scan
tokens-hold-no-line-feed ed text at t h =
    let f = found-fits ed text at t h in
    whole_by text at t (scan ed at (drop at text)) (lex-sound ed text at f.1) (behind-whole ed (gap 0 at (drop at text)).last)
    (sym (admits text at Err (lexed (scan ed at (drop at text))) f.0 f.1) ∙ h)

-- reading from an offset is reading the text from there on: the flag too
flag_up : (text : List ℕ) (at : ℕ) (l : Result Token Refusal) → line_feed_before text at (raise_lexed at l) ≡ line_feed_before (drop at text) 0 l
unfolding line_feed_before
flag_up text at (Ok t) = line-feed-from text at t.start
flag_up text at (Err r) = refl

-- where the last of some tokens starts
abbrev pub last_start : Token → List Token → ℕ
last_start t [] = t.start
last_start t (u ∷ us) = last_start u us

module _ (ed : ℕ) where
  pub flag-from : (text : List ℕ) (at : ℕ) → length text ≤ text_limit → at ≤ length text → (advanced ed text at).feed ≡ (advanced ed (drop at text) 0).feed
  unfolding advanced
  flag-from text at h g = rw (token-from ed text at h g) (flag_up text at (next_token ed (drop at text) 0))

  -- a walk: tokens of which each is asked for from the end of the one before, the first of them from `at`
  abbrev pub Walk : List ℕ → ℕ → Token → List Token → Type 0
  Walk text at t [] = next_token ed text at ≡ Ok t
  Walk text at t (u ∷ us) = (next_token ed text at ≡ Ok t) × Walk text t.end u us

  -- whether one of their flags is set
  abbrev pub flags : List ℕ → ℕ → Token → List Token → Bool
  flags text at t [] = (advanced ed text at).feed
  flags text at t (u ∷ us) = (advanced ed text at).feed || flags text t.end u us

  -- a found token's flag: a line feed stands between the place it is asked for from, the end of the token before, and its start
  pub flag_is : (text : List ℕ) (at : ℕ) (t : Token) → next_token ed text at ≡ Ok t → (advanced ed text at).feed ≡ line_feed text at t.start
  unfolding advanced line_feed_before
  flag_is text at t h = rw h

  -- a line feed stands before the last of them where one of the flags is set, and nowhere else
  pub walk-lines : (text : List ℕ) (at : ℕ) (t : Token) (us : List Token) → Walk text at t us → (at ≤ last_start t us) × (line_feed text at (last_start t us) ≡ flags text at t us)
  walk-lines text at t [] h = ((tokens-hold-no-line-feed ed text at t h).0, sym (flag_is text at t h))
  walk-lines text at t (u ∷ us) h =
      let a = tokens-hold-no-line-feed ed text at t h.0 in
      let r = walk-lines text t.end u us h.1 in
      let b : line_feed text t.start (last_start u us) ≡ flags text t.end u us
      = line-feed-join text t.start t.end (last_start u us) a.1 r.0 ∙ rw a.2 r.1 in (
        omega (arith, a.0, a.1, r.0),
        line-feed-join text at t.start (last_start u us) a.0 (omega (arith, a.1, r.0)) ∙ rw (← flag_is text at t h.0, b),
      )

  -- two tokens of a walk stand on one line where the flags of all tokens behind the first up to the second are false, and nowhere else
  pub same_line_lem : (text : List ℕ) (at : ℕ) (t u : Token) (us : List Token) → Walk text at t (u ∷ us)
      → line_feed text t.start (last_start u us) ≡ flags text t.end u us
  same_line_lem text at t u us h =
      let a = tokens-hold-no-line-feed ed text at t h.0 in
      let r = walk-lines text t.end u us h.1 in
      line-feed-join text t.start t.end (last_start u us) a.1 r.0 ∙ rw a.2 r.1
