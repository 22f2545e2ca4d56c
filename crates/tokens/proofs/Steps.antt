-- The token at a place of a text, by the tests and the callees' answers that lead to each case of the code.
use Rattle.gap.specs.Marks.{unclosed}
use Rattle.gap.specs.declared.Unclosed.{Unclosed}
use mathlib.Core.Path.{◌≡◌, refl, ap, sym, ◌∙◌, subst}
use mathlib.Core.Bool.{Bool, true, false, cond, ◌&&◌}
use mathlib.Core.List.{List, [], ◌∷◌}
use Prim.Native.Nat.{ℕ, ◌+◌, ◌-◌, ◌<◌, ◌≤◌, min}
use native.Mathlib.Omega.{arith}
use native.Mathlib.Nat.{add-zero, add_assoc}
use borrow.Author.Tests.{eq-eqb, ne_eqb, lt-ltb, le-ltb, lt-leb, leb-true}
use lib.Dec.{eqb, leb, ltb}
use lib.ListN.{length, get_or, take, drop, drop_of_length-le, length-drop}
use lib.Seq.{drop-cons, drop-drop, get_or-drop}
use Rattle.classes.specs.Bytes.{bytes, begins}
use Rattle.classes.specs.Class.{in_range, is_digit, is_hex, is_letter, is_name, is_ascii, is_space, in_class}
use Rattle.classes.specs.Run.{run_len, run_end}
use Rattle.classes.proofs.Bools.{false-true, and-true, and_right}
use Rattle.gap.specs.Gap.{End, clear, broken, Gap, gap, gap_end_of, doc_of}
use Rattle.gap.proofs.Gaps.{Ended, gap-ended, gap-blanks}
use Rattle.gap.proofs.Places.{front as front_at}
use Rattle.words.specs.Search.{kind_of, mark_of, suffix_len}
use Rattle.words.specs.Quote.{Quote, quote_from, raised}
use Rattle.words.specs.declared.Fit.{Fit}
use Rattle.std.proofs.Common.{Ok as QuoteFound, Err as Missing}
use Rattle.classes.proofs.Cut.{begins-short, run-cut, drop-cut}
use Rattle.classes.proofs.Runs.{run_in, run-stops}
use Rattle.words.proofs.Marks.{mark-short}
use Rattle.words.proofs.Quotes.{Within, within, quote-shift}
use Rattle.words.proofs.Suffix.{suffix-short}
use Rattle.tokens.specs.Answers.{refusal, token}
use Rattle.tokens.specs.Token.{Front, sized, fault, typed, more_digits, more_hex, decimal_len, decimal, hex_typed, hex_len, hex_number, number_token, string_by, string, opens_string, string_refusal, name, word_token, mark, find_token, placed, behind_gap, scan}
use Rattle.tokens.specs.Calls.{text_limit, no_edition, fault_if, ◌or_else◌, place_fault, call_fault, unless, lexed, next_token, line_feed_before, advanced, refused_call, token_call, comment_of, next_comment}
use Rattle.tokens.specs.code.Found.{digits_end, edition_refusal, lexed_at, typed_at}
use Rattle.tokens.specs.declared.Refusal.{Refusal}
use Rattle.tokens.proofs.Digits.{end-to}
use Rattle.tokens.proofs.Faults.{unless_not, unless-faulty}
use Rattle.tokens.specs.declared.Token.{Token}
use Rattle.std.specs.Prelude.{Result, Ok, Err, ⊤}

-- numbers
module _ (at e n : ℕ) where
  pub untyped : n ≡ 0 → Ok (token 1 at e) ≡ typed_at at e n
  unfolding typed_at
  untyped h = rw (h, add-zero)

  pub with-type : (n ≡ 0 → ⊥) → Ok (token 2 at (e + n)) ≡ typed_at at e n
  unfolding typed_at
  with-type h = rw (ne_eqb n 0 h)

typed_at_lem : (at m e n : ℕ) → e ≡ at + m → typed_at at e n ≡ lexed_at at (typed m n)
unfolding typed_at lexed_at typed
typed_at_lem at m e n h = rw (h, add_assoc)

module _ (ed : ℕ) (text : List ℕ) (at e n : ℕ) (en : n ≡ suffix_len ed (drop e text)) where
  pub number-room : (f g : ℕ → Bool) → e ≡ digits_end f g text at → at ≤ length text → e + n ≤ length text
  number-room f g h i =
      let r : e ≤ length text = rw h (end-to f g text at i) in
      omega (arith, suffix-short ed (drop e text), length-drop e text)

  suffix-at : (m : ℕ) → e ≡ at + m → suffix_len ed (drop m (drop at text)) ≡ n
  suffix-at m h = rw (drop-drop m at text, ← h, ← en)

  pub decimal-at : e ≡ digits_end is_digit (more_digits ed) text at → typed_at at e n ≡ lexed_at at (decimal ed (drop at text))
  unfolding decimal decimal_len digits_end
  decimal-at h = typed_at_lem at (decimal_len ed (drop at text)) e n h ∙ ap (λ (v : ℕ). lexed_at at (typed (decimal_len ed (drop at text)) v)) (sym (suffix-at (decimal_len ed (drop at text)) h))

  module _ (h : e ≡ digits_end is_hex (more_hex ed) text (at + 2)) where
    hex-end : e ≡ at + hex_len ed (drop at text)
    unfolding hex_len digits_end
    hex-end = h ∙ rw (drop-drop 2 at text, add_assoc)

    pub hex-zero : e + n ≡ at + 2 → Ok (token 1 at (at + 1)) ≡ lexed_at at (hex_number ed (drop at text))
    unfolding hex_number hex_typed lexed_at
    hex-zero g =
        let q : hex_len ed (drop at text) + n ≡ 2 = omega (arith, hex-end) in
        rw (suffix-at (hex_len ed (drop at text)) hex-end, eq-eqb (hex_len ed (drop at text) + n) 2 q)

    pub hex-number : (e + n ≡ at + 2 → ⊥) → typed_at at e n ≡ lexed_at at (hex_number ed (drop at text))
    unfolding hex_number hex_typed
    hex-number g =
        let q : hex_len ed (drop at text) + n ≡ 2 → ⊥ = λ p. g (omega (arith, hex-end)) in
        rw (suffix-at (hex_len ed (drop at text)) hex-end, ne_eqb (hex_len ed (drop at text) + n) 2 q) (typed_at_lem at (hex_len ed (drop at text)) e n hex-end)

-- `0x` at the front, told by two bytes
two_bytes : (s : List ℕ) → begins (bytes "0x") s ≡ eqb (get_or s 0 0) 48 && eqb (get_or s 1 0) 120
unfolding begins
two_bytes [] = refl
two_bytes (a ∷ []) = refl
two_bytes (a ∷ b ∷ s) = ap (λ (c : Bool). eqb a 48 && c) (and-true (eqb b 120))

module _ (text : List ℕ) (at b : ℕ) (eb : b ≡ get_or text (at + 1) 0) where
  starts-0x : begins (bytes "0x") (drop at text) ≡ eqb (get_or text at 0) 48 && eqb b 120
  starts-0x = two_bytes (drop at text) ∙ rw (front_at text at, get_or-drop at text 1 0, ← eb)

  module _ (v : Bool) (ev : v ≡ eqb (get_or text at 0) 48 && eqb b 120) where
    pub number-hex : (ed : ℕ) → v ≡ true → lexed_at at (hex_number ed (drop at text)) ≡ lexed_at at (number_token ed (drop at text))
    unfolding number_token
    number-hex ed h = rw (starts-0x, ← ev, h)

    pub number-decimal : (ed : ℕ) → v ≡ false → lexed_at at (decimal ed (drop at text)) ≡ lexed_at at (number_token ed (drop at text))
    unfolding number_token
    number-decimal ed h = rw (starts-0x, ← ev, h)

    pub hex-room : v ≡ true → at + 2 ≤ length text
    hex-room h =
        let e : begins (bytes "0x") (drop at text) ≡ true = starts-0x ∙ sym ev ∙ h in
        omega (arith, begins-short (bytes "0x") (drop at text) e, length-drop at text)

-- strings
module _ (text : List ℕ) (at m : ℕ) (k : Quote) (ek : k ≡ quote_from false (at + 2) (drop (at + 2) text)) where
  quote-here : k ≡ raised at (quote_from false 2 (drop 2 (drop at text)))
  quote-here = ek ∙ quote-shift (drop (at + 2) text) false at 2 ∙ ap (λ (s : List ℕ). raised at (quote_from false 2 s)) (sym (drop-drop 2 at text))

  missing-by : (e v : ℕ) (q : Quote) → raised at q ≡ Missing e → Err (refusal m at e) ≡ lexed_at at (string_by m v q)
  unfolding string_by lexed_at
  missing-by e v (Missing f) g = let r : at + f ≡ e = cc in rw (r, add-zero)
  missing-by e v (QuoteFound f) g = let z : ◌≡◌ {A = ℕ} 0 1 = cc in absurd (omega arith)

  pub string-missing : (e : ℕ) → k ≡ Missing e → Err (refusal m at e) ≡ lexed_at at (string m (drop at text))
  unfolding string
  string-missing e g = missing-by e (2 + run_len is_ascii (drop 2 (drop at text))) (quote_from false 2 (drop 2 (drop at text))) (sym quote-here ∙ g)

  module _ (q : ℕ) (g : k ≡ QuoteFound q) where
    pub quote-room : (at + 2 ≤ q) × (q < length text)
    quote-room =
        let r = subst (Within (at + 2) (length (drop (at + 2) text))) (sym ek ∙ g) (within (drop (at + 2) text) false (at + 2)) in
        (r.0, omega (arith, length-drop (at + 2) text))

    -- the run of ASCII from behind the opening quote, as far as the closing one
    module _ (h : ℕ) (eh : h ≡ run_end (in_class 3) (take q text) (at + 2)) where
      high-here : h ≡ at + min (q - at) (2 + run_len is_ascii (drop 2 (drop at text)))
      unfolding run_end in_class
      high-here =
          let r = quote-room in
          let n : q ≡ at + 2 + (q - (at + 2)) = omega arith in
          let c : drop (at + 2) (take q text) ≡ take (q - (at + 2)) (drop (at + 2) text) = ap (λ (j : ℕ). drop (at + 2) (take j text)) n ∙ drop-cut (at + 2) (q - (at + 2)) text in
          eh ∙ rw (c, run-cut is_ascii (drop (at + 2) text) (q - (at + 2)), drop-drop 2 at text) (omega arith)

      high-by : (v : ℕ) (x : Quote) → h ≡ at + min (q - at) v → raised at x ≡ QuoteFound q → h < q → Err (refusal 9 h (h + 1)) ≡ lexed_at at (string_by m v x)
      unfolding string_by lexed_at
      high-by v (Missing f) w p l = let z : ◌≡◌ {A = ℕ} 0 1 = cc in absurd (omega arith)
      high-by v (QuoteFound f) w p l =
          let r : at + f ≡ q = cc in
          let y : h ≡ at + v = omega arith in
          rw (lt-ltb v f (omega arith), ← y, ← add_assoc at v 1, ← y)

      pub string-high : h < q → Err (refusal 9 h (h + 1)) ≡ lexed_at at (string m (drop at text))
      unfolding string
      string-high l = high-by (2 + run_len is_ascii (drop 2 (drop at text))) (quote_from false 2 (drop 2 (drop at text))) high-here (sym quote-here ∙ g) l

      closed-by : (v : ℕ) (x : Quote) → h ≡ at + min (q - at) v → raised at x ≡ QuoteFound q → q ≤ h → Ok (token 3 at (q + 1)) ≡ lexed_at at (string_by m v x)
      unfolding string_by lexed_at
      closed-by v (Missing f) w p l = let z : ◌≡◌ {A = ℕ} 0 1 = cc in absurd (omega arith)
      closed-by v (QuoteFound f) w p l = let r : at + f ≡ q = cc in rw (le-ltb v f (omega arith), ← r, add_assoc)

      pub string-closed : q ≤ h → Ok (token 3 at (q + 1)) ≡ lexed_at at (string m (drop at text))
      unfolding string
      string-closed l = closed-by (2 + run_len is_ascii (drop 2 (drop at text))) (quote_from false 2 (drop 2 (drop at text))) high-here (sym quote-here ∙ g) l

-- names and marks
-- the run of a name that a letter begins goes on behind it
pub name-run : (text : List ℕ) (at : ℕ) → at < length text → is_letter (get_or text at 0) ≡ true → run_end (in_class 0) text (at + 1) ≡ run_end (in_class 0) text at
unfolding in_class is_name
name-run text at h e = sym (run_in (in_class 0) text at h (rw e))

pub name-at : (text : List ℕ) (at e k : ℕ) → e ≡ run_end (in_class 0) text at → k ≡ kind_of (take (e - at) (drop at text)) → Ok (token k at e) ≡ lexed_at at (name (drop at text))
unfolding name lexed_at run_end in_class
name-at text at e k h g =
    let r : e - at ≡ run_len is_name (drop at text) = omega arith in
    rw (g, r, h)

module _ (at : ℕ) (f g : Fit) (e : f ≡ g) where
  pub no-mark : f.len ≡ 0 → Err (refusal 5 at at) ≡ lexed_at at (mark g)
  unfolding mark lexed_at
  no-mark h = rw (← e, eq-eqb f.len 0 h, add-zero)

  pub some-mark : 0 < f.len → Ok (token f.kind at (at + f.len)) ≡ lexed_at at (mark g)
  unfolding mark lexed_at
  some-mark h = rw (← e, ne_eqb f.len 0 (λ z. absurd (omega arith)))

pub mark-room : (text : List ℕ) (at : ℕ) (f : Fit) → f ≡ mark_of (drop at text) → at ≤ length text → at + f.len ≤ length text
mark-room text at f e h = rw e (omega (arith, mark-short (drop at text), length-drop at text))

module _ (text : List ℕ) (at b : ℕ) (eb : b ≡ get_or text (at + 1) 0) where
  pub word-string : opens_string (get_or text at 0) b ≡ true → (m : ℕ) → m ≡ string_refusal (get_or text at 0)
      → lexed_at at (string m (drop at text)) ≡ lexed_at at (word_token (drop at text))
  unfolding word_token
  word-string h m em = rw (front_at text at, get_or-drop at text 1 0, ← eb, h, em)

  pub word-name : opens_string (get_or text at 0) b ≡ false → lexed_at at (name (drop at text)) ≡ lexed_at at (word_token (drop at text))
  unfolding word_token
  word-name h = rw (front_at text at, get_or-drop at text 1 0, ← eb, h)

-- a letter is no digit
no_digit : (a : ℕ) → is_letter a ≡ true → is_digit a ≡ false
unfolding is_letter is_digit in_range
no_digit a e = go (is_digit a) refl
  where
    go : (v : Bool) → is_digit a ≡ v → is_digit a ≡ false
    go false d = d
    go true d =
        let h : a ≤ 57 = leb-true a 57 (and_right (leb 48 a) (leb a 57) d) in
        false-true _ (rw (lt-leb 97 a (omega arith), lt-leb 65 a (omega arith), ne_eqb a 95 (λ q. absurd (omega arith))) at e)

-- the token at a place, by its first byte
module _ (ed : ℕ) (text : List ℕ) (at : ℕ) where
  pub find-over : length text ≤ at → Ok (token 0 at at) ≡ lexed_at at (find_token ed (drop at text))
  unfolding find_token lexed_at
  find-over h = rw (drop_of_length-le text h, add-zero)

  module _ (h : at < length text) where
    pub find-number : is_digit (get_or text at 0) ≡ true → lexed_at at (number_token ed (drop at text)) ≡ lexed_at at (find_token ed (drop at text))
    unfolding find_token
    find-number e = rw (drop-cons text at 0 h, e)

    pub find-word : is_letter (get_or text at 0) ≡ true → lexed_at at (word_token (drop at text)) ≡ lexed_at at (find_token ed (drop at text))
    unfolding find_token
    find-word f = rw (drop-cons text at 0 h, no_digit (get_or text at 0) f, f)

    pub find-mark : is_digit (get_or text at 0) ≡ false → is_letter (get_or text at 0) ≡ false → lexed_at at (mark (mark_of (drop at text))) ≡ lexed_at at (find_token ed (drop at text))
    unfolding find_token
    find-mark e f = rw (drop-cons text at 0 h, e, f)

lexed-placed : (p : ℕ) (s : List ℕ) (f : Front) → lexed (placed p s f) ≡ lexed_at p f
unfolding lexed placed lexed_at
lexed-placed p s (sized k n) = refl
lexed-placed p s (fault m i j) = refl

-- behind the blanks
module _ (text : List ℕ) (at i : ℕ) (q : i ≡ run_end is_space text at) where
  pub blanks-end : i < length text → is_space (get_or text i 0) ≡ false
  unfolding run_end
  blanks-end h =
      let n : run_len is_space (drop at text) < length (drop at text) = omega (arith, q, length-drop at text) in
      rw (q, ← get_or-drop at text (run_len is_space (drop at text)) 0) (run-stops is_space (drop at text) n)

  same_end : gap_end_of (gap 0 at (drop at text)).last ≡ gap_end_of (gap 0 i (drop i text)).last
  same_end = rw q (ap (λ (g : Gap). gap_end_of g.last) (gap-blanks text at))

module _ (ed : ℕ) (text : List ℕ) (at : ℕ) where
  clear-by : (i : ℕ) (e : End) → Ended text at e → gap_end_of e ≡ Ok i → lexed_at i (find_token ed (drop i text)) ≡ lexed (behind_gap ed e)
  unfolding behind_gap gap_end_of
  clear-by i (clear q u) h g = let r : q ≡ i = cc in rw (h.2, r) (sym (lexed-placed i (drop i text) (find_token ed (drop i text))))
  clear-by i (broken o q) h g = let z : ◌≡◌ {A = ℕ} 0 1 = cc in absurd (omega arith)

  broken-by : (o q : ℕ) (e : End) → gap_end_of e ≡ Err (unclosed o q) → Err (refusal 6 o q) ≡ lexed (behind_gap ed e)
  unfolding behind_gap gap_end_of lexed
  broken-by o q (clear p u) g = let z : ◌≡◌ {A = ℕ} 0 1 = cc in absurd (omega arith)
  broken-by o q (broken p r) g =
      let w : unclosed p r ≡ unclosed o q = cc in
      let u : p ≡ o = ap (λ (x : Unclosed). x.start) w in
      let v : r ≡ q = ap (λ (x : Unclosed). x.end) w in
      rw (u, v)

  module _ (i : ℕ) (q : i ≡ run_end is_space text at) (h : place_fault text at ≡ (Ok tt)) where
    pub next-clear : (k : ℕ) → gap_end_of (gap 0 i (drop i text)).last ≡ Ok k → lexed_at k (find_token ed (drop k text)) ≡ next_token ed text at
    unfolding next_token scan
    next-clear k e = clear-by k (gap 0 at (drop at text)).last (gap-ended text (drop at text) 0 at refl) (same_end text at i q ∙ e) ∙ sym (unless_not Err (place_fault text at) _ h)

    pub next-broken : (o p : ℕ) → gap_end_of (gap 0 i (drop i text)).last ≡ Err (unclosed o p) → Err (refusal 6 o p) ≡ next_token ed text at
    unfolding next_token scan
    next-broken o p e = broken-by o p (gap 0 at (drop at text)).last (same_end text at i q ∙ e) ∙ sym (unless_not Err (place_fault text at) _ h)

-- the calls, by their faults
module _ (ed : ℕ) (text : List ℕ) (at : ℕ) where
  pub next-faulty : (r : Refusal) → place_fault text at ≡ Err r → Err r ≡ next_token ed text at
  unfolding next_token
  next-faulty r e = sym (unless-faulty Err (place_fault text at) _ r e)

  -- a call whose edition is none, by the number of its refusal
  pub call-refused : no_edition ed ≡ true → (m : ℕ) → m ≡ edition_refusal text at → refused_call (refusal m 0 0) ≡ token_call ed text at
  unfolding edition_refusal token_call call_fault place_fault ◌or_else◌ unless
  call-refused e m h = rw (h, e) (go (ltb text_limit (length text)) (ltb (length text) at))
    where
      go : (v w : Bool) → refused_call (refusal (cond v 1 (cond w 2 19)) 0 0) ≡ unless refused_call ((fault_if v 1 or_else fault_if w 2) or_else fault_if true 19) (advanced ed text at)
      go true w = refl
      go false true = refl
      go false false = refl

  -- a call in an edition: 1 and 2 are what the next token says too
  pub call_known : no_edition ed ≡ false → advanced ed text at ≡ token_call ed text at
  unfolding token_call call_fault ◌or_else◌ advanced next_token line_feed_before unless
  call_known e = rw e (go (place_fault text at))
    where
      token : Result ⊤ Refusal → Result Token Refusal
      token f = unless Err f (lexed (scan ed at (drop at text)))

      go : (f : Result ⊤ Refusal) → record { lexed = token f; feed = line_feed_before text at (token f) } ≡ unless refused_call (f or_else fault_if false 19) (record { lexed = token f; feed = line_feed_before text at (token f) })
      go (Ok tt) = refl
      go (Err r) = refl

  pub comment-faulty : (r : Refusal) → call_fault ed text at ≡ Err r → Err r ≡ next_comment ed text at
  unfolding next_comment
  comment-faulty r e = sym (unless-faulty Err (call_fault ed text at) _ r e)

  pub comment-faultless : call_fault ed text at ≡ Ok tt → comment_of (doc_of (gap 0 at (drop at text))) ≡ next_comment ed text at
  unfolding next_comment
  comment-faultless e = sym (unless_not Err (call_fault ed text at) _ e)
