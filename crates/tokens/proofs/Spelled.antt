-- A token of a mark's kind is spelled as that mark is.
use mathlib.Core.Path.{◌≡◌, refl, ap, sym, ◌∙◌, subst}
use mathlib.Core.Bool.{Bool, true, false, cond, not, ◌&&◌, ◌||◌}
use mathlib.Core.List.{List, [], ◌∷◌}
use Prim.Native.Nat.{ℕ, zero, suc, ◌+◌, ◌-◌, ◌<◌, ◌≤◌}
use native.Mathlib.Numerals.{add-one}
use native.Mathlib.Omega.{arith}
use borrow.Author.Tests.{eqb-true, eqb-false, not-true}
use lib.Dec.{eqb, ltb}
use lib.ListN.{length, get_or, take, drop, length-take, length-drop}
use lib.Seq.{drop-drop}
use Rattle.gap.specs.Gap.{End, clear, broken, gap}
use Rattle.tokens.proofs.Lexing.{Good, Sound, lex-sound}
use Rattle.classes.specs.Bytes.{bytes, begins}
use Rattle.classes.specs.Class.{is_digit, is_letter, is_name, is_ascii}
use Rattle.classes.specs.Run.{run_len}
use Rattle.classes.proofs.Bools.{false-true, and_left, and_right}
use Rattle.words.specs.Tables.{Entry, keywords, long_marks, double_marks, single_marks, marks}
use Rattle.words.specs.Search.{same, lookup, kind_of, mark_of, first_fit, suffix_len}
use Rattle.words.specs.Quote.{Quote, quote_from}
use Rattle.std.proofs.Common.{Ok as Found, Err as Missing}
use Rattle.words.proofs.Marks.{mark-first}
use Rattle.tokens.specs.Token.{Front, sized, fault, typed, decimal_len, decimal, hex_typed, hex_len, hex_number, number_token, string_by, string, opens_string, string_refusal, name, word_token, mark, find_token, Scanned, tok, bad, placed, behind_gap, scan}

-- whether some mark has the kind, and the spelling of the first that has
abbrev pub is_mark : List Entry → ℕ → Bool
is_mark [] k = false
is_mark (e ∷ es) k = eqb e.kind k || is_mark es k

abbrev pub spelling_in : List Entry → ℕ → List ℕ
spelling_in [] k = []
spelling_in (e ∷ es) k = cond (eqb e.kind k) e.word (spelling_in es k)

unfoldable pub mark_kind : ℕ → Bool
mark_kind k = is_mark marks k

unfoldable pub spelling : ℕ → List ℕ
spelling k = spelling_in marks k

-- two tests that antt computes: each mark is the one that its kind finds; and no keyword, name, number or string has a mark's kind
abbrev all : (Entry → Bool) → List Entry → Bool
all p [] = true
all p (e ∷ es) = p e && all p es

found-itself : all (λ e. same (spelling e.kind) e.word) marks ≡ true
unfolding spelling marks long_marks double_marks single_marks same
found-itself = refl

no-keyword : all (λ e. not (mark_kind e.kind)) keywords ≡ true
unfolding mark_kind marks long_marks double_marks single_marks keywords
no-keyword = refl

-- the front of the bytes s, where it is a mark's
abbrev Spelt : List ℕ → Front → Type 0
Spelt s (sized k n) = mark_kind k ≡ true → take n s ≡ spelling k
Spelt s (fault m i j) = Unit {0}

spelt-cond : (s : List ℕ) (b : Bool) (x y : Front) → Spelt s x → Spelt s y → Spelt s (cond b x y)
spelt-cond s true x y f g = f
spelt-cond s false x y f g = g

not-mark : (k : ℕ) (A : Type 0) → mark_kind k ≡ false → mark_kind k ≡ true → A
not-mark k A h g = false-true A (sym h ∙ g)

kind_1 : mark_kind 1 ≡ false
unfolding mark_kind marks long_marks double_marks single_marks
kind_1 = refl

kind_2 : mark_kind 2 ≡ false
unfolding mark_kind marks long_marks double_marks single_marks
kind_2 = refl

kind_3 : mark_kind 3 ≡ false
unfolding mark_kind marks long_marks double_marks single_marks
kind_3 = refl

kind-4 : mark_kind 4 ≡ false
unfolding mark_kind marks long_marks double_marks single_marks
kind-4 = refl

typed-kind : (b : Bool) → mark_kind (cond b 1 2) ≡ false
typed-kind true = kind_1
typed-kind false = kind_2

typed-spelt : (s : List ℕ) (n v : ℕ) → Spelt s (typed n v)
unfolding typed
typed-spelt s n v = not-mark (cond (eqb v 0) 1 2) (take (n + v) s ≡ spelling (cond (eqb v 0) 1 2)) (typed-kind (eqb v 0))

number-spelt : (ed : ℕ) (s : List ℕ) → Spelt s (number_token ed s)
unfolding number_token hex_number hex_typed decimal
number-spelt ed s =
    spelt-cond s (begins (bytes "0x") s) _ _
    (spelt-cond s (eqb (hex_len ed s + suffix_len ed (drop (hex_len ed s) s)) 2) (sized 1 1) (typed (hex_len ed s) (suffix_len ed (drop (hex_len ed s) s))) (not-mark 1 _ kind_1) (typed-spelt s (hex_len ed s) (suffix_len ed (drop (hex_len ed s) s))))
    (typed-spelt s (decimal_len ed s) (suffix_len ed (drop (decimal_len ed s) s)))

string-spelt : (s : List ℕ) (m h : ℕ) (q : Quote) → Spelt s (string_by m h q)
unfolding string_by
string-spelt s m h (Missing e) = tt
string-spelt s m h (Found q) = spelt-cond s (ltb h q) (fault 9 h _) (sized 3 _) tt (not-mark 3 _ kind_3)

look-step : (e : Entry) (k : ℕ) (b : Bool) → not (mark_kind e.kind) ≡ true → mark_kind k ≡ false → mark_kind (cond b e.kind k) ≡ false
look-step e k true h g = not-true _ h
look-step e k false h g = g

look-kind : (t : List Entry) (w : List ℕ) → all (λ e. not (mark_kind e.kind)) t ≡ true → mark_kind (lookup t w) ≡ false
unfolding lookup
look-kind [] w h = kind-4
look-kind (e ∷ es) w h =
    look-step e (lookup es w) (same w e.word) (and_left (not (mark_kind e.kind)) (all (λ e. not (mark_kind e.kind)) es) h)
    (look-kind es w (and_right (not (mark_kind e.kind)) (all (λ e. not (mark_kind e.kind)) es) h))

name-spelt : (s : List ℕ) → Spelt s (name s)
unfolding name kind_of
name-spelt s = not-mark (lookup keywords (take (run_len is_name s) s)) _ (look-kind keywords (take (run_len is_name s) s) no-keyword)

same-is : (v w : List ℕ) → same v w ≡ true → v ≡ w
unfolding same
same-is [] [] h = refl
same-is [] (b ∷ w) h = false-true _ h
same-is (a ∷ v) [] h = false-true _ h
same-is (a ∷ v) (b ∷ w) h = rw (eqb-true a b (and_left (eqb a b) (same v w) h)) (ap (◌∷◌ b) (same-is v w (and_right (eqb a b) (same v w) h)))

pub begins-is : (w s : List ℕ) → begins w s ≡ true → take (length w) s ≡ w
unfolding begins
begins-is [] s h = refl
begins-is (a ∷ w) [] h = false-true _ h
begins-is (a ∷ w) (b ∷ s) h = rw (eqb-true b a (and_left (eqb b a) (begins w s) h)) (ap (◌∷◌ a) (begins-is w s (and_right (eqb b a) (begins w s) h)))

fits : (t : List Entry) (s : List ℕ) → all (λ e. same (spelling e.kind) e.word) t ≡ true → 0 < (first_fit t s).len → take (first_fit t s).len s ≡ spelling (first_fit t s).kind
unfolding first_fit
fits [] s h g = absurd (omega arith)
fits (e ∷ es) s h g = go (begins e.word s) refl (fits es s (and_right (same (spelling e.kind) e.word) (all (λ e. same (spelling e.kind) e.word) es) h))
  where
    go : (b : Bool) → begins e.word s ≡ b → (0 < (first_fit es s).len → take (first_fit es s).len s ≡ spelling (first_fit es s).kind)
        → take (first_fit (e ∷ es) s).len s ≡ spelling (first_fit (e ∷ es) s).kind
    go true k ih =
        rw k (begins-is e.word s k ∙ sym (same-is (spelling e.kind) e.word (and_left (same (spelling e.kind) e.word) (all (λ e. same (spelling e.kind) e.word) es) h)))
    go false k ih = rw k (ih (rw k at g))

positive : (n : ℕ) → (n ≡ 0 → ⊥) → 0 < n
positive n h = omega arith

mark-spelt : (s : List ℕ) → Spelt s (mark (mark_of s))
unfolding mark
mark-spelt s = go (eqb (mark_of s).len 0) refl
  where
    go : (b : Bool) → eqb (mark_of s).len 0 ≡ b → Spelt s (cond b (fault 5 0 0) (sized (mark_of s).kind (mark_of s).len))
    go true e = tt
    go false e = λ _. rw (mark-first s) (fits marks s found-itself (rw (mark-first s) at (positive (mark_of s).len (eqb-false (mark_of s).len 0 e))))

pub find-spelled : (ed a : ℕ) (s : List ℕ) → Spelt (a ∷ s) (find_token ed (a ∷ s))
unfolding find_token word_token string
find-spelled ed a s =
    spelt-cond (a ∷ s) (is_digit a) _ _ (number-spelt ed (a ∷ s))
    (spelt-cond (a ∷ s) (is_letter a) _ _
    (spelt-cond (a ∷ s) (opens_string a (get_or s 0 0)) _ _ (string-spelt (a ∷ s) (string_refusal a) (2 + run_len is_ascii (drop 2 (a ∷ s))) (quote_from false 2 (drop 2 (a ∷ s)))) (name-spelt (a ∷ s)))
    (mark-spelt (a ∷ s)))

-- the same of the next token of any bytes
abbrev pub SpeltToken : Scanned → Type 0
SpeltToken (tok k s e w r) = mark_kind k ≡ true → w ≡ spelling k
SpeltToken (bad r) = Unit {0}

placed-spelt : (q : ℕ) (s : List ℕ) (x : Front) → Spelt s x → SpeltToken (placed q s x)
unfolding placed
placed-spelt q s (sized k n) h = h
placed-spelt q s (fault m i j) h = tt

module _ (ed : ℕ) where
  none-spelt : (q : ℕ) → SpeltToken (placed q [] (find_token ed []))
  unfolding placed find_token mark_kind marks long_marks double_marks single_marks
  none-spelt q h = false-true _ h

  behind-spelt : (e : End) → SpeltToken (behind_gap ed e)
  unfolding behind_gap
  behind-spelt (clear q []) = none-spelt q
  behind-spelt (clear q (a ∷ s)) = placed-spelt q (a ∷ s) (find_token ed (a ∷ s)) (find-spelled ed a s)
  behind-spelt (broken o q) = tt

  pub lex-spelt : (p : ℕ) (s : List ℕ) → SpeltToken (scan ed p s)
  unfolding scan
  lex-spelt p s = behind-spelt (gap 0 p s).last

-- `>>` has two bytes, and behind its first stands its second with the rest
shift-kind : mark_kind 34 ≡ true
unfolding mark_kind marks long_marks double_marks single_marks
shift-kind = refl

shift_word : spelling 34 ≡ 62 ∷ 62 ∷ []
unfolding spelling marks long_marks double_marks single_marks
shift_word = refl

split : (t : List ℕ) (n : ℕ) → take n t ≡ 62 ∷ 62 ∷ [] → n ≤ length t → (n ≡ 2) × (drop 1 t ≡ 62 ∷ drop n t)
split [] n h g = absurd (omega (arith, rw length-take at (ap length h)))
split (a ∷ t) n h g = go n t h (ap length h) g
  where
    go : (n : ℕ) (t : List ℕ) → take n (a ∷ t) ≡ 62 ∷ 62 ∷ [] → length (take n (a ∷ t)) ≡ 2 → n ≤ length (a ∷ t) → (n ≡ 2) × (t ≡ 62 ∷ drop n (a ∷ t))
    go zero t h l k = absurd (omega arith)
    go (suc zero) [] h l k = absurd (omega arith)
    go (suc zero) (b ∷ t) h l k = absurd (omega arith)
    go (suc (suc zero)) [] h l k = absurd (omega arith)
    go (suc (suc zero)) (b ∷ t) h l k = (refl, cc)
    go (suc (suc (suc n))) [] h l k = absurd (omega arith)
    go (suc (suc (suc n))) (b ∷ []) h l k = absurd (omega arith)
    go (suc (suc (suc n))) (b ∷ c ∷ t) h l k = absurd (omega arith)

pub shift_split : (ed : ℕ) (text : List ℕ) (at s e : ℕ) (w r : List ℕ) → at ≤ length text → scan ed at (drop at text) ≡ tok 34 s e w r → (e ≡ s + 2) × (62 ∷ r ≡ drop (suc s) text)
shift_split ed text at s e w r h l =
    let g : Good text at 34 s e w r = subst (Sound text at) l (lex-sound ed text at h) in
    let p : w ≡ 62 ∷ 62 ∷ [] = subst SpeltToken l (lex-spelt ed at (drop at text)) shift-kind ∙ shift_word in
    let q = split (drop s text) (e - s) (sym g.spelled ∙ p) (rw length-drop (omega (arith, g.within))) in
    let n : s + (e - s) ≡ e = omega (arith, g.ordered) in
    (omega (arith, q.0, g.ordered), sym (ap (λ (k : ℕ). drop k text) (sym (add-one s)) ∙ sym (drop-drop 1 s text) ∙ q.1 ∙ rw (drop-drop (e - s) s text, n, ← g.behind)))
