-- The bytes of a token can stand in a line, but for a string's, which are below 128: a name, a keyword and a number have name bytes
-- alone, and a mark the bytes of its row.
use mathlib.Core.Path.{◌≡◌, refl, sym, subst}
use mathlib.Core.Bool.{Bool, true, false, cond, ◌&&◌, ◌||◌}
use mathlib.Core.List.{List, [], ◌∷◌}
use Prim.Native.Nat.{ℕ, suc, ◌+◌, ◌-◌, ◌<◌, ◌≤◌}
use native.Mathlib.Omega.{arith}
use borrow.Author.Tests.{eqb-true, ltb-false}
use lib.Dec.{eqb, ltb, leb}
use lib.ListN.{length, get_or, take}
use lib.Seq.{take-suc}
use Rattle.gap.specs.Gap.{End, clear, broken, gap}
use Rattle.classes.specs.Bytes.{begins}
use Rattle.classes.specs.Class.{in_range, is_digit, is_letter, is_name, is_ascii, shows}
use Rattle.classes.specs.Run.{run_len, all_of}
use Rattle.classes.proofs.Bools.{false-true, and_left, and_right}
use Rattle.classes.proofs.All.{all_join, all-run, all-front, all_more, name-shows, shows-ascii}
use Rattle.words.specs.Kinds.{ByteStringValue}
use Rattle.words.specs.Tables.{Entry, long_marks, double_marks, single_marks, marks}
use Rattle.words.specs.Search.{longer, longest, mark_of, kind_of}
use Rattle.words.specs.Quote.{Quote, quote_from}
use Rattle.words.specs.declared.Fit.{Fit}
use Rattle.std.proofs.Common.{Ok as Found, Err as Missing}
use Rattle.words.proofs.Quotes.{Within, within, quote-there}
use Rattle.tokens.specs.Token.{Front, sized, fault, number_token, string_by, string, opens_string, string_refusal, name, word_token, mark, find_token, Scanned, tok, bad, placed, behind_gap, scan}
use Rattle.tokens.proofs.Editions.{Named, length_of, is-number}
use Rattle.tokens.proofs.Spelled.{begins-is}

-- of a token's kind and word
unfoldable pub legible : ℕ → List ℕ → Bool
legible k w = cond (eqb k ByteStringValue) (all_of is_ascii w) (all_of shows w)

pub shown-legible : (k : ℕ) (w : List ℕ) → all_of shows w ≡ true → legible k w ≡ true
unfolding legible
shown-legible k w h = go (eqb k ByteStringValue)
  where
    go : (b : Bool) → cond b (all_of is_ascii w) (all_of shows w) ≡ true
    go true = all_more shows is_ascii shows-ascii w h
    go false = h

-- what stands at the front of the bytes s
abbrev Legible : List ℕ → Front → Type 0
Legible s (sized k n) = legible k (take n s) ≡ true
Legible s (fault m i j) = Unit {0}

legible-cond : (s : List ℕ) (b : Bool) (x y : Front) → (b ≡ true → Legible s x) → (b ≡ false → Legible s y) → Legible s (cond b x y)
legible-cond s true x y f g = f refl
legible-cond s false x y f g = g refl

named-legible : (k n : ℕ) (s : List ℕ) → Named s n → Legible s (sized k n)
named-legible k n s h = shown-legible k (take n s) (all_more is_name shows name-shows (take n s) h)

-- numbers
number-legible : (ed : ℕ) (s : List ℕ) → Legible s (number_token ed s)
number-legible ed s =
    let n = is-number ed s in
    subst (Legible s) (sym n.is) (named-legible n.kind (length_of (number_token ed s)) s n.named)

-- strings
open-ascii : (a b : ℕ) → opens_string a b ≡ true → (is_ascii a ≡ true) × (is_ascii b ≡ true)
unfolding opens_string is_ascii
open-ascii a b h = (go (eqb a 120) refl (eqb a 98) refl (and_left (eqb a 120 || eqb a 98) (eqb b 34) h), small b 34 (and_right (eqb a 120 || eqb a 98) (eqb b 34) h) refl)
  where
    small : (x n : ℕ) → eqb x n ≡ true → ltb n 128 ≡ true → ltb x 128 ≡ true
    small x n e g = subst (λ (m : ℕ). ltb m 128 ≡ true) (sym (eqb-true x n e)) g

    go : (p : Bool) → eqb a 120 ≡ p → (q : Bool) → eqb a 98 ≡ q → p || q ≡ true → ltb a 128 ≡ true
    go true u q v i = small a 120 u refl
    go false u true v i = small a 98 v refl
    go false u false v i = false-true _ i

module _ (a b : ℕ) (u : List ℕ) (ha : is_ascii a ≡ true) (hb : is_ascii b ≡ true) where
  -- up to the closing quote, which is at q
  to-quote : (q : ℕ) → q ≤ 2 + run_len is_ascii u → quote_from false 2 u ≡ Found q → all_of is_ascii (take (q + 1) (a ∷ b ∷ u)) ≡ true
  unfolding all_of is_ascii
  to-quote q g e =
      let w : (2 ≤ q) × (q < 2 + length u) = subst (Within 2 (length u)) e (within u false 2) in
      let n : q + 1 ≡ suc (suc (suc (q - 2))) = omega arith in
      let c : all_of is_ascii (get_or u (q - 2) 0 ∷ []) ≡ true = rw (quote-there u false 2 q e) in
      rw (n, ha, hb) (subst (λ (v : List ℕ). all_of is_ascii v ≡ true) (sym (take-suc u (q - 2) 0 (omega arith))) (all_join is_ascii (take (q - 2) u) (get_or u (q - 2) 0 ∷ []) (all-front is_ascii (q - 2) u (omega arith)) c))

  string-legible : (m : ℕ) → Legible (a ∷ b ∷ u) (string m (a ∷ b ∷ u))
  unfolding string string_by legible all_of
  string-legible m = go (quote_from false 2 u) refl
    where
      go : (q : Quote) → quote_from false 2 u ≡ q → Legible (a ∷ b ∷ u) (string_by m (2 + run_len is_ascii u) q)
      go (Missing e) k = tt
      go (Found q) k = legible-cond (a ∷ b ∷ u) (ltb (2 + run_len is_ascii u) q) _ _ (λ _. tt) (λ c. to-quote q (ltb-false (2 + run_len is_ascii u) q c) k)

-- names and keywords
name-legible : (s : List ℕ) → Legible s (name s)
unfolding name
name-legible s = named-legible (kind_of (take (run_len is_name s) s)) (run_len is_name s) s (all-run is_name s)

word-legible : (a : ℕ) (s : List ℕ) → Legible (a ∷ s) (word_token (a ∷ s))
unfolding word_token opens_string
word-legible a s = legible-cond (a ∷ s) (opens_string a (get_or s 0 0)) _ _ (opened s) (λ _. name-legible (a ∷ s))
  where
    opened : (s : List ℕ) → opens_string a (get_or s 0 0) ≡ true → Legible (a ∷ s) (string (string_refusal a) (a ∷ s))
    opened [] h = false-true _ (and_right (eqb a 120 || eqb a 98) false h)
    opened (b ∷ u) h = let d = open-ascii a b h in string-legible a b u d.0 d.1 (string_refusal a)

-- marks
abbrev rows : List Entry → Bool
rows [] = true
rows (e ∷ es) = all_of shows e.word && rows es

abbrev Shown : List ℕ → Type 0
Shown w = all_of shows w ≡ true

longest-shown : (es : List Entry) (s : List ℕ) → rows es ≡ true → Shown (take (longest es s).len s)
unfolding longest all_of
longest-shown [] s h = refl
longest-shown (e ∷ es) s h = go (begins e.word s) refl (longest-shown es s (and_right (all_of shows e.word) (rows es) h))
  where
    go : (b : Bool) → begins e.word s ≡ b → Shown (take (longest es s).len s) → Shown (take (longer b e (longest es s)).len s)
    go false k i = i
    go true k i = pick (leb (longest es s).len (length e.word))
      where
        pick : (c : Bool) → Shown (take (cond {A = Fit} c (record { len = length e.word; kind = e.kind }) (longest es s)).len s)
        pick true = subst Shown (sym (begins-is e.word s k)) (and_left (all_of shows e.word) (rows es) h)
        pick false = i

all-rows : rows marks ≡ true
unfolding marks long_marks double_marks single_marks all_of shows in_range
all-rows = refl

mark-legible : (s : List ℕ) → Legible s (mark (mark_of s))
unfolding mark mark_of
mark-legible s = legible-cond s (eqb (longest marks s).len 0) _ _ (λ _. tt) (λ _. shown-legible (longest marks s).kind (take (longest marks s).len s) (longest-shown marks s all-rows))

find-legible : (ed : ℕ) (s : List ℕ) → Legible s (find_token ed s)
unfolding find_token legible all_of
find-legible ed [] = refl
find-legible ed (a ∷ s) =
    legible-cond (a ∷ s) (is_digit a) _ _ (λ _. number-legible ed (a ∷ s))
    (λ _. legible-cond (a ∷ s) (is_letter a) _ _ (λ _. word-legible a s) (λ _. mark-legible (a ∷ s)))

-- the same of the next token of any bytes
abbrev pub LegibleToken : Scanned → Type 0
LegibleToken (tok k s e w r) = legible k w ≡ true
LegibleToken (bad r) = Unit {0}

placed-legible : (p : ℕ) (s : List ℕ) (x : Front) → Legible s x → LegibleToken (placed p s x)
unfolding placed
placed-legible p s (sized k n) h = h
placed-legible p s (fault m i j) h = tt

behind-legible : (ed : ℕ) (e : End) → LegibleToken (behind_gap ed e)
unfolding behind_gap
behind-legible ed (clear p s) = placed-legible p s (find_token ed s) (find-legible ed s)
behind-legible ed (broken o q) = tt

pub lex-legible : (ed p : ℕ) (s : List ℕ) → LegibleToken (scan ed p s)
unfolding scan
lex-legible ed p s = behind-legible ed (gap 0 p s).last
