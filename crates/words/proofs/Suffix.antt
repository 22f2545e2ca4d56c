-- The type behind a number: by the tests of the code; its bounds; that it is the same by itself; and that it is the one word of its
-- edition's list that the bytes begin with.
use mathlib.Core.Path.{◌≡◌, refl, ap, sym, ◌∙◌}
use mathlib.Core.Bool.{Bool, true, false, cond, not, ◌&&◌, ◌||◌}
use mathlib.Core.List.{List, [], ◌∷◌}
use Prim.Native.Nat.{ℕ, zero, suc, ◌+◌, ◌<◌, ◌≤◌}
use native.Mathlib.Omega.{arith}
use native.Mathlib.Nat.{add-zero, add-suc, not-suc-le-zero, le_of_suc-le-suc}
use borrow.Author.Tests.{eq-eqb, ne_eqb, eqb-true, leb-true, leb-false, not-true}
use lib.Dec.{eqb, leb}
use lib.ListN.{length, get_or, take, drop, drop_of_length-le, get_or-eq_default}
use lib.Seq.{drop-cons, get_or-drop}
use Rattle.classes.specs.Bytes.{bytes, begins}
use Rattle.words.specs.Search.{front_len, is_edition2, suffixes1, suffixes2, suffixes_of, suffix_len}
use Rattle.words.specs.code.Rows.{added_suffixes}
use Rattle.classes.proofs.Bools.{false-true, and_left, and_right}
use Rattle.classes.proofs.Cut.{begins-short, begins-cut, begins-uncut}

-- what is so of both lists
pub both-lists : (P : List (List ℕ) → Type 0) → P suffixes2 → P suffixes1 → (ed : ℕ) → P (suffixes_of ed)
unfolding suffixes_of
both-lists P h g ed = go (is_edition2 ed)
  where
    go : (b : Bool) → P (cond b suffixes2 suffixes1)
    go true = h
    go false = g

-- the first of some words, by the test of the first one
module _ (w : List ℕ) (ws : List (List ℕ)) (s : List ℕ) where
  front-yes : begins w s ≡ true → front_len (w ∷ ws) s ≡ length w
  unfolding front_len
  front-yes h = rw h

  front-no : begins w s ≡ false → front_len (w ∷ ws) s ≡ front_len ws s
  unfolding front_len
  front-no h = rw h

front-nil : (s : List ℕ) → front_len [] s ≡ 0
unfolding front_len
front-nil s = refl

-- no word, so not the first, and none behind it
front-zero : (w : List ℕ) (ws : List (List ℕ)) (s : List ℕ) → 0 < length w → front_len (w ∷ ws) s ≡ 0 → (begins w s ≡ false) × (front_len ws s ≡ 0)
front-zero w ws s l e = go (begins w s) refl
  where
    go : (v : Bool) → begins w s ≡ v → (begins w s ≡ false) × (front_len ws s ≡ 0)
    go true h = absurd (omega (arith, front-yes w ws s h))
    go false h = (h, sym (front-no w ws s h) ∙ e)

-- a word that s begins with is no longer than s
step : (b : Bool) (w : List ℕ) (n : ℕ) (s : List ℕ) → begins w s ≡ b → n ≤ length s → cond b (length w) n ≤ length s
step true w n s p h = begins-short w s p
step false w n s p h = h

front-short : (ws : List (List ℕ)) (s : List ℕ) → front_len ws s ≤ length s
unfolding front_len
front-short [] s = omega arith
front-short (w ∷ ws) s = step (begins w s) w (front_len ws s) s refl (front-short ws s)

pub suffix-short : (ed : ℕ) (s : List ℕ) → suffix_len ed s ≤ length s
unfolding suffix_len
suffix-short ed s = front-short (suffixes_of ed) s

-- the word that is found, by itself
alone-step : (w : List ℕ) (ws : List (List ℕ)) (s : List ℕ) (b : Bool) → begins w s ≡ b → front_len ws (take (front_len ws s) s) ≡ front_len ws s
    → front_len (w ∷ ws) (take (cond b (length w) (front_len ws s)) s) ≡ cond b (length w) (front_len ws s)
unfolding front_len
alone-step w ws s true h ih = rw (begins-cut w s (length w) (omega arith) h)
alone-step w ws s false h ih = go (begins w (take (front_len ws s) s)) refl
  where
    go : (b : Bool) → begins w (take (front_len ws s) s) ≡ b → cond (begins w (take (front_len ws s) s)) (length w) (front_len ws (take (front_len ws s) s)) ≡ front_len ws s
    go true k = false-true _ (sym h ∙ begins-uncut w s (front_len ws s) k)
    go false k = rw k ih

front-alone : (ws : List (List ℕ)) (s : List ℕ) → front_len ws (take (front_len ws s) s) ≡ front_len ws s
unfolding front_len
front-alone [] s = refl
front-alone (w ∷ ws) s = alone-step w ws s (begins w s) refl (front-alone ws s)

pub suffix-alone : (ed : ℕ) (s : List ℕ) → suffix_len ed (take (suffix_len ed s) s) ≡ suffix_len ed s
unfolding suffix_len
suffix-alone ed s = front-alone (suffixes_of ed) s

-- no word of a list begins with another: a test that antt computes
abbrev none_with : List ℕ → List (List ℕ) → Bool
none_with w [] = true
none_with w (v ∷ vs) = not (begins w v || begins v w) && none_with w vs

abbrev apart : List (List ℕ) → Bool
apart [] = true
apart (w ∷ ws) = none_with w ws && apart ws

suffixes-apart : (ed : ℕ) → apart (suffixes_of ed) ≡ true
unfolding suffixes1 suffixes2 begins
suffixes-apart ed = both-lists (λ ws. apart ws ≡ true) refl refl ed

-- of two words that begin the same bytes one begins with the other
or_right : (a b : Bool) → b ≡ true → a || b ≡ true
or_right true b h = refl
or_right false b h = h

begin-same : (v w s : List ℕ) → begins v s ≡ true → begins w s ≡ true → begins v w || begins w v ≡ true
unfolding begins
begin-same [] w s h g = refl
begin-same (a ∷ v) [] s h g = or_right (begins (a ∷ v) []) true refl
begin-same (a ∷ v) (b ∷ w) [] h g = false-true _ h
begin-same (a ∷ v) (b ∷ w) (c ∷ s) h g =
    let x : c ≡ a = eqb-true c a (and_left (eqb c a) (begins v s) h) in
    let y : c ≡ b = eqb-true c b (and_left (eqb c b) (begins w s) g) in
    rw (eq-eqb b a (sym y ∙ x), eq-eqb a b (sym x ∙ y)) (begin-same v w s (and_right (eqb c a) (begins v s) h) (and_right (eqb c b) (begins w s) g))

clash : (A : Type 0) (w : List ℕ) (ws : List (List ℕ)) (s : List ℕ) (i : ℕ) → none_with w ws ≡ true → i < length ws → begins w s ≡ true → begins (get_or ws i []) s ≡ true → A
clash A w [] s i t l h g = absurd (not-suc-le-zero l)
clash A w (v ∷ vs) s zero t l h g = false-true A (sym (not-true _ (and_left (not (begins w v || begins v w)) (none_with w vs) t)) ∙ begin-same w v s h g)
clash A w (v ∷ vs) s (suc i) t l h g = clash A w vs s i (and_right (not (begins w v || begins v w)) (none_with w vs) t) (le_of_suc-le-suc l) h g

one_word : (ws : List (List ℕ)) (s : List ℕ) (i j : ℕ) → apart ws ≡ true → i < length ws → j < length ws → begins (get_or ws i []) s ≡ true → begins (get_or ws j []) s ≡ true → i ≡ j
one_word [] s i j t k l h g = absurd (not-suc-le-zero k)
one_word (w ∷ ws) s zero zero t k l h g = refl
one_word (w ∷ ws) s zero (suc j) t k l h g = clash _ w ws s j (and_left (none_with w ws) (apart ws) t) (le_of_suc-le-suc l) h g
one_word (w ∷ ws) s (suc i) zero t k l h g = clash _ w ws s i (and_left (none_with w ws) (apart ws) t) (le_of_suc-le-suc k) g h
one_word (w ∷ ws) s (suc i) (suc j) t k l h g =
    let e : i ≡ j = one_word ws s i j (and_right (none_with w ws) (apart ws) t) (le_of_suc-le-suc k) (le_of_suc-le-suc l) h g in omega arith

front-is : (ws : List (List ℕ)) (s : List ℕ) (i : ℕ) → apart ws ≡ true → i < length ws → begins (get_or ws i []) s ≡ true → front_len ws s ≡ length (get_or ws i [])
front-is [] s i t k h = absurd (not-suc-le-zero k)
front-is (w ∷ ws) s zero t k h = front-yes w ws s h
front-is (w ∷ ws) s (suc i) t k h = go (begins w s) refl (front-is ws s i (and_right (none_with w ws) (apart ws) t) (le_of_suc-le-suc k) h)
  where
    go : (b : Bool) → begins w s ≡ b → front_len ws s ≡ length (get_or ws i []) → front_len (w ∷ ws) s ≡ length (get_or ws i [])
    go true e ih = clash _ w ws s i (and_left (none_with w ws) (apart ws) t) (le_of_suc-le-suc k) e h
    go false e ih = front-no w ws s e ∙ ih

front-none : (ws : List (List ℕ)) (s : List ℕ) → ((i : ℕ) → i < length ws → begins (get_or ws i []) s ≡ false) → front_len ws s ≡ 0
unfolding front_len
front-none [] s h = refl
front-none (w ∷ ws) s h = rw (h 0 (omega arith)) (front-none ws s (λ i k. h (suc i) (omega arith)))

-- no two words of an edition's list begin the same bytes; the type is the one word that does, or there is none
pub one-suffix : (ed : ℕ) (s : List ℕ) (i j : ℕ) → i < length (suffixes_of ed) → j < length (suffixes_of ed)
    → begins (get_or (suffixes_of ed) i []) s ≡ true → begins (get_or (suffixes_of ed) j []) s ≡ true → i ≡ j
one-suffix ed s i j k l h g = one_word (suffixes_of ed) s i j (suffixes-apart ed) k l h g

pub suffix-is : (ed : ℕ) (s : List ℕ) (i : ℕ) → i < length (suffixes_of ed) → begins (get_or (suffixes_of ed) i []) s ≡ true → suffix_len ed s ≡ length (get_or (suffixes_of ed) i [])
unfolding suffix_len
suffix-is ed s i k h = front-is (suffixes_of ed) s i (suffixes-apart ed) k h

pub suffix-none : (ed : ℕ) (s : List ℕ) → ((i : ℕ) → i < length (suffixes_of ed) → begins (get_or (suffixes_of ed) i []) s ≡ false) → suffix_len ed s ≡ 0
unfolding suffix_len
suffix-none ed s h = front-none (suffixes_of ed) s h

-- a type of edition 1 is one of edition 2 too; where there is none, edition 2 has one that it adds, or none
module _ (s : List ℕ) where
  pub later-kept : (n : ℕ) → front_len suffixes1 s ≡ n → (n ≡ 0 → ⊥) → front_len suffixes2 s ≡ n
  unfolding suffixes_of suffixes1 suffixes2
  later-kept n e h = by8 (begins (bytes "u8") s) refl
    where
      by128 : (v : Bool) → begins (bytes "u128") s ≡ v → begins (bytes "u64") s ≡ false → begins (bytes "u8") s ≡ false → front_len suffixes2 s ≡ n
      by128 true x y z = front-is suffixes2 s 4 (suffixes-apart 2) (omega arith) x ∙ sym (front-no _ _ s z ∙ front-no _ _ s y ∙ front-yes _ _ s x) ∙ e
      by128 false x y z = absurd (h (sym e ∙ front-no _ _ s z ∙ front-no _ _ s y ∙ front-no _ _ s x ∙ front-nil s))

      by64 : (v : Bool) → begins (bytes "u64") s ≡ v → begins (bytes "u8") s ≡ false → front_len suffixes2 s ≡ n
      by64 true y z = front-is suffixes2 s 3 (suffixes-apart 2) (omega arith) y ∙ sym (front-no _ _ s z ∙ front-yes _ _ s y) ∙ e
      by64 false y z = by128 (begins (bytes "u128") s) refl y z

      by8 : (v : Bool) → begins (bytes "u8") s ≡ v → front_len suffixes2 s ≡ n
      by8 true z = front-is suffixes2 s 0 (suffixes-apart 2) (omega arith) z ∙ sym (front-yes _ _ s z) ∙ e
      by8 false z = by64 (begins (bytes "u64") s) refl z

  pub later-added : front_len suffixes1 s ≡ 0 → front_len suffixes2 s ≡ front_len added_suffixes s
  unfolding suffixes1 suffixes2 added_suffixes front_len
  later-added e =
      let a = front-zero (bytes "u8") (bytes "u64" ∷ bytes "u128" ∷ []) s (omega arith) e in
      let b = front-zero (bytes "u64") (bytes "u128" ∷ []) s (omega arith) a.1 in
      let c = front-zero (bytes "u128") [] s (omega arith) b.1 in
      rw (a.0, b.0, c.0)

-- every type begins with `u`
other_byte : (v : Bool) (s : List ℕ) → (get_or s 0 0 ≡ 117 → ⊥) → front_len (cond v suffixes2 suffixes1) s ≡ 0
unfolding suffixes1 suffixes2 front_len begins
other_byte true [] h = refl
other_byte false [] h = refl
other_byte true (a ∷ s) h = rw (ne_eqb a 117 h)
other_byte false (a ∷ s) h = rw (ne_eqb a 117 h)

-- the n bytes of a text from `at` + k on, with zeros past its end: a word without zeros begins them as it begins the text from there on
abbrev bytes_at : List ℕ → ℕ → ℕ → ℕ → List ℕ
bytes_at text at k zero = []
bytes_at text at k (suc n) = get_or text (at + k) 0 ∷ bytes_at text at (suc k) n

abbrev plain : List ℕ → Bool
plain [] = true
plain (a ∷ w) = not (eqb 0 a) && plain w

begins-at : (text : List ℕ) (at k n : ℕ) (w : List ℕ) → plain w ≡ true → length w ≤ n → begins w (drop (at + k) text) ≡ begins w (bytes_at text at k n)
unfolding begins
begins-at text at k n [] p h = refl
begins-at text at k zero (a ∷ w) p h = absurd (not-suc-le-zero h)
begins-at text at k (suc n) (a ∷ w) p h =
    go (leb (length text) (at + k)) refl (begins-at text at (suc k) n w (and_right (not (eqb 0 a)) (plain w) p) (le_of_suc-le-suc h))
  where
    go : (v : Bool) → leb (length text) (at + k) ≡ v → begins w (drop (at + suc k) text) ≡ begins w (bytes_at text at (suc k) n)
        → begins (a ∷ w) (drop (at + k) text) ≡ begins (a ∷ w) (bytes_at text at k (suc n))
    go true q ih =
        let o : length text ≤ at + k = leb-true (length text) (at + k) q in
        rw (drop_of_length-le text o, get_or-eq_default text 0 o, not-true (eqb 0 a) (and_left (not (eqb 0 a)) (plain w) p))
    go false q ih = rw (drop-cons text (at + k) 0 (leb-false (length text) (at + k) q), ← add-suc at k) (ap (λ (v : Bool). eqb (get_or text (at + k) 0) a && v) ih)

-- words of at most four bytes
abbrev short : List (List ℕ) → Bool
short [] = true
short (w ∷ ws) = (plain w && leb (length w) 4) && short ws

front_at : (text : List ℕ) (at : ℕ) (ws : List (List ℕ)) → short ws ≡ true → front_len ws (drop (at + 0) text) ≡ front_len ws (bytes_at text at 0 4)
unfolding front_len
front_at text at [] h = refl
front_at text at (w ∷ ws) h =
    let g = and_left (plain w && leb (length w) 4) (short ws) h in
    rw (begins-at text at 0 4 w (and_left (plain w) (leb (length w) 4) g) (leb-true (length w) 4 (and_right (plain w) (leb (length w) 4) g)), front_at text at ws (and_right (plain w && leb (length w) 4) (short ws) h))

-- the type at a place of a text, by the bytes there
module _ (text : List ℕ) (at : ℕ) where
  pub no-suffix : (ed b : ℕ) → b ≡ get_or text at 0 → (b ≡ 117 → ⊥) → suffix_len ed (drop at text) ≡ 0
  unfolding suffix_len suffixes_of
  no-suffix ed b e h =
      other_byte (is_edition2 ed) (drop at text) (λ q. h (e ∙ ap (λ (i : ℕ). get_or text i 0) (sym (add-zero at)) ∙ sym (get_or-drop at text 0 0) ∙ q))

  -- `u` stands in the text
  pub u-inside : (a : ℕ) → a ≡ get_or text at 0 → a ≡ 117 → at < length text
  u-inside a e h = go (leb (length text) at) refl
    where
      go : (v : Bool) → leb (length text) at ≡ v → at < length text
      go true q = absurd (omega (arith, sym h ∙ e ∙ get_or-eq_default text 0 (leb-true (length text) at q)))
      go false q = leb-false (length text) at q

  module _ (a b c d : ℕ) (ea : a ≡ get_or text at 0) (u : a ≡ 117) (eb : b ≡ get_or text (at + 1) 0) (ec : c ≡ get_or text (at + 2) 0) (edd : d ≡ get_or text (at + 3) 0) where
    four_bytes : (ws : List (List ℕ)) → short ws ≡ true → front_len ws (drop at text) ≡ front_len ws (117 ∷ b ∷ c ∷ d ∷ [])
    four_bytes ws h =
        let z : at + 0 ≡ at = add-zero at in
        ap (λ (i : ℕ). front_len ws (drop i text)) (sym z) ∙ front_at text at ws h ∙ rw (z, ← ea, u, ← eb, ← ec, ← edd)

    module _ (edition n : ℕ) (en : n ≡ front_len suffixes1 (117 ∷ b ∷ c ∷ d ∷ [])) where
      first-here : n ≡ front_len suffixes1 (drop at text)
      unfolding suffixes1
      first-here = en ∙ sym (four_bytes suffixes1 refl)

      pub suffix-first : (n ≡ 0 → ⊥) → n ≡ suffix_len edition (drop at text)
      unfolding suffix_len suffixes_of
      suffix-first h = go (is_edition2 edition)
        where
          go : (v : Bool) → n ≡ front_len (cond v suffixes2 suffixes1) (drop at text)
          go true = sym (later-kept (drop at text) n (sym first-here) h)
          go false = first-here

      module _ (h : n ≡ 0) where
        pub suffix-added : edition ≡ 2 → (m : ℕ) → m ≡ front_len added_suffixes (117 ∷ b ∷ c ∷ d ∷ []) → m ≡ suffix_len edition (drop at text)
        unfolding suffix_len suffixes_of added_suffixes
        suffix-added e m em =
            rw (eq-eqb edition 2 e) (em ∙ sym (four_bytes added_suffixes refl) ∙ sym (later-added (drop at text) (sym first-here ∙ h)))

        pub suffix-plain : (edition ≡ 2 → ⊥) → 0 ≡ suffix_len edition (drop at text)
        unfolding suffix_len suffixes_of
        suffix-plain e = rw (ne_eqb edition 2 e) (sym h ∙ first-here)
