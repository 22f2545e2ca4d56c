-- A name beside the keywords: a keyword is known by its first byte, the number of the others and its length.
use mathlib.Core.Path.{◌≡◌, refl, ap, sym, ◌∙◌}
use mathlib.Core.Bool.{Bool, true, false, cond, not, ◌&&◌}
use mathlib.Core.List.{List, [], ◌∷◌}
use Prim.Native.Nat.{ℕ, zero, suc, ◌+◌, ◌-◌, ◌*◌, ◌<◌, ◌≤◌, min}
use native.Mathlib.Omega.{arith}
use borrow.Author.Tests.{eqb-false, eq-eqb, ne_eqb, not-true, leb-true, leb-false}
use lib.Dec.{eqb, leb}
use lib.ListN.{length, get_or, take, drop, length-take, length-drop}
use lib.Seq.{slice, take_all, get_or-take, get_or-drop}
use Rattle.words.specs.Kinds.{Identifier}
use Rattle.words.specs.Tables.{Entry, keywords}
use Rattle.words.specs.Search.{same, lookup, kind_of}
use Rattle.words.specs.code.Rows.{number, packed_kind}
use Rattle.classes.proofs.Bools.{and_left, and_right, false-true}
use Rattle.words.proofs.Numbers.{Small, part_small, number_step}
use Rattle.words.proofs.Rows.{three-off}
use Rattle.words.proofs.Tests.{same-equal, all, all_head, all_tail, plain, plain_byte, plain-tail}

-- bytes of one length that have one number are the same
low : (a b m n : ℕ) → a < 256 → b < 256 → a + 256 * m ≡ b + 256 * n → (a ≡ b) × (m ≡ n)
low a b m n h k e = (omega arith, omega arith)

alike : (w v : List ℕ) → length w ≡ length v → Small w → Small v → number w ≡ number v → same w v ≡ true
unfolding same number
alike [] [] l p q e = refl
alike [] (b ∷ v) l p q e = absurd (omega arith)
alike (a ∷ w) [] l p q e = absurd (omega arith)
alike (a ∷ w) (b ∷ v) l p q e =
    let u : (a ≡ b) × (number w ≡ number v) = low a b (number w) (number v) (p 0) (q 0) e in
    rw (eq-eqb a b u.0) (alike w v (omega arith) (λ i. p (suc i)) (λ i. q (suc i)) u.1)

compared : (w v : List ℕ) → Small w → Small v
    → eqb (get_or v 0 0) (get_or w 0 0) && (eqb (number (drop 1 v)) (number (drop 1 w)) && eqb (length v) (length w)) ≡ same w v
compared w v p q = go (same w v) refl
  where
    go : (b : Bool) → same w v ≡ b → eqb (get_or v 0 0) (get_or w 0 0) && (eqb (number (drop 1 v)) (number (drop 1 w)) && eqb (length v) (length w)) ≡ b
    go true e =
        rw (same-equal w v e, eq-eqb (get_or v 0 0) (get_or v 0 0) refl, eq-eqb (number (drop 1 v)) (number (drop 1 v)) refl, eq-eqb (length v) (length v) refl)
    go false e =
        three-off (get_or v 0 0) (get_or w 0 0) (number (drop 1 v)) (number (drop 1 w)) (length v) (length w)
        (λ a m l. false-true _ (sym e ∙ alike w v (sym l) p q (number_step w 0 ∙ rw (← a, ← m) (sym (number_step v 0)))))

plain-small : (w : List ℕ) → plain w ≡ true → Small w
plain-small [] h i = omega arith
plain-small (b ∷ w) h zero = plain_byte b w h
plain-small (b ∷ w) h (suc i) = plain-small w (plain-tail b w h) i

-- a keyword: of two to nine bytes, and of a kind of its own
is_keyword : Entry → Bool
is_keyword e = (leb 2 (length e.word) && leb (length e.word) 9) && (plain e.word && not (eqb e.kind Identifier))

all-keywords : all is_keyword keywords ≡ true
unfolding is_keyword plain keywords
all-keywords = refl

module _ (e : Entry) (h : is_keyword e ≡ true) where
  lengths : leb 2 (length e.word) && leb (length e.word) 9 ≡ true
  unfolding is_keyword
  lengths = and_left (leb 2 (length e.word) && leb (length e.word) 9) (plain e.word && not (eqb e.kind Identifier)) h

  bytes-and-kind : plain e.word && not (eqb e.kind Identifier) ≡ true
  unfolding is_keyword
  bytes-and-kind = and_right (leb 2 (length e.word) && leb (length e.word) 9) (plain e.word && not (eqb e.kind Identifier)) h

  two-or-more : 2 ≤ length e.word
  two-or-more = leb-true _ _ (and_left (leb 2 (length e.word)) (leb (length e.word) 9) lengths)

  nine-or-less : length e.word ≤ 9
  nine-or-less = leb-true _ _ (and_right (leb 2 (length e.word)) (leb (length e.word) 9) lengths)

  keyword-small : Small e.word
  keyword-small = plain-small e.word (and_left (plain e.word) (not (eqb e.kind Identifier)) bytes-and-kind)

  own-kind : e.kind ≡ Identifier → ⊥
  own-kind = eqb-false _ _ (not-true _ (and_right (plain e.word) (not (eqb e.kind Identifier)) bytes-and-kind))

-- the entries from lo on: those from mid on decide where no entry before mid is the keyword
else-step : (b : Bool) (k x y z : ℕ) → (k ≡ Identifier → ⊥) → y ≡ cond (eqb x Identifier) z x → cond b k y ≡ cond (eqb (cond b k x) Identifier) z (cond b k x)
else-step true k x y z g r = rw (ne_eqb k Identifier g)
else-step false k x y z g r = r

in_parts : (lo mid : ℕ) (t : List Entry) (a v n : ℕ) → lo ≤ mid → all is_keyword t ≡ true
    → packed_kind (drop lo t) a v n
    ≡ cond (eqb (packed_kind (slice lo mid t) a v n) Identifier) (packed_kind (drop mid t) a v n) (packed_kind (slice lo mid t) a v n)
unfolding packed_kind
in_parts zero zero t a v n l h = refl
in_parts (suc lo) zero t a v n l h = absurd (omega arith)
in_parts zero (suc mid) [] a v n l h = refl
in_parts (suc lo) (suc mid) [] a v n l h = refl
in_parts zero (suc mid) (e ∷ es) a v n l h =
    else-step (eqb (get_or e.word 0 0) a && (eqb (number (drop 1 e.word)) v && eqb (length e.word) n))
    e.kind (packed_kind (take mid es) a v n) (packed_kind es a v n) (packed_kind (drop mid es) a v n)
    (own-kind e (all_head is_keyword e es h)) (in_parts zero mid es a v n (omega arith) (all_tail is_keyword e es h))
in_parts (suc lo) (suc mid) (e ∷ es) a v n l h = in_parts lo mid es a v n (omega arith) (all_tail is_keyword e es h)

-- r is what the search from lo up to mid answers
module _ (lo mid a v n r : ℕ) (l : lo ≤ mid) (e : r ≡ packed_kind (slice lo mid keywords) a v n) where
  parts : packed_kind (drop lo keywords) a v n ≡ cond (eqb r Identifier) (packed_kind (drop mid keywords) a v n) r
  parts = rw e (in_parts lo mid keywords a v n l all-keywords)

  in-part : (r ≡ Identifier → ⊥) → r ≡ packed_kind (drop lo keywords) a v n
  in-part g = sym (parts ∙ rw (ne_eqb r Identifier g))

  past-part : r ≡ Identifier → packed_kind (drop mid keywords) a v n ≡ packed_kind (drop lo keywords) a v n
  past-part g = sym (parts ∙ rw (eq-eqb r Identifier g))

-- the ways through the code: the four parts of the table, one after the other
module _ (a v n r : ℕ) (e : r ≡ packed_kind (slice 0 7 keywords) a v n) where
  pub in-first : (r ≡ Identifier → ⊥) → r ≡ packed_kind keywords a v n
  in-first = in-part 0 7 a v n r (omega arith) e

  module _ (g : r ≡ Identifier) (r₂ : ℕ) (e₂ : r₂ ≡ packed_kind (slice 7 14 keywords) a v n) where
    past_first : packed_kind (drop 7 keywords) a v n ≡ packed_kind keywords a v n
    past_first = past-part 0 7 a v n r (omega arith) e g

    pub in-second : (r₂ ≡ Identifier → ⊥) → r₂ ≡ packed_kind keywords a v n
    in-second h = in-part 7 14 a v n r₂ (omega arith) e₂ h ∙ past_first

    module _ (g₂ : r₂ ≡ Identifier) (r₃ : ℕ) (e₃ : r₃ ≡ packed_kind (slice 14 20 keywords) a v n) where
      past-second : packed_kind (drop 14 keywords) a v n ≡ packed_kind keywords a v n
      past-second = past-part 7 14 a v n r₂ (omega arith) e₂ g₂ ∙ past_first

      pub in-third : (r₃ ≡ Identifier → ⊥) → r₃ ≡ packed_kind keywords a v n
      in-third h = in-part 14 20 a v n r₃ (omega arith) e₃ h ∙ past-second

      pub in-fourth : r₃ ≡ Identifier → (r₄ : ℕ) → r₄ ≡ packed_kind (slice 20 26 keywords) a v n → r₄ ≡ packed_kind keywords a v n
      unfolding keywords
      in-fourth g₃ r₄ e₄ = e₄ ∙ past-part 14 20 a v n r₃ (omega arith) e₃ g₃ ∙ past-second

-- a name that no keyword can be
no-keyword : (t : List Entry) (w : List ℕ) → all is_keyword t ≡ true → ((e : Entry) → is_keyword e ≡ true → w ≡ e.word → ⊥) → lookup t w ≡ Identifier
unfolding lookup
no-keyword [] w h g = refl
no-keyword (e ∷ es) w h g = go (same w e.word) refl (no-keyword es w (all_tail is_keyword e es h) g)
  where
    go : (b : Bool) → same w e.word ≡ b → lookup es w ≡ Identifier → cond b e.kind (lookup es w) ≡ Identifier
    go true p r = absurd (g e (all_head is_keyword e es h) (same-equal w e.word p))
    go false p r = r

-- a name beside each keyword
each-compared : (t : List Entry) (w : List ℕ) → all is_keyword t ≡ true → Small w → packed_kind t (get_or w 0 0) (number (drop 1 w)) (length w) ≡ lookup t w
unfolding packed_kind lookup
each-compared [] w h p = refl
each-compared (e ∷ es) w h p =
    rw (compared w e.word p (keyword-small e (all_head is_keyword e es h)), each-compared es w (all_tail is_keyword e es h) p)

-- the ways through the code: a name is no longer than the text from `at` on, so that of its n bytes there are m
module _ (s : List ℕ) (at n m : ℕ) (e : m ≡ min n (length s - at)) where
  clipped : take n (drop at s) ≡ take m (drop at s)
  clipped = go (leb n (length s - at)) refl
    where
      go : (b : Bool) → leb n (length s - at) ≡ b → take n (drop at s) ≡ take m (drop at s)
      go true p =
          let q : n ≤ length s - at = leb-true _ _ p in
          let r : m ≡ n = omega arith in rw r
      go false p =
          let q : length s - at < n = leb-false _ _ p in
          take_all n (drop at s) (rw length-drop (omega arith)) ∙ sym (take_all m (drop at s) (rw length-drop (omega arith)))

  name-long : length (take m (drop at s)) ≡ m
  name-long = rw (length-take, length-drop) (omega arith)

  pub other_length : (2 ≤ m → m ≤ 9 → ⊥) → Identifier ≡ kind_of (take n (drop at s))
  unfolding kind_of
  other_length g =
      rw clipped (sym (no-keyword keywords (take m (drop at s)) all-keywords
      (λ x i q. let u : m ≡ length x.word = sym name-long ∙ ap length q in
      let a : 2 ≤ length x.word = two-or-more x i in
      let b : length x.word ≤ 9 = nine-or-less x i in g (omega arith) (omega arith))))

  pub name-found : 2 ≤ m → Small s → (v : ℕ) → v ≡ number (drop 1 (take m (drop at s)))
      → packed_kind keywords (get_or s at 0) v m ≡ kind_of (take n (drop at s))
  unfolding kind_of
  name-found l small v q =
      let z : at + 0 ≡ at = omega arith in
      let a : get_or s at 0 ≡ get_or (take m (drop at s)) 0 0 = rw (get_or-take m (drop at s) 0 0 (omega arith), get_or-drop at s 0 0, z) in
      let c : packed_kind keywords (get_or (take m (drop at s)) 0 0) (number (drop 1 (take m (drop at s)))) (length (take m (drop at s))) ≡ lookup keywords (take m (drop at s))
      = each-compared keywords (take m (drop at s)) all-keywords (part_small s at m small) in
      rw (clipped, q, a) (rw name-long at c)
