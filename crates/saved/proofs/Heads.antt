-- Numbers and heads as the code reads them.
use mathlib.Core.Path.{◌≡◌, refl, ap, sym, ◌∙◌}
use mathlib.Core.Bool.{Bool, true, false, cond, ◌&&◌, ◌||◌}
use mathlib.Core.List.{List, [], ◌∷◌}
use Prim.Native.Nat.{ℕ, zero, suc, ◌+◌, ◌-◌, ◌*◌, ◌%◌, ◌^◌, ◌<◌, ◌≤◌}
use native.Mathlib.Omega.{arith}
use borrow.Author.Tests.{ltb-true, ltb-false, leb-true, eqb-true}
use lib.Dec.{eqb, leb, ltb}
use lib.ListN.{length, get_or, drop}
use lib.Seq.{get_or-drop, drop-drop}
use Rattle.classes.specs.Bytes.{begins}
use Rattle.classes.proofs.Bools.{false-true, and_left, and_right}
use Rattle.forms.specs.Forms.{FormNarrow, FormWide, front, head_size, width}
use Rattle.saved.specs.Heads.{form_told, number_in, number_at, head_in, head_at}
use Rattle.saved.specs.Refusals.{RecordUnfit}
use Rattle.saved.specs.Open.{unfit, head_fault, first_at}
use Rattle.saved.specs.Child.{starts_by}
use Rattle.saved.specs.code.Scan.{head_within, head_unless, outermost_read}
use Rattle.saved.specs.declared.Head.{Head}
use Rattle.std.specs.Prelude.{Option, Some, None, Err}

-- the first four bytes
pub told-short : (l : List ℕ) → length l < 4 → false ≡ begins (front FormWide) l
unfolding begins front
told-short [] h = refl
told-short (a ∷ []) h = short-and (eqb a 4)
  where
    short-and : (x : Bool) → false ≡ (x && false)
    short-and true = refl
    short-and false = refl
told-short (a ∷ b ∷ []) h = short-and (eqb a 4) (eqb b 0)
  where
    short-and : (x y : Bool) → false ≡ (x && (y && false))
    short-and true true = refl
    short-and true false = refl
    short-and false y = refl
told-short (a ∷ b ∷ c ∷ []) h = short-and (eqb a 4) (eqb b 0) (eqb c 99)
  where
    short-and : (x y z : Bool) → false ≡ (x && (y && (z && false)))
    short-and true true true = refl
    short-and true true false = refl
    short-and true false z = refl
    short-and false y z = refl
told-short (a ∷ b ∷ c ∷ d ∷ l) h = absurd (omega arith)

pub told-by : (l : List ℕ) → 4 ≤ length l → begins (front FormWide) l ≡ (eqb (get_or l 0 0) 4 && (eqb (get_or l 1 0) 0 && (eqb (get_or l 2 0) 99 && eqb (get_or l 3 0) 0)))
unfolding begins front
told-by [] h = absurd (omega arith)
told-by (a ∷ []) h = absurd (omega arith)
told-by (a ∷ b ∷ []) h = absurd (omega arith)
told-by (a ∷ b ∷ c ∷ []) h = absurd (omega arith)
told-by (a ∷ b ∷ c ∷ d ∷ l) h = ap (λ (x : Bool). eqb a 4 && (eqb b 0 && (eqb c 99 && x))) (last (eqb d 0))
  where
    last : (x : Bool) → (x && true) ≡ x
    last true = refl
    last false = refl

-- one byte more
pub number_step : (w : ℕ) (l : List ℕ) (p : ℕ) → number_at (suc w) l p ≡ get_or l p 0 + 256 * number_at w l (p + 1)
unfolding number_at number_in
number_step w l p =
    let a : get_or (drop p l) 0 0 ≡ get_or l p 0 = get_or-drop p l 0 0 ∙ ap (λ (n : ℕ). get_or l n 0) (omega arith) in
    let b : drop 1 (drop p l) ≡ drop (p + 1) l = drop-drop 1 p l in
    rw (a, b)

pub number-none : (l : List ℕ) (p : ℕ) → number_at 0 l p ≡ 0
unfolding number_at number_in
number-none l p = refl

-- the form, by whether it is wide; a head has 8 bytes or 14
abbrev pub form_by : Bool → ℕ
form_by wide = cond wide FormWide FormNarrow

pub size-some : (wide : Bool) → (8 ≤ head_size (form_by wide)) × (head_size (form_by wide) ≤ 14)
unfolding head_size
size-some true = (omega arith, omega arith)
size-some false = (omega arith, omega arith)

-- the size of a head, by the width of its numbers
pub size-by : (wide : Bool) → head_size (form_by wide) ≡ width (form_by wide) + (2 + (width (form_by wide) + width (form_by wide)))
unfolding head_size width
size-by true = refl
size-by false = refl

module _ (l : List ℕ) where
  pub form-told : form_told l ≡ form_by (begins (front FormWide) l)
  unfolding form_told
  form-told = refl

  pub size_least : 8 ≤ head_size (form_told l)
  size_least = rw form-told (size-some (begins (front FormWide) l)).0

  -- what the bytes tell
  module _ (wide : Bool) (told : wide ≡ begins (front FormWide) l) where
    pub width-told : width (form_told l) ≡ cond wide 4 2
    unfolding form_told width
    width-told = rw told (go (begins (front FormWide) l))
      where
        go : (b : Bool) → width (form_by b) ≡ cond b 4 2
        go true = refl
        go false = refl

    pub size-told : head_size (form_told l) ≡ cond wide 14 8
    unfolding form_told head_size
    size-told = rw told (go (begins (front FormWide) l))
      where
        go : (b : Bool) → head_size (form_by b) ≡ cond b 14 8
        go true = refl
        go false = refl

    pub first-told : first_at (form_told l) ≡ cond wide 4 0
    unfolding form_told front
    first-told = rw told (go (begins (front FormWide) l))
      where
        go : (b : Bool) → first_at (form_by b) ≡ cond b 4 0
        go true = refl
        go false = refl

    -- what stands in front of wide records is there
    pub told-long : wide ≡ true → 4 ≤ length l
    told-long w = go (ltb (length l) 4) refl
      where
        go : (b : Bool) → ltb (length l) 4 ≡ b → 4 ≤ length l
        go true h = false-true _ (told-short l (ltb-true (length l) 4 h) ∙ sym told ∙ w)
        go false h = ltb-false (length l) 4 h

-- a head, by its numbers
pub head_made : (l : List ℕ) (p w a b c d : ℕ) → a ≡ number_at w l p → b ≡ number_at 2 l (p + w) → c ≡ number_at w l (p + w + 2) → d ≡ number_at w l (p + w + 2 + w)
    → record { len = a; kind = b; start = c; end = d } ≡ head_in w l p
unfolding head_in
head_made l p w a b c d e g h i = rw (e, g, h, i)

-- what three bytes can count
pub pow-few : (w : ℕ) → w ≤ 3 → 256 ^ w ≤ 16777216
pow-few zero h = omega arith
pow-few (suc zero) h = omega arith
pow-few (suc (suc zero)) h = omega arith
pow-few (suc (suc (suc zero))) h = omega arith
pow-few (suc (suc (suc (suc w)))) h = absurd (omega arith)

-- what a head that was read tells: it is the one that stands there, and whether it fits
pub record Told (f : ℕ) (l : List ℕ) (p room : ℕ) (k : Head) : Type 0 where
  pub is : k ≡ head_at f l p
  pub fit : unfit f room (head_at f l p) ≡ false
  pub head : head_size f ≤ room
  pub short : head_size f ≤ k.len
  pub long : k.len ≤ room

pub unfit-false : (f room : ℕ) (k : Head) → unfit f room k ≡ false → (head_size f ≤ room) × (head_size f ≤ k.len) × (k.len ≤ room)
unfolding unfit
unfit-false f room k h = go (ltb room (head_size f)) (ltb k.len (head_size f)) (ltb room k.len) refl refl refl h
  where
    go : (a b c : Bool) → ltb room (head_size f) ≡ a → ltb k.len (head_size f) ≡ b → ltb room k.len ≡ c → (a || (b || c)) ≡ false → (head_size f ≤ room) × (head_size f ≤ k.len) × (k.len ≤ room)
    go true b c x y z h = let w : ◌≡◌ {A = ℕ} 0 1 = cc in absurd (omega arith)
    go false true c x y z h = let w : ◌≡◌ {A = ℕ} 0 1 = cc in absurd (omega arith)
    go false false true x y z h = let w : ◌≡◌ {A = ℕ} 0 1 = cc in absurd (omega arith)
    go false false false x y z h = (ltb-false room (head_size f) x, ltb-false k.len (head_size f) y, ltb-false room k.len z)

pub fits_told : (f : ℕ) (l : List ℕ) (p room : ℕ) (q : Option Head) (k : Head) → q ≡ head_within f l p room → q ≡ Some k → Told f l p room k
fits_told f l p room q k e d = go (unfit f room (head_at f l p)) refl (sym d ∙ e)
  where
    go : (b : Bool) → unfit f room (head_at f l p) ≡ b → Some k ≡ cond b None (Some (head_at f l p)) → Told f l p room k
    go true x h = let w : ◌≡◌ {A = ℕ} 0 1 = cc in absurd (omega arith)
    go false x h =
        let y : k ≡ head_at f l p = cc in
        let w = unfit-false f room (head_at f l p) x in
        record { is = y; fit = x; head = w.0; short = omega (arith, w.1, ap (λ (z : Head). z.len) y); long = omega (arith, w.2, ap (λ (z : Head). z.len) y) }

pub unfit-told : (f : ℕ) (l : List ℕ) (p room : ℕ) (q : Option Head) → q ≡ head_within f l p room → q ≡ None → unfit f room (head_at f l p) ≡ true
unfit-told f l p room q e d = go (unfit f room (head_at f l p)) refl (sym d ∙ e)
  where
    go : (b : Bool) → unfit f room (head_at f l p) ≡ b → None ≡ cond b None (Some (head_at f l p)) → unfit f room (head_at f l p) ≡ true
    go true x h = x
    go false x h = let w : ◌≡◌ {A = ℕ} 0 1 = cc in absurd (omega arith)

-- where a record can start
pub starts-before : (f len p : ℕ) → starts_by f len p ≡ true → (first_at f ≤ p) × (p < len) × ((p - first_at f) % head_size f ≡ 0)
unfolding starts_by
starts-before f len p h =
    let a = and_right (leb (first_at f) p) _ h in (
      leb-true (first_at f) p (and_left (leb (first_at f) p) _ h),
      ltb-true p len (and_left (ltb p len) _ a),
      eqb-true ((p - first_at f) % head_size f) 0 (and_right (ltb p len) _ a),
    )

-- the outermost record's own tests
module _ (bytes : List ℕ) (to first : ℕ) (at : first ≡ first_at (form_told bytes)) where
  abbrev f : ℕ
  f = form_told bytes

  pub outer-unfit : (q : Option Head) → q ≡ head_within f bytes first (length bytes - first) → q ≡ None → Err RecordUnfit ≡ outermost_read bytes to
  unfolding head_fault
  outer-unfit q e d = let z = unfit-told f bytes first (length bytes - first) q e d in rw (← at, z)

  pub outer-fits : (q : Option Head) (k : Head) → q ≡ head_within f bytes first (length bytes - first) → q ≡ Some k
      → outermost_read bytes to ≡ head_unless (head_fault (ltb k.len (length bytes - first)) true 0 to k) k
  outer-fits q k e d = let t = fits_told f bytes first (length bytes - first) q k e d in rw (← at, t.fit, ← t.is)
