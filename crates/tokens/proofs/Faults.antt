-- Faults: what holds of each refusal that a fault may be, and what a faultless call is.
use mathlib.Core.Path.{◌≡◌, refl}
use mathlib.Core.Bool.{Bool, true, false}
use mathlib.Core.List.{List}
use Prim.Native.Nat.{ℕ, ◌<◌, ◌≤◌}
use native.Mathlib.Omega.{arith}
use borrow.Author.Tests.{lt-ltb, le-ltb, ltb-false}
use lib.Dec.{ltb}
use lib.ListN.{length}
use Rattle.tokens.specs.Answers.{refusal}
use Rattle.tokens.specs.Calls.{text_limit, no_edition, fault_if, ◌or_else◌, place_fault, edition_fault, call_fault, unless}
use Rattle.tokens.specs.declared.Refusal.{Refusal}
use Rattle.std.specs.Prelude.{Result, Ok, Err, ⊤}

-- P holds of the refusal, where there is one
abbrev pub Each : (Refusal → Type 0) → Result ⊤ Refusal → Type 0
Each P (Ok tt) = Unit {0}
Each P (Err r) = P r

module _ (P : Refusal → Type 0) where
  pub each-any : (f : Result ⊤ Refusal) → ((r : Refusal) → P r) → Each P f
  each-any (Ok tt) h = tt
  each-any (Err r) h = h r

  pub each-if : (b : Bool) (number : ℕ) → P (refusal number 0 0) → Each P (fault_if b number)
  each-if true number h = h
  each-if false number h = tt

  -- the second is looked for where there is no first
  pub each-else : (f g : Result ⊤ Refusal) → Each P f → (f ≡ Ok tt → Each P g) → Each P (f or_else g)
  unfolding ◌or_else◌
  each-else (Ok tt) g h i = i refl
  each-else (Err r) g h i = h

  pub place-each : (text : List ℕ) (at : ℕ) → P (refusal 1 0 0) → P (refusal 2 0 0) → Each P (place_fault text at)
  unfolding place_fault
  place-each text at h i = each-else (fault_if (ltb text_limit (length text)) 1) _ (each-if (ltb text_limit (length text)) 1 h) (λ _. each-if (ltb (length text) at) 2 i)

  pub call-each : (ed : ℕ) (text : List ℕ) (at : ℕ) → P (refusal 1 0 0) → P (refusal 2 0 0) → P (refusal 19 0 0) → Each P (call_fault ed text at)
  unfolding call_fault
  call-each ed text at h i j = each-else (place_fault text at) _ (place-each text at h i) (λ _. each-if (no_edition ed) 19 j)

-- of what is answered, by its two cases
module _ {A : Type 0} (refuse : Refusal → A) where
  pub unless-sure : (P : A → Type 0) (f : Result ⊤ Refusal) (a : A) → Each (λ (r : Refusal). P (refuse r)) f → (f ≡ Ok tt → P a) → P (unless refuse f a)
  unfolding unless
  unless-sure P (Ok tt) a h i = i refl
  unless-sure P (Err r) a h i = h

  pub unless_not : (f : Result ⊤ Refusal) (a : A) → f ≡ Ok tt → unless refuse f a ≡ a
  unfolding unless
  unless_not f a e = rw e

  pub unless-faulty : (f : Result ⊤ Refusal) (a : A) (r : Refusal) → f ≡ Err r → unless refuse f a ≡ refuse r
  unfolding unless
  unless-faulty f a r e = rw e

-- two faults
pub no-two : (f g : Result ⊤ Refusal) → f ≡ Ok tt → g ≡ Ok tt → f or_else g ≡ Ok tt
unfolding ◌or_else◌
no-two f g e h = rw (e, h)

pub neither : (f g : Result ⊤ Refusal) → f or_else g ≡ Ok tt → (f ≡ (Ok tt)) × (g ≡ (Ok tt))
unfolding ◌or_else◌
neither (Ok tt) g e = (refl, e)
neither (Err r) g e = let z : ◌≡◌ {A = ℕ} 0 1 = cc in absurd (omega arith)

pub first-faulty : (f g : Result ⊤ Refusal) (r : Refusal) → f ≡ Err r → Err r ≡ f or_else g
unfolding ◌or_else◌
first-faulty f g r e = rw e

pub first-faultless : (f g : Result ⊤ Refusal) → f ≡ Ok tt → g ≡ f or_else g
unfolding ◌or_else◌
first-faultless f g e = rw e

pub if-not : (b : Bool) (number : ℕ) → fault_if b number ≡ Ok tt → b ≡ false
if-not true number e = let z : ◌≡◌ {A = ℕ} 0 1 = cc in absurd (omega arith)
if-not false number e = refl

pub faulty-if : (b : Bool) (number : ℕ) → b ≡ true → fault_if b number ≡ Err (refusal number 0 0)
faulty-if b number e = rw e

pub not-if : (b : Bool) (number : ℕ) → b ≡ false → fault_if b number ≡ Ok tt
not-if b number e = rw e

-- 1 and 2
module _ (text : List ℕ) (at : ℕ) where
  pub too_long : text_limit < length text → Err (refusal 1 0 0) ≡ place_fault text at
  unfolding place_fault ◌or_else◌
  too_long h = rw (lt-ltb text_limit (length text) h)

  pub past_end : length text ≤ text_limit → length text < at → Err (refusal 2 0 0) ≡ place_fault text at
  unfolding place_fault ◌or_else◌
  past_end h g = rw (le-ltb text_limit (length text) h, lt-ltb (length text) at g)

  pub placed : length text ≤ text_limit → at ≤ length text → place_fault text at ≡ Ok tt
  unfolding place_fault ◌or_else◌
  placed h g = rw (le-ltb text_limit (length text) h, le-ltb (length text) at g)

  pub in_place_lem : place_fault text at ≡ Ok tt → (length text ≤ text_limit) × (at ≤ length text)
  unfolding place_fault
  in_place_lem e =
      let d = neither (fault_if (ltb text_limit (length text)) 1) (fault_if (ltb (length text) at) 2) e in
      (ltb-false text_limit (length text) (if-not (ltb text_limit (length text)) 1 d.0), ltb-false (length text) at (if-not (ltb (length text) at) 2 d.1))

  pub admits : {A : Type 0} (refuse : Refusal → A) (a : A) → length text ≤ text_limit → at ≤ length text → unless refuse (place_fault text at) a ≡ a
  admits refuse a h g = unless_not refuse (place_fault text at) a (placed h g)

  pub admits-in : {A : Type 0} (refuse : Refusal → A) (ed : ℕ) (a : A) → length text ≤ text_limit → at ≤ length text → no_edition ed ≡ false → unless refuse (call_fault ed text at) a ≡ a
  unfolding call_fault
  admits-in refuse ed a h g q = unless_not refuse (call_fault ed text at) a (no-two (place_fault text at) (edition_fault ed) (placed h g) (not-if (no_edition ed) 19 q))
