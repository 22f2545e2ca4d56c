-- What may be a child is a kind.
use mathlib.Core.Path.{◌≡◌, refl}
use mathlib.Core.Bool.{Bool, true, false, not, ◌&&◌, ◌||◌}
use Prim.Native.Nat.{ℕ, ◌≤◌}
use native.Mathlib.Omega.{arith}
use borrow.Author.Tests.{leb-true, le-leb, eqb-true}
use lib.Dec.{eqb, leb}
use Rattle.classes.specs.Class.{in_range}
use Rattle.classes.proofs.Bools.{false-true, and_left, and_right}
use Rattle.records.specs.Kinds.{RecField}
use Rattle.saved.specs.Children.{is_chain, is_type, is_binding, is_kind, allows}
use Rattle.saved.specs.declared.Allowed.{Allowed}
use Rattle.saved.specs.declared.Allowed.TheVariants.{NoChild, FirstPart, NamePart, PairPart, AnyChain, AnyType, AnyBinding, AnyField, TypesThenFields}

kind-from : (a b k : ℕ) → in_range a b k ≡ true → (a ≤ k) × (k ≤ b)
unfolding in_range
kind-from a b k h = (leb-true a k (and_left (leb a k) (leb k b) h), leb-true k b (and_right (leb a k) (leb k b) h))

names-kind : (k : ℕ) → 1 ≤ k → k ≤ 6 → is_kind k ≡ true
unfolding is_kind in_range
names-kind k h g = rw (le-leb 1 k h, le-leb k 6 g)

or-true : (a b : Bool) → b ≡ true → (a || b) ≡ true
or-true true b h = refl
or-true false b h = h

or-first : (a b : Bool) → a ≡ true → (a || b) ≡ true
or-first a b h = rw h

types-kind : (k : ℕ) → is_type k ≡ true → is_kind k ≡ true
unfolding is_kind
types-kind k h = or-true (in_range 1 6 k) _ (or-first (is_type k) _ h)

bindings-kind : (k : ℕ) → is_binding k ≡ true → is_kind k ≡ true
unfolding is_kind
bindings-kind k h = or-true (in_range 1 6 k) _ (or-true (is_type k) _ (or-first (is_binding k) _ h))

field-kind : (k : ℕ) → k ≡ RecField → is_kind k ≡ true
unfolding is_kind is_type is_binding in_range
field-kind k h = rw h

or_cases : (P : Type 0) (a b : Bool) → (a || b) ≡ true → (a ≡ true → P) → (b ≡ true → P) → P
or_cases P true b h f g = f refl
or_cases P false b h f g = g h

pub allowed_kind : (a : Allowed) (field : Bool) (k : ℕ) → allows a field k ≡ true → is_kind k ≡ true
unfolding allows is_chain
allowed_kind NoChild field k h = false-true (is_kind k ≡ true) h
allowed_kind FirstPart field k h = or_cases (is_kind k ≡ true) (eqb k 1) (eqb k 2) h (λ e. let z = eqb-true k 1 e in names-kind k (omega arith) (omega arith)) (λ e. let z = eqb-true k 2 e in names-kind k (omega arith) (omega arith))
allowed_kind NamePart field k h = let z = eqb-true k 1 h in names-kind k (omega arith) (omega arith)
allowed_kind PairPart field k h = let z = eqb-true k 6 h in names-kind k (omega arith) (omega arith)
allowed_kind AnyChain field k h = let z = kind-from 3 5 k h in names-kind k (omega arith) (omega arith)
allowed_kind AnyType field k h = types-kind k h
allowed_kind AnyBinding field k h = bindings-kind k h
allowed_kind AnyField field k h = field-kind k (eqb-true k RecField h)
allowed_kind TypesThenFields field k h = or_cases (is_kind k ≡ true) (eqb k RecField) (not field && is_type k) h (λ e. field-kind k (eqb-true k RecField e)) (λ e. types-kind k (and_right (not field) (is_type k) e))
