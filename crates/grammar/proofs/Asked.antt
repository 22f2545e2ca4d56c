-- What is asked, by its faults: what holds of each, and what it is where there is none.
use mathlib.Core.Path.{◌≡◌}
use mathlib.Core.Bool.{false}
use mathlib.Core.List.{List}
use Prim.Native.Nat.{ℕ, ◌≤◌}
use native.Mathlib.Omega.{arith}
use lib.ListN.{length}
use Rattle.tokens.specs.Answers.{refusal}
use Rattle.tokens.specs.Calls.{text_limit, no_edition, fault_if, place_fault, edition_fault}
use Rattle.tokens.specs.declared.Refusal.{Refusal}
use Rattle.starts.specs.Beginning.{beginning}
use Rattle.starts.proofs.Allowed.{zero-begins}
use Rattle.starts.proofs.StartFaults.{OfText, start-each, may-begin, no-start-fault}
use Rattle.tokens.proofs.Faults.{Each, each-if, each-else, place-each, no-two, neither, if-not, not-if, placed, in_place_lem}
use Rattle.grammar.specs.Items.{Asked, no_kind, number_fault, fault_of}
use Rattle.grammar.specs.Raise.{of_text}
use Rattle.std.specs.Prelude.{true, Ok}

-- what a faultless question is
pub record InOrder (q : Asked) : Type 0 where
  pub short : length q.text ≤ text_limit
  pub inside : q.at ≤ length q.text
  pub is_kind : no_kind q.kind ≡ false
  pub is_edition : no_edition q.edition ≡ false
  pub may_begin : beginning q.edition q.text q.at ≡ Ok true

module _ (q : Asked) where
  number-each : (P : Refusal → Type 0) → P (refusal 1 0 0) → P (refusal 2 0 0) → P (refusal 3 0 0) → P (refusal 19 0 0) → Each P (number_fault q)
  unfolding number_fault
  number-each P one two three nineteen =
      each-else P (place_fault q.text q.at) _ (place-each P q.text q.at one two)
      (λ _. each-else P (fault_if (no_kind q.kind) 3) _ (each-if P (no_kind q.kind) 3 three) (λ _. each-if P (no_edition q.edition) 19 nineteen))

  numbers-right : number_fault q ≡ Ok tt → (length q.text ≤ text_limit) × (q.at ≤ length q.text) × (no_kind q.kind ≡ false) × (no_edition q.edition ≡ false)
  unfolding number_fault
  numbers-right e =
      let a = neither (place_fault q.text q.at) _ e in
      let b = neither (fault_if (no_kind q.kind) 3) _ a.1 in
      let p = in_place_lem q.text q.at a.0 in
      (p.0, p.1, if-not (no_kind q.kind) 3 b.0, if-not (no_edition q.edition) 19 b.1)

  -- 21 stands at the offset, which is in the text, since 2 is tested before; what starts before the offset is refused as the text is
  pub fault-each : (P : Refusal → Type 0) → P (refusal 1 0 0) → P (refusal 2 0 0) → P (refusal 3 0 0) → P (refusal 19 0 0)
      → (q.at ≤ length q.text → P (refusal 21 q.at q.at)) → ((r : Refusal) → OfText q.text r → P r) → Each P (fault_of q)
  unfolding fault_of
  fault-each P one two three nineteen nothing walked =
      each-else P (number_fault q) _ (number-each P one two three nineteen) λ e.
      let n = numbers-right e in
      start-each q.edition q.text q.at P n.0 (nothing n.1) walked

  pub in_order_lem : fault_of q ≡ Ok tt → InOrder q
  unfolding fault_of
  in_order_lem e =
      let a = neither (number_fault q) _ e in
      let n = numbers-right a.0 in
      record { short = n.0; inside = n.1; is_kind = n.2; is_edition = n.3; may_begin = may-begin q.edition q.text q.at a.1 }

  pub faultless : InOrder q → fault_of q ≡ Ok tt
  unfolding fault_of number_fault
  faultless d =
      no-two (number_fault q) _
      (no-two (place_fault q.text q.at) _ (placed q.text q.at d.short d.inside)
      (no-two (fault_if (no_kind q.kind) 3) (edition_fault q.edition) (not-if (no_kind q.kind) 3 d.is_kind) (not-if (no_edition q.edition) 19 d.is_edition)))
      (no-start-fault q.edition q.text q.at d.may_begin)

-- asked of another text, from 0: only the text may be too long
pub of-text : (q : Asked) (text : List ℕ) → fault_of q ≡ Ok tt → length text ≤ text_limit → fault_of (of_text text q) ≡ Ok tt
of-text q text e h =
    let d = in_order_lem q e in
    faultless (of_text text q) (record { short = h; inside = omega arith; is_kind = d.is_kind; is_edition = d.is_edition; may_begin = zero-begins q.edition text })
