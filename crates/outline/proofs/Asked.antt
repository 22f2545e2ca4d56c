-- The outline call as a portion of the list of tokens, where text, offset and edition are fine.
use mathlib.Core.Path.{◌≡◌, refl, sym, ◌∙◌, subst}
use mathlib.Core.List.{List}
use Prim.Native.Nat.{ℕ, ◌≤◌}
use native.Mathlib.Omega.{arith}
use lib.ListN.{length}
use Rattle.tokens.specs.Calls.{text_limit, place_fault, edition_fault, call_fault, unless}
use Rattle.tokens.specs.Walk.{tokens_at}
use Rattle.tokens.proofs.Faults.{unless_not, no-two, neither, placed, in_place_lem}
use Rattle.outline.specs.Entry.{fitting}
use Rattle.outline.specs.Outline.{handed, Portion, accepted, rejected, portion, outlined}
use Rattle.outline.specs.declared.Pending.{Pending}
use Rattle.outline.proofs.Listing.{walks}
use Rattle.outline.proofs.Steps.{Claim, Closed, Accepts, portion-each}
use Rattle.tokens.specs.declared.Refusal.{Refusal}
use Rattle.std.specs.Prelude.{Result, Ok, Err, ⊤}

module _ (ed : ℕ) (text : List ℕ) where
  pub fault-place : (at : ℕ) → call_fault ed text at ≡ Ok tt → (length text ≤ text_limit) × (at ≤ length text)
  unfolding call_fault
  fault-place at f = in_place_lem text at (neither (place_fault text at) (edition_fault ed) f).0

  -- from another offset
  pub fault-from : (at e : ℕ) → call_fault ed text at ≡ Ok tt → e ≤ length text → call_fault ed text e ≡ Ok tt
  unfolding call_fault
  fault-from at e f h =
      let n = neither (place_fault text at) (edition_fault ed) f in
      no-two (place_fault text e) (edition_fault ed) (placed text e (in_place_lem text at n.0).0 h) n.1

  module _ (at limit : ℕ) (p : Pending) (room : ℕ) where
    pub asks : call_fault ed text at ≡ Ok tt → outlined ed text at limit p room ≡ portion text at (handed text p) (fitting text room) limit (tokens_at ed text at)
    unfolding outlined
    asks f = unless_not rejected (call_fault ed text at) _ f

    pub accepted-fine : (a : Portion) → outlined ed text at limit p room ≡ accepted a → call_fault ed text at ≡ Ok tt
    unfolding outlined unless
    accepted-fine a e = go (call_fault ed text at) e
      where
        go : (f : Result ⊤ Refusal) → unless rejected f (portion text at (handed text p) (fitting text room) limit (tokens_at ed text at)) ≡ accepted a → f ≡ Ok tt
        go (Ok tt) e = refl
        go (Err r) e = let z : ◌≡◌ {A = ℕ} 0 1 = cc in absurd (omega arith)

    pub outlined-each : (Q : Claim) → Closed ed text Q → (a : Portion) → outlined ed text at limit p room ≡ accepted a
        → Q at (handed text p) (fitting text room) limit (tokens_at ed text at) a
    outlined-each Q c a e =
        let f = accepted-fine a e in
        let h = fault-place at f in
        subst (Accepts (Q at (handed text p) (fitting text room) limit (tokens_at ed text at))) (sym (asks f) ∙ e)
        (portion-each ed text Q c limit (tokens_at ed text at) at (handed text p) (fitting text room) (walks ed text at h.0 h.1))
