-- The call, by its faults.
use mathlib.Core.Path.{◌≡◌, refl, ap, sym, ◌∙◌}
use mathlib.Core.Bool.{Bool, true, false, cond, ◌||◌, not}
use mathlib.Core.List.{List, [], ◌∷◌, map}
use Prim.Native.Nat.{ℕ, zero, suc, ◌<◌}
use native.Mathlib.Omega.{arith}
use native.Mathlib.Nat.{not-suc-le-zero}
use borrow.Author.Tests.{not-false}
use lib.Dec.{leb}
use lib.ListN.{length, get_or}
use Rattle.classes.proofs.Bools.{or_right}
use Rattle.tokens.specs.Answers.{refusal}
use Rattle.tokens.specs.Calls.{◌or_else◌}
use Rattle.tokens.specs.Walk.{Listed, tokens_at}
use Rattle.tokens.specs.declared.Refusal.{Refusal}
use Rattle.tokens.proofs.Faults.{neither, unless_not, unless-faulty}
use Rattle.carried.specs.Carry.{refusal_of, is_start, covering_start, bad_note, carry_fault, rejected, moved, carry, answer_of, notes_after}
use Rattle.carried.specs.code.Passes.{Movable}
use Rattle.std.specs.Prelude.{Result, Ok, Err, ⊤}

-- every entry of a list that is not bad starts a token
all-started : (old : Listed) (i : ℕ) (notes : List ℕ) → bad_note old i notes ≡ Ok tt → (j : ℕ) → j < length notes → is_start old (get_or notes j 0) ≡ true
unfolding bad_note
all-started old i [] e j h = absurd (not-suc-le-zero h)
all-started old i (x ∷ notes) e j h = go (leb 256 i || not (is_start old x)) refl e j h (all-started old (suc i) notes)
  where
    go : (b : Bool) → leb 256 i || not (is_start old x) ≡ b → cond b (Err (refusal 20 i i)) (bad_note old (suc i) notes) ≡ Ok tt → (j : ℕ) → j < suc (length notes)
        → (bad_note old (suc i) notes ≡ Ok tt → (k : ℕ) → k < length notes → is_start old (get_or notes k 0) ≡ true) → is_start old (get_or (x ∷ notes) j 0) ≡ true
    go true q f j g ih = let z : ◌≡◌ {A = ℕ} 0 1 = cc in absurd (omega arith)
    go false q f zero g ih = not-false (is_start old x) (or_right (leb 256 i) (not (is_start old x)) q)
    go false q f (suc j) g ih = ih f j (omega arith)

module _ (text notes : List ℕ) (f : Result ⊤ Refusal) where
  -- the call
  module _ (e : f ≡ carry_fault text notes) where
    pub refused-by : (r : Refusal) → f ≡ Err r → (Err r ≡ answer_of (carry text notes)) × (notes ≡ notes_after (carry text notes) notes)
    unfolding carry answer_of notes_after
    refused-by r q = rw (unless-faulty rejected (carry_fault text notes) (moved (map (covering_start (tokens_at 2 text 0)) notes)) r (sym e ∙ q)) (refl, refl)

    module _ (q : f ≡ (Ok tt)) where
      pub movable-by : Movable text notes
      unfolding carry_fault
      movable-by =
          let d = neither (refusal_of (tokens_at 1 text 0)) (refusal_of (tokens_at 2 text 0) or_else bad_note (tokens_at 1 text 0) 0 notes) (sym e ∙ q) in
          let b = neither (refusal_of (tokens_at 2 text 0)) (bad_note (tokens_at 1 text 0) 0 notes) d.1 in
          record { first = d.0; second = b.0; started = all-started (tokens_at 1 text 0) 0 notes b.1 }

      pub moved_by_lem : (new : List ℕ) → new ≡ map (covering_start (tokens_at 2 text 0)) notes → (Ok (length new) ≡ answer_of (carry text notes)) × (new ≡ notes_after (carry text notes) notes)
      unfolding carry answer_of notes_after
      moved_by_lem new i = rw (unless_not rejected (carry_fault text notes) (moved (map (covering_start (tokens_at 2 text 0)) notes)) (sym e ∙ q)) (ap (λ (l : List ℕ). Ok (length l)) i, i)
