-- The numbers that the call can be refused with: of the walks 1 and 5 to 9, and 20.
use mathlib.Core.Path.{◌≡◌, refl, ap, sym, ◌∙◌}
use mathlib.Core.Bool.{Bool, true, false, cond, ◌||◌, not}
use mathlib.Core.List.{List, [], ◌∷◌, map}
use Prim.Native.Nat.{ℕ, suc, ◌≤◌}
use native.Mathlib.Omega.{arith}
use borrow.Author.Tests.{ltb-true, ltb-false}
use lib.Dec.{leb, ltb}
use lib.ListN.{length}
use Rattle.tokens.specs.Answers.{refusal}
use Rattle.tokens.specs.RefusalSets.{among, lex_refusals}
use Rattle.tokens.specs.Calls.{text_limit, unless, next_token}
use Rattle.tokens.specs.Walk.{Listed, tokens_at}
use Rattle.tokens.specs.declared.Refusal.{Refusal}
use Rattle.tokens.proofs.Faults.{Each, each-else, too_long}
use Rattle.tokens.proofs.RefusalSets.{subset, among-subset, token-text-refusals}
use Rattle.tokens.proofs.Steps.{next-faulty}
use Rattle.carried.specs.Carry.{refusal_of, is_start, covering_start, bad_note, carry_fault, rejected, moved, carry}
use Rattle.carried.specs.Promised.{carry_refusals, RefusedWith}
use Rattle.carried.proofs.Walked.{Walked, over, stopped, going, walked}
use Rattle.std.specs.Prelude.{Result, Ok, Err, ⊤}

abbrev Known : Refusal → Type 0
Known r = among carry_refusals r.number ≡ true

-- the token call of a walk
token-known : (ed : ℕ) (text : List ℕ) (at : ℕ) → at ≤ length text → (r : Refusal) → next_token ed text at ≡ Err r → Known r
unfolding among subset
token-known ed text at h r e = go (ltb text_limit (length text)) refl
  where
    go : (b : Bool) → ltb text_limit (length text) ≡ b → Known r
    go true q =
        let f : Err (refusal 1 0 0) ≡ Err r = next-faulty ed text at (refusal 1 0 0) (sym (too_long text at (ltb-true text_limit (length text) q))) ∙ e in
        let g : refusal 1 0 0 ≡ r = cc in
        ap (λ (x : Refusal). among carry_refusals x.number) (sym g)
    go false q = among-subset lex_refusals carry_refusals refl r.number (token-text-refusals ed text at (ltb-false text_limit (length text) q) h r e)

walk-known : {ed : ℕ} {text : List ℕ} {at : ℕ} {l : Listed} → Walked ed text at l → Each Known (refusal_of l)
unfolding refusal_of
walk-known (over a b c d) = tt
walk-known {ed} {text} {at} (stopped {r = r} h e) = token-known ed text at h r e
walk-known (going e a b c d w) = walk-known w

note-known : (old : Listed) (i : ℕ) (notes : List ℕ) → Each Known (bad_note old i notes)
unfolding bad_note among
note-known old i [] = tt
note-known old i (x ∷ notes) = go (leb 256 i || not (is_start old x)) (note-known old (suc i) notes)
  where
    go : (b : Bool) → Each Known (bad_note old (suc i) notes) → Each Known (cond b (Err (refusal 20 i i)) (bad_note old (suc i) notes))
    go true ih = refl
    go false ih = ih

fault-known : (text notes : List ℕ) → Each Known (carry_fault text notes)
unfolding carry_fault
fault-known text notes =
    each-else Known (refusal_of (tokens_at 1 text 0)) _ (walk-known (walked 1 text 0 (omega arith)))
    (λ _. each-else Known (refusal_of (tokens_at 2 text 0)) _ (walk-known (walked 2 text 0 (omega arith))) (λ _. note-known (tokens_at 1 text 0) 0 notes))

pub refused-with : RefusedWith
unfolding carry unless
refused-with text notes r e = go (carry_fault text notes) (fault-known text notes) e
  where
    go : (f : Result ⊤ Refusal) → Each Known f → unless rejected f (moved (map (covering_start (tokens_at 2 text 0)) notes)) ≡ rejected r → Known r
    go (Ok tt) h q = let z : ◌≡◌ {A = ℕ} 0 1 = cc in absurd (omega arith)
    go (Err s) h q = let g : s ≡ r = cc in ap (λ (x : Refusal). among carry_refusals x.number) (sym g) ∙ h
