-- Theorem 3: however the text is divided among calls that never say full, the records joined are those of a single call.
use mathlib.Core.Path.{◌≡◌, refl, ap, sym, ◌∙◌}
use mathlib.Core.Bool.{Bool, true, false}
use mathlib.Core.List.{List, [], ◌∷◌, ◌++◌}
use Prim.Native.Nat.{ℕ, zero, suc, ◌+◌, ◌-◌, ◌≤◌, min}
use native.Mathlib.Omega.{arith}
use lib.ListN.{length, length-append}
use Rattle.tokens.specs.Calls.{call_fault}
use Rattle.tokens.specs.Walk.{Listed, eof, refused, next, tokens_at}
use Rattle.tokens.specs.declared.Token.{Token}
use Rattle.outline.specs.Entry.{records_of, all_bytes, fitting}
use Rattle.outline.specs.Outline.{handed, pending_behind, Portion, Outlined, accepted, stopped, joined, names, entry_at, stepped, portion, outlined}
use Rattle.outline.specs.Theorems.{tokens_left, ReachesEOF, written, Share, limits, Divided, over, call, OneCall, DividedAnyhow, DividedToEOF}
use Rattle.outline.specs.declared.Pending.{Pending}
use Rattle.outline.proofs.Listing.{list_of}
use Rattle.outline.proofs.Steps.{nothing, both, step-pass, step-full, step-entry, Claim, Closed}
use Rattle.outline.proofs.Asked.{fault-from, asks, accepted-fine, outlined-each}
use Rattle.outline.proofs.Counting.{left-next, count}
use Rattle.outline.proofs.Sizes.{joined_bytes}
use Rattle.outline.proofs.Resumed.{EndsInText, ends-in-text, going_on}
use Rattle.std.specs.Prelude.{Ok}

module _ (ed : ℕ) (text : List ℕ) where
  -- the next call of a division is as fine as the one before
  next-fine : (at limit : ℕ) (p : Pending) (room : ℕ) (a : Portion) → outlined ed text at limit p room ≡ accepted a → call_fault ed text a.end ≡ Ok tt
  next-fine at limit p room a e =
      fault-from ed text at a.end (accepted-fine ed text at limit p room a e) (outlined-each ed text at limit p room (EndsInText text) (ends-in-text ed text) a e)

  -- no call at all, and a call in front of one
  none-at : (at : ℕ) (p : Pending) (room : ℕ) → call_fault ed text at ≡ Ok tt → OneCall ed text at 0 p room []
  unfolding portion stopped records_of all_bytes
  none-at at p room f = (nothing false at (handed text p), asks ed text at 0 p room f, refl, refl)

  in-front : (at limit : ℕ) (p : Pending) (room : ℕ) (a : Portion) (n : ℕ) (bytes : List ℕ) (most : ℕ) → outlined ed text at limit p room ≡ accepted a
      → length (written text a ++ bytes) ≤ most → OneCall ed text a.end n a.pending (most - length (written text a)) bytes → OneCall ed text at (a.count + n) p most (written text a ++ bytes)
  unfolding joined
  in-front at limit p room a n bytes most e h o =
      let l = length-append (written text a) bytes in
      let z : length (written text a) + (most - length (written text a)) ≡ most = omega arith in (
        both a.count a.entries o.0,
        ap (λ (m : ℕ). outlined ed text at (a.count + n) p m) (sym z) ∙ going_on ed text at limit p room a e n (most - length (written text a)) ∙ ap (joined a.count a.entries) o.1,
        o.2,
        joined_bytes text a.entries o.0.entries ∙ ap (λ (l : List ℕ). written text a ++ l) o.3,
      )

  anyhow : {at : ℕ} {p : Pending} {ss : List Share} {n : ℕ} {bytes : List ℕ} → Divided ed text at p ss n bytes → call_fault ed text at ≡ Ok tt → (room : ℕ) → length bytes ≤ room → OneCall ed text at n p room bytes
  anyhow {at} {p} over f room h = none-at at p room f
  anyhow {at} {p} (call {s = s} {count = n} {bytes = bytes} a e g d) f room h =
      let l = length-append (written text a) bytes in
      in-front at s.limit p s.room a n bytes room e h (anyhow d (next-fine at s.limit p s.room a e) (room - length (written text a)) (omega arith))

  -- the tokens that are left where a portion ends
  abbrev Leaves : Claim
  Leaves at p k n l a = a.count + tokens_left (tokens_at ed text a.end) ≡ tokens_left l

  leaves : Closed ed text Leaves
  leaves =
      record {
        none = λ at p k l w. rw (← (list_of ed text at l w).1) (omega arith);
        over = λ at p k n t w. rw (← w.1) (omega arith);
        full = λ at p n t l w e. rw (← w.0.1) (omega arith);
        pass = λ at p k n t l b w e ih. omega (arith, ih, left-next t l);
        entry = λ at p k n t l b w e ih. omega (arith, ih, left-next t l);
      }

  together : {at : ℕ} {p : Pending} {ss : List Share} {n : ℕ} {bytes : List ℕ} → Divided ed text at p ss n bytes → n ≡ min (limits ss) (tokens_left (tokens_at ed text at))
  together over = omega arith
  together {at} {p} (call {s = s} a e g d) =
      let c = (count ed text at s.limit p s.room a e).done g in
      let l = outlined-each ed text at s.limit p s.room Leaves leaves a e in
      omega (arith, c, l, together d)

-- a limit above the tokens that are left to EOF never decides
step_same : (text : List ℕ) (at : ℕ) (p : Pending) (t : Token) (f g : ℕ → Outlined) → ((m : ℕ) → f m ≡ g m) → (b : Bool) → names p.keyword t.kind ≡ b → (k : ℕ) → stepped text at p k t f ≡ stepped text at p k t g
step_same text at p t f g h false e k = step-pass text at p t f k e ∙ ap (joined 1 []) (h k) ∙ sym (step-pass text at p t g k e)
step_same text at p t f g h true e zero = step-full text at p t f e ∙ sym (step-full text at p t g e)
step_same text at p t f g h true e (suc k) = step-entry text at p t f k e ∙ ap (joined 1 (entry_at text at p t ∷ [])) (h k) ∙ sym (step-entry text at p t g k e)

enough : (text : List ℕ) (l : Listed) (at : ℕ) (p : Pending) (k n m : ℕ) → ReachesEOF l → tokens_left l ≤ n → tokens_left l ≤ m → portion text at p k n l ≡ portion text at p k m l
unfolding portion ReachesEOF
enough text (eof t) at p k zero zero r h g = refl
enough text (eof t) at p k zero (suc m) r h g = refl
enough text (eof t) at p k (suc n) zero r h g = refl
enough text (eof t) at p k (suc n) (suc m) r h g = refl
enough text (refused q) at p k n m r h g = absurd r
enough text (next t l) at p k zero m r h g = absurd (omega (arith, left-next t l))
enough text (next t l) at p k (suc n) zero r h g = absurd (omega (arith, left-next t l))
enough text (next t l) at p k (suc n) (suc m) r h g =
    let q = pending_behind text at p.comment t in
    step_same text at p t (λ j. portion text t.end q j n l) (λ j. portion text t.end q j m l)
    (λ j. enough text l t.end q j n m r (omega (arith, left-next t l)) (omega (arith, left-next t l))) (names p.keyword t.kind) refl k

-- where a first call was accepted, text, offset and edition are fine
fine : (ed : ℕ) (text : List ℕ) {at : ℕ} {p : Pending} {ss : List Share} {n : ℕ} {bytes : List ℕ} → Divided ed text at p ss n bytes → (ss ≡ [] → call_fault ed text at ≡ (Ok tt)) → call_fault ed text at ≡ Ok tt
fine ed text over f = f refl
fine ed text {at} {p} (call {s = s} a e g d) f = accepted-fine ed text at s.limit p s.room a e

pub divided-anyhow : DividedAnyhow
divided-anyhow ed text at p ss n bytes f d room h = anyhow ed text d (fine ed text d f) room h

pub divided-to-eof : DividedToEOF
divided-to-eof ed text at p ss n bytes q r d g limit room i h =
    let f = fine ed text d q in
    let o = anyhow ed text d f room h in
    let z = together ed text d in (
      o.0,
      asks ed text at limit p room f ∙ enough text (tokens_at ed text at) at (handed text p) (fitting text room) limit n r i (omega (arith, z)) ∙ sym (asks ed text at n p room f) ∙ o.1,
      o.2,
      o.3,
    )
