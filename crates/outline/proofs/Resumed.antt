-- Theorem 2: going on loses nothing.
use mathlib.Core.Path.{◌≡◌, ap, sym, ◌∙◌}
use mathlib.Core.Bool.{Bool, true, false}
use mathlib.Core.List.{List, [], ◌∷◌, ◌++◌}
use Prim.Native.Nat.{ℕ, suc, ◌+◌, ◌≤◌}
use native.Mathlib.Omega.{arith}
use native.Mathlib.Nat.{zero-add}
use lib.ListN.{length}
use Rattle.tokens.specs.Walk.{Listed, eof, next, tokens_at}
use Rattle.tokens.specs.declared.Token.{Token}
use Rattle.outline.specs.Entry.{Entry, fitting}
use Rattle.outline.specs.Outline.{handed, pending_behind, Portion, Outlined, joined, entry_at, stepped, portion}
use Rattle.outline.specs.Theorems.{written, GoingOn}
use Rattle.outline.specs.declared.Pending.{Pending}
use Rattle.outline.proofs.Listing.{Walks, list_of}
use Rattle.outline.proofs.Steps.{nothing, joined-none, joined-both, step-pass, step-entry, Claim, Closed}
use Rattle.outline.proofs.Asked.{fault-from, asks, accepted-fine, outlined-each}
use Rattle.outline.proofs.Kept.{pending-kept}
use Rattle.outline.proofs.Sizes.{fitting-more}

-- the end stands in the text
abbrev pub EndsInText : List ℕ → Claim
EndsInText text at p k n l a = a.end ≤ length text

pub ends-in-text : (ed : ℕ) (text : List ℕ) → Closed ed text (EndsInText text)
ends-in-text ed text =
    record {
      none = λ at p k l w. (list_of ed text at l w).0;
      over = λ at p k n t w. w.0;
      full = λ at p n t l w e. w.0.0;
      pass = λ at p k n t l b w e ih. ih;
      entry = λ at p k n t l b w e ih. ih;
    }

module _ (ed : ℕ) (text : List ℕ) where
  abbrev Resumes : Claim
  Resumes at p k n l a =
      (m j : ℕ) → portion text at p (length a.entries + j) (a.count + m) l ≡ joined a.count a.entries (portion text a.end a.pending j m (tokens_at ed text a.end))

  from-here : (at : ℕ) (p : Pending) (k n : ℕ) (l : Listed) (b : Bool) → Walks ed text at l → Resumes at p k n l (nothing b at p)
  from-here at p k n l b w m j = rw (zero-add j, zero-add m, joined-none, ← (list_of ed text at l w).1)

  -- one token more in front
  module _ (at : ℕ) (p : Pending) (t : Token) (l : Listed) (b : Portion) (m j : ℕ) where
    abbrev rest : ℕ → Outlined
    rest k = portion text t.end (pending_behind text at p.comment t) k (b.count + m) l

    abbrev behind : Outlined
    behind = portion text b.end b.pending j m (tokens_at ed text b.end)

    one_more_lem : (k : ℕ) (es : List Entry) → stepped text at p k t rest ≡ joined 1 es (rest (length b.entries + j)) → rest (length b.entries + j) ≡ joined b.count b.entries behind
        → portion text at p k (1 + b.count + m) (next t l) ≡ joined (1 + b.count) (es ++ b.entries) behind
    unfolding portion
    one_more_lem k es s ih =
        let e : 1 + b.count + m ≡ suc (b.count + m) = omega arith in
        rw e (s ∙ ap (joined 1 es) ih ∙ joined-both 1 b.count es b.entries behind)

  resumes : Closed ed text Resumes
  resumes =
      record {
        none = λ at p k l w. from-here at p k 0 l false w;
        over = λ at p k n t w. from-here at p k (suc n) (eof t) false w;
        full = λ at p n t l w e. from-here at p 0 (suc n) (next t l) true w;
        pass = λ at p k n t l b w e ih m j. one_more_lem at p t l b m j (length b.entries + j) [] (step-pass text at p t _ (length b.entries + j) e) (ih m j);
        entry = λ at p k n t l b w e ih m j.
            let z : suc (length b.entries) + j ≡ suc (length b.entries + j) = omega arith in
            rw z (one_more_lem at p t l b m j (suc (length b.entries + j)) (entry_at text at p t ∷ []) (step-entry text at p t _ (length b.entries + j) e) (ih m j));
      }

pub going_on : GoingOn
going_on ed text at limit p room a e more more_room =
    let f = accepted-fine ed text at limit p room a e in
    let g = fault-from ed text at a.end f (outlined-each ed text at limit p room (EndsInText text) (ends-in-text ed text) a e) in
    let h = (pending-kept ed text at limit p room a e).taken in
    asks ed text at (a.count + more) p (length (written text a) + more_room) f
    ∙ ap (λ (k : ℕ). portion text at (handed text p) k (a.count + more) (tokens_at ed text at)) (fitting-more text a.entries more_room)
    ∙ outlined-each ed text at limit p room (Resumes ed text) (resumes ed text) a e more (fitting text more_room)
    ∙ ap (joined a.count a.entries)
    (ap (λ (q : Pending). portion text a.end q (fitting text more_room) more (tokens_at ed text a.end)) (sym h) ∙ sym (asks ed text a.end more a.pending more_room g))
