-- One induction over the steps of a portion: what holds where it stops and is handed on by every step holds of what it reads.
use mathlib.Core.Path.{◌≡◌, refl}
use mathlib.Core.Bool.{Bool, true, false}
use mathlib.Core.List.{List, [], ◌∷◌, ◌++◌, append_assoc}
use Prim.Native.Nat.{ℕ, zero, suc, ◌+◌}
use native.Mathlib.Nat.{zero-add, add_assoc}
use Rattle.tokens.specs.Walk.{Listed, eof, refused, next}
use Rattle.tokens.specs.declared.Token.{Token}
use Rattle.outline.specs.Entry.{Entry}
use Rattle.outline.specs.Outline.{pending_behind, Portion, Outlined, accepted, rejected, stopped, joined, names, entry_at, stepped, portion}
use Rattle.outline.specs.declared.Pending.{Pending}
use Rattle.outline.proofs.Listing.{Walks}

-- nothing read; what is read behind c tokens with their entries
abbrev pub nothing : Bool → ℕ → Pending → Portion
nothing full at p = record { full = full; count = 0; entries = []; end = at; pending = p }

abbrev pub both : ℕ → List Entry → Portion → Portion
both c es a = record { full = a.full; count = c + a.count; entries = es ++ a.entries; end = a.end; pending = a.pending }

pub joined-none : (x : Outlined) → joined 0 [] x ≡ x
unfolding joined
joined-none (accepted a) = rw zero-add
joined-none (rejected r) = refl

pub joined-both : (c d : ℕ) (es fs : List Entry) (x : Outlined) → joined c es (joined d fs x) ≡ joined (c + d) (es ++ fs) x
unfolding joined
joined-both c d es fs (accepted a) = rw (add_assoc, append_assoc)
joined-both c d es fs (rejected r) = refl

-- one step, by whether the token is a name
module _ (text : List ℕ) (at : ℕ) (p : Pending) (t : Token) (go : ℕ → Outlined) where
  pub step-pass : (k : ℕ) → names p.keyword t.kind ≡ false → stepped text at p k t go ≡ joined 1 [] (go k)
  unfolding stepped
  step-pass k e = rw e

  pub step-full : names p.keyword t.kind ≡ true → stepped text at p 0 t go ≡ stopped true at p
  unfolding stepped
  step-full e = rw e

  pub step-entry : (k : ℕ) → names p.keyword t.kind ≡ true → stepped text at p (suc k) t go ≡ joined 1 (entry_at text at p t ∷ []) (go k)
  unfolding stepped
  step-entry k e = rw e

-- a portion from `at` on, where p is pending, k more entries fit, n is the limit and l the list
abbrev pub Claim : Type 1
Claim = (at : ℕ) (p : Pending) (k n : ℕ) (l : Listed) → Portion → Type 0

pub record Closed (ed : ℕ) (text : List ℕ) (Q : Claim) : Type 0 where
  pub none : (at : ℕ) (p : Pending) (k : ℕ) (l : Listed) → Walks ed text at l → Q at p k 0 l (nothing false at p)
  pub over : (at : ℕ) (p : Pending) (k n : ℕ) (t : Token) → Walks ed text at (eof t) → Q at p k (suc n) (eof t) (nothing false at p)
  pub full : (at : ℕ) (p : Pending) (n : ℕ) (t : Token) (l : Listed) → Walks ed text at (next t l) → names p.keyword t.kind ≡ true → Q at p 0 (suc n) (next t l) (nothing true at p)
  pub pass : (at : ℕ) (p : Pending) (k n : ℕ) (t : Token) (l : Listed) (b : Portion) → Walks ed text at (next t l) → names p.keyword t.kind ≡ false
      → Q t.end (pending_behind text at p.comment t) k n l b → Q at p k (suc n) (next t l) (both 1 [] b)
  pub entry : (at : ℕ) (p : Pending) (k n : ℕ) (t : Token) (l : Listed) (b : Portion) → Walks ed text at (next t l) → names p.keyword t.kind ≡ true
      → Q t.end (pending_behind text at p.comment t) k n l b → Q at p (suc k) (suc n) (next t l) (both 1 (entry_at text at p t ∷ []) b)

-- of what is accepted
abbrev pub Accepts : (Portion → Type 0) → Outlined → Type 0
Accepts P (accepted a) = P a
Accepts P (rejected r) = Unit {0}

module _ (ed : ℕ) (text : List ℕ) (Q : Claim) (c : Closed ed text Q) where
  accepts : (P R : Portion → Type 0) (es : List Entry) (x : Outlined) → ((b : Portion) → P b → R (both 1 es b)) → Accepts P x → Accepts R (joined 1 es x)
  unfolding joined
  accepts P R es (accepted b) f h = f b h
  accepts P R es (rejected r) f h = tt

  steps : (at : ℕ) (p : Pending) (n : ℕ) (t : Token) (l : Listed) (go : ℕ → Outlined) → Walks ed text at (next t l) → (b : Bool) → names p.keyword t.kind ≡ b
      → ((m : ℕ) → Accepts (Q t.end (pending_behind text at p.comment t) m n l) (go m)) → (k : ℕ) → Accepts (Q at p k (suc n) (next t l)) (stepped text at p k t go)
  unfolding stopped
  steps at p n t l go w false e ih k = rw (step-pass text at p t go k e) (accepts _ _ [] (go k) (λ b. c.pass at p k n t l b w e) (ih k))
  steps at p n t l go w true e ih zero = rw (step-full text at p t go e) (c.full at p n t l w e)
  steps at p n t l go w true e ih (suc k) = rw (step-entry text at p t go k e) (accepts _ _ (entry_at text at p t ∷ []) (go k) (λ b. c.entry at p k n t l b w e) (ih k))

  pub portion-each : (n : ℕ) (l : Listed) (at : ℕ) (p : Pending) (k : ℕ) → Walks ed text at l → Accepts (Q at p k n l) (portion text at p k n l)
  unfolding portion stopped
  portion-each zero l at p k w = c.none at p k l w
  portion-each (suc n) (eof t) at p k w = c.over at p k n t w
  portion-each (suc n) (refused r) at p k w = tt
  portion-each (suc n) (next t l) at p k w =
      steps at p n t l (λ m. portion text t.end (pending_behind text at p.comment t) m n l) w (names p.keyword t.kind) refl
      (λ m. portion-each n l t.end (pending_behind text at p.comment t) m w.3) k
