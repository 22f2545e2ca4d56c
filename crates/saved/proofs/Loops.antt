-- The loops of the code, turn by turn.
use mathlib.Core.Path.{◌≡◌, refl, ap, sym, ◌∙◌}
use mathlib.Core.Bool.{Bool, false, ◌||◌}
use mathlib.Core.List.{List}
use Prim.Native.Nat.{ℕ, zero, suc, ◌+◌, ◌-◌, ◌<◌, ◌≤◌}
use native.Mathlib.Omega.{arith}
use native.Mathlib.Numerals.{add-one}
use borrow.Author.Tests.{lt-ltb, le-ltb}
use lib.Dec.{eqb}
use lib.ListN.{length, set}
use Rattle.tokens.specs.Refusals.{TooDeep}
use Rattle.records.specs.Kinds.{RecField}
use Rattle.forms.specs.Forms.{head_size}
use Rattle.saved.specs.Children.{allows, row_of, slot}
use Rattle.saved.specs.Heads.{head_at}
use Rattle.saved.specs.Open.{levels, Parent, parent, child_fault, head_fault}
use Rattle.saved.specs.Child.{saved_head, child_from}
use Rattle.saved.specs.code.Scan.{fault, numbered, earlier, stop, missing_of, run_over, Runs, still_open, deepening, Walks}
use Rattle.saved.specs.declared.Allowed.{Allowed}
use Rattle.saved.specs.declared.Row.{Row}
use Rattle.saved.specs.declared.Head.{Head}
use Rattle.saved.specs.declared.SavedRecord.{SavedRecord}
use Rattle.saved.specs.declared.Fault.{Fault}
use Rattle.std.specs.Prelude.{Option, Some, None, Ok}
use Rattle.saved.proofs.Heads.{Told}
use Rattle.saved.proofs.Scan.{runs-end, runs_on, fault-fit, walks-deep, walks-on, Inside, inside-wider, run_in, child-here, child-on}

-- a numbered fault, and none
pub number-some : (n m : ℕ) (r : Option ℕ) → r ≡ numbered n → r ≡ Some m → (n ≡ m) × (0 < n)
number-some zero m r e s = let w : ◌≡◌ {A = ℕ} 0 1 = cc in absurd (omega arith)
number-some (suc n) m r e s = let w : Some (suc n) ≡ Some m = sym e ∙ s in (cc, omega arith)

pub number-none-of : (n : ℕ) (r : Option ℕ) → r ≡ numbered n → r ≡ None → n ≡ 0
number-none-of zero r e s = refl
number-none-of (suc n) r e s = let w : ◌≡◌ {A = ℕ} 0 1 = cc in absurd (omega arith)

-- the run begins behind the head
pub runs-from : (f : ℕ) (bytes : List ℕ) (P : Parent) (at len size : ℕ) (r : Option Fault) → size ≡ head_size f
    → Runs f bytes P 0 false (at + size) (len - size) r → Runs f bytes P 0 false (at + head_size f) (len - head_size f) r
runs-from f bytes P at len size r z x = rw z at x

module _ (f : ℕ) (bytes : List ℕ) (P : Parent) (index : ℕ) (field : Bool) (p room : ℕ) where
  module _ (k : Head) (t : Told f bytes p room k) where
    -- the child's fault, by the row of the table
    pub child-number : (a : Allowed) (row : Row) → row ≡ row_of P.head.kind → a ≡ slot row index
        → (n : ℕ) → n ≡ head_fault false (allows a field k.kind) P.head.start P.head.end k → child_fault f P index field room (head_at f bytes p) ≡ n
    child-number a row e d n h =
        fault-fit f P index field room (head_at f bytes p) t.fit
        ∙ sym
        (h ∙ ap (λ (x : Head). head_fault false (allows a field x.kind) P.head.start P.head.end x) t.is
        ∙ ap (λ (x : Allowed). head_fault false (allows x field (head_at f bytes p).kind) P.head.start P.head.end (head_at f bytes p)) (d ∙ ap (λ (x : Row). slot x index) e))

    -- on to the next
    pub runs-next : 0 < room → child_fault f P index field room (head_at f bytes p) ≡ 0 → 0 < head_size f → (field₂ : Bool) → field₂ ≡ (field || eqb k.kind RecField)
        → (r : Option Fault) → Runs f bytes P (index + 1) field₂ (p + k.len) (room - k.len) r → Runs f bytes P index field p room r
    runs-next h e s field₂ g r x =
        let l : k.len ≡ (head_at f bytes p).len = ap (λ (y : Head). y.len) t.is in
        let j : field₂ ≡ (field || eqb (head_at f bytes p).kind RecField) = g ∙ ap (λ (y : Head). field || eqb y.kind RecField) t.is in
        runs_on f bytes P index field p room h e (omega (arith, l, s, t.short)) r (rw (add-one index, j, l) at x)

  -- behind the last
  pub runs_last : room ≤ 0 → (row : Row) → row ≡ row_of P.head.kind → (r : Option Fault) → r ≡ missing_of row.least index p P.at → Runs f bytes P index field p room r
  runs_last h row e r g =
      let z : room ≡ 0 = omega arith in
      rw z (runs-end f bytes P index field p r (g ∙ ap (λ (x : Row). missing_of x.least index p P.at) e))

-- the walk goes on at the next head
module _ (f : ℕ) (bytes : List ℕ) (ends : List ℕ) (depth i : ℕ) (kept : Option Fault) (here : i < stop (length bytes) kept) (inside : stop (length bytes) kept ≤ length bytes) where
  pub walks_next : (k : Head) → Told f bytes i (length bytes - i) k → (o : ℕ) → o ≡ still_open ends depth i → (d : ℕ) → d ≡ deepening k.kind → o + d ≤ levels → 0 < head_size f
      → (found : Option Fault) → Runs f bytes (parent i k 0) 0 false (i + head_size f) (k.len - head_size f) found → (kept₂ : Option Fault) → kept₂ ≡ earlier kept found → (size : ℕ) → size ≡ head_size f
      → (r : Option Fault) → Walks f bytes (set ends o (i + k.len)) (o + d) (i + size) kept₂ r → Walks f bytes ends depth i kept r
  walks_next k t o oe d e l s found g kept₂ h size z r x =
      let y : earlier kept found ≡ earlier kept (run_over f bytes i (head_at f bytes i)) = ap (earlier kept) (sym (g k.len (omega arith)) ∙ ap (run_over f bytes i) t.is) in
      let q : d ≡ deepening (head_at f bytes i).kind = e ∙ ap (λ (a : Head). deepening a.kind) t.is in
      let w : k.len ≡ (head_at f bytes i).len = ap (λ (a : Head). a.len) t.is in
      walks-on f bytes ends depth i kept here inside t.fit (omega (arith, oe, q, l)) s r (rw (h ∙ y, oe, q, w, z) at x)

  pub walks-stop : (k : Head) → Told f bytes i (length bytes - i) k → (o : ℕ) → o ≡ still_open ends depth i → (d : ℕ) → d ≡ deepening k.kind → levels < o + d → Walks f bytes ends depth i kept (Some (fault i TooDeep i))
  walks-stop k t o oe d e l =
      let q : d ≡ deepening (head_at f bytes i).kind = e ∙ ap (λ (a : Head). deepening a.kind) t.is in
      walks-deep f bytes ends depth i kept here inside t.fit (omega (arith, oe, q, l))

-- a child along the lengths
module _ (f : ℕ) (bytes : List ℕ) (index p room : ℕ) (k : Head) (t : Told f bytes p room k) where
  pub child-next : 0 < index → child_from f bytes index p room ≡ child_from f bytes (index - 1) (p + k.len) (room - k.len)
  child-next h = child-on f bytes p room index h t.fit ∙ ap (λ (x : Head). child_from f bytes (index - 1) (p + x.len) (room - x.len)) (sym t.is)

  pub child-last : index ≤ 0 → (r : SavedRecord) → r ≡ saved_head p k → Ok (Some r) ≡ child_from f bytes index p room
  child-last h r e = ap (λ (x : SavedRecord). Ok (Some x)) e ∙ ap (λ (x : Head). Ok (Some (saved_head p x))) t.is ∙ child-here f bytes p room index h t.fit

-- the walk begins at the outermost record; and the fault that it keeps is never behind the last byte
pub walks_from : (f : ℕ) (bytes ends : List ℕ) (d k i : ℕ) (kept r : Option Fault) → d ≡ deepening k → Walks f bytes ends (1 - d) i kept r → Walks f bytes ends (1 - deepening k) i kept r
walks_from f bytes ends d k i kept r e x = rw e at x

pub runs-inside : (f : ℕ) (bytes : List ℕ) → 0 < head_size f → (P : Parent) (index : ℕ) (field : Bool) (p room : ℕ) (found : Option Fault) → p + room ≤ length bytes → Runs f bytes P index field p room found → Inside p (length bytes) found
runs-inside f bytes positive P index field p room found l g =
    let x = run_in f bytes positive room P index field p room (omega arith) in
    inside-wider p p (p + room) (length bytes) found (omega arith) l (rw (g room (omega arith)) at x)

-- which fault is kept, and where the walk then ends
pub record Kept (n : ℕ) (kept found kept₂ : Option Fault) (end₂ : ℕ) : Type 0 where
  pub is : kept₂ ≡ earlier kept found
  pub ends : end₂ ≡ stop n kept₂

module _ (n lo end : ℕ) (kept found kept₂ : Option Fault) (end₂ : ℕ) (stops : end ≡ stop n kept) (inside : Inside lo n found) where
  pub kept-found : (k : Fault) → found ≡ Some k → k.place ≤ end → kept₂ ≡ Some k → end₂ ≡ k.place → Kept n kept found kept₂ end₂
  kept-found k e l h g = record { is = h ∙ sym (ap (earlier kept) e ∙ go kept stops); ends = g ∙ sym (ap (stop n) h) }
    where
      go : (j : Option Fault) → end ≡ stop n j → earlier j (Some k) ≡ Some k
      go None x = refl
      go (Some j) x = rw (le-ltb j.place k.place (omega arith))

  pub kept-behind : (k : Fault) → found ≡ Some k → end < k.place → kept₂ ≡ kept → end₂ ≡ end → Kept n kept found kept₂ end₂
  kept-behind k e l h g = record { is = h ∙ sym (ap (earlier kept) e ∙ go kept stops (rw e at inside)); ends = g ∙ stops ∙ sym (ap (stop n) h) }
    where
      go : (j : Option Fault) → end ≡ stop n j → Inside lo n (Some k) → earlier j (Some k) ≡ j
      go None x y = absurd (omega (arith, y.1))
      go (Some j) x y = rw (lt-ltb j.place k.place (omega arith))

  pub kept-none : found ≡ None → kept₂ ≡ kept → end₂ ≡ end → Kept n kept found kept₂ end₂
  kept-none e h g = record { is = h ∙ sym (ap (earlier kept) e); ends = g ∙ stops ∙ sym (ap (stop n) h) }
