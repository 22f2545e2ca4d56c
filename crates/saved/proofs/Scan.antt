-- The scan, step by step.
use mathlib.Core.Path.{◌≡◌, refl, sym}
use mathlib.Core.Bool.{Bool, true, false, cond, ◌||◌}
use mathlib.Core.List.{List}
use Prim.Native.Nat.{ℕ, zero, suc, ◌+◌, ◌-◌, ◌<◌, ◌≤◌}
use native.Mathlib.Omega.{arith}
use borrow.Author.Tests.{lt-ltb, le-ltb}
use lib.Dec.{eqb, ltb}
use lib.ListN.{length, get_or, set, take}
use lib.Seq.{length-take-le}
use Rattle.std.proofs.lemmas.List.{get_or-take}
use Rattle.tokens.specs.Refusals.{TooDeep}
use Rattle.records.specs.Kinds.{RecField}
use Rattle.forms.specs.Forms.{head_size}
use Rattle.saved.specs.Refusals.{RecordUnfit, NotAllowed}
use Rattle.saved.specs.Heads.{head_at}
use Rattle.saved.specs.Open.{levels, unfit, Parent, child_fault, head_fault}
use Rattle.saved.specs.Child.{saved_head, child_from}
use Rattle.saved.specs.Children.{may, least, deepens}
use Rattle.saved.proofs.Heads.{unfit-false}
use Rattle.saved.specs.code.Scan.{fault, earlier, stop, missing, stopped, run_from, run_over, Runs, still_open, deepening, walk_from, Walks}
use Rattle.saved.specs.declared.Head.{Head}
use Rattle.saved.specs.declared.Fault.{Fault}
use Rattle.std.specs.Prelude.{Option, Some, None, Ok}

-- the ends that are still open
module _ (ends : List ℕ) where
  pub open-here : (d i : ℕ) → 0 < d → i < get_or ends (d - 1) 0 → still_open ends d i ≡ d
  unfolding still_open
  open-here zero i h g = absurd (omega arith)
  open-here (suc d) i h g = let z : suc d - 1 ≡ d = omega arith in let g₂ : i < get_or ends d 0 = rw z at g in rw (lt-ltb i (get_or ends d 0) g₂)

  pub open-below : (d i : ℕ) → 0 < d → get_or ends (d - 1) 0 ≤ i → still_open ends d i ≡ still_open ends (d - 1) i
  unfolding still_open
  open-below zero i h g = absurd (omega arith)
  open-below (suc d) i h g =
      let z : suc d - 1 ≡ d = omega arith in
      let g₂ : get_or ends d 0 ≤ i = rw z at g in
      rw (z, le-ltb i (get_or ends d 0) g₂)

  pub open_none : (d i : ℕ) → d ≤ 0 → still_open ends d i ≡ 0
  unfolding still_open
  open_none zero i h = refl
  open_none (suc d) i h = absurd (omega arith)

  pub open-few : (d i : ℕ) → still_open ends d i ≤ d
  unfolding still_open
  open-few zero i = omega arith
  open-few (suc d) i = go (ltb i (get_or ends d 0)) (open-few d i)
    where
      go : (b : Bool) → still_open ends d i ≤ d → cond b (suc d) (still_open ends d i) ≤ suc d
      go true h = omega arith
      go false h = omega arith

-- of the first ends alone
open-same : (xs ys : List ℕ) (i d : ℕ) → ((j : ℕ) → j < d → get_or xs j 0 ≡ get_or ys j 0) → still_open xs d i ≡ still_open ys d i
unfolding still_open
open-same xs ys i zero h = refl
open-same xs ys i (suc d) h = rw (h d (omega arith), open-same xs ys i d (λ j g. h j (omega arith)))

pub open-take : (ends : List ℕ) (d i o : ℕ) → d ≤ length ends → o ≡ still_open (take d ends) (length (take d ends)) i → o ≡ still_open ends d i
open-take ends d i o h e = rw (length-take-le d ends h, open-same (take d ends) ends i d (λ j g. get_or-take d ends j 0 g)) at e

-- a record deepens by one level or none
pub deepening-few : (k : ℕ) → deepening k ≤ 1
deepening-few k = go (deepens 0 k)
  where
    go : (b : Bool) → cond b 1 0 ≤ 1
    go true = omega arith
    go false = omega arith

-- the run along a record's children, for every bound that is enough
module _ (f : ℕ) (bytes : List ℕ) (P : Parent) (index : ℕ) (field : Bool) (p : ℕ) where
  pub runs-end : (r : Option Fault) → r ≡ missing P index p → Runs f bytes P index field p 0 r
  unfolding run_from
  runs-end r e zero h = sym e
  runs-end r e (suc m) h = sym e

  module _ (room : ℕ) (some : 0 < room) where
    pub runs-stop : (n : ℕ) → child_fault f P index field room (head_at f bytes p) ≡ n → 0 < n → Runs f bytes P index field p room (Some (fault p n p))
    unfolding run_from stopped
    runs-stop zero e h m g = absurd (omega arith)
    runs-stop (suc n) e h zero g = absurd (omega arith)
    runs-stop (suc n) e h (suc m) g = go room some e
      where
        go : (k : ℕ) → 0 < k → child_fault f P index field k (head_at f bytes p) ≡ suc n → run_from f bytes (suc m) P index field p k ≡ Some (fault p (suc n) p)
        go zero i x = absurd (omega arith)
        go (suc k) i x = rw x

    pub runs_on : child_fault f P index field room (head_at f bytes p) ≡ 0 → 0 < (head_at f bytes p).len → (r : Option Fault)
        → Runs f bytes P (suc index) (field || eqb (head_at f bytes p).kind RecField) (p + (head_at f bytes p).len) (room - (head_at f bytes p).len) r
        → Runs f bytes P index field p room r
    unfolding run_from stopped
    runs_on e l r next zero g = absurd (omega arith)
    runs_on e l r next (suc m) g = go room some e (λ i. next m i) g
      where
        go : (k : ℕ) → 0 < k → child_fault f P index field k (head_at f bytes p) ≡ 0
            → (k - (head_at f bytes p).len ≤ m → run_from f bytes m P (suc index) (field || eqb (head_at f bytes p).kind RecField) (p + (head_at f bytes p).len) (k - (head_at f bytes p).len) ≡ r) → k ≤ suc m
            → run_from f bytes (suc m) P index field p k ≡ r
        go zero i x n j = absurd (omega arith)
        go (suc k) i x n j = rw x (n (omega arith))

-- a child's fault, by its parts
pub fault-unfit : (f : ℕ) (P : Parent) (index : ℕ) (field : Bool) (room : ℕ) (h : Head) → unfit f room h ≡ true → child_fault f P index field room h ≡ RecordUnfit
unfolding child_fault head_fault
fault-unfit f P index field room h e = rw e

pub fault-fit : (f : ℕ) (P : Parent) (index : ℕ) (field : Bool) (room : ℕ) (h : Head) → unfit f room h ≡ false
    → child_fault f P index field room h ≡ head_fault false (may P.head.kind index field h.kind) P.head.start P.head.end h
unfolding child_fault
fault-fit f P index field room h e = rw e

pub fault-fits : (f : ℕ) (P : Parent) (index : ℕ) (field : Bool) (room : ℕ) (k : Head) → child_fault f P index field room k ≡ 0 → unfit f room k ≡ false
unfolding child_fault head_fault
fault-fits f P index field room k e = go (unfit f room k) refl
  where
    go : (b : Bool) → unfit f room k ≡ b → b ≡ false
    go true z = let y : ◌≡◌ {A = ℕ} 15 0 = (rw z at e) in absurd (omega arith)
    go false z = refl

-- the walk over all records, for every bound that is enough
module _ (f : ℕ) (bytes : List ℕ) (ends : List ℕ) (depth i : ℕ) (kept : Option Fault) where
  pub walks-end : stop (length bytes) kept ≤ i → Walks f bytes ends depth i kept kept
  unfolding walk_from
  walks-end h zero g = refl
  walks-end h (suc m) g = rw (le-ltb i (stop (length bytes) kept) h)

  module _ (here : i < stop (length bytes) kept) (inside : stop (length bytes) kept ≤ length bytes) where
    pub walks-unfit : unfit f (length bytes - i) (head_at f bytes i) ≡ true → Walks f bytes ends depth i kept kept
    unfolding walk_from
    walks-unfit u zero g = refl
    walks-unfit u (suc m) g = rw (lt-ltb i (stop (length bytes) kept) here, u)

    module _ (u : unfit f (length bytes - i) (head_at f bytes i) ≡ false) where
      pub walks-deep : levels < still_open ends depth i + deepening (head_at f bytes i).kind → Walks f bytes ends depth i kept (Some (fault i TooDeep i))
      unfolding walk_from
      walks-deep d zero g = absurd (omega arith)
      walks-deep d (suc m) g = rw (lt-ltb i (stop (length bytes) kept) here, u, lt-ltb levels (still_open ends depth i + deepening (head_at f bytes i).kind) d)

      pub walks-on : still_open ends depth i + deepening (head_at f bytes i).kind ≤ levels → 0 < head_size f → (r : Option Fault)
          → Walks f bytes (set ends (still_open ends depth i) (i + (head_at f bytes i).len)) (still_open ends depth i + deepening (head_at f bytes i).kind) (i + head_size f)
          (earlier kept (run_over f bytes i (head_at f bytes i))) r
          → Walks f bytes ends depth i kept r
      unfolding walk_from
      walks-on d s r next zero g = absurd (omega arith)
      walks-on d s r next (suc m) g = rw (lt-ltb i (stop (length bytes) kept) here, u, le-ltb levels (still_open ends depth i + deepening (head_at f bytes i).kind) d) (next m (omega arith))

-- where a fault stands that was found, if one was
abbrev pub Inside : (lo hi : ℕ) → Option Fault → Type 0
Inside lo hi None = Unit {0}
Inside lo hi (Some k) = (lo ≤ k.place) × (k.place ≤ hi)

pub inside-wider : (lo lo₂ hi hi₂ : ℕ) (r : Option Fault) → lo₂ ≤ lo → hi ≤ hi₂ → Inside lo hi r → Inside lo₂ hi₂ r
inside-wider lo lo₂ hi hi₂ None a b h = tt
inside-wider lo lo₂ hi hi₂ (Some k) a b h = (omega (arith, h.0), omega (arith, h.1))

-- the kept fault is never behind the last byte
pub earlier-inside : (n lo : ℕ) (kept found : Option Fault) → stop n kept ≤ n → Inside lo n found → stop n (earlier kept found) ≤ n
earlier-inside n lo kept None h g = h
earlier-inside n lo None (Some f) h g = g.1
earlier-inside n lo (Some k) (Some f) h g = go (ltb k.place f.place)
  where
    go : (b : Bool) → stop n (cond b (Some k) (Some f)) ≤ n
    go true = h
    go false = g.1

-- what is wrong with a record's children stands among the bytes that it has
module _ (f : ℕ) (bytes : List ℕ) (positive : 0 < head_size f) where
  missing-inside : (P : Parent) (index c room : ℕ) → Inside c (c + room) (missing P index c)
  missing-inside P index c room = go (ltb index (least P.head.kind))
    where
      go : (b : Bool) → Inside c (c + room) (cond b (Some (fault c NotAllowed P.at)) None)
      go true = (omega arith, omega arith)
      go false = tt

  pub run_in : (m : ℕ) (P : Parent) (index : ℕ) (field : Bool) (c room : ℕ) → room ≤ m → Inside c (c + room) (run_from f bytes m P index field c room)
  unfolding run_from stopped
  run_in zero P index field c room h = missing-inside P index c room
  run_in (suc m) P index field c zero h = missing-inside P index c zero
  run_in (suc m) P index field c (suc room) h =
      go (child_fault f P index field (suc room) (head_at f bytes c)) refl
      (λ g. run_in m P (suc index) (field || eqb (head_at f bytes c).kind RecField) (c + (head_at f bytes c).len) (suc room - (head_at f bytes c).len) g)
    where
      next : Option Fault
      next = run_from f bytes m P (suc index) (field || eqb (head_at f bytes c).kind RecField) (c + (head_at f bytes c).len) (suc room - (head_at f bytes c).len)

      go : (n : ℕ) → child_fault f P index field (suc room) (head_at f bytes c) ≡ n
          → (suc room - (head_at f bytes c).len ≤ m → Inside (c + (head_at f bytes c).len) (c + (head_at f bytes c).len + (suc room - (head_at f bytes c).len)) next)
          → Inside c (c + suc room) (stopped n c next)
      go zero e i =
          let u = unfit-false f (suc room) (head_at f bytes c) (fault-fits f P index field (suc room) (head_at f bytes c) e) in
          inside-wider (c + (head_at f bytes c).len) c (c + (head_at f bytes c).len + (suc room - (head_at f bytes c).len)) (c + suc room) next (omega arith) (omega (arith, u.2)) (i (omega (arith, u.1, positive)))
      go (suc n) e i = (omega arith, omega arith)

-- along the lengths to a child
module _ (f : ℕ) (bytes : List ℕ) (p room : ℕ) where
  pub child-unfit : (index : ℕ) → unfit f room (head_at f bytes p) ≡ true → Ok None ≡ child_from f bytes index p room
  unfolding child_from
  child-unfit zero u = rw u
  child-unfit (suc i) u = rw u

  pub child-here : (index : ℕ) → index ≤ 0 → unfit f room (head_at f bytes p) ≡ false → Ok (Some (saved_head p (head_at f bytes p))) ≡ child_from f bytes index p room
  unfolding child_from
  child-here zero h u = rw u
  child-here (suc i) h u = absurd (omega arith)

  pub child-on : (index : ℕ) → 0 < index → unfit f room (head_at f bytes p) ≡ false → child_from f bytes index p room ≡ child_from f bytes (index - 1) (p + (head_at f bytes p).len) (room - (head_at f bytes p).len)
  unfolding child_from
  child-on zero h u = absurd (omega arith)
  child-on (suc i) h u = let z : suc i - 1 ≡ i = omega arith in rw (u, z)

pub few-by : (d k : ℕ) → d ≡ deepening k → d ≤ 1
few-by d k e = omega (arith, e, deepening-few k)
