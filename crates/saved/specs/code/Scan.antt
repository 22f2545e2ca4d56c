-- How the code looks for what is wrong: every record as a parent, from the front, its children along their lengths; what is found last
-- stands first, so that it is kept; and of the records that are open and deepen, where they end.
use Rattle.std.specs.Prelude.{ℕ, zero, suc, ◌+◌, ◌-◌, ◌≤◌, ◌≡◌, Bool, true, false, cond, ◌||◌, List, eqb, ltb, length, get_or, set, replicate, Option, Some, None, Result, Ok, Err}
use Rattle.tokens.specs.Answers.{refusal}
use Rattle.tokens.specs.Refusals.{TooDeep}
use Rattle.tokens.specs.declared.Refusal.{Refusal}
use Rattle.records.specs.Kinds.{RecField}
use Rattle.forms.specs.Forms.{head_size}
use Rattle.saved.specs.Refusals.{NotAllowed}
use Rattle.saved.specs.Children.{least, deepens}
use Rattle.saved.specs.Heads.{form_told, head_at}
use Rattle.saved.specs.Open.{levels, unfit, first_at, head_fault, Parent, parent, child_fault}
use Rattle.saved.specs.Child.{saved_head}
use Rattle.saved.specs.declared.Head.{Head}
use Rattle.saved.specs.declared.Fault.{Fault}
use Rattle.saved.specs.declared.SavedRecord.{SavedRecord}

-- the head of the record at p, where it fits the bytes left
abbrev pub head_within : (f : ℕ) → List ℕ → (p room : ℕ) → Option Head
head_within f bytes p room = cond (unfit f room (head_at f bytes p)) None (Some (head_at f bytes p))

-- a fault's number, none where it is 0; a head, unless it has such a fault
abbrev pub numbered : ℕ → Option ℕ
numbered zero = None
numbered (suc n) = Some (suc n)

abbrev pub head_unless : (number : ℕ) → Head → Result Head ℕ
head_unless zero h = Ok h
head_unless (suc n) h = Err (suc n)

-- the outermost record's head, unless it meets 15 to 17, in a text that ends at `to`
abbrev pub outermost_in : (f : ℕ) → List ℕ → (p to : ℕ) → Result Head ℕ
outermost_in f bytes p to =
    head_unless (head_fault (unfit f (length bytes - p) (head_at f bytes p) || ltb (head_at f bytes p).len (length bytes - p)) true 0 to (head_at f bytes p)) (head_at f bytes p)

abbrev pub outermost_read : List ℕ → (to : ℕ) → Result Head ℕ
outermost_read bytes to = outermost_in (form_told bytes) bytes (first_at (form_told bytes)) to

-- a fault: where it stands, its number, and the record that is blamed
abbrev pub fault : (place number offset : ℕ) → Fault
fault p n o = record { place = p; number = n; offset = o }

-- of two the one that was found last, unless it stands behind the other; and where a kept one ends the walk
abbrev pub earlier : Option Fault → Option Fault → Option Fault
earlier kept None = kept
earlier None (Some g) = Some g
earlier (Some k) (Some g) = cond (ltb k.place g.place) (Some k) (Some g)

abbrev pub stop : (len : ℕ) → Option Fault → ℕ
stop n None = n
stop n (Some k) = k.place

-- the first fault of a record's children, not looking into them; one that is missing stands at the end
abbrev pub missing_of : (at_least index p at : ℕ) → Option Fault
missing_of n index p at = cond (ltb index n) (Some (fault p NotAllowed at)) None

abbrev pub missing : Parent → (index p : ℕ) → Option Fault
missing P index p = missing_of (least P.head.kind) index p P.at

unfoldable pub stopped : (number p : ℕ) → Option Fault → Option Fault
stopped zero p next = next
stopped (suc n) p next = Some (fault p (suc n) p)

unfoldable pub run_from : (f : ℕ) → List ℕ → ℕ → Parent → (index : ℕ) (field : Bool) (p room : ℕ) → Option Fault
run_from f bytes zero P index field p room = missing P index p
run_from f bytes (suc n) P index field p zero = missing P index p
run_from f bytes (suc n) P index field p (suc m) =
    stopped (child_fault f P index field (suc m) (head_at f bytes p)) p
    (run_from f bytes n P (suc index) (field || eqb (head_at f bytes p).kind RecField) (p + (head_at f bytes p).len) (suc m - (head_at f bytes p).len))

-- of the record at i; its level does not matter here
abbrev pub run_over : (f : ℕ) → List ℕ → (i : ℕ) → Head → Option Fault
run_over f bytes i h = run_from f bytes h.len (parent i h 0) 0 false (i + head_size f) (h.len - head_size f)

-- for every bound above the bytes left the run gives r
abbrev pub Runs : (f : ℕ) → List ℕ → Parent → (index : ℕ) (field : Bool) (p room : ℕ) → Option Fault → Type 0
Runs f bytes P index field p room r = (m : ℕ) → room ≤ m → run_from f bytes m P index field p room ≡ r

-- of so many ends those that are behind i, up to the first that is
unfoldable pub still_open : List ℕ → (depth i : ℕ) → ℕ
still_open ends zero i = 0
still_open ends (suc d) i = cond (ltb i (get_or ends d 0)) (suc d) (still_open ends d i)

-- how much a record of this kind deepens
abbrev pub deepening : ℕ → ℕ
deepening k = cond (deepens 0 k) 1 0

unfoldable pub walk_from : (f : ℕ) → List ℕ → ℕ → (ends : List ℕ) (depth i : ℕ) → Option Fault → Option Fault
walk_from f bytes zero ends depth i kept = kept
walk_from f bytes (suc m) ends depth i kept =
    cond (ltb i (stop (length bytes) kept))
    (cond (unfit f (length bytes - i) (head_at f bytes i)) kept
    (cond (ltb levels (still_open ends depth i + deepening (head_at f bytes i).kind)) (Some (fault i TooDeep i))
    (walk_from f bytes m (set ends (still_open ends depth i) (i + (head_at f bytes i).len)) (still_open ends depth i + deepening (head_at f bytes i).kind) (i + head_size f)
    (earlier kept (run_over f bytes i (head_at f bytes i))))))
    kept

abbrev pub Walks : (f : ℕ) → List ℕ → (ends : List ℕ) (depth i : ℕ) → Option Fault → Option Fault → Type 0
Walks f bytes ends depth i kept r = (m : ℕ) → length bytes ≤ i + m → walk_from f bytes m ends depth i kept ≡ r

-- what is answered of an outermost record with the head h that passed its tests
abbrev pub answer_by : Option Fault → (first : ℕ) → Head → Result SavedRecord Refusal
answer_by None first h = Ok (saved_head first h)
answer_by (Some k) first h = Err (refusal k.number k.offset k.offset)

pub record OpensOver (f : ℕ) (bytes : List ℕ) (first : ℕ) (h : Head) (r : Result SavedRecord Refusal) : Type 0 where
  pub found : Option Fault
  pub walks : Walks f bytes (replicate 65 (length bytes)) (1 - deepening h.kind) first None found
  pub answers : r ≡ answer_by found first h
