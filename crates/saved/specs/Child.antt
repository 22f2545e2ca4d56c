-- A child by the offset of its parent and an index from 0: of bytes, and of a tree.
use Rattle.std.specs.Prelude.{ℕ, zero, suc, ◌+◌, ◌-◌, ◌%◌, Bool, false, cond, not, ◌&&◌, ◌||◌, List, eqb, leb, ltb, length, Option, Some, None, Result, Ok}
use Rattle.tokens.specs.declared.Refusal.{Refusal}
use Rattle.records.specs.Tree.{Tree, leaf, node, Trees, none, more}
use Rattle.records.specs.Spans.{start_of, end_of}
use Rattle.forms.specs.Forms.{head_size, recorded}
use Rattle.saved.specs.Heads.{form_told, head_at}
use Rattle.saved.specs.Open.{unfit, first_at}
use Rattle.saved.specs.declared.Head.{Head}
use Rattle.saved.specs.declared.SavedRecord.{SavedRecord}

-- what a call hands back: a record, none, or a refusal
abbrev pub Handed : Type 0
Handed = Result (Option SavedRecord) Refusal

abbrev pub saved : (offset kind start end : ℕ) → SavedRecord
saved o k s e = record { offset = o; kind = k; start = s; end = e }

abbrev pub saved_head : (offset : ℕ) → Head → SavedRecord
saved_head o h = saved o h.kind h.start h.end

-- whether a record can start at p, of so many bytes: not in what stands in front, before the end, and at a multiple of the size of a
-- head from the front
unfoldable pub starts_by : (f len p : ℕ) → Bool
starts_by f len p = leb (first_at f) p && (ltb p len && eqb ((p - first_at f) % head_size f) 0)

abbrev pub can_start : (f : ℕ) → List ℕ → (p : ℕ) → Bool
can_start f bytes p = starts_by f (length bytes) p

-- the child of an index in the `room` bytes from p on: along the lengths, none from a record on that does not fit
unfoldable pub child_from : (f : ℕ) → List ℕ → (index p room : ℕ) → Handed
child_from f bytes zero p room = cond (unfit f room (head_at f bytes p)) (Ok None) (Ok (Some (saved_head p (head_at f bytes p))))
child_from f bytes (suc i) p room =
    cond (unfit f room (head_at f bytes p)) (Ok None)
    (child_from f bytes i (p + (head_at f bytes p).len) (room - (head_at f bytes p).len))

-- of any bytes
unfoldable pub child_over : (f : ℕ) → List ℕ → (p index : ℕ) → Handed
child_over f bytes p index =
    cond (not (can_start f bytes p) || unfit f (length bytes - p) (head_at f bytes p)) (Ok None)
    (child_from f bytes index (p + head_size f) ((head_at f bytes p).len - head_size f))

abbrev pub child_in : List ℕ → (p index : ℕ) → Handed
child_in bytes p index = child_over (form_told bytes) bytes p index

-- of a tree: its records have the offsets that they have where it is written
unfoldable pub kind_of : Tree → ℕ
kind_of (leaf k s e w) = k
kind_of (node k s e ts) = k

unfoldable pub children_of : Tree → Trees
children_of (leaf k s e w) = none
children_of (node k s e ts) = ts

abbrev pub saved_tree : (offset : ℕ) → Tree → SavedRecord
saved_tree o t = saved o (kind_of t) (start_of t) (end_of t)

-- the child of an index, of children that are written from q on
unfoldable pub nth : (f q : ℕ) → Trees → (index : ℕ) → Handed
nth f q none index = Ok None
nth f q (more t ts) zero = Ok (Some (saved_tree q t))
nth f q (more t ts) (suc i) = nth f (q + length (recorded f t)) ts i

-- whether a record starts at p, of a tree that is written from q on; and the child of an index of the record that starts there
unfoldable mutual
  pub starts_in : (f q : ℕ) → Tree → (p : ℕ) → Bool
  starts_in f q (leaf k s e w) p = eqb p q
  starts_in f q (node k s e ts) p = eqb p q || starts_among f (q + head_size f) ts p

  pub starts_among : (f q : ℕ) → Trees → (p : ℕ) → Bool
  starts_among f q none p = false
  starts_among f q (more t ts) p = starts_in f q t p || starts_among f (q + length (recorded f t)) ts p

unfoldable mutual
  pub child_within : (f q : ℕ) → Tree → (p index : ℕ) → Handed
  child_within f q (leaf k s e w) p index = Ok None
  child_within f q (node k s e ts) p index = cond (eqb p q) (nth f (q + head_size f) ts index) (child_among f (q + head_size f) ts p index)

  pub child_among : (f q : ℕ) → Trees → (p index : ℕ) → Handed
  child_among f q none p index = Ok None
  child_among f q (more t ts) p index =
      cond (ltb p (q + length (recorded f t))) (child_within f q t p index) (child_among f (q + length (recorded f t)) ts p index)

abbrev pub starts_at : (f : ℕ) → Tree → (p : ℕ) → Bool
starts_at f t p = starts_in f (first_at f) t p

abbrev pub child_of : (f : ℕ) → Tree → (p index : ℕ) → Handed
child_of f t p index = child_within f (first_at f) t p index
