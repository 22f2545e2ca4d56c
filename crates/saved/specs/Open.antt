-- Opening saved bytes: the tree that they are over a text, or what is wrong, record by record from the front.
use Rattle.std.specs.Prelude.{ℕ, zero, suc, ◌+◌, ◌-◌, Bool, true, false, cond, not, ◌||◌, List, eqb, ltb, length}
use Rattle.tokens.specs.Answers.{refusal}
use Rattle.tokens.specs.Calls.{text_limit}
use Rattle.tokens.specs.Refusals.{TextTooLong, TooDeep}
use Rattle.tokens.specs.declared.Refusal.{Refusal}
use Rattle.records.specs.Kinds.{RecField}
use Rattle.records.specs.Tree.{Tree, node, Trees, none, more}
use Rattle.forms.specs.Forms.{front, head_size}
use Rattle.saved.specs.Refusals.{RecordUnfit, NoRecordKind, NotAllowed}
use Rattle.saved.specs.Children.{is_kind, may, least, deepens}
use Rattle.saved.specs.Heads.{form_told, head_at}
use Rattle.saved.specs.declared.Head.{Head}

-- what was opened, or the refusal
pub data Opened (A : Type 0) : Type 0 where
  whole : A → Opened A
  damaged : Refusal → Opened A

unfoldable pub onward : {A B : Type 0} → Opened A → (A → Opened B) → Opened B
onward (whole a) f = f a
onward (damaged r) f = damaged r

-- the refusal of a number that is not 0 at an offset; what comes behind a test is not computed where it fails
unfoldable pub tested : {A : Type 0} → (number offset : ℕ) → (Unit {0} → Opened A) → Opened A
tested zero o f = f tt
tested (suc n) o f = damaged (refusal (suc n) o o)

-- the most levels
abbrev pub levels : ℕ
levels = 64

-- 15: fewer bytes are left for a record than a head has; its length is under that, or more than is left
unfoldable pub unfit : (f room : ℕ) → Head → Bool
unfit f room h = ltb room (head_size f) || (ltb h.len (head_size f) || ltb room h.len)

-- 17: a span that ends before it starts or does not lie in another
unfoldable pub outside : (from to : ℕ) → Head → Bool
outside from to h = ltb h.end h.start || (ltb h.start from || ltb to h.end)

-- the first of 15, 16 and 17 that a head meets, and 0 where it meets none: whether its length fails, whether its kind may stand there,
-- and the span that it must lie in
unfoldable pub head_fault : (fails allowed : Bool) (from to : ℕ) → Head → ℕ
head_fault fails allowed from to h =
    cond fails RecordUnfit
    (cond (not (is_kind h.kind)) NoRecordKind
    (cond (not allowed || outside from to h) NotAllowed 0))

-- a record whose children are looked at: its offset, its head and its level
pub record Parent : Type 0 where
  pub at : ℕ
  pub head : Head
  pub level : ℕ

abbrev pub parent : (at : ℕ) → Head → (level : ℕ) → Parent
parent p h n = record { at = p; head = h; level = n }

-- of a child of this index with this head: 15 to 17 over the bytes left; and its level
unfoldable pub child_fault : (f : ℕ) → Parent → (index : ℕ) (field : Bool) (room : ℕ) → Head → ℕ
child_fault f P index field room h = head_fault (unfit f room h) (may P.head.kind index field h.kind) P.head.start P.head.end h

unfoldable pub level_of : Parent → Head → ℕ
level_of P h = cond (deepens P.head.kind h.kind) (suc P.level) P.level

unfoldable pub level_fault : ℕ → ℕ
level_fault level = cond (ltb levels level) TooDeep 0

-- behind the last child: a missing one is the parent's fault
unfoldable pub ended : Parent → (index : ℕ) → Opened Trees
ended P index = tested (cond (ltb index (least P.head.kind)) NotAllowed 0) P.at λ _. whole none

-- the children from the one of this index on, which stand in the `room` bytes from p on: each is tested, then all that is in it, then
-- those behind it. The first argument bounds the recursion: every record takes bytes, so that as many as there are bytes is enough
unfoldable pub children_at : (f : ℕ) → List ℕ → ℕ → Parent → (index : ℕ) (field : Bool) (p room : ℕ) → Opened Trees
children_at f bytes zero P index field p room = ended P index
children_at f bytes (suc n) P index field p zero = ended P index
children_at f bytes (suc n) P index field p (suc m) =
    tested (child_fault f P index field (suc m) (head_at f bytes p)) p λ _.
    tested (level_fault (level_of P (head_at f bytes p))) p λ _.
    onward (children_at f bytes n (parent p (head_at f bytes p) (level_of P (head_at f bytes p))) 0 false (p + head_size f) ((head_at f bytes p).len - head_size f)) λ ts.
    onward (children_at f bytes n P (suc index) (field || eqb (head_at f bytes p).kind RecField) (p + (head_at f bytes p).len) (suc m - (head_at f bytes p).len)) λ us.
    whole (more (node (head_at f bytes p).kind (head_at f bytes p).start (head_at f bytes p).end ts) us)

-- the outermost record, at p: its length is all the bytes from there, its kind any, its span in the text, its level 1
unfoldable pub outermost_fault : (f room : ℕ) → (text : List ℕ) → Head → ℕ
outermost_fault f room text h = head_fault (unfit f room h || ltb h.len room) true 0 (length text) h

unfoldable pub outermost_at : (f : ℕ) → List ℕ → (text : List ℕ) → (p : ℕ) → Opened Tree
outermost_at f bytes text p =
    tested (outermost_fault f (length bytes - p) text (head_at f bytes p)) p λ _.
    onward (children_at f bytes (length bytes) (parent p (head_at f bytes p) 1) 0 false (p + head_size f) ((head_at f bytes p).len - head_size f)) λ ts.
    whole (node (head_at f bytes p).kind (head_at f bytes p).start (head_at f bytes p).end ts)

-- the offset of the outermost record
abbrev pub first_at : (f : ℕ) → ℕ
first_at f = length (front f)

-- the tree that the bytes are over the text; 1 comes first
unfoldable pub open_tree : (bytes text : List ℕ) → Opened Tree
open_tree bytes text =
    tested (cond (ltb text_limit (length text)) TextTooLong 0) 0 λ _.
    outermost_at (form_told bytes) bytes text (first_at (form_told bytes))
