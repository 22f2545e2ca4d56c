-- The numbers with which opening a saved tree is refused.
use mathlib.Core.Path.{◌≡◌, refl, subst}
use mathlib.Core.Bool.{Bool, true, false, cond, not, ◌||◌}
use mathlib.Core.List.{List}
use Prim.Native.Nat.{ℕ, zero, suc, ◌+◌, ◌-◌}
use lib.Dec.{eqb, ltb, eqb-suc-zero}
use lib.ListN.{length}
use Rattle.tokens.specs.Calls.{text_limit}
use Rattle.tokens.specs.Refusals.{TextTooLong, TooDeep}
use Rattle.tokens.specs.RefusalSets.{among}
use Rattle.records.specs.Kinds.{RecField}
use Rattle.records.specs.Tree.{none}
use Rattle.forms.specs.Forms.{head_size}
use Rattle.saved.specs.Refusals.{RecordUnfit, NoRecordKind, NotAllowed, open_refusals}
use Rattle.saved.specs.Children.{is_kind, least}
use Rattle.saved.specs.Heads.{form_told, head_at}
use Rattle.saved.specs.Open.{Opened, whole, damaged, onward, tested, levels, outside, head_fault, Parent, parent, child_fault, level_of, level_fault, ended, children_at, outermost_fault, outermost_at, first_at, open_tree}
use Rattle.saved.specs.Theorems.{OpenRefusals}
use Rattle.saved.specs.declared.Head.{Head}

-- a number of the list, or 0
abbrev Listed : ℕ → Type 0
Listed n = (eqb n 0 || among open_refusals n) ≡ true

abbrev Met : {A : Type 0} → Opened A → Type 0
Met (whole a) = Unit {0}
Met (damaged r) = among open_refusals r.number ≡ true

tested-met : {A : Type 0} (n o : ℕ) (f : Unit {0} → Opened A) → Listed n → Met (f tt) → Met (tested n o f)
unfolding tested
tested-met zero o f h m = m
tested-met (suc n) o f h m = rw (eqb-suc-zero n) at h

onward-met : {A B : Type 0} (X : Opened A) (f : A → Opened B) → Met X → ((a : A) → Met (f a)) → Met (onward X f)
unfolding onward
onward-met (whole a) f m g = g a
onward-met (damaged r) f m g = m

if-listed : (b : Bool) (n : ℕ) → Listed n → Listed (cond b n 0)
unfolding among
if-listed true n h = h
if-listed false n h = refl

head-listed : (a b : Bool) (from to : ℕ) (h : Head) → Listed (head_fault a b from to h)
unfolding head_fault among
head-listed a b from to h = go a (is_kind h.kind) (not b || outside from to h)
  where
    go : (x k o : Bool) → Listed (cond x RecordUnfit (cond (not k) NoRecordKind (cond o NotAllowed 0)))
    go true k o = refl
    go false false o = refl
    go false true true = refl
    go false true false = refl

ended-met : (P : Parent) (index : ℕ) → Met (ended P index)
unfolding ended among
ended-met P index = tested-met _ P.at (λ _. whole none) (if-listed (ltb index (least P.head.kind)) NotAllowed refl) tt

children-met : (f : ℕ) (bytes : List ℕ) (m : ℕ) (P : Parent) (index : ℕ) (field : Bool) (p room : ℕ) → Met (children_at f bytes m P index field p room)
unfolding children_at child_fault level_fault among
children-met f bytes zero P index field p room = ended-met P index
children-met f bytes (suc m) P index field p zero = ended-met P index
children-met f bytes (suc m) P index field p (suc room) =
    let h : Head = head_at f bytes p in
    tested-met (child_fault f P index field (suc room) h) p _ (head-listed _ _ P.head.start P.head.end h)
    (tested-met (level_fault (level_of P h)) p _ (if-listed (ltb levels (level_of P h)) TooDeep refl)
    (onward-met (children_at f bytes m (parent p h (level_of P h)) 0 false (p + head_size f) (h.len - head_size f)) _ (children-met f bytes m (parent p h (level_of P h)) 0 false (p + head_size f) (h.len - head_size f))
    (λ ts. onward-met (children_at f bytes m P (suc index) (field || eqb h.kind RecField) (p + h.len) (suc room - h.len)) _ (children-met f bytes m P (suc index) (field || eqb h.kind RecField) (p + h.len) (suc room - h.len)) (λ us. tt))))

open-met : (bytes text : List ℕ) → Met (open_tree bytes text)
unfolding open_tree outermost_at outermost_fault among
open-met bytes text =
    let f : ℕ = form_told bytes in
    let p : ℕ = first_at f in
    let h : Head = head_at f bytes p in
    tested-met _ 0 _ (if-listed (ltb text_limit (length text)) TextTooLong refl)
    (tested-met (outermost_fault f (length bytes - p) text h) p _ (head-listed _ true 0 (length text) h)
    (onward-met (children_at f bytes (length bytes) (parent p h 1) 0 false (p + head_size f) (h.len - head_size f)) _ (children-met f bytes (length bytes) (parent p h 1) 0 false (p + head_size f) (h.len - head_size f)) (λ ts. tt)))

-- 1, 14, 15, 16 and 17
pub open-refusals : OpenRefusals
open-refusals bytes text r e = subst Met e (open-met bytes text)
