-- A read is refused with 1 to 14 or 19, a display with these and 18.
use mathlib.Core.Path.{◌≡◌, refl, subst}
use mathlib.Core.Bool.{true}
use mathlib.Core.List.{List}
use Rattle.forms.specs.Unprintable.{FirstByte, clean, found_at, unprintable}
use Prim.Native.Nat.{ℕ, min}
use lib.Dec.{ltb}
use lib.ListN.{length}
use Rattle.tokens.specs.Refusals.{NoRoom}
use Rattle.tokens.specs.RefusalSets.{among}
use Rattle.tokens.specs.declared.Refusal.{Refusal}
use Rattle.tokens.proofs.RefusalSets.{subset, among-subset}
use Rattle.records.specs.Tree.{Tree}
use Rattle.answers.proofs.Sure.{when-sure}
use Rattle.grammar.specs.Items.{Item, item, refused, Asked, read_item}
use Rattle.forms.specs.Forms.{written, form_of}
use Rattle.frames.proofs.Faithful.{read_refusals, Told, item-told}
use Rattle.calls.specs.Calls.{line_limit, roomed, unless_unprintable, if_printable, read, as_line, display}
use Rattle.calls.specs.RefusalSets.{item_refusals, display_refusals}

abbrev Met : List ℕ → Item → Type 0
Met set (item x t) = Unit {0}
Met set (refused r) = among set r.number ≡ true

roomed-met : (set : List ℕ) (form : Tree → ℕ) (room : ℕ) (i : Item) → among set NoRoom ≡ true → Met set i → Met set (roomed form room i)
unfolding roomed
roomed-met set form room (item x t) g h = when-sure (Met set) (ltb room (length (written (form x) x))) _ _ (λ _. g) (λ _. tt)
roomed-met set form room (refused r) g h = h

-- what an item is refused with is in every set that has those numbers
told-met : (set : List ℕ) → subset read_refusals set ≡ true → (text : List ℕ) (i : Item) → Told text i → Met set i
told-met set g text (item x t) h = tt
told-met set g text (refused r) h = among-subset read_refusals set g r.number h

if-printable-met : (i : Item) → Met display_refusals i → Met display_refusals (if_printable i)
unfolding if_printable unless_unprintable among
if-printable-met (item x t) h = go (unprintable x)
  where
    go : (o : FirstByte) → Met display_refusals (unless_unprintable o (item x t))
    go clean = tt
    go (found_at b) = refl
if-printable-met (refused r) h = h

pub read-refusals : (q : Asked) (room : ℕ) (r : Refusal) → read q room ≡ refused r → among item_refusals r.number ≡ true
unfolding read subset among
read-refusals q room r e =
    subst (Met item_refusals) e (roomed-met item_refusals (form_of q.text) room (read_item q) refl (told-met item_refusals refl q.text (read_item q) (item-told q)))

pub display-refusals : (q : Asked) (room : ℕ) (r : Refusal) → display q room ≡ refused r → among display_refusals r.number ≡ true
unfolding display subset among
display-refusals q room r e =
    subst (Met display_refusals) e
    (roomed-met display_refusals as_line (min room line_limit) (if_printable (read_item q)) refl (if-printable-met (read_item q) (told-met display_refusals refl q.text (read_item q) (item-told q))))
