-- A display from an offset on is the display of the text from there on, from 0: the same line in the same room, or the same refusal, its
-- places raised.
use mathlib.Core.Path.{◌≡◌, refl, ap, ap₂, sym, subst, ◌∙◌}
use mathlib.Core.Bool.{Bool, true, false, cond}
use mathlib.Core.List.{List, [], ◌∷◌}
use Prim.Native.Nat.{ℕ, suc, ◌+◌, min}
use native.Mathlib.Nat.{add_assoc, add-suc}
use borrow.Author.Tests.{eqb-true}
use lib.Dec.{eqb, ltb}
use lib.ListN.{length, drop}
use Rattle.classes.proofs.Bools.{false-true}
use Rattle.tokens.specs.Refusals.{NoRoom, LineUnprintable}
use Rattle.tokens.specs.RefusalSets.{among}
use Rattle.tokens.specs.Answers.{refusal}
use Rattle.records.specs.Tree.{Tree, leaf, node, Trees, none, more, made, bmore, build, builds}
use Rattle.records.specs.Raise.{raise_tree, raise_trees}
use Rattle.sources.specs.Source.{Lexeme}
use Rattle.answers.specs.Reading.{when}
use Rattle.grammar.specs.Items.{Item, item, refused, Asked, read_item}
use Rattle.grammar.specs.Raise.{of_text, raise_item}
use Rattle.forms.specs.Line.{shown, line}
use Rattle.forms.specs.Unprintable.{is_unprintable, is_string, FirstByte, clean, found_at, unprintable_in, first_of, unprintable, unprintable_all}
use Rattle.forms.specs.Forms.{FormLine, written}
use Rattle.forms.proofs.Constructs.{written-line}
use Rattle.frames.proofs.Faithful.{read_refusals, item-refusals}
use Rattle.frames.proofs.Raised.{item_from_lem}
use Rattle.calls.specs.Calls.{line_limit, roomed, filled, unless_unprintable, if_printable, as_line, display, display_buffer}
use Rattle.roundtrip.specs.Theorems.{raise_shown, DisplayFrom}

module _ (k : ℕ) where
  -- builds have no places, so raised trees have the same line
  mutual
    unfolding raise_tree raise_trees build builds

    build-raised : (t : Tree) → build (raise_tree k t) ≡ build t
    build-raised (leaf c s e w) = refl
    build-raised (node c s e ts) = ap (made c) (builds-raised ts)

    builds-raised : (ts : Trees) → builds (raise_trees k ts) ≡ builds ts
    builds-raised none = refl
    builds-raised (more t ts) = ap₂ bmore (build-raised t) (builds-raised ts)

  line-raised : (t : Tree) → written FormLine (raise_tree k t) ≡ written FormLine t
  unfolding shown
  line-raised t = written-line (raise_tree k t) ∙ ap line (build-raised t) ∙ sym (written-line t)

  -- the first unprintable byte is raised
  abbrev raise_byte : FirstByte → FirstByte
  raise_byte clean = clean
  raise_byte (found_at b) = found_at (k + b)

  word-raised : (p : ℕ) (w : List ℕ) → unprintable_in (k + p) w ≡ raise_byte (unprintable_in p w)
  unfolding unprintable_in
  word-raised p [] = refl
  word-raised p (a ∷ w) = go (is_unprintable a) (ap (λ (q : ℕ). unprintable_in q w) (sym (add-suc k p)) ∙ word-raised (suc p) w)
    where
      go : (b : Bool) → unprintable_in (suc (k + p)) w ≡ raise_byte (unprintable_in (suc p) w) → cond b (found_at (k + p)) (unprintable_in (suc (k + p)) w) ≡ raise_byte (cond b (found_at p) (unprintable_in (suc p) w))
      go true h = refl
      go false h = h

  first-raised : (p q : FirstByte) → first_of (raise_byte p) (raise_byte q) ≡ raise_byte (first_of p q)
  unfolding first_of
  first-raised clean q = refl
  first-raised (found_at b) q = refl

  mutual
    unfolding raise_tree raise_trees unprintable unprintable_all

    byte-raised : (t : Tree) → unprintable (raise_tree k t) ≡ raise_byte (unprintable t)
    byte-raised (leaf c s e w) = go (is_string c)
      where
        go : (b : Bool) → cond b (unprintable_in (k + s) w) clean ≡ raise_byte (cond b (unprintable_in s w) clean)
        go true = word-raised s w
        go false = refl
    byte-raised (node c s e ts) = bytes-raised ts

    bytes-raised : (ts : Trees) → unprintable_all (raise_trees k ts) ≡ raise_byte (unprintable_all ts)
    bytes-raised none = refl
    bytes-raised (more t ts) = ap₂ first_of (byte-raised t) (bytes-raised ts) ∙ first-raised (unprintable t) (unprintable_all ts)

  unless-raised : (o : FirstByte) (i : Item) → unless_unprintable (raise_byte o) (raise_item k i) ≡ raise_item k (unless_unprintable o i)
  unfolding unless_unprintable raise_item
  unless-raised clean i = refl
  unless-raised (found_at b) i = ap (λ (e : ℕ). refused (refusal LineUnprintable (k + b) e)) (add_assoc k b 1)

  if-raised : (i : Item) → if_printable (raise_item k i) ≡ raise_item k (if_printable i)
  unfolding if_printable raise_item
  if-raised (item x t) = ap (λ (o : FirstByte). unless_unprintable o (raise_item k (item x t))) (byte-raised x) ∙ unless-raised (unprintable x) (item x t)
  if-raised (refused r) = refl

  -- an item that is not refused for its room
  abbrev Roomy : Item → Type 0
  Roomy (item x t) = Unit {0}
  Roomy (refused r) = eqb r.number NoRoom ≡ false

  room-raised : (m : ℕ) (i : Item) → Roomy i → roomed as_line m (raise_item k i) ≡ raise_shown k (roomed as_line m i)
  unfolding roomed raise_item raise_shown when
  room-raised m (item x t) h = rw (line-raised x) (go (ltb m (length (written FormLine x))))
    where
      go : (b : Bool) → when b (λ _. refused (refusal NoRoom 0 0)) (λ _. raise_item k (item x t)) ≡ raise_shown k (when b (λ _. refused (refusal NoRoom 0 0)) (λ _. item x t))
      go true = refl
      go false = refl
  room-raised m (refused r) h = rw h

  filled-raised : (i : Item) (out : List ℕ) → filled as_line (raise_shown k i) out ≡ filled as_line i out
  unfolding filled raise_shown raise_item
  filled-raised (item x t) out = rw (line-raised x)
  filled-raised (refused r) out = go (eqb r.number NoRoom)
    where
      go : (b : Bool) → filled as_line (cond b (refused r) (raise_item k (refused r))) out ≡ out
      go true = refl
      go false = refl

-- what is met before the room is looked at is no refusal for room
roomy : (k : ℕ) (q : Asked) → Roomy k (if_printable (read_item q))
unfolding if_printable unless_unprintable among
roomy k q = go (read_item q) refl
  where
    of-item : (o : FirstByte) (x : Tree) (t : Lexeme) → Roomy k (unless_unprintable o (item x t))
    of-item clean x t = tt
    of-item (found_at b) x t = refl

    go : (i : Item) → read_item q ≡ i → Roomy k (if_printable i)
    go (item x t) e = of-item (unprintable x) x t
    go (refused r) e = no (eqb r.number NoRoom) refl
      where
        no : (b : Bool) → eqb r.number NoRoom ≡ b → b ≡ false
        no false z = refl
        no true z = false-true _ (subst (λ (m : ℕ). among read_refusals m ≡ true) (eqb-true r.number NoRoom z) (item-refusals q r e))

pub display-from : DisplayFrom
unfolding display display_buffer
display-from q out e =
    let k : ℕ = q.at in
    let q₂ : Asked = of_text (drop q.at q.text) q in
    let m : ℕ = min (length out) line_limit in
    let d : display q (length out) ≡ raise_shown k (display q₂ (length out)) =
    ap (λ (i : Item). roomed as_line m (if_printable i)) (item_from_lem q e) ∙ ap (roomed as_line m) (if-raised k (read_item q₂)) ∙ room-raised k m (if_printable (read_item q₂)) (roomy k q₂) in
    (d, ap (λ (i : Item). filled as_line i out) d ∙ filled-raised k (display q₂ (length out)) out)
