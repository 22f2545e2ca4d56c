-- What is told of every item, whatever its text, offset and kind: with which numbers it is refused; of an accepted one the kinds of its
-- records and how many there are, so that each number fits its bytes and the stored tree tells the tree from that of every other item,
-- but for words.
use mathlib.Core.Path.{◌≡◌, refl, ap, sym, subst, ◌∙◌}
use mathlib.Core.Bool.{true}
use mathlib.Core.List.{List, ◌++◌}
use Prim.Native.Nat.{ℕ, ◌*◌, ◌≤◌}
use native.Mathlib.Omega.{arith}
use lib.ListN.{length}
use Rattle.tokens.specs.RefusalSets.{among, lex_refusals}
use Rattle.tokens.specs.Calls.{text_limit}
use Rattle.tokens.specs.declared.Refusal.{Refusal}
use Rattle.tokens.proofs.Faults.{unless-sure}
use Rattle.tokens.proofs.RefusalSets.{subset, among-subset}
use Rattle.records.specs.Tree.{Tree}
use Rattle.records.specs.Stored.{records}
use Rattle.records.specs.Spans.{unspelled}
use Rattle.records.specs.code.Narrow.{Kinds}
use Rattle.sources.specs.Source.{opened, Lexeme, LexResult, tok, bad, lex}
use Rattle.answers.specs.Reading.{Ans, ok, no, look}
use Rattle.grammar.specs.Items.{Item, item, refused, read_kind, followed, finished, Asked, fault_of, reading, read_item}
use Rattle.grammar.specs.RefusalSets.{fault_refusals}
use Rattle.grammar.proofs.Asked.{fault-each, in_order_lem}
use Rattle.frames.proofs.Held.{HeldItem, Held, item-held}
use Rattle.forms.specs.Forms.{FormNarrow, FormWide, head_size, width, written, form_of}
use Rattle.forms.specs.Sizes.{tree_room, Fitting}
use Rattle.forms.proofs.Constructs.{written-stored}
use Rattle.forms.proofs.Sizes.{recorded-size, narrow_size, wide-size}
use Rattle.forms.proofs.Injective.{fitting-tree, written-injective}
use Rattle.forms.proofs.Apart.{form-narrow, form-cases, form-stored, same-form}
use Rattle.frames.proofs.Checked.{text_refusals, TokenMet, token-met, Checked, checked-reader}
use Rattle.frames.proofs.Shapes.{kind-obeys}

-- all that an item is refused with before its room is looked at: 1 to 3, 19, 21 and 5 to 14
abbrev pub read_refusals : List ℕ
read_refusals = fault_refusals ++ text_refusals

abbrev pub Told : List ℕ → Item → Type 0
Told text (item x t) = Kinds x × (length text ≤ text_limit)
Told text (refused r) = among read_refusals r.number ≡ true

of-text : (n : ℕ) → among text_refusals n ≡ true → among read_refusals n ≡ true
unfolding subset among
of-text n h = among-subset text_refusals read_refusals refl n h

looked-checked : (kind : ℕ) (l : LexResult) → TokenMet l → Checked (look l (read_kind kind))
unfolding look
looked-checked kind (tok t) h = checked-reader (read_kind kind) (kind-obeys kind) t
looked-checked kind (bad r) h = h

module _ (text : List ℕ) (h : length text ≤ text_limit) where
  followed-told : (x : Tree) (l : LexResult) → Kinds x → TokenMet l → Told text (followed x l)
  unfolding followed
  followed-told x (tok t) g m = (g, h)
  followed-told x (bad r) g m = of-text r.number m

  finished-told : (a : Ans Tree) → Checked a → Told text (finished a)
  unfolding finished
  finished-told (ok x u) g = followed-told x (lex u) g (token-met u)
  finished-told (no r) g = of-text r.number g

pub item-told : (q : Asked) → Told q.text (read_item q)
unfolding read_item subset among
item-told q =
    unless-sure refused (Told q.text) (fault_of q) _
    (fault-each q (λ (r : Refusal). among read_refusals r.number ≡ true) refl refl refl refl (λ _. refl) (λ r d. among-subset lex_refusals read_refusals refl r.number d.number)) λ e.
    finished-told q.text (in_order_lem q e).short (reading q) (looked-checked q.kind (lex (opened q.edition q.text q.at)) (token-met (opened q.edition q.text q.at)))

-- an item is refused with one of these numbers
pub item-refusals : (q : Asked) (r : Refusal) → read_item q ≡ refused r → among read_refusals r.number ≡ true
item-refusals q r e = subst (Told q.text) e (item-told q)

module _ (q : Asked) (x : Tree) (t : Lexeme) (e : read_item q ≡ item x t) where
  held : HeldItem q.text q.at x t
  held = subst (Held q.text q.at) e (item-held q)

  told : Kinds x × (length q.text ≤ text_limit)
  told = subst (Told q.text) e (item-told q)

  -- an accepted one has at most three records for each byte of the text, so that `tree_room` bytes have room for its tree
  pub item-records : records x ≤ 3 * length q.text
  item-records = omega (arith, narrow_size x, held.small, held.follows, held.within)

  pub item_room : length (written (form_of q.text x) x) ≤ tree_room (length q.text)
  item_room =
      form-cases q.text x (λ (f : ℕ). length (written f x) ≤ tree_room (length q.text)) (λ _. omega (arith, ap length (written-stored x), narrow_size x, item-records))
      (λ _. omega (arith, wide-size x, item-records))

  -- each number of its records fits four bytes, and fits its bytes in the form that is written
  pub item-wide : Fitting FormWide x
  unfolding width head_size
  item-wide = fitting-tree FormWide x told.0 held.nested (omega (arith, held.follows, held.within, told.1)) (omega (arith, recorded-size FormWide x, item-records, told.1))

  pub item-fitting : Fitting (form_of q.text x) x
  unfolding width head_size
  item-fitting = form-cases q.text x (λ (f : ℕ). Fitting f x) narrow (λ _. item-wide)
    where
      narrow : form_of q.text x ≡ FormNarrow → Fitting FormNarrow x
      narrow f =
          let g = (form-narrow q.text x).0 f in
          fitting-tree FormNarrow x told.0 held.nested (omega (arith, held.follows, held.within, g.0)) (omega (arith, recorded-size FormNarrow x, g.1))

-- items of any texts, offsets, kinds and editions that are written as the same bytes have the same form and the same records
pub item-faithful : (q q₂ : Asked) (x x₂ : Tree) (t t₂ : Lexeme) → read_item q ≡ item x t → read_item q₂ ≡ item x₂ t₂
    → written (form_of q.text x) x ≡ written (form_of q₂.text x₂) x₂ → (form_of q.text x ≡ form_of q₂.text x₂) × (unspelled x ≡ unspelled x₂)
item-faithful q q₂ x x₂ t t₂ e e₂ p =
    let s = same-form q.text q₂.text x x₂ p in
    let f : ℕ = form_of q.text x in
    let fits : Fitting f x₂ = subst (λ (g : ℕ). Fitting g x₂) (sym s) (item-fitting q₂ x₂ t₂ e₂) in
    (s, written-injective f (form-stored q.text x) x x₂ (item-fitting q x t e) fits (p ∙ ap (λ (g : ℕ). written g x₂) (sym s)))
