-- What an accepted read writes: the narrow form wherever it suffices, which is the stored form of before; which form it is, the first
-- bytes tell; and what is written tells the tree from that of every other read, but for words.
use mathlib.Core.Path.{◌≡◌, refl, ap, sym, ◌∙◌}
use mathlib.Core.Logic.{◌↔◌}
use mathlib.Core.List.{List, ◌++◌}
use Prim.Native.Nat.{ℕ, ◌*◌, ◌≤◌}
use native.Mathlib.Omega.{arith}
use lib.ListN.{length, take, drop}
use Rattle.records.specs.Tree.{Tree}
use Rattle.records.specs.Stored.{records}
use Rattle.records.specs.Spans.{unspelled}
use Rattle.records.specs.code.Narrow.{stored}
use Rattle.sources.specs.Source.{Lexeme}
use Rattle.grammar.specs.Items.{item, Asked, read_item}
use Rattle.forms.specs.Forms.{FormNarrow, FormWide, front, written, narrow_limit, form_of}
use Rattle.forms.specs.Sizes.{tree_room}
use Rattle.forms.proofs.Constructs.{written-stored}
use Rattle.forms.proofs.Apart.{form-narrow, form-cases, narrow-begins, wide-begins}
use Rattle.frames.proofs.Faithful.{item_room, item-faithful}
use Rattle.calls.specs.Calls.{roomed, filled, read, read_buffer}
use Rattle.calls.proofs.Room.{roomed-fits, room_for}

module _ (q : Asked) (x : Tree) (t : Lexeme) where
  -- the item of an accepted read
  pub read-item : (room : ℕ) → read q room ≡ item x t → read_item q ≡ item x t
  unfolding read
  read-item room e = (roomed-fits (form_of q.text) room (read_item q) x t e).0

  -- the buffer of an accepted read: what is written of the tree, and behind it as it was
  pub read-written : (out : List ℕ) → read q (length out) ≡ item x t → read_buffer q out ≡ written (form_of q.text x) x ++ drop (length (written (form_of q.text x) x)) out
  unfolding read_buffer filled
  read-written out e = rw e

  -- it is the stored form of before exactly where neither the text nor that form has more than 65,535 bytes
  pub read-narrow : (written (form_of q.text x) x ≡ stored x) ↔ ((length q.text ≤ narrow_limit) × (8 * records x ≤ narrow_limit))
  read-narrow = (λ p. (form-narrow q.text x).0 (narrow-form p), λ h. ap (λ (f : ℕ). written f x) ((form-narrow q.text x).1 h) ∙ written-stored x)
    where
      narrow-form : written (form_of q.text x) x ≡ stored x → form_of q.text x ≡ FormNarrow
      narrow-form p =
          form-cases q.text x (λ (f : ℕ). written f x ≡ stored x → f ≡ FormNarrow) (λ _ _. refl)
          (λ _ g. absurd (narrow-begins x (ap (take 4) (written-stored x ∙ sym g) ∙ wide-begins x))) p

  -- the wide form is what begins with its four bytes
  pub read-apart : (take 4 (written (form_of q.text x) x) ≡ front FormWide) ↔ (form_of q.text x ≡ FormWide)
  read-apart = (
    λ p. form-cases q.text x (λ (f : ℕ). take 4 (written f x) ≡ front FormWide → f ≡ FormWide) (λ _ g. absurd (narrow-begins x g)) (λ _ _. refl) p,
    λ e. ap (λ (f : ℕ). take 4 (written f x)) e ∙ wide-begins x,
  )

  -- `tree_room` bytes are room enough
  pub room-enough : (room : ℕ) → read_item q ≡ item x t → tree_room (length q.text) ≤ room → read q room ≡ item x t
  unfolding read
  room-enough room e h = ap (roomed (form_of q.text) room) e ∙ room_for (form_of q.text) room x t (omega (arith, item_room q x t e, h))

-- reads of any texts, offsets, kinds and editions that write the same bytes have the same form and the same records
pub read-faithful : (q q₂ : Asked) (room room₂ : ℕ) (x x₂ : Tree) (t t₂ : Lexeme) → read q room ≡ item x t → read q₂ room₂ ≡ item x₂ t₂
    → written (form_of q.text x) x ≡ written (form_of q₂.text x₂) x₂ → (form_of q.text x ≡ form_of q₂.text x₂) × (unspelled x ≡ unspelled x₂)
read-faithful q q₂ room room₂ x x₂ t t₂ e e₂ p = item-faithful q q₂ x x₂ t t₂ (read-item q x t room e) (read-item q₂ x₂ t₂ room₂ e₂) p
