-- The two stored forms: which is written, and that their first bytes tell them apart.
use mathlib.Core.Path.{◌≡◌, refl, ap, sym, ◌∙◌}
use mathlib.Core.Bool.{Bool, true, false, cond, ◌||◌}
use mathlib.Core.Logic.{◌↔◌}
use mathlib.Core.List.{List, [], ◌∷◌}
use Prim.Native.Nat.{ℕ, ◌*◌, ◌%◌, ◌≤◌}
use native.Mathlib.Omega.{arith}
use borrow.Author.Tests.{ltb-false, le-ltb}
use lib.Dec.{ltb}
use lib.ListN.{length, take, get_or}
use Rattle.classes.proofs.Bools.{or_left, or_right}
use Rattle.records.specs.Tree.{Tree, leaf, node}
use Rattle.records.specs.Stored.{records}
use Rattle.records.specs.code.Narrow.{two, span, header, stored}
use Rattle.records.proofs.Sizes.{node-size}
use Rattle.forms.specs.Forms.{FormNarrow, FormWide, is_line, front, written, narrow_limit, form_of}
use Rattle.forms.proofs.Constructs.{written-stored}
use Rattle.forms.proofs.Sizes.{narrow_size}

-- narrow is what has no more than 65,535 bytes of text and none more than 65,535 of tree
module _ (text : List ℕ) (t : Tree) where
  chosen : (b : Bool) → cond b FormWide FormNarrow ≡ FormNarrow → b ≡ false
  chosen true e = absurd (omega (arith, e))
  chosen false e = refl

  pub form-narrow : (form_of text t ≡ FormNarrow) ↔ ((length text ≤ narrow_limit) × (8 * records t ≤ narrow_limit))
  unfolding form_of
  form-narrow = (
    λ e.
        let c = chosen (ltb narrow_limit (length text) || ltb narrow_limit (8 * records t)) e in
        (ltb-false narrow_limit (length text) (or_left (ltb narrow_limit (length text)) _ c), ltb-false narrow_limit (8 * records t) (or_right (ltb narrow_limit (length text)) _ c)),
    λ h. rw (le-ltb narrow_limit (length text) h.0, le-ltb narrow_limit (8 * records t) h.1),
  )

  -- there is no third
  pub form-cases : (P : ℕ → Type 0) → (form_of text t ≡ FormNarrow → P FormNarrow) → (form_of text t ≡ FormWide → P FormWide) → P (form_of text t)
  unfolding form_of
  form-cases P f g = go (ltb narrow_limit (length text) || ltb narrow_limit (8 * records t)) refl
    where
      go : (b : Bool) → (ltb narrow_limit (length text) || ltb narrow_limit (8 * records t)) ≡ b → P (cond b FormWide FormNarrow)
      go true e = g (rw e)
      go false e = f (rw e)

  pub form-stored : is_line (form_of text t) ≡ false
  form-stored = form-cases (λ (f : ℕ). is_line f ≡ false) (λ _. refl) (λ _. refl)

-- a narrow form begins with the low byte of a number of 8s
low_byte : (t : Tree) → get_or (stored t) 0 0 ≡ length (stored t) % 256
unfolding stored header span two
low_byte (leaf k s e w) = refl
low_byte (node k s e ts) = omega (arith, node-size k s e ts)

taken : (l : List ℕ) → get_or (take 4 l) 0 0 ≡ get_or l 0 0
taken [] = refl
taken (x ∷ l) = refl

pub narrow-begins : (t : Tree) → take 4 (written FormNarrow t) ≡ front FormWide → ⊥
unfolding front
narrow-begins t p =
    let a : get_or (stored t) 0 0 ≡ 4 = sym (taken (stored t)) ∙ ap (λ (l : List ℕ). get_or (take 4 l) 0 0) (sym (written-stored t)) ∙ ap (λ (l : List ℕ). get_or l 0 0) p in
    omega (arith, a, low_byte t, narrow_size t)

pub wide-begins : (t : Tree) → take 4 (written FormWide t) ≡ front FormWide
unfolding written front
wide-begins t = refl

-- what is written as the same bytes has the same form
pub same-form : (text text₂ : List ℕ) (t u : Tree) → written (form_of text t) t ≡ written (form_of text₂ u) u → form_of text t ≡ form_of text₂ u
same-form text text₂ t u =
    form-cases text t (λ (f : ℕ). written f t ≡ written (form_of text₂ u) u → f ≡ form_of text₂ u)
    (λ _. form-cases text₂ u (λ (g : ℕ). written FormNarrow t ≡ written g u → FormNarrow ≡ g) (λ _ p. refl) (λ _ p. absurd (narrow-begins t (ap (take 4) p ∙ wide-begins u))))
    (λ _. form-cases text₂ u (λ (g : ℕ). written FormWide t ≡ written g u → FormWide ≡ g) (λ _ p. absurd (narrow-begins u (ap (take 4) (sym p) ∙ wide-begins t))) (λ _ p. refl))
