-- The room lent: what is accepted fits into it, and more of it changes nothing.
use mathlib.Core.Path.{◌≡◌, refl, sym, subst}
use mathlib.Core.Bool.{Bool, true, false}
use mathlib.Core.List.{List}
use Prim.Native.Nat.{ℕ, ◌≤◌}
use native.Mathlib.Omega.{arith}
use borrow.Author.Tests.{ltb-false, le-ltb}
use lib.Dec.{ltb}
use lib.ListN.{length}
use Rattle.tokens.specs.Answers.{refusal}
use Rattle.tokens.specs.declared.Refusal.{Refusal}
use Rattle.records.specs.Tree.{Tree}
use Rattle.sources.specs.Source.{Lexeme}
use Rattle.answers.specs.Reading.{when}
use Rattle.grammar.specs.Items.{Item, item, refused}
use Rattle.forms.specs.Forms.{written}
use Rattle.calls.specs.Calls.{roomed}

abbrev IsItem : Item → Type 0
IsItem (item x t) = Unit {0}
IsItem (refused r) = ⊥

-- what a choice between a refusal and an item says where it is an item
chosen : (b : Bool) (r : Refusal) (i : Item) (x : Tree) (t : Lexeme) → when b (λ _. refused r) (λ _. i) ≡ item x t → (b ≡ false) × (i ≡ item x t)
unfolding when
chosen true r i x t e = absurd (subst IsItem (sym e) tt)
chosen false r i x t e = (refl, e)

module _ (form : Tree → ℕ) where
  -- the bytes of an item
  abbrev of : List ℕ → Item → List ℕ
  of d (item x t) = written (form x) x
  of d (refused r) = d

  pub roomed-fits : (room : ℕ) (i : Item) (x : Tree) (t : Lexeme) → roomed form room i ≡ item x t → (i ≡ item x t) × (length (written (form x) x) ≤ room)
  unfolding roomed
  roomed-fits room (item y u) x t e =
      let n : ℕ = length (written (form y) y) in
      let c = chosen (ltb room n) (refusal 4 0 0) (item y u) x t e in
      (c.1, subst (λ (i : Item). length (of (written (form y) y) i) ≤ room) c.1 (ltb-false room n c.0))
  roomed-fits room (refused r) x t e = absurd (subst IsItem (sym e) tt)

  pub room_for : (room : ℕ) (x : Tree) (t : Lexeme) → length (written (form x) x) ≤ room → roomed form room (item x t) ≡ item x t
  unfolding roomed when
  room_for room x t h = rw (le-ltb room (length (written (form x) x)) h)

  pub more_room_lem : (room room₂ : ℕ) (i : Item) (x : Tree) (t : Lexeme) → room ≤ room₂ → roomed form room i ≡ item x t → roomed form room₂ i ≡ item x t
  unfolding roomed when
  more_room_lem room room₂ i x t h e =
      let f = roomed-fits room i x t e in
      rw (f.0, le-ltb room₂ (length (written (form x) x)) (omega (arith, f.1))) refl
