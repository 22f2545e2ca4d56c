-- A reader that goes on further leaves fewer bytes behind what it read. So the bound on the items of a list does not matter where it
-- is larger than the bytes left.
use mathlib.Core.Path.{◌≡◌, refl, ap, ◌∙◌}
use mathlib.Core.Bool.{Bool, true, false, ◌&&◌}
use Prim.Native.Nat.{ℕ, zero, suc, ◌-◌, ◌<◌, ◌≤◌}
use native.Mathlib.Omega.{arith}
use lib.Dec.{eqb}
use lib.ListN.{length, length-drop}
use Rattle.words.specs.Kinds.{Comma, Greater, GreaterGreater}
use Rattle.records.specs.Tree.{Trees, more}
use Rattle.sources.specs.Source.{Source, past, Lexeme, after, LexResult, tok, bad, lex}
use Rattle.sources.proofs.Standing.{Standing, Sound, lex-sound}
use Rattle.answers.specs.Reading.{Ans, ok, no, then, look, when, closed, Reader, list, list_behind}

-- the bytes left
abbrev pub left : Source → ℕ
left u = length u.rest

abbrev pub Further : {A : Type 0} → Source → Ans A → Type 0
Further u (ok x v) = left v < left u
Further u (no r) = Unit {0}

abbrev pub Frugal : Reader → Type 0
Frugal item = (u : Source) (t : Lexeme) → Standing u t → Further u (item t)

-- behind a token
past-left : (n : ℕ) (u : Source) → left (past n u) ≡ left u - n
past-left n u = length-drop n u.rest

module _ (u : Source) (t : Lexeme) (d : Standing u t) where
  pub here-left : left t.here ≡ left u - d.gap
  here-left = ap left d.here ∙ past-left d.gap u

  pub after-left : left (after t) ≤ left u
  after-left = omega (arith, past-left t.len t.here, here-left)

-- two answers are the same where what stands in them is
look-same : {B : Type 0} (v : Source) (f g : Lexeme → Ans B) → ((t : Lexeme) → Standing v t → f t ≡ g t) → look (lex v) f ≡ look (lex v) g
unfolding look
look-same v f g h = go (lex v) (lex-sound v)
  where
    go : (l : LexResult) → Sound v l → look l f ≡ look l g
    go (tok t) d = h t d
    go (bad r) d = refl

when-same : {B : Type 0} (b : Bool) (f g f₂ g₂ : Unit {0} → Ans B) → f tt ≡ f₂ tt → g tt ≡ g₂ tt → when b f g ≡ when b f₂ g₂
unfolding when
when-same true f g f₂ g₂ h i = h
when-same false f g f₂ g₂ h i = i

then_same : {A B : Type 0} (v : Source) (a : Ans A) (f g : A → Source → Ans B) → Further v a → ((x : A) (w : Source) → left w < left v → f x w ≡ g x w) → then a f ≡ then a g
unfolding then
then_same v (ok x w) f g d h = h x w d
then_same v (no r) f g d h = refl

closed_same : {B : Type 0} (close : ℕ) (t : Lexeme) (f : Source → Ans B) (g g₂ : Unit {0} → Ans B) → g tt ≡ g₂ tt → closed close t f g ≡ closed close t f g₂
unfolding closed
closed_same close t f g g₂ h = when-same (eqb t.kind close) _ _ _ _ refl (when-same (eqb close Greater && eqb t.kind GreaterGreater) _ _ _ _ refl h)

module _ (item : Reader) (frugal : Frugal item) (close : ℕ) (o : Lexeme) where
  list-enough : (f g : ℕ) (u : Source) → left u < f → left u < g → list item close o f (lex u) ≡ list item close o g (lex u)
  unfolding list
  list-enough zero g u h i = absurd (omega arith)
  list-enough (suc f) zero u h i = absurd (omega arith)
  list-enough (suc f) (suc g) u h i =
      look-same u _ _ λ t d.
      closed_same close t _ _ _
      (when-same (eqb t.kind Comma) _ _ _ _ refl
      (then_same u (item t) _ _ (frugal u t d) λ x v j.
      look-same v _ _ λ s e.
      closed_same close s _ _ _
      (when-same (eqb s.kind Comma) _ _ _ _
      (let k = after-left v s e in ap (λ (y : Ans Trees). then y λ xs w. ok (more x xs) w) (list-enough f g (after s) (omega arith) (omega arith)))
      refl)))

  pub enough : (f : ℕ) → left (after o) < f → list_behind item close o ≡ list item close o f (lex (after o))
  unfolding list_behind
  enough f h = list-enough (suc (left (after o))) f (after o) (omega arith) h
