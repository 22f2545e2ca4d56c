-- One law for each way in which readers are put together: what stands in related places gives related answers.
use mathlib.Core.Path.{◌≡◌, refl, ap, sym, subst}
use mathlib.Core.Bool.{Bool, true, false, ◌&&◌}
use Prim.Native.Nat.{ℕ, zero, suc, ◌<◌, ◌≤◌}
use native.Mathlib.Omega.{arith}
use borrow.Author.Tests.{eqb-true}
use lib.Dec.{eqb}
use lib.ListN.{length-drop}
use Rattle.classes.proofs.Bools.{false-true, and_right}
use Rattle.words.specs.Kinds.{Comma, Greater, GreaterGreater}
use Rattle.tokens.specs.Refusals.{UnexpectedToken, CommaForItem, ListNotClosed}
use Rattle.sources.specs.Source.{Source, Lexeme, start, after, split, LexResult, lex}
use Rattle.sources.proofs.Standing.{Standing, Sound, lex-sound}
use Rattle.answers.specs.Reading.{Ans, no, then, look, when, closed, refused_at, Reader, list, list_behind}
use Rattle.answers.proofs.Further.{here-left}
use Rattle.answers.proofs.Sure.{standing-from}
use Rattle.frames.specs.code.Related.{Sort, Frame, Goes, Step, Met, toks, bads, At, Mark, left, On, Rel, oks, nos, quit, Near, RelReader, Lawful}

-- a kind that a test named
pub goes : (k c : ℕ) → eqb k c ≡ true → Goes c → Goes k
goes k c h g = subst Goes (sym (eqb-true k c h)) g

pub goes_some : (k : ℕ) → Goes k → 0 < k
goes_some zero g = false-true _ (sym g)
goes_some (suc k) g = omega arith

-- what is left behind a token that stands in a source
behind-left : (u : Source) (t : Lexeme) → Standing u t → Goes t.kind → left (after t) < left u
behind-left u t d g = omega (arith, length-drop t.len t.here.rest, here-left u t d, d.within, d.takes (goes_some t.kind g))

module _ {F : Frame} {t t₂ : Lexeme} where
  -- the same test of two tokens comes out alike
  pub is : (c : ℕ) → Step F t t₂ → eqb t.kind c ≡ eqb t₂.kind c
  is c d = ap (λ (k : ℕ). eqb k c) d.kind

  pub near : Step F t t₂ → Near F (left t.here) (left t₂.here) t t₂
  near d = record { step = d; few = omega arith; few₂ = omega arith }

  -- a first token, at the beginning of its own source; and one of a kind that a test named
  pub begins : Step F t t₂ → At F t.here t₂.here t t₂
  begins d = record { step = d; from = omega arith; from₂ = omega arith }

  pub marks : {u u₂ : Source} → At F u u₂ t t₂ → (k : ℕ) → eqb t.kind k ≡ true → Goes k → Mark F k u u₂ t t₂
  marks d k h g = record { here = d; is = h; goes = goes t.kind k h g }

  -- behind a token
  pub on : {m m₂ : ℕ} → Near F m m₂ t t₂ → Goes t.kind → On F m m₂ (after t) (after t₂)
  on d g = record { good = d.step.on g; few = omega (arith, length-drop t.len t.here.rest, d.few); few₂ = omega (arith, length-drop t₂.len t₂.here.rest, d.few₂) }

  pub past : {m m₂ : ℕ} → Near F m m₂ t t₂ → (c : ℕ) → eqb t.kind c ≡ true → Goes c → On F m m₂ (after t) (after t₂)
  past d c h g = on d (goes t.kind c h g)

module _ {F : Frame} {m m₂ n n₂ : ℕ} where
  wider : {A B : Type 0} {Y : Source → Source → A → B → Type 0} {a : Ans A} {b : Ans B} → n ≤ m → n₂ ≤ m₂ → Rel F n n₂ Y a b → Rel F m m₂ Y a b
  wider h g (oks x d) = oks x (record { good = d.good; few = omega (arith, d.few); few₂ = omega (arith, d.few₂) })
  wider h g (nos d) = nos d
  wider h g (quit d) = quit d

-- with a fact that holds anyhow
pub also : {F : Frame} {m m₂ : ℕ} {A B Z : Type 0} {Y : Source → Source → A → B → Type 0} {a : Ans A} {b : Ans B} → Z → Rel F m m₂ Y a b → Rel F m m₂ (λ u u₂ x y. Z × Y u u₂ x y) a b
also z (oks x d) = oks (z, x) d
also z (nos d) = nos d
also z (quit d) = quit d

module _ (F : Frame) (L : Lawful F) where
  stand-rel : {m m₂ : ℕ} {A B : Type 0} {Y : Source → Source → A → B → Type 0} (u u₂ : Source) (f : Lexeme → Ans A) (g : Lexeme → Ans B) → On F m m₂ u u₂
      → ((t t₂ : Lexeme) → Standing u t → Standing u₂ t₂ → At F u u₂ t t₂ → Near F m m₂ t t₂ → Rel F m m₂ Y (f t) (g t₂)) → Rel F m m₂ Y (look (lex u) f) (look (lex u₂) g)
  unfolding look
  stand-rel {m = m} {m₂ = m₂} {Y = Y} u u₂ f g n h = go (L.next u u₂ n.good) (lex-sound u) (lex-sound u₂)
    where
      go : {l l₂ : LexResult} → Met F l l₂ → Sound u l → Sound u₂ l₂ → Rel F m m₂ Y (look l f) (look l₂ g)
      go (toks {t = t} {t₂ = t₂} d) s s₂ = h t t₂ s s₂ (record { step = d; from = standing-from u t s; from₂ = standing-from u₂ t₂ s₂ }) (record { step = d; few = omega (arith, here-left u t s, n.few); few₂ = omega (arith, here-left u₂ t₂ s₂, n.few₂) })
      go (bads d) s s₂ = nos d

  pub look-rel : {m m₂ : ℕ} {A B : Type 0} {Y : Source → Source → A → B → Type 0} (u u₂ : Source) (f : Lexeme → Ans A) (g : Lexeme → Ans B) → On F m m₂ u u₂
      → ((t t₂ : Lexeme) → At F u u₂ t t₂ → Near F m m₂ t t₂ → Rel F m m₂ Y (f t) (g t₂)) → Rel F m m₂ Y (look (lex u) f) (look (lex u₂) g)
  look-rel u u₂ f g n h = stand-rel u u₂ f g n (λ t t₂ s s₂ a d. h t t₂ a d)

  module _ {m m₂ : ℕ} {A B : Type 0} {Y : Source → Source → A → B → Type 0} where
    pub when-rel : (b b₂ : Bool) (f g : Unit {0} → Ans A) (f₂ g₂ : Unit {0} → Ans B) → b ≡ b₂ → (b ≡ true → Rel F m m₂ Y (f tt) (f₂ tt)) → (b ≡ false → Rel F m m₂ Y (g tt) (g₂ tt)) → Rel F m m₂ Y (when b f g) (when b₂ f₂ g₂)
    unfolding when
    when-rel b b₂ f g f₂ g₂ e h i = subst (λ (c : Bool). Rel F m m₂ Y (when b f g) (when c f₂ g₂)) e (go b refl)
      where
        go : (c : Bool) → b ≡ c → Rel F m m₂ Y (when c f g) (when c f₂ g₂)
        go true x = h x
        go false x = i x

    -- by the kind of a token
    pub by_kind : (c : ℕ) {t t₂ : Lexeme} → Step F t t₂ → (f g : Unit {0} → Ans A) (f₂ g₂ : Unit {0} → Ans B) → (eqb t.kind c ≡ true → Rel F m m₂ Y (f tt) (f₂ tt)) → (eqb t.kind c ≡ false → Rel F m m₂ Y (g tt) (g₂ tt))
        → Rel F m m₂ Y (when (eqb t.kind c) f g) (when (eqb t₂.kind c) f₂ g₂)
    by_kind c {t = t} {t₂ = t₂} d f g f₂ g₂ h i = when-rel (eqb t.kind c) (eqb t₂.kind c) f g f₂ g₂ (is c d) h i

    pub then-rel : {C D : Type 0} {Z : Source → Source → C → D → Type 0} {a : Ans C} {b : Ans D} (f : C → Source → Ans A) (g : D → Source → Ans B) → Rel F m m₂ Z a b
        → ((x : C) (y : D) (u u₂ : Source) → Z u u₂ x y → On F m m₂ u u₂ → Rel F m m₂ Y (f x u) (g y u₂)) → Rel F m m₂ Y (then a f) (then b g)
    unfolding then
    then-rel f g (oks {a = x} {b = y} {u = u} {u₂ = u₂} d n) h = h x y u u₂ d n
    then-rel f g (nos d) h = nos d
    then-rel f g (quit d) h = quit d

    closed-rel : (close : ℕ) → Goes close → (u : Source) (t t₂ : Lexeme) (f : Source → Ans A) (g : Unit {0} → Ans A) (f₂ : Source → Ans B) (g₂ : Unit {0} → Ans B) → Standing u t → Near F m m₂ t t₂
        → ((w w₂ : Source) → On F m m₂ w w₂ → start t < w.at → Rel F m m₂ Y (f w) (f₂ w₂)) → (eqb t.kind close ≡ false → Rel F m m₂ Y (g tt) (g₂ tt)) → Rel F m m₂ Y (closed close t f g) (closed close t₂ f₂ g₂)
    unfolding closed
    closed-rel close c u t t₂ f g f₂ g₂ a d h i =
        by_kind close d.step _ _ _ _
        (λ b. let k = goes t.kind close b c in h (after t) (after t₂) (on d k) (omega (arith, a.takes (goes_some t.kind k))))
        (λ n. when-rel (eqb close Greater && eqb t.kind GreaterGreater) (eqb close Greater && eqb t₂.kind GreaterGreater) _ _ _ _ (ap (λ (b : Bool). eqb close Greater && b) (is GreaterGreater d.step))
        (λ b.
        let k = eqb-true t.kind GreaterGreater (and_right (eqb close Greater) (eqb t.kind GreaterGreater) b) in
        h (split t) (split t₂) (record { good = d.step.half k; few = omega (arith, length-drop 1 t.here.rest, d.few); few₂ = omega (arith, length-drop 1 t₂.here.rest, d.few₂) }) (omega arith))
        (λ _. i n))

    -- a refusal at a token
    pub at-rel : (n : ℕ) {t t₂ : Lexeme} → 10 ≤ n → n ≤ 14 → Step F t t₂ → Rel F m m₂ Y (no (refused_at n t)) (no (refused_at n t₂))
    at-rel n {t = t} {t₂ = t₂} h g d = nos (L.refused_at n t t₂ h g d)

    pub unexpected-rel : {t t₂ : Lexeme} → Step F t t₂ → Rel F m m₂ Y (no (refused_at UnexpectedToken t)) (no (refused_at UnexpectedToken t₂))
    unexpected-rel d = at-rel 10 (omega arith) (omega arith) d

  -- a list, with any bounds that are larger than the bytes left
  module _ (s : Sort) (item item₂ : Reader) (alike : RelReader F s item item₂) (close : ℕ) (c : Goes close) (o o₂ : Lexeme) (opens : Step F o o₂) where
    list-rel : (f f₂ : ℕ) (u u₂ : Source) → left u < f → left u₂ < f₂ → F.source u u₂ → Rel F (left u) (left u₂) (F.items s close u u₂) (list item close o f (lex u)) (list item₂ close o₂ f₂ (lex u₂))
    unfolding list
    list-rel zero f₂ u u₂ h h₂ n = absurd (omega arith)
    list-rel (suc f) zero u u₂ h h₂ n = absurd (omega arith)
    list-rel (suc f) (suc f₂) u u₂ h h₂ n =
        stand-rel u u₂ _ _ (record { good = n; few = omega arith; few₂ = omega arith }) λ t t₂ s₁ s₂ a d.
        closed-rel close c u t t₂ _ _ _ _ s₁ d (λ w w₂ i j. oks (L.empty s close a i.good j) i)
        (λ k. by_kind Comma d.step _ _ _ _ (λ _. nos (L.refused_before CommaForItem t t₂ t t₂ (omega arith) (omega arith) d.step d.step))
        (λ _. then-rel _ _ (alike (left u) (left u₂) t t₂ d) λ x y v v₂ z l.
        stand-rel v v₂ _ _ l λ q q₂ s₁ s₂ b e.
        closed-rel close c v q q₂ _ _ _ _ s₁ e (λ w w₂ i j. oks (L.last s close a k z b i.good j) i)
        (λ _. by_kind Comma e.step _ _ _ _
        (λ p.
        let g : Goes q.kind = goes q.kind Comma p refl in
        let r = behind-left v q s₁ g in
        let r₂ = behind-left v₂ q₂ s₂ (subst Goes e.step.kind g) in
        then-rel _ _ (wider (omega (arith, l.few)) (omega (arith, l.few₂)) (list-rel f f₂ (after q) (after q₂) (omega (arith, l.few)) (omega (arith, l.few₂)) (e.step.on g))) λ xs ys w w₂ zs i.
        oks (L.more s close a k z (record { here = b; is = p; goes = g }) zs) i)
        (λ _. nos (L.refused_before ListNotClosed q q₂ o o₂ (omega arith) (omega arith) e.step opens)))))

  pub behind-rel : (s : Sort) (item item₂ : Reader) → RelReader F s item item₂ → (close : ℕ) → Goes close → {m m₂ : ℕ} (o o₂ : Lexeme) → Step F o o₂ → On F m m₂ (after o) (after o₂)
      → Rel F m m₂ (F.items s close (after o) (after o₂)) (list_behind item close o) (list_behind item₂ close o₂)
  unfolding list_behind
  behind-rel s item item₂ alike close c o o₂ d i =
      wider i.few i.few₂ (list-rel s item item₂ alike close c o o₂ d (suc (left (after o))) (suc (left (after o₂))) (after o) (after o₂) (omega arith) (omega arith) i.good)
