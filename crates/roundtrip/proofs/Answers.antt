-- Two things to say of an answer: `Gives P z`, something was read of which P holds, and the bytes z stand behind it; and `Every P`, P
-- holds of what was read, where something was, and reading goes on in the item's edition. A law for each way in which readers are put
-- together.
use mathlib.Core.Path.{◌≡◌, refl, sym, ◌∙◌, subst}
use mathlib.Core.Bool.{Bool, true, false, ◌&&◌}
use mathlib.Core.List.{List}
use Prim.Native.Nat.{ℕ}
use lib.Dec.{eqb}
use Rattle.classes.proofs.Bools.{false-true}
use Rattle.words.specs.Kinds.{Greater, GreaterGreater}
use Rattle.records.specs.Tree.{Trees}
use Rattle.sources.specs.Source.{Source, Lexeme, LexResult, tok, bad, lex}
use Rattle.answers.specs.Reading.{Ans, ok, no, then, look, when, closed}
use Rattle.roundtrip.proofs.Tokens.{Met, met, Each, Editions, Rest, Good, lex-good}

pub data Gives (es : Editions) {A : Type 0} (P : A → Type 0) (z : List ℕ) : Ans A → Type 0 where
  gives : (x : A) (u : Source) → P x → Rest es u z → Gives es P z (ok x u)

-- the token t closes a list, and z stands behind; or it does not
pub record Shuts (es : Editions) (close : ℕ) (z : List ℕ) (t : Lexeme) : Type 0 where
  pub to : Source
  pub rest : Rest es to z
  pub shuts : (f : Source → Ans Trees) (g : Unit {0} → Ans Trees) → closed close t f g ≡ f to

pub record Stays (close : ℕ) (t : Lexeme) : Type 0 where
  pub no_close : eqb t.kind close ≡ false
  pub no_shift : eqb close Greater && eqb t.kind GreaterGreater ≡ false

module _ {es : Editions} {A B : Type 0} {P : A → Type 0} {Q : B → Type 0} {y z : List ℕ} where
  pub gives_then : {a : Ans A} (f : A → Source → Ans B) → Gives es P y a → ((x : A) (u : Source) → P x → Rest es u y → Gives es Q z (f x u)) → Gives es Q z (then a f)
  unfolding then
  gives_then f (gives x u p e) k = k x u p e

module _ {es : Editions} {B : Type 0} {Q : B → Type 0} {z : List ℕ} where
  pub gives-look : {P : Lexeme → Type 0} {l : LexResult} (f : Lexeme → Ans B) → Met P l → ((t : Lexeme) → P t → Gives es Q z (f t)) → Gives es Q z (look l f)
  unfolding look
  gives-look f (met {t} p) k = k t p

  pub gives-when : (b : Bool) (f g : Unit {0} → Ans B) → (b ≡ true → Gives es Q z (f tt)) → (b ≡ false → Gives es Q z (g tt)) → Gives es Q z (when b f g)
  unfolding when
  gives-when true f g h i = h refl
  gives-when false f g h i = i refl

  pub gives-true : (b : Bool) (f g : Unit {0} → Ans B) → b ≡ true → Gives es Q z (f tt) → Gives es Q z (when b f g)
  gives-true b f g e h = gives-when b f g (λ _. h) λ x. false-true _ (sym x ∙ e)

  pub gives-false : (b : Bool) (f g : Unit {0} → Ans B) → b ≡ false → Gives es Q z (g tt) → Gives es Q z (when b f g)
  gives-false b f g e h = gives-when b f g (λ x. false-true _ (sym e ∙ x)) λ _. h

  pub gives-stays : (close : ℕ) (t : Lexeme) (f : Source → Ans B) (g : Unit {0} → Ans B) → Stays close t → Gives es Q z (g tt) → Gives es Q z (closed close t f g)
  unfolding closed
  gives-stays close t f g s h = gives-false _ _ _ s.no_close (gives-false _ _ _ s.no_shift h)

pub gives-shuts : {es : Editions} {Q : Trees → Type 0} {y z : List ℕ} {close : ℕ} {t : Lexeme} (f : Source → Ans Trees) (g : Unit {0} → Ans Trees) (s : Shuts es close y t) → Gives es Q z (f s.to) → Gives es Q z (closed close t f g)
gives-shuts {es} {Q} {y} {z} f g s h = subst (Gives es Q z) (sym (s.shuts f g)) h

module _ (es : Editions) where
  -- a source of the item
  abbrev pub Here : Source → Type 0
  Here u = u.edition ≡ es.read

  abbrev pub Every : {A : Type 0} → (A → Type 0) → Ans A → Type 0
  Every P (ok x u) = Here u × P x
  Every P (no r) = Unit {0}

  pub map-every : {A : Type 0} (P Q : A → Type 0) (a : Ans A) → ((x : A) → P x → Q x) → Every P a → Every Q a
  map-every P Q (ok x u) f h = (h.0, f x h.1)
  map-every P Q (no r) f h = tt

  module _ {B : Type 0} (Q : B → Type 0) where
    pub look-every : (u : Source) → Here u → (f : Lexeme → Ans B) → ((t : Lexeme) → Good es t → Every Q (f t)) → Every Q (look (lex u) f)
    unfolding look
    look-every u e f h = go (lex u) (lex-good es u e)
      where
        go : (l : LexResult) → Each (Good es) l → Every Q (look l f)
        go (tok t) g = h t g
        go (bad r) g = tt

    pub when-every : (b : Bool) (f g : Unit {0} → Ans B) → (b ≡ true → Every Q (f tt)) → (b ≡ false → Every Q (g tt)) → Every Q (when b f g)
    unfolding when
    when-every true f g h i = h refl
    when-every false f g h i = i refl
