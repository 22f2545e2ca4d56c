-- Frames that speak of one answer alone, as it is related to itself: what holds of a source, of a token that is met, of a refusal, of a
-- tree and of the trees of a list.
use mathlib.Core.Path.{◌≡◌, refl, subst}
use mathlib.Core.List.{List, [], ◌∷◌}
use Prim.Native.Nat.{ℕ, ◌+◌}
use native.Mathlib.Omega.{arith}
use Rattle.words.specs.Kinds.{GreaterGreater}
use Rattle.tokens.specs.declared.Refusal.{Refusal}
use Rattle.records.specs.Tree.{Tree, Trees}
use Rattle.sources.specs.Source.{Source, Lexeme, after, split, LexResult, tok, bad, lex}
use Rattle.sources.proofs.Standing.{Standing, Sound, lex-sound}
use Rattle.answers.specs.Reading.{Ans, ok, no, Reader, list_behind}
use Rattle.grammar.specs.Types.{bracketed}
use Rattle.frames.specs.code.Related.{Sort, Part, mark, leaf, one, many, Frame, Goes, Step, Met, toks, bads, left, Rel, oks, nos, quit, RelReader, Lawful}
use Rattle.frames.proofs.Ways.{near, behind-rel}

pub record Facts : Type 1 where
  pub source : Source → Type 0
  pub token : Lexeme → Type 0
  pub refusal : Refusal → Type 0
  pub tree : Sort → Lexeme → Source → Tree → Type 0
  pub row : List Part → Lexeme → Source → Trees → Type 0
  pub items : Sort → (close : ℕ) (u v : Source) → Trees → Type 0

abbrev pub about : Facts → Frame
about P =
    record {
      source = λ u u₂. (u ≡ u₂) × P.source u;
      token = λ t t₂. P.token t;
      refusal = λ r r₂. P.refusal r;
      quits = λ _. ⊥;
      wrap = bracketed;
      tree = λ s a a₂ u u₂ x y. P.tree s a u x;
      row = λ r a a₂ u u₂ xs ys. P.row r a u xs;
      items = λ s c u u₂ v v₂ xs ys. P.items s c u v xs;
    }

-- a token that is met, and the sources behind it
pub record Fact (P : Facts) (t : Lexeme) : Type 0 where
  pub good : P.token t
  pub on : P.source (after t)
  pub half : (t.kind ≡ GreaterGreater → P.source (split t))

pub stands : (u : Source) (t : Lexeme) → lex u ≡ tok t → Standing u t
stands u t l = subst (Sound u) l (lex-sound u)

-- what was read, and where reading goes on; or a refusal
abbrev pub Of : (P : Facts) {A : Type 0} → (Source → A → Type 0) → Ans A → Type 0
Of P Y (ok x u) = Y u x × P.source u
Of P Y (no r) = P.refusal r

module _ (P : Facts) where
  itself : (t : Lexeme) → Fact P t → Step (about P) t t
  itself t f = record { kind = refl; spelled = refl; good = f.good; on = λ _. (refl, f.on); half = λ k. (refl, f.half k) }

  of : {m m₂ : ℕ} {A : Type 0} {Y : Source → A → Type 0} {a b : Ans A} → Rel (about P) m m₂ (λ u u₂ x y. Y u x) a b → Of P Y a
  of (oks x d) = (x, d.good.1)
  of (nos d) = d
  of (quit d) = absurd d

  pub reader-of : (s : Sort) (item : Reader) → RelReader (about P) s item item → (t : Lexeme) → Fact P t → Of P (P.tree s t) (item t)
  reader-of s item h t f = of (h _ _ t t (near (itself t f)))

  pub list_of : (s : Sort) → Lawful (about P) → (item : Reader) → RelReader (about P) s item item → (close : ℕ) → Goes close → (o : Lexeme) → Fact P o → Of P (P.items s close (after o)) (list_behind item close o)
  list_of s L item h close c o f = of {m = left (after o)} {m₂ = left (after o)} (behind-rel (about P) L s item item h close c o o (itself o f) (record { good = (refl, f.on); few = omega arith; few₂ = omega arith }))

  module _ (found : (u : Source) (t : Lexeme) → P.source u → lex u ≡ tok t → Fact P t) (faults : (u : Source) (r : Refusal) → P.source u → lex u ≡ bad r → P.refusal r) where
    pub met : (u u₂ : Source) → (u ≡ u₂) × P.source u → Met (about P) (lex u) (lex u₂)
    met u u₂ h = subst (λ (v : Source). Met (about P) (lex u) (lex v)) h.0 (go (lex u) refl)
      where
        go : (l : LexResult) → lex u ≡ l → Met (about P) l l
        go (tok t) e = toks (itself t (found u t h.1 e))
        go (bad r) e = bads (faults u r h.1 e)

-- a weight of the parts of a record: so much for a mark, for a leaf and for what is read of each sort
abbrev pub weigh : (marks leaves : ℕ) → (Sort → ℕ) → List Part → ℕ
weigh m l w [] = 0
weigh m l w (mark k ∷ r) = m + weigh m l w r
weigh m l w (leaf c ∷ r) = l + weigh m l w r
weigh m l w (one s ∷ r) = w s + weigh m l w r
weigh m l w (many s c ∷ r) = weigh m l w r
