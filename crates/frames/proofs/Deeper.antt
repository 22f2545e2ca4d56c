-- An instance of the law with two readers: with more levels left the answer stays, unless the levels were the refusal, which is
-- alike to any answer.
use mathlib.Core.Path.{◌≡◌, refl, ap}
use Prim.Native.Nat.{ℕ, zero, suc, ◌≤◌}
use native.Mathlib.Omega.{arith}
use Rattle.tokens.specs.Refusals.{TooDeep}
use Rattle.tokens.specs.declared.Refusal.{Refusal}
use Rattle.records.specs.Tree.{Tree, Trees}
use Rattle.sources.specs.Source.{Source, Lexeme, LexResult, tok, bad, lex}
use Rattle.answers.specs.Reading.{Ans, ok, no}
use Rattle.grammar.specs.Types.{type_over, brackets, read_type}
use Rattle.grammar.specs.Binds.{read_field, read_bind}
use Rattle.frames.specs.code.Related.{a_type, a_field, a_bind, Step, Met, toks, bads, Rel, oks, nos, quit, RelReader}
use Rattle.frames.specs.code.Shape.{Shape, Alike, leaves, nodes, AllAlike, nones, mores, Refused, framed, Shapely}
use Rattle.frames.proofs.Ways.{near}
use Rattle.frames.proofs.Readers.{type-over-rel, bind-over-rel, field-over-rel}
use Rattle.frames.proofs.Shapes.{law as law-of, short}

-- b is a, where a is not refused for its levels
pub data Deeper {A : Type 0} : (a b : Ans A) → Type 0 where
  same : (a : Ans A) → Deeper a a
  deep : (r : Refusal) (b : Ans A) → r.number ≡ TooDeep → Deeper (no r) b

abbrev frame : Shape
frame = record { starts = λ a b. a ≡ b; ends = λ a b. a ≡ b; source = λ u v. u ≡ v; kind = λ c. Unit {0}; word = λ k w s s₂. Unit {0}; number = λ n. Unit {0}; quits = λ r. r.number ≡ TooDeep }

token-itself : (t : Lexeme) → Step (framed frame) t t
token-itself t = record { kind = refl; spelled = refl; good = record { good = tt; from = refl; to = refl }; on = λ _. refl; half = λ _. refl }

itself : (l : LexResult) → Met (framed frame) l l
itself (tok t) = toks (token-itself t)
itself (bad r) = bads (record { same = refl; good = tt; from = refl; to = refl; from₂ = refl; to₂ = refl })

law : Shapely frame
law =
    record {
      point = λ s s₂ h. h;
      ended = λ u u₂ h. ap (λ (v : Source). v.at) h;
      next = λ u u₂ h. rw h (itself (lex u₂));
      kinds = λ c h s. tt;
      wordless = λ s s₂. tt;
      numbers = λ n h g. tt;
    }

mutual
  tree_is : {t u : Tree} → Alike frame t u → t ≡ u
  tree_is (leaves c b g w x y) = rw (w, x, y)
  tree_is (nodes c x y xs) = rw (x, y, trees-are xs)

  trees-are : {ts us : Trees} → AllAlike frame ts us → ts ≡ us
  trees-are nones = refl
  trees-are (mores x xs) = rw (tree_is x, trees-are xs)

refusal_is : (r r₂ : Refusal) → Refused frame r r₂ → r ≡ r₂
refusal_is r r₂ d = λ i. record { number = d.same i; place = record { start = d.from i; end = d.to i }; second = record { start = d.from₂ i; end = d.to₂ i } }

deeper : {m m₂ : ℕ} {a b : Ans Tree} → Rel (framed frame) m m₂ (λ u u₂ x y. Alike frame x y) a b → Deeper a b
deeper (oks {b = b} {u₂ = u₂} x n) = rw (tree_is x, n.good) (same (ok b u₂))
deeper (nos {r = r} {r₂ = r₂} d) = rw (refusal_is r r₂ d) (same (no r₂))
deeper (quit {r = r} {b = b} d) = deep r b d

type-more : (n m : ℕ) → n ≤ m → RelReader (framed frame) (a_type n) (read_type n) (read_type m)
unfolding read_type type_over brackets
type-more zero m h i j a a₂ x = quit refl
type-more (suc n) zero h i j a a₂ x = absurd (omega arith)
type-more (suc n) (suc m) h i j a a₂ x = type-over-rel (framed frame) (law-of frame law) n (read_type n) (read_type m) (type-more n m (omega arith)) i j a a₂ x

field-more : (n m : ℕ) → n ≤ m → RelReader (framed frame) (a_bind n) (read_bind n) (read_bind m) → RelReader (framed frame) (a_field n) (read_field n (read_bind n)) (read_field m (read_bind m))
unfolding read_field
field-more zero m h y i j a a₂ x = quit refl
field-more (suc n) zero h y i j a a₂ x = absurd (omega arith)
field-more (suc n) (suc m) h y i j a a₂ x = field-over-rel (framed frame) (law-of frame law) (short frame law) n (read_bind (suc n)) (read_bind (suc m)) y i j a a₂ x

bind-more : (n m : ℕ) → n ≤ m → RelReader (framed frame) (a_bind n) (read_bind n) (read_bind m)
unfolding read_bind
bind-more zero m h i j a a₂ x = quit refl
bind-more (suc n) zero h i j a a₂ x = absurd (omega arith)
bind-more (suc n) (suc m) h i j a a₂ x =
    bind-over-rel (framed frame) (law-of frame law) n (read_type n) (read_type m) (read_field n (read_bind n)) (read_field m (read_bind m)) (type-more n m (omega arith)) (field-more n m (omega arith) (bind-more n m (omega arith))) i j a a₂ x

pub type-deeper : (n m : ℕ) → n ≤ m → (a : Lexeme) → Deeper (read_type n a) (read_type m a)
type-deeper n m h a = deeper (type-more n m h _ _ a a (near (token-itself a)))

pub bind-deeper : (n m : ℕ) → n ≤ m → (a : Lexeme) → Deeper (read_bind n a) (read_bind m a)
bind-deeper n m h a = deeper (bind-more n m h _ _ a a (near (token-itself a)))
