-- An instance of the law: facts of one answer alone, as the answer is alike to itself. Here the kinds of all records fit two bytes,
-- and every refusal is one that the author of a text can cause, 5 to 14.
use mathlib.Core.Path.{◌≡◌, refl, subst}
use mathlib.Core.Bool.{true}
use mathlib.Core.List.{List, [], ◌∷◌, ◌++◌}
use Prim.Native.Nat.{ℕ, zero, suc, ◌+◌, ◌-◌, ◌<◌, ◌≤◌}
use native.Mathlib.Omega.{arith}
use Rattle.tokens.specs.Refusals.{UnexpectedToken, CommaForItem, ListNotClosed, NoValue, TooDeep}
use Rattle.tokens.specs.RefusalSets.{among, lex_refusals}
use Rattle.tokens.specs.Token.{Scanned, tok as found, bad as faulty, scan}
use Rattle.tokens.proofs.RefusalSets.{subset, among-subset, LexMet, lex-met}
use Rattle.records.specs.Tree.{Tree, Trees}
use Rattle.records.specs.code.Narrow.{Kinds, KindsAll}
use Rattle.sources.specs.Source.{Source, Lexeme, LexResult, tok, bad, scanned, lex}
use Rattle.answers.specs.Reading.{Ans, ok, no, Reader}
use Rattle.frames.specs.code.Related.{Step, Met, toks, bads, Rel, oks, nos, quit}
use Rattle.frames.specs.code.Shape.{Shape, Alike, leaves, nodes, AllAlike, nones, mores, framed, Shapely, Strings}
use Rattle.frames.proofs.Shapes.{Obeys}

-- what the lexer refuses, and what readers do
abbrev pub text_refusals : List ℕ
text_refusals = lex_refusals ++ (UnexpectedToken ∷ CommaForItem ∷ ListNotClosed ∷ NoValue ∷ TooDeep ∷ [])

abbrev frame : Shape
frame = record { starts = λ a b. Unit {0}; ends = λ a b. Unit {0}; source = λ u v. u ≡ v; kind = λ c. c < 65536; word = λ k w s s₂. Unit {0}; number = λ n. among text_refusals n ≡ true; quits = λ _. ⊥ }

abbrev pub TokenMet : LexResult → Type 0
TokenMet (tok t) = Unit {0}
TokenMet (bad r) = among text_refusals r.number ≡ true

scanned-met : (u : Source) (l : Scanned) → LexMet l → TokenMet (scanned u l)
unfolding scanned subset among
scanned-met u (found k s e w r) h = tt
scanned-met u (faulty r) h = among-subset lex_refusals text_refusals refl r.number h

pub token-met : (u : Source) → TokenMet (lex u)
unfolding lex
token-met u = scanned-met u (scan u.edition u.at u.rest) (lex-met u.edition u.at u.rest)

token-itself : (t : Lexeme) → Step (framed frame) t t
token-itself t = record { kind = refl; spelled = refl; good = record { good = tt; from = tt; to = tt }; on = λ _. refl; half = λ _. refl }

itself : (l : LexResult) → TokenMet l → Met (framed frame) l l
itself (tok t) h = toks (token-itself t)
itself (bad r) h = bads (record { same = refl; good = h; from = tt; to = tt; from₂ = tt; to₂ = tt })

reader-number : (i : ℕ) → i ≤ 4 → among text_refusals (UnexpectedToken + i) ≡ true
unfolding among
reader-number zero h = refl
reader-number (suc zero) h = refl
reader-number (suc (suc zero)) h = refl
reader-number (suc (suc (suc zero))) h = refl
reader-number (suc (suc (suc (suc zero)))) h = refl
reader-number (suc (suc (suc (suc (suc i))))) h = absurd (omega arith)

law : Shapely frame
law =
    record {
      point = λ s s₂ h. tt;
      ended = λ u u₂ h. tt;
      next = λ u u₂ h. rw h (itself (lex u₂) (token-met u₂));
      kinds = λ c h s. omega arith;
      wordless = λ s s₂. tt;
      numbers = λ n h g.
          let z : UnexpectedToken + (n - UnexpectedToken) ≡ n = omega arith in
          subst (λ (m : ℕ). among text_refusals m ≡ true) z (reader-number (n - UnexpectedToken) (omega arith));
    }

strings : Strings frame
strings = record { hex = omega arith; byte = omega arith }

mutual
  unfolding Kinds KindsAll

  tree-kinds : {t u : Tree} → Alike frame t u → Kinds t
  tree-kinds (leaves c b g w x y) = c
  tree-kinds (nodes c x y xs) = (c, trees-kinds xs)

  trees-kinds : {ts us : Trees} → AllAlike frame ts us → KindsAll ts
  trees-kinds nones = tt
  trees-kinds (mores x xs) = (tree-kinds x, trees-kinds xs)

-- what is read has the kinds, and what is refused the numbers
abbrev pub Checked : Ans Tree → Type 0
Checked (ok x u) = Kinds x
Checked (no r) = among text_refusals r.number ≡ true

checked : {m m₂ : ℕ} {a b : Ans Tree} → Rel (framed frame) m m₂ (λ u u₂ x y. Alike frame x y) a b → Checked a
checked (oks x n) = tree-kinds x
checked (nos d) = d.good
checked (quit d) = absurd d

pub checked-reader : (item : Reader) → Obeys item → (t : Lexeme) → Checked (item t)
checked-reader item obeys t = checked (obeys frame law strings t t (token-itself t))
