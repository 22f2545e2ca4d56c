-- An instance of the law: reading the same bytes from a later place gives the same answer, with all places raised. So reading an item
-- from s is reading the text from s, all places raised by s.
use mathlib.Core.Path.{◌≡◌, refl, ap, sym, ◌∙◌}
use mathlib.Core.List.{List}
use Prim.Native.Nat.{ℕ, ◌+◌}
use native.Mathlib.Omega.{arith}
use native.Mathlib.Nat.{add-zero, add_assoc}
use lib.ListN.{drop, length-drop}
use Rattle.tokens.specs.Raise.{raise_refusal}
use Rattle.tokens.specs.declared.Refusal.{Refusal}
use Rattle.tokens.proofs.Faults.{unless_not}
use Rattle.records.specs.Tree.{Tree, Trees}
use Rattle.records.specs.Raise.{raise_tree, raise_trees}
use Rattle.sources.specs.Source.{Source, opened, moved, Lexeme, LexResult, tok, bad, lex}
use Rattle.sources.specs.Raise.{raise_source, raise_token}
use Rattle.sources.specs.code.Raise.{raise_scanned}
use Rattle.sources.proofs.Raised.{past-raised, lex-raised}
use Rattle.answers.specs.Reading.{Ans, ok, no, look, Reader}
use Rattle.answers.specs.code.Raise.{raise_ans}
use Rattle.grammar.specs.Items.{refused, read_kind, followed, finished, Asked, fault_of, read_item}
use Rattle.grammar.specs.Raise.{of_text, raise_item}
use Rattle.grammar.proofs.Asked.{in_order_lem, of-text}
use Rattle.frames.specs.code.Related.{Step, Met, toks, bads, Rel, oks, nos, quit}
use Rattle.frames.specs.code.Shape.{Shape, Alike, leaves, nodes, AllAlike, nones, mores, Refused, framed, Shapely, Strings}
use Rattle.frames.proofs.Shapes.{Obeys, kind-obeys}
use Rattle.std.specs.Prelude.{Ok}

module _ (k : ℕ) where
  abbrev frame : Shape
  frame = record { starts = λ a b. a ≡ k + b; ends = λ a b. a ≡ k + b; source = λ u v. u ≡ raise_source k v; kind = λ _. Unit {0}; word = λ k w s s₂. Unit {0}; number = λ _. Unit {0}; quits = λ _. ⊥ }

  token-raised : (t : Lexeme) → Step (framed frame) (raise_token k t) t
  token-raised t =
      record {
        kind = refl;
        spelled = refl;
        good = record { good = tt; from = refl; to = add_assoc k t.here.at t.len };
        on = λ _. past-raised k t.len t.here;
        half = λ _. past-raised k 1 t.here;
      }

  raised : (l : LexResult) → Met (framed frame) (raise_scanned k l) l
  raised (tok t) = toks (token-raised t)
  raised (bad r) = bads (record { same = refl; good = tt; from = refl; to = refl; from₂ = refl; to₂ = refl })

  law : Shapely frame
  law =
      record {
        point = λ s s₂ h. h;
        ended = λ u u₂ h. ap (λ (v : Source). v.at) h;
        next = λ u u₂ h. rw (h, lex-raised k u₂) (raised (lex u₂));
        kinds = λ c h s. tt;
        wordless = λ s s₂. tt;
        numbers = λ n h g. tt;
      }

  strings : Strings frame
  strings = record { hex = tt; byte = tt }

  mutual
    unfolding raise_tree raise_trees

    tree_is : {t u : Tree} → Alike frame t u → t ≡ raise_tree k u
    tree_is (leaves c b g w x y) = rw (w, x, y)
    tree_is (nodes c x y xs) = rw (x, y, trees-are xs)

    trees-are : {ts us : Trees} → AllAlike frame ts us → ts ≡ raise_trees k us
    trees-are nones = refl
    trees-are (mores x xs) = rw (tree_is x, trees-are xs)

  refusal_is : (r r₂ : Refusal) → Refused frame r r₂ → r ≡ raise_refusal k r₂
  refusal_is r r₂ d = λ i. record { number = d.same i; place = record { start = d.from i; end = d.to i }; second = record { start = d.from₂ i; end = d.to₂ i } }

  answer-is : {m m₂ : ℕ} {a b : Ans Tree} → Rel (framed frame) m m₂ (λ u u₂ x y. Alike frame x y) a b → a ≡ raise_ans raise_tree k b
  unfolding raise_ans
  answer-is (oks x n) = rw (tree_is x, n.good)
  answer-is (nos {r = r} {r₂ = r₂} d) = ap no (refusal_is r r₂ d)
  answer-is (quit d) = absurd d

  pub raised-reader : (item : Reader) → Obeys item → (t : Lexeme) → item (raise_token k t) ≡ raise_ans raise_tree k (item t)
  raised-reader item obeys t = answer-is (obeys frame law strings (raise_token k t) t (token-raised t))

  looked-raised : (kind : ℕ) (l : LexResult) → look (raise_scanned k l) (read_kind kind) ≡ raise_ans raise_tree k (look l (read_kind kind))
  unfolding look raise_ans
  looked-raised kind (tok t) = raised-reader (read_kind kind) (kind-obeys kind) t
  looked-raised kind (bad r) = refl

  followed-raised : (x : Tree) (l : LexResult) → followed (raise_tree k x) (raise_scanned k l) ≡ raise_item k (followed x l)
  unfolding followed raise_item
  followed-raised x (tok t) = refl
  followed-raised x (bad r) = refl

  finished-raised : (a : Ans Tree) → finished (raise_ans raise_tree k a) ≡ raise_item k (finished a)
  unfolding finished raise_ans raise_item
  finished-raised (ok x u) = rw (lex-raised k u) (followed-raised x (lex u))
  finished-raised (no r) = refl

-- where nothing is wrong with what is asked: a text that is not too long, an offset in it at which reading may begin, one of the five
-- kinds and one of the two editions
pub item_from_lem : (q : Asked) → fault_of q ≡ Ok tt → read_item q ≡ raise_item q.at (read_item (of_text (drop q.at q.text) q))
unfolding read_item
item_from_lem q e =
    let at : ℕ = q.at in
    let behind : List ℕ = drop at q.text in
    let u : Source = opened q.edition behind 0 in
    let d : fault_of (of_text behind q) ≡ (Ok tt) = of-text q behind e (omega (arith, length-drop at q.text, (in_order_lem q e).short)) in
    let l : lex (opened q.edition q.text at) ≡ raise_scanned at (lex u) = ap (λ (p : ℕ). lex (moved (opened q.edition q.text at) p behind)) (sym (add-zero at)) ∙ lex-raised at u in
    unless_not refused (fault_of q) _ e
    ∙ ap (λ (x : LexResult). finished (look x (read_kind q.kind))) l ∙ ap finished (looked-raised at q.kind (lex u)) ∙ finished-raised at (look (lex u) (read_kind q.kind))
    ∙ ap (raise_item at) (sym (unless_not refused (fault_of (of_text behind q)) _ d))
