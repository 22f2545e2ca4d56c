-- An instance of the law of readers: what is read is legal, and each leaf's word is the bytes of its span.
use mathlib.Core.Path.{◌≡◌, refl, ap, sym, subst, ◌∙◌}
use mathlib.Core.Bool.{Bool, true, false, cond}
use mathlib.Core.List.{List}
use Prim.Native.Nat.{ℕ, suc}
use native.Mathlib.Omega.{arith}
use lib.Dec.{eqb}
use lib.ListN.{get_or}
use Rattle.tokens.specs.declared.Refusal.{Refusal}
use Rattle.tokens.proofs.Faults.{unless-sure}
use Rattle.records.specs.Tree.{Tree, Trees, none, more}
use Rattle.records.specs.Spans.{Nested, unspelled}
use Rattle.sources.specs.Source.{Source, opened, Lexeme, start, end, word, LexResult, tok, bad, lex}
use Rattle.answers.specs.Reading.{Ans, ok, no, look}
use Rattle.grammar.specs.Types.{levels, bracketed}
use Rattle.grammar.specs.Items.{Item, item, refused, read_kind, followed, finished, Asked, fault_of, read_item}
use Rattle.grammar.proofs.Asked.{fault-each}
use Rattle.grammar.proofs.Spelled.{OfText, token-of-text}
use Rattle.frames.specs.code.Related.{a_name, a_value, a_type, a_bind_list, a_lambda_list, name, Frame, Lawful, Literal, Short}
use Rattle.frames.proofs.Readers.{sort_of, kind-same}
use Rattle.frames.proofs.Facts.{Facts, about, Fact, Of, reader-of, met}
use Rattle.saved.specs.Legal.{LegalAt, reworded}
use Rattle.reopened.proofs.Made.{Sorted, AllSorted, Parts, nothing, marked, leafed, oned, manied, made, field-sorted, unit-sorted, brackets-sorted, tuple-sorted, role-kid, variable-kid, lone-sorted, literal-sorted}

module _ (ed : ℕ) (text : List ℕ) where
  abbrev facts : Facts
  facts =
      record {
        source = λ u. u ≡ opened ed text u.at;
        token = OfText ed text;
        refusal = λ r. Unit {0};
        tree = λ s a u x. Sorted text s x;
        row = λ r a u xs. Parts text r xs;
        items = λ s c u v xs. AllSorted text s xs;
      }

  abbrev F : Frame
  F = about facts

  token-fact : (t : Lexeme) → OfText ed text t → Fact facts t
  token-fact t d = record { good = d; on = d.behind; half = λ _. d.inside }

  found : (u : Source) (t : Lexeme) → u ≡ opened ed text u.at → lex u ≡ tok t → Fact facts t
  found u t h l = token-fact t (token-of-text ed text u.at t (ap lex (sym h) ∙ l))

  bracketed-sorted : (n : ℕ) (a : Lexeme) (u : Source) (ts : Trees) → AllSorted text (a_type n) ts → Sorted text (a_type (suc n)) (bracketed a u ts)
  unfolding bracketed
  bracketed-sorted n a u none h = unit-sorted text (start a) u.at n
  bracketed-sorted n a u (more x none) h = brackets-sorted text (start a) u.at n x h.0
  bracketed-sorted n a u (more x (more y ts)) h = tuple-sorted text (start a) u.at n x y ts h.0 h.1.0 h.1.1

  law : Lawful F
  law =
      record {
        next = met facts found (λ u r h l. tt);
        refused_at = λ n t t₂ h g d. tt;
        refused_before = λ n t t₂ o o₂ h g d e. tt;
        colons_due = λ t t₂ a a₂ d e. tt;
        begin = λ x. nothing;
        mark = λ k h m. marked h;
        leaf = λ {t = t} l h p f. leafed _ h (role-kid text t p.step.good.spelled l);
        one = λ s h p x. oned _ h x;
        many = λ s c h i. manied _ h i;
        empty = λ s c p o j. tt;
        last = λ s c p n x q o j. (x, tt);
        more = λ s c p n x q xs. (x, xs);
        lone = λ {a = a} s l i x f o. lone-sorted text a x.good.spelled i;
        made = λ {a = a} {u = u} s c r i x z h o. made text (start a) u.at i h;
        brackets = λ {a = a} {u = u} {xs = xs} n x k h o. bracketed-sorted n a u xs h;
      }

  one_token : Literal F
  one_token a a₂ x c o = literal-sorted text a x.good.spelled a.kind (get_or (word a) 0 0) c

  own_name : Short F
  own_name n a a₂ x k o = field-sorted text (start a) (end a) n _ _ (role-kid text a x.good.spelled name) (variable-kid text a x.good.spelled (suc n) (omega arith))

  -- of every kind, from every token of the text on
  read-sorted : (kind : ℕ) (t : Lexeme) → OfText ed text t → Of facts (λ u x. Sorted text (sort_of kind) x) (read_kind kind t)
  read-sorted kind t d = reader-of facts (sort_of kind) (read_kind kind) (kind-same F law refl own_name kind (λ _. one_token)) t (token-fact t d)

  -- of every item
  abbrev Itemed : ℕ → Item → Type 0
  Itemed kind (item x n) = Sorted text (sort_of kind) x
  Itemed kind (refused r) = Unit {0}

  followed-itemed : (kind : ℕ) (x : Tree) (l : LexResult) → Sorted text (sort_of kind) x → Itemed kind (followed x l)
  unfolding followed
  followed-itemed kind x (tok t) h = h
  followed-itemed kind x (bad r) h = tt

  finished-itemed : (kind : ℕ) (a : Ans Tree) → Of facts (λ u x. Sorted text (sort_of kind) x) a → Itemed kind (finished a)
  unfolding finished
  finished-itemed kind (ok x u) h = followed-itemed kind x (lex u) h.0
  finished-itemed kind (no r) h = tt

  looked-itemed : (kind at : ℕ) → Itemed kind (finished (look (lex (opened ed text at)) (read_kind kind)))
  unfolding look finished
  looked-itemed kind at = go (lex (opened ed text at)) refl
    where
      go : (l : LexResult) → lex (opened ed text at) ≡ l → Itemed kind (finished (look l (read_kind kind)))
      go (tok t) e = finished-itemed kind (read_kind kind t) (read-sorted kind t (token-of-text ed text at t e))
      go (bad r) e = tt

pub item-sorted : (q : Asked) (x : Tree) (n : Lexeme) → read_item q ≡ item x n → Sorted q.text (sort_of q.kind) x
unfolding read_item
item-sorted q x n e =
    subst (Itemed q.edition q.text q.kind) e
    (unless-sure refused (Itemed q.edition q.text q.kind) (fault_of q) _ (fault-each q (λ (r : Refusal). Unit {0}) tt tt tt tt (λ _. tt) (λ r d. tt)) (λ _. looked-itemed q.edition q.text q.kind q.at))

-- at level 1, with its words
pub item-legal : (text : List ℕ) (kind : ℕ) (x : Tree) → Sorted text (sort_of kind) x → Nested x → LegalAt 1 x × (reworded text (unspelled x) ≡ x)
item-legal text kind x h d = go (eqb kind 1) (eqb kind 2) (eqb kind 3) (eqb kind 4) h
  where
    go : (a b c e : Bool) → Sorted text (cond a a_name (cond b a_value (cond c (a_type levels) (cond e a_bind_list a_lambda_list)))) x → LegalAt 1 x × (reworded text (unspelled x) ≡ x)
    go true b c e s = (s.good.legal d 1 (omega arith), s.good.words)
    go false true c e s = (s.legal d 1 (omega arith), s.words)
    go false false true e s = (s.good.legal d 1 (omega arith), s.good.words)
    go false false false true s = (s.legal d 1 (omega arith), s.words)
    go false false false false s = (s.legal d 1 (omega arith), s.words)
