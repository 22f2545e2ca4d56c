-- What is read as an item of a kind, of any text at any offset, is read again from its line; and lines are the same exactly where
-- builds are.
use mathlib.Core.Path.{◌≡◌, refl, subst, sym, ap, ◌∙◌}
use mathlib.Core.Bool.{Bool, true, false}
use mathlib.Core.List.{List, [], ◌++◌, append-nil}
use mathlib.Core.Logic.{◌↔◌}
use Prim.Native.Nat.{ℕ, ◌+◌, ◌≤◌}
use native.Mathlib.Omega.{arith}
use borrow.Author.Tests.{eqb-true, eqb-false, ltb-false}
use lib.Dec.{eqb, ltb}
use lib.ListN.{length}
use Rattle.classes.proofs.Bools.{or_left, or_right}
use Rattle.words.specs.Kinds.{EOF}
use Rattle.tokens.specs.Calls.{text_limit, no_edition}
use Rattle.tokens.proofs.Faults.{each-any, unless-sure, unless_not}
use Rattle.records.specs.Tree.{Tree, build}
use Rattle.records.specs.Stored.{counted, records}
use Rattle.sources.specs.Source.{Source, opened, Lexeme, start, LexResult, tok, bad, lex, token_of}
use Rattle.sources.proofs.Standing.{Sound, lex-sound}
use Rattle.answers.specs.Reading.{Ans, ok, no, Reader}
use Rattle.answers.proofs.Sure.{stop, Sure, look-sure}
use Rattle.grammar.specs.Names.{chain}
use Rattle.grammar.specs.Values.{value}
use Rattle.grammar.specs.Types.{levels, read_type}
use Rattle.grammar.specs.Binds.{read_bind_list, read_lambda_list}
use Rattle.grammar.specs.Items.{Item, item, refused, read_kind, followed, finished, Asked, fault_of, reading, read_item}
use Rattle.grammar.specs.Raise.{of_text}
use Rattle.grammar.specs.code.Edition.{in_edition}
use Rattle.grammar.proofs.Asked.{in_order_lem, of-text}
use Rattle.frames.proofs.Sure.{kind-sure}
use Rattle.forms.specs.Line.{line, shown}
use Rattle.roundtrip.specs.Demand.{eof_at}
use Rattle.roundtrip.proofs.Tokens.{Met, met, met-map, Editions, own, later, Rest, Near, at_once, Word, Good}
use Rattle.roundtrip.proofs.Answers.{Gives, gives, gives-look, gives-true, gives-false, Every, map-every, look-every, when-every}
use Rattle.roundtrip.proofs.Marks.{eof, Ends, ends}
use Rattle.roundtrip.proofs.Lists.{Same, structs}
use Rattle.roundtrip.proofs.Names.{is_colons, Chain, ValueBack}
use Rattle.roundtrip.proofs.Types.{Typed}
use Rattle.roundtrip.proofs.Binds.{ListBack, LambdaBack}
use Rattle.roundtrip.proofs.Backs.{chain-sure, value-sure, type-sure, list-sure, lambda-sure}
use Rattle.std.specs.Prelude.{Ok}

-- the line of x alone, read as what was asked but in the edition of reading back, gives the build of x and leaves nothing
abbrev pub Alone : Editions → Asked → Tree → Type 0
Alone es q x = Gives es (Same x) [] (reading (of_text (shown x) (in_edition es.back q)))

module _ (es : Editions) where
  alone : (q : Asked) (x : Tree) (one : Reader) → ((u : Source) → Near es u (shown x ++ []) → Met (λ (a : Lexeme). Gives es (Same x) [] (one a)) (lex u))
      → ((a : Lexeme) → Gives es (Same x) [] (one a) → Gives es (Same x) [] (read_kind q.kind a)) → Alone es q x
  alone q x one h k = gives-look _ (h (opened es.back (shown x) 0) (at_once (refl, sym (append-nil (shown x))))) k

  -- nothing goes on with an item at the end
  at-end : (f : ℕ → Bool) → f EOF ≡ false → Ends es f []
  at-end f h = ends es f (eof es) [] [] refl h tt tt λ u. at_once

  -- whatever is read as an item of a kind
  kind-alone : (q : Asked) (a : Lexeme) → Good es a → Every es (Alone es q) (read_kind q.kind a)
  unfolding read_kind
  kind-alone q a g =
      when-every es _ _ _ _ (λ c. map-every es (Chain es) _ (chain a) (λ x h. alone q x chain (λ u n. met-map (λ b i. i.back) (h.reads u [] n (at-end is_colons refl))) λ b. gives-true _ _ _ c) (chain-sure es a g)) λ c₁.
      when-every es _ _ _ _ (λ c. map-every es (ValueBack es) _ (value a) (λ x h. alone q x value (λ u n. h u [] n (at-end is_colons refl)) λ b i. gives-false _ _ _ c₁ (gives-true _ _ _ c i)) (value-sure es a g)) λ c₂.
      when-every es _ _ _ _
      (λ c. map-every es (Typed es levels) _ (read_type levels a) (λ x h. alone q x (read_type levels) (λ u n. met-map (λ b i. i.1) (h.reads u [] n (at-end structs refl))) λ b i.
      gives-false _ _ _ c₁ (gives-false _ _ _ c₂ (gives-true _ _ _ c i))) (type-sure es levels a g)) λ c₃.
      when-every es _ _ _ _
      (λ c. map-every es (ListBack es) _ (read_bind_list a) (λ x h. alone q x read_bind_list (λ u n. h u [] n) λ b i. gives-false _ _ _ c₁ (gives-false _ _ _ c₂ (gives-false _ _ _ c₃ (gives-true _ _ _ c i)))) (list-sure es a g)) λ c₄.
      map-every es (LambdaBack es) _ (read_lambda_list a) (λ x h. alone q x read_lambda_list (λ u n. h u [] n tt) λ b i. gives-false _ _ _ c₁ (gives-false _ _ _ c₂ (gives-false _ _ _ c₃ (gives-false _ _ _ c₄ i)))) (lambda-sure es a g)

-- what is sure of all that is read as a kind is sure of the item
abbrev Of : (Tree → Type 0) → Item → Type 0
Of P (item x n) = P x
Of P (refused r) = Unit {0}

finished-of : (es : Editions) (P : Tree → Type 0) (a : Ans Tree) → Every es P a → Of P (finished a)
unfolding finished followed
finished-of es P (ok x u) h = go (lex u)
  where
    go : (l : LexResult) → Of P (followed x l)
    go (tok t) = h.1
    go (bad r) = tt
finished-of es P (no r) h = tt

-- nothing is wrong with what is asked, and P
abbrev pub Called : Asked → (Tree → Type 0) → Tree → Type 0
Called q P x = (fault_of q ≡ (Ok tt)) × P x

module _ (es : Editions) (q : Asked) (in-edition : q.edition ≡ es.read) where
  item_of : (P : Tree → Type 0) → ((a : Lexeme) → Good es a → Every es P (read_kind q.kind a)) → Of (Called q P) (read_item q)
  unfolding read_item
  item_of P h =
      let Q = Called q P in
      unless-sure refused (Of Q) (fault_of q) _ (each-any (λ _. Unit {0}) (fault_of q) (λ _. tt)) λ e.
      finished-of es Q (reading q) (look-every es Q (opened q.edition q.text q.at) in-edition (read_kind q.kind) λ a g. map-every es P Q (read_kind q.kind a) (λ x y. (e, y)) (h a g))

  pub item-alone : (x : Tree) (n : Lexeme) → read_item q ≡ item x n → Called q (Alone es q) x
  item-alone x n e = subst (Of (Called q (Alone es q))) e (item_of (Alone es q) (kind-alone es q))

-- what is read to the last byte of a text ends at its length, and EOF follows
abbrev Stopped : ℕ → Ans Tree → Type 0
Stopped e (ok x u) = stop u ≡ e
Stopped e (no r) = Unit {0}

stopped : (q : Asked) (text : List ℕ) → Stopped (length text) (reading (of_text text q))
stopped q text = look-sure (length text) (Stopped (length text)) (opened q.edition text 0) (read_kind q.kind) (omega arith) (λ r _. tt) λ t d _. go (start t) (read_kind q.kind t) (kind-sure (length text) q.kind t d)
  where
    go : (s : ℕ) (a : Ans Tree) → Sure (length text) 0 s a → Stopped (length text) a
    go s (ok x u) h = h.on.stops
    go s (no r) h = tt

eof-met : (es : Editions) (u : Source) → Rest es u [] → Met (λ (t : Lexeme). token_of t ≡ eof_at u.at) (lex u)
eof-met es u e = go (lex u) (lex-sound u) (eof es u [] (at_once e) refl)
  where
    go : (l : LexResult) → Sound u l → Met (Word es EOF [] []) l → Met (λ (t : Lexeme). token_of t ≡ eof_at u.at) l
    go (tok t) d (met i) = met {t = t} (
        let z = d.last i.kind in
        let y : t.here.at ≡ u.at = ap (λ (v : Source). v.at) d.here ∙ omega (arith, z.1, ap length e.1) in
        let x : t.here.at + t.len ≡ u.at = omega (arith, z.0) in
        rw (i.kind, x, y)
        )
    go (bad _) d h = elim h [ ]

-- lines and how many records there are go by the build
same-shown : (x y : Tree) → build x ≡ build y → shown x ≡ shown y
unfolding shown
same-shown x y e = ap line e

same-records : (x y : Tree) → build x ≡ build y → records x ≡ records y
unfolding records
same-records x y e = ap counted e

-- the line of x, read back from 0 as that kind in an edition: accepted to its last byte, since EOF at (n,n) follows, with the same
-- build, the same line, and as many records
pub record Again (q : Asked) (x : Tree) : Type 0 where
  pub tree : Tree
  pub next : Lexeme
  pub is_item : read_item (of_text (shown x) q) ≡ item tree next
  pub at_end : token_of next ≡ eof_at (length (shown x))
  pub same_build : build tree ≡ build x
  pub same_line : shown tree ≡ shown x
  pub same_records : records tree ≡ records x

again-from : (es : Editions) (q : Asked) (x : Tree) (a : Ans Tree) → read_item (of_text (shown x) q) ≡ finished a → Stopped (length (shown x)) a → Gives es (Same x) [] a → Again q x
unfolding finished followed
again-from es q x a h s (gives y u e g) = go (lex u) h (subst (λ (n : ℕ). Met (λ (t : Lexeme). token_of t ≡ eof_at n) (lex u)) (omega (arith, s, ap length g.1)) (eof-met es u g))
  where
    go : (l : LexResult) → read_item (of_text (shown x) q) ≡ followed y l → Met (λ (t : Lexeme). token_of t ≡ eof_at (length (shown x))) l → Again q x
    go (tok t) h (met i) = record { tree = y; next = t; is_item = h; at_end = i; same_build = e; same_line = same-shown y x e; same_records = same-records y x e }
    go (bad _) h m = elim m [ ]

-- in the item's own edition
pub again : (q : Asked) (x : Tree) (n : Lexeme) → read_item q ≡ item x n → length (shown x) ≤ text_limit → Again q x
unfolding read_item
again q x n e h =
    let a = item-alone (own q.edition) q refl x n e in
    let back : Asked = of_text (shown x) q in
    again-from (own q.edition) q x (reading back) (unless_not refused (fault_of back) _ (of-text q (shown x) a.0 h)) (stopped q (shown x)) a.1

-- the line of an item of either edition, read in edition 2
one-or-two : (ed : ℕ) → no_edition ed ≡ false → (eqb ed 2 ≡ false) → ed ≡ 1
one-or-two ed h g = omega (arith, eqb-false ed 0 (or_left (eqb ed 0) (ltb 2 ed) h), ltb-false 2 ed (or_right (eqb ed 0) (ltb 2 ed) h), eqb-false ed 2 g)

module _ (q : Asked) (x : Tree) (n : Lexeme) (e : read_item q ≡ item x n) where
  -- the line as the text, in edition 2
  abbrev line₂ : Asked
  line₂ = of_text (shown x) (in_edition 2 q)

  in-later : (v : Bool) → eqb q.edition 2 ≡ v → Gives (own 2) (Same x) [] (reading line₂)
  in-later true h = (item-alone (own 2) q (eqb-true q.edition 2 h) x n e).1
  in-later false h =
      let z : q.edition ≡ 1 = one-or-two q.edition (in_order_lem q (item-alone (own q.edition) q refl x n e).0).is_edition h in
      crossed (reading line₂) (item-alone later q z x n e).1
    where
      crossed : (a : Ans Tree) → Gives later (Same x) [] a → Gives (own 2) (Same x) [] a
      crossed a (gives y u h g) = gives y u h g

  line-later : Gives (own 2) (Same x) [] (reading line₂)
  line-later = in-later (eqb q.edition 2) refl

-- two items of one kind, whatever the edition of each, have the same line exactly when their builds are equal
one-build : (es : Editions) (x y : Tree) (a : Ans Tree) → Gives es (Same x) [] a → Gives es (Same y) [] a → build x ≡ build y
one-build es x y a (gives v u e g) (gives w t f h) = sym e ∙ f

pub same_lines : (q q₂ : Asked) (x y : Tree) (n m : Lexeme) → q.kind ≡ q₂.kind → read_item q ≡ item x n → read_item q₂ ≡ item y m → (shown x ≡ shown y) ↔ (build x ≡ build y)
same_lines q q₂ x y n m k e g = (
  λ l. one-build (own 2) x y (reading (of_text (shown y) (in_edition 2 q₂))) (rw (l, k) at (line-later q x n e)) (line-later q₂ y m g),
  same-shown x y,
)
