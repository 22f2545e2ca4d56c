-- No type has more records than `most` says: of every type that is read from a token of a text on, and so of every item that is a type.
use mathlib.Core.Path.{◌≡◌, refl, subst}
use mathlib.Core.Bool.{Bool, true, false, cond}
use mathlib.Core.List.{List}
use Prim.Native.Nat.{ℕ, ◌+◌, ◌≤◌}
use native.Mathlib.Omega.{arith}
use borrow.Author.Tests.{eqb-true}
use lib.Dec.{eqb}
use Rattle.tokens.proofs.Faults.{each-any, unless-sure}
use Rattle.records.specs.Tree.{Tree}
use Rattle.records.specs.Spans.{start_of, end_of}
use Rattle.records.specs.Stored.{records}
use Rattle.sources.specs.Source.{Source, opened, Lexeme, start, LexResult, tok, bad, lex}
use Rattle.answers.specs.Reading.{Ans, ok, no, look, when}
use Rattle.answers.proofs.Sure.{stop, Sure, standing-tok}
use Rattle.grammar.specs.Types.{levels, read_type}
use Rattle.grammar.specs.Items.{Item, item, refused, read_kind, followed, finished, Asked, fault_of, read_item}
use Rattle.frames.proofs.Facts.{stands}
use Rattle.frames.proofs.Sure.{type-sure}
use Rattle.largest.specs.Largest.{bytes_of, most}
use Rattle.largest.specs.Statements.{OfTypes, OfItems, AtMostOneMore, ThreeForThree, SomeBytes, NeverPassed}
use Rattle.largest.proofs.Bounds.{Typed, type-bound}

-- the bounds, by where a type's tree starts and ends
type-typed : (ed : ℕ) (text : List ℕ) (p : ℕ) (a : Lexeme) → lex (opened ed text p) ≡ tok a → (m : ℕ) (t : Tree) (u : Source) → read_type m a ≡ ok t u → Typed text (start_of t) (records t) (end_of t)
type-typed ed text p a h m t u e =
    let v : Source = opened ed text p in
    let d : Sure (stop v) 0 (start a) (ok t u) = subst (Sure (stop v) 0 (start a)) e (type-sure (stop v) m a (standing-tok v a (stands v a h) (stop v) refl)) in
    rw (d.from, d.to) (type-bound ed text p a h m t u e)

most-bound : (n c : ℕ) → c ≤ n + 1 → (n ≡ 3 → c ≤ 3) → c ≤ most n
unfolding most
most-bound n c h g = go (eqb n 3) refl
  where
    go : (b : Bool) → eqb n 3 ≡ b → c ≤ cond b 3 (n + 1)
    go true e = g (eqb-true n 3 e)
    go false e = h

-- 1. never more than n + 1
pub type-at-most : OfTypes AtMostOneMore
unfolding bytes_of
type-at-most ed text p a h m t u e = let d = type-typed ed text p a h m t u e in omega (arith, d.some, d.few)

-- 2. for n = 3 no more than 3
pub type-three : OfTypes ThreeForThree
unfolding bytes_of
type-three ed text p a h m t u e g = let d = type-typed ed text p a h m t u e in d.three (omega (arith, d.some))

-- 5. some bytes, and never more than `most`
pub type-some : OfTypes SomeBytes
unfolding bytes_of
type-some ed text p a h m t u e = let d = type-typed ed text p a h m t u e in omega (arith, d.some)

pub type-most : OfTypes NeverPassed
type-most ed text p a h m t u e = most-bound (bytes_of t) (records t) (type-at-most ed text p a h m t u e) (type-three ed text p a h m t u e)

-- of types, so of items
abbrev Each : (Tree → Type 0) → Item → Type 0
Each P (item t n) = P t
Each P (refused r) = Unit {0}

module _ (P : Tree → Type 0) (h : OfTypes P) where
  followed-each : (t : Tree) (l : LexResult) → P t → Each P (followed t l)
  unfolding followed
  followed-each t (tok n) d = d
  followed-each t (bad r) d = tt

  finished-each : (a : Ans Tree) → ((t : Tree) (u : Source) → a ≡ ok t u → P t) → Each P (finished a)
  unfolding finished
  finished-each (ok t u) d = followed-each t (lex u) (d t u refl)
  finished-each (no r) d = tt

  looked-each : (ed : ℕ) (text : List ℕ) (p : ℕ) (l : LexResult) → lex (opened ed text p) ≡ l → Each P (finished (look l (read_kind 3)))
  unfolding look read_kind when
  looked-each ed text p (tok a) e = finished-each (read_type levels a) (h ed text p a e levels)
  looked-each ed text p (bad r) e = finished-each (no r) (λ t u g. let z : ◌≡◌ {A = ℕ} 0 1 = cc in absurd (omega arith))

  item-each : (q : Asked) → q.kind ≡ 3 → Each P (read_item q)
  unfolding read_item
  item-each q k =
      unless-sure refused (Each P) (fault_of q) _ (each-any (λ r. Each P (refused r)) (fault_of q) (λ r. tt)) λ _.
      rw k (looked-each q.edition q.text q.at (lex (opened q.edition q.text q.at)) refl)

  of-items : OfItems P
  of-items q t n k e = subst (Each P) e (item-each q k)

pub never-more : OfItems AtMostOneMore
never-more = of-items AtMostOneMore type-at-most

pub three-for-three : OfItems ThreeForThree
three-for-three = of-items ThreeForThree type-three

pub some_bytes : OfItems SomeBytes
some_bytes = of-items SomeBytes type-some

pub never-passed : OfItems NeverPassed
never-passed = of-items NeverPassed type-most
