-- Every n reaches the most: n + 1 by the construction from 4 on, and 2, 3 and 3 by `a`, `&a` and `(a)`.
use mathlib.Core.Path.{◌≡◌, refl, ap, sym, ◌∙◌}
use mathlib.Core.Bool.{Bool, true, false}
use mathlib.Core.List.{List, []}
use Prim.Native.Nat.{ℕ, zero, suc, ◌+◌, ◌-◌, ◌*◌, ◌/◌, ◌%◌, ◌≤◌}
use native.Mathlib.Omega.{arith}
use borrow.Author.Tests.{eqb-true, eqb-false, ne_eqb}
use lib.Dec.{eqb}
use lib.ListN.{length}
use Rattle.classes.specs.Bytes.{bytes}
use Rattle.words.specs.Kinds.{EOF}
use Rattle.tokens.specs.Answers.{token}
use Rattle.tokens.specs.Calls.{text_limit, no_edition}
use Rattle.tokens.proofs.Faults.{unless_not}
use Rattle.records.specs.Tree.{Tree, build, builds}
use Rattle.records.specs.Spans.{start_of, end_of}
use Rattle.records.specs.Stored.{counted, counted_all, records}
use Rattle.sources.specs.Source.{opened, LexResult, tok, bad, scanned, lex}
use Rattle.answers.specs.Reading.{ok, then, look, when, closed, list, list_behind}
use Rattle.grammar.specs.Names.{chain}
use Rattle.grammar.specs.Types.{levels, bracketed, brackets, reference, with_arguments, named, type_over, read_type}
use Rattle.grammar.specs.Items.{item, refused, read_kind, followed, finished, asked, fault_of, read_item}
use Rattle.grammar.proofs.Asked.{faultless}
use Rattle.starts.proofs.Allowed.{zero-begins}
use Rattle.largest.specs.Largest.{function_type, largest, most}
use Rattle.largest.specs.Statements.{IsTypeOf, LargestReaches, ThreeLevels, OneReached, TwoReached, ThreeReached, AlwaysReached}
use Rattle.largest.proofs.Fronts.{lexer, from, front, at-end}
use Rattle.largest.proofs.Reached.{argument_tree, argument_end, whole_tree, further_end, further-end, shape-long, argument-count, whole-count, shape-read}

kind-type : (l : LexResult) → look l (read_kind 3) ≡ look l (read_type levels)
unfolding look read_kind when
kind-type (tok a) = refl
kind-type (bad r) = refl

module _ (ed : ℕ) (e : no_edition ed ≡ false) where
  -- an item that is a type, over the reader of types
  item-type : (text : List ℕ) → length text ≤ text_limit → read_item (asked 3 ed text 0) ≡ finished (look (lex (opened ed text 0)) (read_type levels))
  unfolding read_item
  item-type text h = unless_not refused (fault_of (asked 3 ed text 0)) _ (faultless (asked 3 ed text 0) (record { short = h; inside = omega arith; is_kind = refl; is_edition = e; may_begin = zero-begins ed text })) ∙ ap finished (kind-type (lex (opened ed text 0)))

  finished-end : (t : Tree) (n : ℕ) → finished (ok t (from ed n [])) ≡ item t (front EOF 0 ed n [])
  unfolding finished followed
  finished-end t n = rw (at-end ed n)

  -- a type that is read to the end of its text
  is-type : (text : List ℕ) (n m : ℕ) (t : Tree) → length text ≡ n → n ≤ text_limit → look (lex (opened ed text 0)) (read_type levels) ≡ ok t (from ed n []) → start_of t ≡ 0 → end_of t ≡ n → records t ≡ m → IsTypeOf ed text n m
  is-type text n m t h g i f o c =
      let z : n + 0 ≡ n = omega arith in
      record { long = h; tree = t; next = front EOF 0 ed n []; is_item = item-type text (omega arith) ∙ ap finished i ∙ finished-end t n; from = f; to = o; counts = c; at_end = ap (token EOF n) z }

  shape_is : (amp : Bool) (k n : ℕ) → n ≡ argument_end amp + 2 * k + 2 → n ≤ text_limit → IsTypeOf ed (function_type amp k) n (n + 1)
  unfolding start_of end_of
  shape_is amp k n h g =
      let t : Tree = whole_tree (argument_tree amp) k (argument_end amp) in
      let z : further_end k (argument_end amp) + 1 + 1 ≡ n = omega (arith, further-end k (argument_end amp)) in
      is-type (function_type amp k) n (n + 1) t (shape-long amp k ∙ sym h) g (shape-read ed amp k 61 ∙ ap (λ (p : ℕ). ok t (from ed p [])) z) refl z (whole-count (argument_tree amp) k (argument_end amp) ∙ omega (arith, argument-count amp))

-- n bytes by the construction
shape-bytes : (n : ℕ) → 4 ≤ n → (b : Bool) → eqb (n % 2) 1 ≡ b → n ≡ argument_end b + 2 * ((n - 4) / 2) + 2
shape-bytes n h true e = omega (arith, eqb-true (n % 2) 1 e)
shape-bytes n h false e = omega (arith, eqb-false (n % 2) 1 e)

pub reached : LargestReaches
unfolding largest
reached ed e n h g = shape_is ed e (eqb (n % 2) 1) ((n - 4) / 2) n (shape-bytes n h (eqb (n % 2) 1) refl) (omega arith)

pub three-levels : ThreeLevels
unfolding largest
three-levels ed e n h g =
    let b : Bool = eqb (n % 2) 1 in
    let k : ℕ = (n - 4) / 2 in
    let l : length (function_type b k) ≤ text_limit = omega (arith, shape-long b k, shape-bytes n h b refl) in
    ap finished (shape-read ed b k 0 ∙ sym (shape-read ed b k 61)) ∙ sym (item-type ed e (function_type b k) l)

-- the three shortest
unfoldable reader : Unit {0}
unfolding lexer scanned lex then look when closed list list_behind chain bracketed brackets reference with_arguments named type_over read_type counted counted_all records build builds start_of end_of
reader = tt

pub one-reached : OneReached
unfolding reader
one-reached ed e = is-type ed e (bytes "a") 1 2 _ refl (omega arith) refl refl refl refl

pub two-reached : TwoReached
unfolding reader
two-reached ed e = is-type ed e (bytes "&a") 2 3 _ refl (omega arith) refl refl refl refl

pub three-reached : ThreeReached
unfolding reader
three-reached ed e = is-type ed e (bytes "(a)") 3 3 _ refl (omega arith) refl refl refl refl

most-more : (n : ℕ) → 4 ≤ n → most n ≡ n + 1
unfolding most
most-more n h = rw (ne_eqb n 3 (λ e. omega arith))

pub always-reached : AlwaysReached
unfolding most
always-reached ed e zero h g = absurd (omega arith)
always-reached ed e (suc zero) h g = (_, one-reached ed e)
always-reached ed e (suc (suc zero)) h g = (_, two-reached ed e)
always-reached ed e (suc (suc (suc zero))) h g = (_, three-reached ed e)
always-reached ed e (suc (suc (suc (suc i)))) h g = let n : ℕ = suc (suc (suc (suc i))) in (largest n, rw (most-more n (omega arith)) (reached ed e n (omega arith) g))
