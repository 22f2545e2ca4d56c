-- The construction is read: `|a|a`, or `|&a|a`, with k times `,a`, in any number of levels from 3 on.
use mathlib.Core.Path.{◌≡◌, refl, ap, ◌∙◌}
use mathlib.Core.Bool.{Bool, true, false, cond}
use mathlib.Core.List.{List, [], ◌∷◌, ◌++◌}
use Prim.Native.Nat.{ℕ, zero, suc, ◌+◌, ◌*◌, ◌≤◌}
use native.Mathlib.Omega.{arith}
use lib.Dec.{eqb}
use lib.ListN.{length, length-append}
use Rattle.words.specs.Kinds.{Identifier, Amp, ColonColon, Comma, Less, Pipe}
use Rattle.records.specs.Kinds.{RecOnePart, RecType, RecRef, RecFunction}
use Rattle.records.specs.Tree.{Tree, leaf, node, Trees, none, more, behind, builds}
use Rattle.records.specs.Stored.{counted_all, records}
use Rattle.sources.specs.Source.{Source, opened, Lexeme, tok, lex}
use Rattle.answers.specs.Reading.{ok, then, look, when, closed, Reader, list, list_behind}
use Rattle.grammar.specs.Names.{chain}
use Rattle.grammar.specs.Types.{reference, function, with_arguments, named, type_over, read_type}
use Rattle.largest.specs.Largest.{further_arguments, function_type}
use Rattle.largest.proofs.Counts.{node-count, leaf-count, none-count, more-count, behind-count}
use Rattle.largest.proofs.Fronts.{from, front, a-end, at-end, a-comma, a-bar, comma-a, bar-a, bar-amp, amp-a}

unfoldable reader : Unit {0}
unfolding read_type type_over named chain with_arguments reference then look when
reader = tt

-- the tree of `a` at p, of `&a`, and of k times `,a`, the first comma at p; and where the last of these ends
abbrev pub name_tree : ℕ → Tree
name_tree p = node RecType p (p + 1) (more (leaf RecOnePart p (p + 1) (97 ∷ [])) none)

abbrev pub ref_tree : ℕ → Tree
ref_tree p = node RecRef p (p + 1 + 1) (more (name_tree (p + 1)) none)

pub further_trees : ℕ → ℕ → Trees
further_trees zero p = none
further_trees (suc k) p = more (name_tree (p + 1)) (further_trees k (p + 1 + 1))

pub further_end : ℕ → ℕ → ℕ
further_end zero p = p
further_end (suc k) p = further_end k (p + 1 + 1)

pub further-end : (k p : ℕ) → further_end k p ≡ p + 2 * k
unfolding further_end
further-end zero p = omega arith
further-end (suc k) p = omega (arith, further-end k (p + 1 + 1))

name-count : (p : ℕ) → records (name_tree p) ≡ 2
name-count p = node-count RecType p (p + 1) _ ∙ omega (arith, more-count (leaf RecOnePart p (p + 1) (97 ∷ [])) none, none-count, leaf-count RecOnePart p (p + 1) (97 ∷ []))

ref-count : (p : ℕ) → records (ref_tree p) ≡ 3
ref-count p = node-count RecRef p (p + 1 + 1) _ ∙ omega (arith, more-count (name_tree (p + 1)) none, none-count, name-count (p + 1))

further-count : (k p : ℕ) → counted_all (builds (further_trees k p)) ≡ 2 * k
unfolding further_trees
further-count zero p = none-count
further-count (suc k) p = more-count (name_tree (p + 1)) (further_trees k (p + 1 + 1)) ∙ omega (arith, name-count (p + 1), further-count k (p + 1 + 1))

-- `|a`
abbrev pub last_two : List ℕ
last_two = 124 ∷ 97 ∷ []

-- the whole type, by its first argument x, which ends at p
abbrev pub whole_tree : (x : Tree) (k p : ℕ) → Tree
whole_tree x k p = node RecFunction 0 (further_end k p + 1 + 1) (behind (more x (further_trees k p)) (name_tree (further_end k p + 1)))

-- its first argument, with `&` and without
abbrev pub argument_tree : Bool → Tree
argument_tree true = ref_tree 1
argument_tree false = name_tree 1

abbrev pub argument_end : Bool → ℕ
argument_end amp = cond amp 3 2

further-long : (k : ℕ) → length (further_arguments k) ≡ 2 * k
unfolding further_arguments
further-long zero = refl
further-long (suc k) = omega (arith, further-long k)

pub shape-long : (amp : Bool) (k : ℕ) → length (function_type amp k) ≡ argument_end amp + 2 * k + 2
unfolding function_type
shape-long true k = omega (arith, further-long k, length-append (further_arguments k) last_two)
shape-long false k = omega (arith, further-long k, length-append (further_arguments k) last_two)

pub argument-count : (amp : Bool) → records (argument_tree amp) ≡ argument_end amp
argument-count true = ref-count 1
argument-count false = name-count 1

pub whole-count : (x : Tree) (k p : ℕ) → records (whole_tree x k p) ≡ records x + 2 * k + 3
whole-count x k p =
    let xs : Trees = more x (further_trees k p) in
    node-count RecFunction 0 (further_end k p + 1 + 1) _ ∙ omega (arith, behind-count xs (name_tree (further_end k p + 1)), more-count x (further_trees k p), further-count k p, name-count (further_end k p + 1))

module _ (ed : ℕ) where
  -- `a` where no `::` and no `<` follows, and `&a`
  name-read : (m p : ℕ) (z : List ℕ) (d : Lexeme) → lex (from ed (p + 1) z) ≡ tok d → eqb d.kind ColonColon ≡ false → eqb d.kind Less ≡ false
      → read_type (suc m) (front Identifier 1 ed p (97 ∷ z)) ≡ ok (name_tree p) (from ed (p + 1) z)
  unfolding reader
  name-read m p z d e f g = rw (e, f, e, g)

  -- in front of k times `,a` and the last two bytes
  argument-read : (m k p : ℕ) → read_type (suc m) (front Identifier 1 ed p (97 ∷ (further_arguments k ++ last_two))) ≡ ok (name_tree p) (from ed (p + 1) (further_arguments k ++ last_two))
  unfolding further_arguments
  argument-read m zero p = name-read m p last_two _ (bar-a ed (p + 1) []) refl refl
  argument-read m (suc k) p = name-read m p _ _ (comma-a ed (p + 1) (further_arguments k ++ last_two)) refl refl

  argument-front : (k p : ℕ) → lex (from ed p (97 ∷ (further_arguments k ++ last_two))) ≡ tok (front Identifier 1 ed p (97 ∷ (further_arguments k ++ last_two)))
  unfolding further_arguments
  argument-front zero p = a-bar ed p (97 ∷ [])
  argument-front (suc k) p = a-comma ed p (97 ∷ (further_arguments k ++ last_two))

  ref-read : (m k p : ℕ) → read_type (suc (suc m)) (front Amp 1 ed p (38 ∷ 97 ∷ (further_arguments k ++ last_two))) ≡ ok (ref_tree p) (from ed (p + 1 + 1) (further_arguments k ++ last_two))
  unfolding read_type type_over reference then look when
  ref-read m k p = rw (argument-front k (p + 1), argument-read m k (p + 1))

  -- a list, from an item x on that the token a begins
  module _ (item : Reader) (o : Lexeme) where
    last_step : (a : Lexeme) (x : Tree) (f p : ℕ) → eqb a.kind Pipe ≡ false → eqb a.kind Comma ≡ false → item a ≡ ok x (from ed p last_two)
        → list item Pipe o (suc f) (tok a) ≡ ok (more x none) (from ed (p + 1) (97 ∷ []))
    unfolding list closed then look when
    last_step a x f p g h e = rw (g, h, e, bar-a ed p [])

    more-step : (a : Lexeme) (x : Tree) (f p : ℕ) (z : List ℕ) (xs : Trees) (v : Source) → eqb a.kind Pipe ≡ false → eqb a.kind Comma ≡ false → item a ≡ ok x (from ed p (44 ∷ 97 ∷ z))
        → list item Pipe o f (lex (from ed (p + 1) (97 ∷ z))) ≡ ok xs v → list item Pipe o (suc f) (tok a) ≡ ok (more x xs) v
    unfolding list closed then look when
    more-step a x f p z xs v g h e i = rw (g, h, e, comma-a ed p z, i)

  list_read : (m k f p : ℕ) → k ≤ f → (o a : Lexeme) (x : Tree) → eqb a.kind Pipe ≡ false → eqb a.kind Comma ≡ false → read_type (suc m) a ≡ ok x (from ed p (further_arguments k ++ last_two))
      → list (read_type (suc m)) Pipe o (suc f) (tok a) ≡ ok (more x (further_trees k p)) (from ed (further_end k p + 1) (97 ∷ []))
  unfolding further_arguments further_trees further_end
  list_read m zero f p j o a x g h e = last_step (read_type (suc m)) o a x f p g h e
  list_read m (suc k) zero p j o a x g h e = absurd (omega arith)
  list_read m (suc k) (suc f) p j o a x g h e =
      more-step (read_type (suc m)) o a x (suc f) p (further_arguments k ++ last_two) _ _ g h e
      (ap (list (read_type (suc m)) Pipe o (suc f)) (argument-front k (p + 1))
      ∙ list_read m k f (p + 1 + 1) (omega arith) o (front Identifier 1 ed (p + 1) (97 ∷ (further_arguments k ++ last_two))) (name_tree (p + 1)) refl refl (argument-read m k (p + 1)))

  -- the whole type, by the token a that begins its first argument
  whole-read : (m k p : ℕ) (s : List ℕ) (a : Lexeme) (x : Tree) → k ≤ length s → lex (from ed 1 s) ≡ tok a → eqb a.kind Pipe ≡ false → eqb a.kind Comma ≡ false
      → read_type (suc (suc m)) a ≡ ok x (from ed p (further_arguments k ++ last_two)) → read_type (suc (suc (suc m))) (front Pipe 1 ed 0 (124 ∷ s)) ≡ ok (whole_tree x k p) (from ed (further_end k p + 1 + 1) [])
  unfolding read_type type_over function list_behind then look when
  whole-read m k p s a x j l g h e =
      rw (l, list_read (suc m) k (length s) p j (front Pipe 1 ed 0 (124 ∷ s)) a x g h e, a-end ed (further_end k p + 1), name-read (suc m) (further_end k p + 1) [] _ (at-end ed (further_end k p + 1 + 1)) refl refl)

  pub shape-read : (amp : Bool) (k m : ℕ) → look (lex (opened ed (function_type amp k) 0)) (read_type (suc (suc (suc m)))) ≡ ok (whole_tree (argument_tree amp) k (argument_end amp)) (from ed (further_end k (argument_end amp) + 1 + 1) [])
  unfolding function_type look
  shape-read true k m =
      let s : List ℕ = 97 ∷ (further_arguments k ++ last_two) in
      ap (λ l. look l (read_type (suc (suc (suc m))))) (bar-amp ed 0 s) ∙ whole-read m k 3 (38 ∷ s) _ (ref_tree 1) (omega (arith, further-long k, length-append (further_arguments k) last_two)) (amp-a ed 1 (further_arguments k ++ last_two)) refl refl (ref-read m k 1)
  shape-read false k m =
      let s : List ℕ = further_arguments k ++ last_two in
      ap (λ l. look l (read_type (suc (suc (suc m))))) (bar-a ed 0 s) ∙ whole-read m k 2 (97 ∷ s) _ (name_tree 1) (omega (arith, further-long k, length-append (further_arguments k) last_two)) (argument-front k 1) refl refl (argument-read (suc m) k 1)
