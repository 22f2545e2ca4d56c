-- The rows of the code, in the words of the entries; and the search through the rows of keywords.
use mathlib.Core.Path.{◌≡◌, refl, ap, sym, ◌∙◌}
use mathlib.Core.Bool.{Bool, true, false, cond, ◌&&◌}
use mathlib.Core.List.{List, [], ◌∷◌, ◌++◌, map}
use Prim.Native.Nat.{ℕ, suc, ◌+◌, ◌<◌, ◌≤◌}
use native.Mathlib.Omega.{arith}
use native.Mathlib.Numerals.{add-one}
use borrow.Author.Tests.{eqb-true, eq-eqb, ne_eqb}
use lib.Dec.{eqb, ltb}
use lib.ListN.{length, get_or, take, drop, drop_of_length-le, length-take}
use lib.Seq.{drop-cons, slice, slice-cons}
use Rattle.words.specs.Kinds.{Identifier}
use Rattle.words.specs.Tables.{Entry, none, keywords, long_marks, double_marks, single_marks, marks}
use Rattle.words.specs.Search.{same}
use Rattle.words.specs.code.Rows.{number, row_len, filled, keyword_rows, keyword_kinds, packed_kind}
use Rattle.words.proofs.Tests.{below, below_at, same-equal}

-- a row of a mark: the bytes, filled up with zeros, the length and the kind
unfoldable pub mark_rows : List (List ℕ)
mark_rows = map (λ (e : Entry). filled 5 e.word ++ (length e.word ∷ e.kind ∷ [])) marks

-- what the rows are made of, to be opened by one name
unfoldable pub tables : Unit {0}
unfolding keyword_rows keyword_kinds mark_rows filled keywords marks long_marks double_marks single_marks
tables = tt

-- what the search for a keyword reads of the row k, and the same of an entry: the first byte, the number of the others, the length, the kind
keyword_cells : ℕ → List ℕ
keyword_cells k =
    get_or (get_or keyword_rows k []) 0 0 ∷ number (drop 1 (get_or keyword_rows k [])) ∷ row_len (get_or keyword_rows k []) ∷ get_or keyword_kinds k 0 ∷ []

keyword_entry : Entry → List ℕ
keyword_entry e = get_or e.word 0 0 ∷ number (drop 1 e.word) ∷ length e.word ∷ e.kind ∷ []

keyword-cells : below (λ k. same (keyword_cells k) (keyword_entry (get_or keywords k none))) 26 ≡ true
unfolding tables keyword_cells keyword_entry same number row_len
keyword-cells = refl

record KeywordRow (rows : List (List ℕ)) (kinds : List ℕ) (k : ℕ) : Type 0 where
  first : get_or (get_or rows k []) 0 0 ≡ get_or (get_or keywords k none).word 0 0
  others : number (drop 1 (get_or rows k [])) ≡ number (drop 1 (get_or keywords k none).word)
  size : row_len (get_or rows k []) ≡ length (get_or keywords k none).word
  kind : get_or kinds k 0 ≡ (get_or keywords k none).kind

keyword-row : (k : ℕ) → k < 26 → KeywordRow keyword_rows keyword_kinds k
unfolding keyword_cells keyword_entry
keyword-row k h =
    let e : keyword_cells k ≡ keyword_entry (get_or keywords k none)
    = same-equal _ _ (below_at (λ k. same (keyword_cells k) (keyword_entry (get_or keywords k none))) 26 k keyword-cells h) in
    record {
      first = ap (λ (l : List ℕ). get_or l 0 0) e;
      others = ap (λ (l : List ℕ). get_or l 1 0) e;
      size = ap (λ (l : List ℕ). get_or l 2 0) e;
      kind = ap (λ (l : List ℕ). get_or l 3 0) e;
    }

-- the length of the marks that the row k is searched among: any of the three long ones, then two bytes, then one
unfoldable pub size_at : ℕ → ℕ → ℕ
size_at k n = cond (ltb k 3) n (cond (ltb k 13) 2 1)

-- what the searches for a mark read of the row k, and the same of an entry: first and second byte, length, kind, the length that the place in
-- the table says, and all bytes
mark_cells : ℕ → List ℕ
mark_cells k =
    get_or (get_or mark_rows k []) 0 0 ∷ get_or (get_or mark_rows k []) 1 0 ∷ get_or (get_or mark_rows k []) 5 0 ∷ get_or (get_or mark_rows k []) 6 0
    ∷ size_at k (get_or (get_or mark_rows k []) 5 0) ∷ take (get_or (get_or mark_rows k []) 5 0) (get_or mark_rows k [])

mark_entry : Entry → List ℕ
mark_entry e = get_or e.word 0 0 ∷ get_or e.word 1 0 ∷ length e.word ∷ e.kind ∷ length e.word ∷ e.word

mark-cells : below (λ k. same (mark_cells k) (mark_entry (get_or marks k none))) 37 ≡ true
unfolding tables mark_cells mark_entry same size_at
mark-cells = refl

pub record MarkRow (k : ℕ) : Type 0 where
  pub first : get_or (get_or mark_rows k []) 0 0 ≡ get_or (get_or marks k none).word 0 0
  pub second : get_or (get_or mark_rows k []) 1 0 ≡ get_or (get_or marks k none).word 1 0
  pub size : get_or (get_or mark_rows k []) 5 0 ≡ length (get_or marks k none).word
  pub kind : get_or (get_or mark_rows k []) 6 0 ≡ (get_or marks k none).kind
  pub sized : size_at k (get_or (get_or mark_rows k []) 5 0) ≡ length (get_or marks k none).word
  pub bytes : take (get_or (get_or mark_rows k []) 5 0) (get_or mark_rows k []) ≡ (get_or marks k none).word

pub mark-row : (k : ℕ) → k < 37 → MarkRow k
unfolding mark_cells mark_entry
mark-row k h =
    let e : mark_cells k ≡ mark_entry (get_or marks k none)
    = same-equal _ _ (below_at (λ k. same (mark_cells k) (mark_entry (get_or marks k none))) 37 k mark-cells h) in
    record {
      first = ap (λ (l : List ℕ). get_or l 0 0) e;
      second = ap (λ (l : List ℕ). get_or l 1 0) e;
      size = ap (λ (l : List ℕ). get_or l 2 0) e;
      kind = ap (λ (l : List ℕ). get_or l 3 0) e;
      sized = ap (λ (l : List ℕ). get_or l 4 0) e;
      bytes = ap (λ (l : List ℕ). drop 5 l) e;
    }

-- the bytes of a row before its first zero, counted from the front: the byte n is zero, is not, or is behind the row
module _ (row : List ℕ) (n : ℕ) where
  pub len-end : length row ≤ n → row_len (drop n row) ≡ 0
  unfolding row_len
  len-end h = rw (drop_of_length-le row {i = n} h)

  module _ (h : n < length row) where
    pub len-zero : get_or row n 0 ≡ 0 → row_len (drop n row) ≡ 0
    unfolding row_len
    len-zero z = rw (drop-cons row n 0 h, eq-eqb _ 0 z)

    pub len-next : (get_or row n 0 ≡ 0 → ⊥) → row_len (drop n row) ≡ suc (row_len (drop (n + 1) row))
    unfolding row_len
    len-next g = rw (drop-cons row n 0 h, ne_eqb _ 0 g, add-one n)

-- not all of the numbers compared are equal
two-off : (x a y v : ℕ) → (x ≡ a → y ≡ v → ⊥) → eqb x a && eqb y v ≡ false
two-off x a y v h = go (eqb x a) refl
  where
    go : (b : Bool) → eqb x a ≡ b → b && eqb y v ≡ false
    go true p = ne_eqb y v (h (eqb-true x a p))
    go false p = refl

pub three-off : (x a y v z n : ℕ) → (x ≡ a → y ≡ v → z ≡ n → ⊥) → eqb x a && (eqb y v && eqb z n) ≡ false
three-off x a y v z n h = go (eqb x a) refl
  where
    go : (b : Bool) → eqb x a ≡ b → b && (eqb y v && eqb z n) ≡ false
    go true p = two-off y v z n (h (eqb-true x a p))
    go false p = refl

-- the search for a keyword by its first byte, the number of the others and its length, through the rows from k up to hi
module _ (hi k a v n : ℕ) where
  pub packed-end : hi ≤ k → packed_kind (slice k hi keywords) a v n ≡ Identifier
  unfolding packed_kind
  packed-end h = rw (drop_of_length-le (take hi keywords) {i = k} (rw length-take (omega arith)))

  module _ (rows : List (List ℕ)) (kinds : List ℕ) (x : rows ≡ keyword_rows) (y : kinds ≡ keyword_kinds) (m : hi ≤ 26) (h : k < hi) where
    row : KeywordRow rows kinds k
    row = rw (x, y) (keyword-row k (omega arith))

    here : slice k hi keywords ≡ get_or keywords k none ∷ slice (k + 1) hi keywords
    unfolding keywords
    here = rw (add-one k) (slice-cons k hi keywords none h m)

    pub packed-hit : get_or (get_or rows k []) 0 0 ≡ a → number (drop 1 (get_or rows k [])) ≡ v → row_len (get_or rows k []) ≡ n
        → packed_kind (slice k hi keywords) a v n ≡ get_or kinds k 0
    unfolding packed_kind
    packed-hit p q l =
        rw (here, eq-eqb _ a (sym row.first ∙ p), eq-eqb _ v (sym row.others ∙ q), eq-eqb _ n (sym row.size ∙ l)) (sym row.kind)

    pub packed-off : (get_or (get_or rows k []) 0 0 ≡ a → number (drop 1 (get_or rows k [])) ≡ v → row_len (get_or rows k []) ≡ n → ⊥)
        → packed_kind (slice k hi keywords) a v n ≡ packed_kind (slice (k + 1) hi keywords) a v n
    unfolding packed_kind
    packed-off g =
        rw (here, three-off _ a _ v _ n (λ p q l. g (row.first ∙ p) (row.others ∙ q) (row.size ∙ l)))
