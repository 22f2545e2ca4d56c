-- Bytes that open hand back the children of their tree, and its records start at every multiple of the size of a head.
use mathlib.Core.Path.{◌≡◌, refl, ap, sym, subst, ◌∙◌}
use mathlib.Core.Bool.{Bool, true, false, cond, not, ◌&&◌, ◌||◌}
use mathlib.Core.List.{List, [], ◌++◌, append-nil}
use mathlib.Core.Logic.{◌↔◌}
use Prim.Native.Nat.{ℕ, zero, suc, ◌+◌, ◌-◌, ◌*◌, ◌%◌, ◌<◌, ◌≤◌}
use native.Mathlib.Omega.{arith}
use borrow.Author.Tests.{leb-true, ltb-true, ltb-false, le-leb, lt-ltb, eqb-true, eqb-false, eq-eqb}
use lib.Dec.{eqb, leb, ltb}
use lib.ListN.{length, length-append, drop, length-drop}
use lib.Seq.{take_all, drop-append_seam}
use Rattle.classes.specs.Bytes.{begins}
use Rattle.classes.proofs.Bools.{false-true, and_left, and_right}
use Rattle.records.specs.Tree.{Tree, leaf, node, Trees, none, more}
use Rattle.records.specs.Spans.{start_of, end_of}
use Rattle.records.specs.Stored.{records}
use Rattle.records.proofs.Numbers.{split}
use Rattle.forms.specs.Forms.{FormNarrow, FormWide, front, head_size, head, recorded, recorded_all}
use Rattle.forms.specs.Sizes.{Fitting, FittingAll}
use Rattle.forms.proofs.Placing.{head-long}
use Rattle.forms.proofs.Sizes.{recorded-size}
use Rattle.saved.specs.Heads.{form_told, head_at}
use Rattle.saved.specs.Open.{unfit, whole, first_at, open_tree}
use Rattle.saved.specs.Child.{Handed, saved_head, starts_by, can_start, child_from, child_over, kind_of, children_of, nth, starts_in, starts_among, starts_at, child_within, child_among}
use Rattle.saved.specs.Theorems.{Bytes, ChildrenAre, RecordsStart}
use Rattle.saved.proofs.Heads.{form_by}
use Rattle.saved.specs.declared.Head.{Head}
use Rattle.std.specs.Prelude.{Some, None, Ok}
use Rattle.saved.proofs.Scan.{child-unfit, child-here, child-on}
use Rattle.saved.proofs.Equals.{fit_is}
use Rattle.saved.proofs.Parts.{part, part-add, part-long}
use Rattle.saved.proofs.Exact.{positive, head-told, bytes_apart, recorded-as, fitting-as, written_is, opened-good}

-- the places from q to e that are multiples of the size of a head from q on
unfoldable range : (f q e r : ℕ) → Bool
range f q e r = leb q r && (ltb r e && eqb ((r - q) % head_size f) 0)

bool_same : (a b : Bool) → (a ≡ true → b ≡ true) → (b ≡ true → a ≡ true) → a ≡ b
bool_same true b f g = sym (f refl)
bool_same false true f g = g refl
bool_same false false f g = refl

range-told : (f q e r : ℕ) → range f q e r ≡ true → (q ≤ r) × (r < e) × ((r - q) % head_size f ≡ 0)
unfolding range
range-told f q e r h =
    let a = and_right (leb q r) _ h in
    (leb-true q r (and_left (leb q r) _ h), ltb-true r e (and_left (ltb r e) _ a), eqb-true ((r - q) % head_size f) 0 (and_right (ltb r e) _ a))

range-is : (f q e r : ℕ) → q ≤ r → r < e → (r - q) % head_size f ≡ 0 → range f q e r ≡ true
unfolding range
range-is f q e r a b c = rw (le-leb q r a, lt-ltb r e b, eq-eqb ((r - q) % head_size f) 0 c)

-- by the size of a head
module _ (wide : Bool) where
  behind-by : (q n c r : ℕ) → n ≡ head_size (form_by wide) * c → q + n ≤ r → (r - (q + n)) % head_size (form_by wide) ≡ (r - q) % head_size (form_by wide)
  unfolding head_size
  behind-by q n c r = go wide
    where
      go : (b : Bool) → n ≡ head_size (form_by b) * c → q + n ≤ r → (r - (q + n)) % head_size (form_by b) ≡ (r - q) % head_size (form_by b)
      go true z h = omega arith
      go false z h = omega arith

  inside-head : (q r : ℕ) → q < r → r < q + head_size (form_by wide) → (r - q) % head_size (form_by wide) ≡ 0 → ⊥
  unfolding head_size
  inside-head q r = go wide
    where
      go : (b : Bool) → q < r → r < q + head_size (form_by b) → (r - q) % head_size (form_by b) ≡ 0 → ⊥
      go true h g z = omega arith
      go false h g z = omega arith

  at_head : (q : ℕ) → (q - q) % head_size (form_by wide) ≡ 0
  unfolding head_size
  at_head q = go wide
    where
      go : (b : Bool) → (q - q) % head_size (form_by b) ≡ 0
      go true = omega arith
      go false = omega arith

  abbrev f : ℕ
  f = form_by wide

  -- before the end of the first record, behind it, and behind a head
  range-first : (q e e₂ r : ℕ) → r < e → e ≤ e₂ → range f q e r ≡ range f q e₂ r
  range-first q e e₂ r h g =
      bool_same (range f q e r) (range f q e₂ r) (λ a. let x = range-told f q e r a in range-is f q e₂ r x.0 (omega arith) x.2)
      (λ a. let x = range-told f q e₂ r a in range-is f q e r x.0 h x.2)

  range-behind : (q n c e r : ℕ) → n ≡ head_size f * c → q + n ≤ r → range f (q + n) e r ≡ range f q e r
  range-behind q n c e r z h =
      bool_same (range f (q + n) e r) (range f q e r)
      (λ a. let x = range-told f (q + n) e r a in range-is f q e r (omega arith) x.1 (sym (behind-by q n c r z h) ∙ x.2))
      (λ a. let x = range-told f q e r a in range-is f (q + n) e r h x.1 (behind-by q n c r z h ∙ x.2))

  range-head : (q e r : ℕ) → (r ≡ q → ⊥) → range f (q + head_size f) e r ≡ range f q e r
  range-head q e r ne = go (ltb r (q + head_size f)) refl
    where
      go : (b : Bool) → ltb r (q + head_size f) ≡ b → range f (q + head_size f) e r ≡ range f q e r
      go true h =
          let l = ltb-true r (q + head_size f) h in
          bool_same (range f (q + head_size f) e r) (range f q e r)
          (λ a. let x = range-told f (q + head_size f) e r a in absurd (omega (arith, x.0, l)))
          (λ a. let x = range-told f q e r a in absurd (inside-head q r (before x.0) l x.2))
        where
          before : q ≤ r → q < r
          before g = go₂ (eqb r q) refl
            where
              go₂ : (b : Bool) → eqb r q ≡ b → q < r
              go₂ true z = absurd (ne (eqb-true r q z))
              go₂ false z = let y = eqb-false r q z in less r q g y
                where
                  less : (r q : ℕ) → q ≤ r → (r ≡ q → ⊥) → q < r
                  less r q a b = omega arith
      go false h = range-behind q (head_size f) 1 e r (omega arith) (ltb-false r (q + head_size f) h)

  range_none : (q r : ℕ) → range f q q r ≡ false
  range_none q r = bool_same (range f q q r) false (λ a. let x = range-told f q q r a in absurd (omega (arith, x.0, x.1))) (λ a. false-true _ a)

  module _ (bytes : List ℕ) (small : Bytes bytes) where
    -- a record, and records, that stand at q
    record One (t : Tree) (q : ℕ) : Type 0 where
      inside : q + length (recorded f t) ≤ length bytes
      is : part bytes q (length (recorded f t)) ≡ recorded f t
      fitting : Fitting f t

    record Many (ts : Trees) (q : ℕ) : Type 0 where
      inside : q + length (recorded_all f ts) ≤ length bytes
      is : part bytes q (length (recorded_all f ts)) ≡ recorded_all f ts
      fitting : FittingAll f ts

    first_of : (t : Tree) (us : Trees) (q : ℕ) → Many (more t us) q → One t q × Many us (q + length (recorded f t))
    unfolding recorded_all FittingAll
    first_of t us q M =
        let n = length-append (recorded f t) (recorded_all f us) in
        let a : ℕ = length (recorded f t) in
        let b : ℕ = length (recorded_all f us) in
        let x = split (part bytes q a) (recorded f t) (part bytes (q + a) b) (recorded_all f us) (part-long bytes q a (omega (arith, n, M.inside))) (sym (part-add bytes q a b) ∙ ap (part bytes q) (sym n) ∙ M.is) in (
          record { inside = omega (arith, n, M.inside); is = x.0; fitting = M.fitting.0 },
          record { inside = omega (arith, n, M.inside); is = x.1; fitting = M.fitting.1 },
        )

    -- its head and its children
    record Headed (t : Tree) (q : ℕ) : Type 0 where
      size : length (recorded f t) ≡ head_size f + length (recorded_all f (children_of t))
      told : head_at f bytes q ≡ record { len = length (recorded_all f (children_of t)) + head_size f; kind = kind_of t; start = start_of t; end = end_of t }
      children : Many (children_of t) (q + head_size f)

    headed : (t : Tree) (q : ℕ) → One t q → Headed t q
    headed t q O =
        let r : List ℕ = recorded_all f (children_of t) in
        let hd : List ℕ = head f (length r) (kind_of t) (start_of t) (end_of t) in
        let l = head-long f (length r) (kind_of t) (start_of t) (end_of t) in
        let n : length (recorded f t) ≡ head_size f + length r = ap length (recorded-as wide bytes small t) ∙ length-append hd r ∙ omega (arith, l) in
        let n₂ : head_size f + length r + 0 ≡ length (recorded f t) = omega (arith, n) in
        let w : part bytes q (head_size f + length r + 0) ≡ (hd ++ r) ++ [] = ap (part bytes q) n₂ ∙ O.is ∙ recorded-as wide bytes small t ∙ sym (append-nil (hd ++ r)) in
        let x = bytes_apart wide bytes small q (length r) 0 hd r [] (omega (arith, n, O.inside)) l refl w in
        let a = fitting-as wide bytes small t O.fitting in
        record {
          size = n;
          told = head-told wide bytes small (kind_of t) (start_of t) (end_of t) (children_of t) q (omega (arith, n, O.inside)) a.0 a.1 a.2 a.3 x.0;
          children = record { inside = omega (arith, n, O.inside); is = x.1; fitting = a.4 };
        }

    -- along the lengths
    fits_in : (t : Tree) (q room : ℕ) → One t q → length (recorded f t) ≤ room → unfit f room (head_at f bytes q) ≡ false
    fits_in t q room O h =
        let H = headed t q O in
        let l : (head_at f bytes q).len ≡ length (recorded_all f (children_of t)) + head_size f = ap (λ (x : Head). x.len) H.told in
        fit_is f room (head_at f bytes q) (omega (arith, H.size)) (omega (arith, l)) (omega (arith, l, H.size))

    none_from : (q index : ℕ) → child_from f bytes index q 0 ≡ Ok None
    unfolding unfit
    none_from q index = sym (child-unfit f bytes q 0 index (rw (lt-ltb 0 (head_size f) (positive wide bytes small))))

    nth-is : (ts : Trees) (q index : ℕ) → Many ts q → child_from f bytes index q (length (recorded_all f ts)) ≡ nth f q ts index
    unfolding recorded_all nth
    nth-is none q index M = none_from q index
    nth-is (more t us) q zero M =
        let n = length-append (recorded f t) (recorded_all f us) in
        let O = (first_of t us q M).0 in
        sym (child-here f bytes q (length (recorded f t ++ recorded_all f us)) 0 (omega arith) (fits_in t q (length (recorded f t ++ recorded_all f us)) O (omega (arith, n))))
        ∙ ap (λ (k : Head). Ok (Some (saved_head q k))) (headed t q O).told
    nth-is (more t us) q (suc i) M =
        let n = length-append (recorded f t) (recorded_all f us) in
        let room : ℕ = length (recorded f t ++ recorded_all f us) in
        let X = first_of t us q M in
        let H = headed t q X.0 in
        let l : (head_at f bytes q).len ≡ length (recorded f t) = ap (λ (k : Head). k.len) H.told ∙ omega (arith, H.size) in
        let z : suc i - 1 ≡ i = omega arith in
        let y : room - length (recorded f t) ≡ length (recorded_all f us) = omega (arith, n) in
        child-on f bytes q room (suc i) (omega arith) (fits_in t q room X.0 (omega (arith, n))) ∙ ap (λ (j : ℕ). child_from f bytes j (q + (head_at f bytes q).len) (room - (head_at f bytes q).len)) z
        ∙ ap (λ (j : ℕ). child_from f bytes i (q + j) (room - j)) l ∙ ap (child_from f bytes i (q + length (recorded f t))) y ∙ nth-is us (q + length (recorded f t)) i X.1

    -- a child of the record at r, where one starts there
    unfoldable here : (r index : ℕ) → Handed
    here r index = cond (unfit f (length bytes - r) (head_at f bytes r)) (Ok None) (child_from f bytes index (r + head_size f) ((head_at f bytes r).len - head_size f))

    here-is : (t : Tree) (q index : ℕ) → One t q → here q index ≡ nth f (q + head_size f) (children_of t) index
    unfolding here
    here-is t q index O =
        let H = headed t q O in
        let c : ℕ = length (recorded_all f (children_of t)) in
        let l : (head_at f bytes q).len - head_size f ≡ c = ap (λ (k : Head). k.len - head_size f) H.told ∙ omega arith in
        rw (fits_in t q (length bytes - q) O (omega (arith, O.inside)))
        (ap (child_from f bytes index (q + head_size f)) l ∙ nth-is (children_of t) (q + head_size f) index H.children)

    -- a leaf is a record without children
    starts-as : (t : Tree) (q r : ℕ) → starts_in f q t r ≡ (eqb r q || starts_among f (q + head_size f) (children_of t) r)
    unfolding starts_in starts_among children_of
    starts-as (leaf k s e w) q r = go (eqb r q)
      where
        go : (b : Bool) → b ≡ (b || false)
        go true = refl
        go false = refl
    starts-as (node k s e ts) q r = refl

    within-as : (t : Tree) (q r index : ℕ) → child_within f q t r index ≡ cond (eqb r q) (nth f (q + head_size f) (children_of t) index) (child_among f (q + head_size f) (children_of t) r index)
    unfolding child_within child_among nth children_of
    within-as (leaf k s e w) q r index = go (eqb r q)
      where
        go : (b : Bool) → ◌≡◌ {A = Handed} (Ok None) (cond b (Ok None) (Ok None))
        go true = refl
        go false = refl
    within-as (node k s e ts) q r index = refl

    -- what is so of records from q to e: one starts at r exactly where the range has r, and its children are those that stand there
    record Right (starts : Bool) (child : ℕ → Handed) (q e r : ℕ) : Type 0 where
      same : starts ≡ range f q e r
      hands : (index : ℕ) → child index ≡ cond (range f q e r) (here r index) (Ok None)

    tree-right : (t : Tree) (q r : ℕ) → One t q → Right (starts_among f (q + head_size f) (children_of t) r) (child_among f (q + head_size f) (children_of t) r) (q + head_size f) (q + head_size f + length (recorded_all f (children_of t))) r
        → Right (starts_in f q t r) (child_within f q t r) q (q + length (recorded f t)) r
    tree-right t q r O R = go (eqb r q) refl
      where
        size : q + head_size f + length (recorded_all f (children_of t)) ≡ q + length (recorded f t)
        size = omega (arith, (headed t q O).size)

        go : (b : Bool) → eqb r q ≡ b → Right (starts_in f q t r) (child_within f q t r) q (q + length (recorded f t)) r
        go true x =
            let z = eqb-true r q x in
            let in-it : range f q (q + length (recorded f t)) r ≡ true = rw z (range-is f q (q + length (recorded f t)) q (omega arith) (omega (arith, (headed t q O).size, positive wide bytes small)) (at_head q)) in
            record {
              same = starts-as t q r ∙ rw (x, in-it);
              hands = λ index. within-as t q r index ∙ rw (x, in-it) (sym (ap (λ (y : ℕ). here y index) z ∙ here-is t q index O));
            }
        go false x =
            let g = range-head q (q + length (recorded f t)) r (eqb-false r q x) in
            let h = ap (λ (e : ℕ). range f (q + head_size f) e r) size ∙ g in
            record {
              same = starts-as t q r ∙ rw x (R.same ∙ h);
              hands = λ index. within-as t q r index ∙ rw x (R.hands index ∙ ap (λ (b : Bool). cond b (here r index) (Ok None)) h);
            }

    none_right : (q r : ℕ) → Right (starts_among f q none r) (child_among f q none r) q (q + length (recorded_all f none)) r
    unfolding starts_among child_among recorded_all
    none_right q r =
        let z : q + 0 ≡ q = omega arith in
        let x : range f q (q + 0) r ≡ false = ap (λ (e : ℕ). range f q e r) z ∙ range_none q r in
        record { same = sym x; hands = λ index. rw x }

    more-right : (t : Tree) (us : Trees) (q r : ℕ) → Many (more t us) q → Right (starts_in f q t r) (child_within f q t r) q (q + length (recorded f t)) r
        → Right (starts_among f (q + length (recorded f t)) us r) (child_among f (q + length (recorded f t)) us r) (q + length (recorded f t)) (q + length (recorded f t) + length (recorded_all f us)) r
        → Right (starts_among f q (more t us) r) (child_among f q (more t us) r) q (q + length (recorded_all f (more t us))) r
    unfolding starts_among child_among recorded_all
    more-right t us q r M T U = go (ltb r (q + a)) refl
      where
        a : ℕ
        a = length (recorded f t)

        b : ℕ
        b = length (recorded_all f us)

        n : q + length (recorded f t ++ recorded_all f us) ≡ q + a + b
        n = omega (arith, length-append (recorded f t) (recorded_all f us))

        or-none : (x y : Bool) → y ≡ false → (x || y) ≡ x
        or-none true y z = refl
        or-none false y z = z

        go : (x : Bool) → ltb r (q + a) ≡ x → Right (starts_in f q t r || starts_among f (q + a) us r) (λ index. cond (ltb r (q + a)) (child_within f q t r index) (child_among f (q + a) us r index)) q (q + length (recorded f t ++ recorded_all f us)) r
        go true x =
            let l = ltb-true r (q + a) x in
            let h : range f q (q + a) r ≡ range f q (q + length (recorded f t ++ recorded_all f us)) r = range-first q (q + a) (q + length (recorded f t ++ recorded_all f us)) r l (omega (arith, n)) in
            let off : range f (q + a) (q + a + b) r ≡ false = bool_same (range f (q + a) (q + a + b) r) false (λ y. let w = range-told f (q + a) (q + a + b) r y in absurd (omega (arith, w.0, l))) (λ y. false-true _ y) in
            record {
              same = or-none (starts_in f q t r) (starts_among f (q + a) us r) (U.same ∙ off) ∙ T.same ∙ h;
              hands = λ index. rw x (T.hands index ∙ ap (λ (y : Bool). cond y (here r index) (Ok None)) h);
            }
        go false x =
            let l = ltb-false r (q + a) x in
            let h : range f (q + a) (q + a + b) r ≡ range f q (q + length (recorded f t ++ recorded_all f us)) r = range-behind q a (records t) (q + a + b) r (recorded-size f t) l ∙ ap (λ (e : ℕ). range f q e r) (sym n) in
            let off : range f q (q + a) r ≡ false = bool_same (range f q (q + a) r) false (λ y. let w = range-told f q (q + a) r y in absurd (omega (arith, w.1, l))) (λ y. false-true _ y) in
            record {
              same = ap (λ (y : Bool). y || starts_among f (q + a) us r) (T.same ∙ off) ∙ U.same ∙ h;
              hands = λ index. rw x (U.hands index ∙ ap (λ (y : Bool). cond y (here r index) (Ok None)) h);
            }

    mutual
      unfolding children_of

      all_right : (t : Tree) (q r : ℕ) → One t q → Right (starts_in f q t r) (child_within f q t r) q (q + length (recorded f t)) r
      all_right (leaf k s e w) q r O = tree-right (leaf k s e w) q r O (none_right (q + head_size f) r)
      all_right (node k s e ts) q r O = tree-right (node k s e ts) q r O (trees-right ts (q + head_size f) r (headed (node k s e ts) q O).children)

      trees-right : (ts : Trees) (q r : ℕ) → Many ts q → Right (starts_among f q ts r) (child_among f q ts r) q (q + length (recorded_all f ts)) r
      trees-right none q r M = none_right q r
      trees-right (more t us) q r M = let X = first_of t us q M in more-right t us q r M (all_right t q r X.0) (trees-right us (q + length (recorded f t)) r X.1)

    over-is : (r index : ℕ) → child_over f bytes r index ≡ cond (starts_by f (length bytes) r) (here r index) (Ok None)
    unfolding child_over here
    over-is r index = go (starts_by f (length bytes) r)
      where
        go : (b : Bool) → cond (not b || unfit f (length bytes - r) (head_at f bytes r)) (Ok None) (child_from f bytes index (r + head_size f) ((head_at f bytes r).len - head_size f))
            ≡ cond b (cond (unfit f (length bytes - r) (head_at f bytes r)) (Ok None) (child_from f bytes index (r + head_size f) ((head_at f bytes r).len - head_size f))) (Ok None)
        go true = refl
        go false = refl

    -- of the whole tree
    module _ (t : Tree) (w : bytes ≡ front f ++ recorded f t) (fitting : Fitting f t) where
      long : length bytes ≡ first_at f + length (recorded f t)
      long = ap length w ∙ length-append (front f) (recorded f t)

      stands : One t (first_at f)
      stands =
          record {
            inside = omega (arith, long);
            is = take_all (length (recorded f t)) (drop (first_at f) bytes) (omega (arith, long, length-drop (first_at f) bytes)) ∙ ap (drop (first_at f)) w ∙ drop-append_seam (front f) (recorded f t);
            fitting = fitting;
          }

      in-range : (r : ℕ) → range f (first_at f) (first_at f + length (recorded f t)) r ≡ starts_by f (length bytes) r
      unfolding range starts_by
      in-range r = rw long

      pub starts-right : (r : ℕ) → starts_in f (first_at f) t r ≡ starts_by f (length bytes) r
      starts-right r = (all_right t (first_at f) r stands).same ∙ in-range r

      pub child-right : (r index : ℕ) → child_over f bytes r index ≡ child_within f (first_at f) t r index
      child-right r index = over-is r index ∙ sym ((all_right t (first_at f) r stands).hands index ∙ ap (λ (b : Bool). cond b (here r index) (Ok None)) (in-range r))

pub children-are : ChildrenAre
unfolding form_told
children-are bytes text small t e p index =
    let g = opened-good bytes text small t e in
    child-right (begins (front FormWide) bytes) bytes small t (g.0 ∙ written_is (begins (front FormWide) bytes) bytes small text refl t) g.1 p index

-- where a record starts, in the numbers of each form
narrow_start : (len p : ℕ) → (starts_by FormNarrow len p ≡ true) ↔ ((p < len) × (p % 8 ≡ 0))
unfolding starts_by range front head_size
narrow_start len p =
    let z : p - 0 ≡ p = omega arith in
    (λ h. let x = range-told FormNarrow 0 len p h in (x.1, ap (λ (n : ℕ). n % 8) (sym z) ∙ x.2), λ h. range-is FormNarrow 0 len p (omega arith) h.0 (ap (λ (n : ℕ). n % 8) z ∙ h.1))

wide-start : (len p : ℕ) → (starts_by FormWide len p ≡ true) ↔ ((4 ≤ p) × (p < len) × ((p - 4) % 14 ≡ 0))
unfolding starts_by range front head_size
wide-start len p = (λ h. range-told FormWide 4 len p h, λ h. range-is FormWide 4 len p h.0 h.1 h.2)

starts-are : (bytes text : List ℕ) → Bytes bytes → (t : Tree) → open_tree bytes text ≡ whole t → (p f : ℕ) → form_told bytes ≡ f → starts_at f t p ≡ can_start f bytes p
unfolding form_told
starts-are bytes text small t e p f z =
    let g = opened-good bytes text small t e in
    subst (λ (n : ℕ). starts_at n t p ≡ can_start n bytes p) z
    (starts-right (begins (front FormWide) bytes) bytes small t (g.0 ∙ written_is (begins (front FormWide) bytes) bytes small text refl t) g.1 p)

pub records-start : RecordsStart
records-start bytes text small t e p = (
  λ z. subst (λ (b : Bool). (b ≡ true) ↔ ((p < length bytes) × (p % 8 ≡ 0))) (sym (starts-are bytes text small t e p FormNarrow z)) (narrow_start (length bytes) p),
  λ z. subst (λ (b : Bool). (b ≡ true) ↔ ((4 ≤ p) × (p < length bytes) × ((p - 4) % 14 ≡ 0))) (sym (starts-are bytes text small t e p FormWide z)) (wide-start (length bytes) p),
)
