-- The scan finds what the recursion finds: from a place in a record on, with the first fault of the children from there on kept, it
-- arrives at the record's end with nothing found, or ends with the fault that the recursion meets first.
use mathlib.Core.Path.{◌≡◌, refl, ap, sym, ◌∙◌, subst}
use mathlib.Core.Bool.{Bool, true, false, cond, ◌||◌}
use mathlib.Core.List.{List}
use Prim.Native.Nat.{ℕ, zero, suc, ◌+◌, ◌-◌, ◌<◌, ◌≤◌}
use native.Mathlib.Omega.{arith}
use borrow.Author.Tests.{lt-ltb, le-ltb, ltb-true, ltb-false, eqb-true, eqb-false}
use lib.Dec.{eqb, ltb}
use lib.ListN.{length, get_or, set, replicate, length-set, length-replicate, get_or-replicate}
use lib.Seq.{get_or-set_same, get_or-set_other}
use Rattle.tokens.specs.Answers.{refusal}
use Rattle.tokens.specs.declared.Refusal.{Refusal}
use Rattle.records.specs.Kinds.{RecField}
use Rattle.records.specs.Tree.{node, Trees, none, more}
use Rattle.records.specs.Spans.{start_of, end_of}
use Rattle.forms.specs.Forms.{head_size}
use Rattle.saved.specs.Children.{least, deepens}
use Rattle.saved.specs.Heads.{head_at}
use Rattle.saved.specs.Open.{Opened, whole, damaged, onward, tested, levels, unfit, Parent, parent, child_fault, level_of, level_fault, ended, children_at, first_at}
use Rattle.saved.specs.Answers.{with_record, outermost}
use Rattle.saved.specs.Child.{saved_head, kind_of}
use Rattle.saved.specs.code.Scan.{answer_by, fault, earlier, stop, missing, stopped, run_from, run_over, still_open, deepening, Walks}
use Rattle.saved.specs.declared.Head.{Head}
use Rattle.saved.specs.declared.Fault.{Fault}
use Rattle.std.specs.Prelude.{Option, Some, None, Ok, Err}
use Rattle.saved.proofs.Heads.{unfit-false}
use Rattle.saved.proofs.Scan.{walks-end, walks-deep, walks-on, deepening-few, Inside, inside-wider, run_in, fault-fits}

-- the found fault, where there is one
abbrev over : Option Fault → Option Fault → Option Fault
over None kept = kept
over (Some k) kept = Some k

earlier-over : (n lo hi : ℕ) (kept found : Option Fault) → hi ≤ stop n kept → Inside lo hi found → earlier kept found ≡ over found kept
earlier-over n lo hi kept None h g = refl
earlier-over n lo hi None (Some f) h g = refl
earlier-over n lo hi (Some k) (Some f) h g = rw (le-ltb k.place f.place (omega (arith, g.1, h)))

over-from : (n lo hi : ℕ) (kept found : Option Fault) → lo ≤ stop n kept → Inside lo hi found → lo ≤ stop n (over found kept)
over-from n lo hi kept None h g = h
over-from n lo hi kept (Some f) h g = g.0

over-to : (n lo hi : ℕ) (kept found : Option Fault) → stop n kept ≤ n → hi ≤ n → Inside lo hi found → stop n (over found kept) ≤ n
over-to n lo hi kept None h i g = h
over-to n lo hi kept (Some f) h i g = omega (arith, g.1, i)

-- the ends that are open: those of the first d reach to e or behind it, the others are not behind p
record Stack (ends : List ℕ) (depth d p e : ℕ) : Type 0 where
  size : length ends ≡ 65
  low : d ≤ depth
  outer : (j : ℕ) → j < d → e ≤ get_or ends j 0
  inner : (j : ℕ) → d ≤ j → j < depth → get_or ends j 0 ≤ p

open_is : (ends : List ℕ) (depth d p : ℕ) → d ≤ depth → ((j : ℕ) → j < d → p < get_or ends j 0) → ((j : ℕ) → d ≤ j → j < depth → get_or ends j 0 ≤ p) → still_open ends depth p ≡ d
unfolding still_open
open_is ends zero d p l o i = omega arith
open_is ends (suc m) d p l o i = go (ltb m d) refl (λ z. open_is ends m d p z o (λ j h g. i j h (omega arith)))
  where
    go : (b : Bool) → ltb m d ≡ b → (d ≤ m → still_open ends m p ≡ d) → cond (ltb p (get_or ends m 0)) (suc m) (still_open ends m p) ≡ d
    go true e g = let z = ltb-true m d e in rw (lt-ltb p (get_or ends m 0) (o m z)) (omega arith)
    go false e g = let z = ltb-false m d e in rw (le-ltb p (get_or ends m 0) (i m z (omega arith))) (g z)

-- one more open end, where a record deepens
module _ (ends : List ℕ) (depth d p e q : ℕ) (S : Stack ends depth d p e) (small : d ≤ 64) (near : q ≤ e) where
  kept-below : (j : ℕ) → j < d → get_or (set ends d q) j 0 ≡ get_or ends j 0
  kept-below j h = get_or-set_other ends d j q 0 (λ z. omega arith)

  at_top : get_or (set ends d q) d 0 ≡ q
  at_top = get_or-set_same ends d q 0 (omega (arith, S.size))

  pushed : (x p₂ : ℕ) → x ≤ 1 → Stack (set ends d q) (d + x) (d + x) p₂ q
  pushed x p₂ h =
      record {
        size = length-set ends d q ∙ S.size;
        low = omega arith;
        outer = λ j g. go j (ltb j d) refl g;
        inner = λ j g i. absurd (omega arith);
      }
    where
      go : (j : ℕ) (b : Bool) → ltb j d ≡ b → j < d + x → q ≤ get_or (set ends d q) j 0
      go j true z g = let i = ltb-true j d z in omega (arith, kept-below j i, S.outer j i)
      go j false z g = let i : j ≡ d = omega (arith, ltb-false j d z) in rw i (omega (arith, at_top))

  -- behind the record it is closed again
  popped : (x : ℕ) → x ≤ 1 → (ends₂ : List ℕ) (depth₂ : ℕ) → Stack ends₂ depth₂ (d + x) q q → ((j : ℕ) → j < d + x → get_or ends₂ j 0 ≡ get_or (set ends d q) j 0) → Stack ends₂ depth₂ d q e
  popped x h ends₂ depth₂ R same =
      record {
        size = R.size;
        low = omega (arith, R.low);
        outer = λ j g. omega (arith, same j (omega arith), kept-below j g, S.outer j g);
        inner = λ j g i. go j (ltb j (d + x)) refl g i;
      }
    where
      go : (j : ℕ) (b : Bool) → ltb j (d + x) ≡ b → d ≤ j → j < depth₂ → get_or ends₂ j 0 ≤ q
      go j true z g i =
          let k = ltb-true j (d + x) z in
          let y : j ≡ d = omega arith in
          omega (arith, same j k, ap (λ (a : ℕ). get_or (set ends d q) a 0) y, at_top)
      go j false z g i = R.inner j (ltb-false j (d + x) z) i

-- a record that fits
pub fit_is : (f room : ℕ) (k : Head) → head_size f ≤ room → head_size f ≤ k.len → k.len ≤ room → unfit f room k ≡ false
unfolding unfit
fit_is f room k a b c = rw (le-ltb room (head_size f) a, le-ltb k.len (head_size f) b, le-ltb room k.len c)

level-is : (at n : ℕ) (h k : Head) → level_of (parent at h n) k ≡ n + deepening k.kind
unfolding level_of deepens
level-is at n h k = go (deepens 0 k.kind)
  where
    go : (b : Bool) → cond b (suc n) n ≡ n + cond b 1 0
    go true = omega arith
    go false = omega arith

module _ (f : ℕ) (bytes : List ℕ) (positive : 0 < head_size f) where
  run_none : (m : ℕ) (P : Parent) (index : ℕ) (field : Bool) (c : ℕ) → run_from f bytes m P index field c 0 ≡ missing P index c
  unfolding run_from
  run_none zero P index field c = refl
  run_none (suc m) P index field c = refl

  -- what is claimed: the scan arrives at e with the ends below d as they were and nothing found; or it ends with this refusal
  record Through (R kept : Option Fault) (ends : List ℕ) (depth d c e : ℕ) : Type 0 where
    ends₂ : List ℕ
    depth₂ : ℕ
    stack : Stack ends₂ depth₂ d e e
    same : (j : ℕ) → j < d → get_or ends₂ j 0 ≡ get_or ends j 0
    goes : (r : Option Fault) → Walks f bytes ends₂ depth₂ e kept r → Walks f bytes ends depth c (over R kept) r

  record Blamed (x : Refusal) (R kept : Option Fault) (ends : List ℕ) (depth c : ℕ) : Type 0 where
    place : ℕ
    number : ℕ
    offset : ℕ
    is : x ≡ refusal (suc number) offset offset
    walks : Walks f bytes ends depth c (over R kept) (Some (fault place (suc number) offset))

  abbrev Claim : (R kept : Option Fault) (ends : List ℕ) (depth d c e : ℕ) → Opened Trees → Type 0
  Claim R kept ends depth d c e (whole ts) = Through R kept ends depth d c e
  Claim R kept ends depth d c e (damaged x) = Blamed x R kept ends depth c

  -- behind the last child
  ended-claim : (at n : ℕ) (h : Head) (index c e : ℕ) (kept : Option Fault) (ends : List ℕ) (depth d : ℕ) → c ≡ e → Stack ends depth d c e
      → Claim (missing (parent at h 0) index c) kept ends depth d c e (ended (parent at h n) index)
  unfolding ended tested
  ended-claim at n h index c e kept ends depth d z S = go (ltb index (least h.kind))
    where
      go : (b : Bool) → Claim (cond b (Some (fault c 17 at)) None) kept ends depth d c e (tested (cond b 17 0) at (λ _. whole none))
      go true = record { place = c; number = 16; offset = at; is = refl; walks = walks-end f bytes ends depth c (Some (fault c 17 at)) (omega arith) }
      go false =
          record {
            ends₂ = ends;
            depth₂ = depth;
            stack = record { size = S.size; low = S.low; outer = S.outer; inner = λ j g i. omega (arith, S.inner j g i) };
            same = λ j g. refl;
            goes = λ r w. subst (λ (x : ℕ). Walks f bytes ends depth x kept r) (sym z) w;
          }

  -- a child that fails a test of its own; one that is too deep
  fault-claim : (j : ℕ) (R kept : Option Fault) (ends : List ℕ) (depth d c e : ℕ) (rest : Unit {0} → Opened Trees)
      → (j ≡ 0 → Claim R kept ends depth d c e (rest tt)) → Claim (stopped j c R) kept ends depth d c e (tested j c rest)
  unfolding stopped tested
  fault-claim zero R kept ends depth d c e rest g = g refl
  fault-claim (suc j) R kept ends depth d c e rest g = record { place = c; number = j; offset = c; is = refl; walks = walks-end f bytes ends depth c (Some (fault c (suc j) c)) (omega arith) }

  deep-claim : (b : Bool) (R kept : Option Fault) (ends : List ℕ) (depth d c e : ℕ) (rest : Unit {0} → Opened Trees)
      → (b ≡ true → Walks f bytes ends depth c (over R kept) (Some (fault c 14 c))) → (b ≡ false → Claim R kept ends depth d c e (rest tt)) → Claim R kept ends depth d c e (tested (cond b 14 0) c rest)
  unfolding tested
  deep-claim true R kept ends depth d c e rest h g = record { place = c; number = 13; offset = c; is = refl; walks = h refl }
  deep-claim false R kept ends depth d c e rest h g = g refl

  -- what is in a child, and the children behind it
  module _ (R R₁ kept : Option Fault) (ends ends₁ : List ℕ) (depth depth₁ d d₁ c p q e : ℕ) (more : d ≤ d₁) (below : (j : ℕ) → j < d → get_or ends₁ j 0 ≡ get_or ends j 0)
      (step : (r : Option Fault) → Walks f bytes ends₁ depth₁ p (over R₁ (over R kept)) r → Walks f bytes ends depth c (over R kept) r) where
    behind-claim : (T : Through R₁ (over R kept) ends₁ depth₁ d₁ p q) (Y : Opened Trees) (g : Trees → Trees) → Claim R kept T.ends₂ T.depth₂ d q e Y → Claim R kept ends depth d c e (onward Y (λ us. whole (g us)))
    unfolding onward
    behind-claim T (whole us) g U =
        record {
          ends₂ = U.ends₂;
          depth₂ = U.depth₂;
          stack = U.stack;
          same = λ j h. U.same j h ∙ T.same j (omega arith) ∙ below j h;
          goes = λ r w. step r (T.goes r (U.goes r w));
        }
    behind-claim T (damaged y) g B = record { place = B.place; number = B.number; offset = B.offset; is = B.is; walks = step _ (T.goes _ B.walks) }

    inside-claim : (X : Opened Trees) → Claim R₁ (over R kept) ends₁ depth₁ d₁ p q X → (Y : Opened Trees) (g : Trees → Trees → Trees)
        → ((T : Through R₁ (over R kept) ends₁ depth₁ d₁ p q) → Claim R kept T.ends₂ T.depth₂ d q e Y) → Claim R kept ends depth d c e (onward X (λ ts. onward Y (λ us. whole (g ts us))))
    unfolding onward
    inside-claim (whole ts) T Y g rest = behind-claim T Y (g ts) (rest T)
    inside-claim (damaged x) B Y g rest = record { place = B.place; number = B.number; offset = B.offset; is = B.is; walks = step _ B.walks }

  -- a child that passed its own tests
  module _ (at n : ℕ) (h : Head) (c room e : ℕ) (z : c + suc room ≡ e) (i : e ≤ length bytes) (kept : Option Fault) (a : e ≤ stop (length bytes) kept) (b : stop (length bytes) kept ≤ length bytes) (ends : List ℕ) (depth : ℕ)
      (S : Stack ends depth n c e) (y : n ≤ levels) (R : Option Fault) (u : unfit f (suc room) (head_at f bytes c) ≡ false) (around : Inside (c + (head_at f bytes c).len) e R) where
    abbrev k : Head
    k = head_at f bytes c

    abbrev q : ℕ
    q = c + k.len

    abbrev x : ℕ
    x = deepening k.kind

    abbrev R₁ : Option Fault
    R₁ = run_over f bytes c k

    size : (head_size f ≤ suc room) × (head_size f ≤ k.len) × (k.len ≤ suc room)
    size = unfit-false f (suc room) k u

    from : q ≤ stop (length bytes) (over R kept)
    from = over-from (length bytes) q e kept R (omega (arith, size.2)) around

    inside : stop (length bytes) (over R kept) ≤ length bytes
    inside = over-to (length bytes) q e kept R b i around

    here : c < stop (length bytes) (over R kept)
    here = omega (arith, from, size.1, positive)

    level : level_of (parent at h n) k ≡ n + x
    level = level-is at n h k

    opens : still_open ends depth c ≡ n
    opens = open_is ends depth n c S.low (λ j g. omega (arith, S.outer j g)) S.inner

    fit : unfit f (length bytes - c) k ≡ false
    fit = fit_is f (length bytes - c) k (omega (arith, size.0)) size.1 (omega (arith, size.2))

    found : earlier (over R kept) R₁ ≡ over R₁ (over R kept)
    found = earlier-over (length bytes) (c + head_size f) (c + head_size f + (k.len - head_size f)) (over R kept) R₁ (omega (arith, from, size.1)) (run_in f bytes positive k.len (parent c k 0) 0 false (c + head_size f) (k.len - head_size f) (omega arith))

    moved_as : (s s₂ : ℕ) (K K₂ : Option Fault) (r : Option Fault) → s ≡ s₂ → K ≡ K₂ → Walks f bytes (set ends s₂ q) (s₂ + x) (c + head_size f) K₂ r → Walks f bytes (set ends s q) (s + x) (c + head_size f) K r
    moved_as s s₂ K K₂ r v w t = rw (v, w) t

    step : n + x ≤ levels → (r : Option Fault) → Walks f bytes (set ends n q) (n + x) (c + head_size f) (over R₁ (over R kept)) r → Walks f bytes ends depth c (over R kept) r
    step l r w = walks-on f bytes ends depth c (over R kept) here inside fit (omega (arith, opens)) positive r (moved_as (still_open ends depth c) n (earlier (over R kept) R₁) (over R₁ (over R kept)) r opens found w)

    passed : (X Y : Opened Trees) (g : Trees → Trees → Trees)
        → ((kept₁ : Option Fault) → q ≤ stop (length bytes) kept₁ → stop (length bytes) kept₁ ≤ length bytes → (ends₁ : List ℕ) (depth₁ : ℕ) → Stack ends₁ depth₁ (level_of (parent at h n) k) (c + head_size f) q → level_of (parent at h n) k ≤ levels
        → Claim R₁ kept₁ ends₁ depth₁ (level_of (parent at h n) k) (c + head_size f) q X)
        → ((ends₂ : List ℕ) (depth₂ : ℕ) → Stack ends₂ depth₂ n q e → Claim R kept ends₂ depth₂ n q e Y)
        → Claim R kept ends depth n c e (tested (cond (ltb levels (level_of (parent at h n) k)) 14 0) c (λ _. onward X (λ ts. onward Y (λ us. whole (g ts us)))))
    passed X Y g inner rest =
        deep-claim (ltb levels (level_of (parent at h n) k)) R kept ends depth n c e (λ _. onward X (λ ts. onward Y (λ us. whole (g ts us))))
        (λ t. walks-deep f bytes ends depth c (over R kept) here inside fit (omega (arith, ltb-true levels (level_of (parent at h n) k) t, level, opens)))
        (λ t.
        let l : n + x ≤ levels = omega (arith, ltb-false levels (level_of (parent at h n) k) t, level) in
        let few : x ≤ 1 = deepening-few k.kind in
        let P : Stack (set ends n q) (n + x) (n + x) (c + head_size f) q = pushed ends depth n c e q S y (omega (arith, size.2)) x (c + head_size f) few in
        inside-claim R R₁ kept ends (set ends n q) depth (n + x) n (level_of (parent at h n) k) c (c + head_size f) q e (omega (arith, level)) (kept-below ends depth n c e q S y (omega (arith, size.2))) (step l) X
        (inner (over R kept) from inside (set ends n q) (n + x) (rw level P) (omega (arith, level))) Y g
        (λ T. rest T.ends₂ T.depth₂ (popped ends depth n c e q S y (omega (arith, size.2)) x few T.ends₂ T.depth₂ (rw level at T.stack) (λ j v. T.same j (omega (arith, level))))))

  scan-claim : (m m₂ at n : ℕ) (h : Head) (index : ℕ) (field : Bool) (c room e : ℕ) → c + room ≡ e → room ≤ m → room ≤ m₂ → e ≤ length bytes
      → (kept : Option Fault) → e ≤ stop (length bytes) kept → stop (length bytes) kept ≤ length bytes → (ends : List ℕ) (depth : ℕ) → Stack ends depth n c e → n ≤ levels
      → Claim (run_from f bytes m₂ (parent at h 0) index field c room) kept ends depth n c e (children_at f bytes m (parent at h n) index field c room)
  unfolding children_at run_from level_fault child_fault
  scan-claim zero m₂ at n h index field c zero e z l l₂ i kept a b ends depth S y =
      subst (λ (x : Option Fault). Claim x kept ends depth n c e (ended (parent at h n) index)) (sym (run_none m₂ (parent at h 0) index field c))
      (ended-claim at n h index c e kept ends depth n (omega arith) S)
  scan-claim zero m₂ at n h index field c (suc room) e z l l₂ i kept a b ends depth S y = absurd (omega arith)
  scan-claim (suc m) m₂ at n h index field c zero e z l l₂ i kept a b ends depth S y =
      subst (λ (x : Option Fault). Claim x kept ends depth n c e (ended (parent at h n) index)) (sym (run_none m₂ (parent at h 0) index field c))
      (ended-claim at n h index c e kept ends depth n (omega arith) S)
  scan-claim (suc m) zero at n h index field c (suc room) e z l l₂ i kept a b ends depth S y = absurd (omega arith)
  scan-claim (suc m) (suc m₂) at n h index field c (suc room) e z l l₂ i kept a b ends depth S y =
      let k : Head = head_at f bytes c in
      let R : Option Fault = run_from f bytes m₂ (parent at h 0) (suc index) (field || eqb k.kind RecField) (c + k.len) (suc room - k.len) in
      let lvl : ℕ = level_of (parent at h n) k in
      fault-claim (child_fault f (parent at h 0) index field (suc room) k) R kept ends depth n c e
      (λ _.
      tested (cond (ltb levels lvl) 14 0) c λ _.
      onward (children_at f bytes m (parent c k lvl) 0 false (c + head_size f) (k.len - head_size f)) λ ts.
      onward (children_at f bytes m (parent at h n) (suc index) (field || eqb k.kind RecField) (c + k.len) (suc room - k.len)) λ us.
      whole (more (node k.kind k.start k.end ts) us))
      (λ ok.
      let u = fault-fits f (parent at h 0) index field (suc room) k ok in
      let w = unfit-false f (suc room) k u in
      let v = run_in f bytes positive m₂ (parent at h 0) (suc index) (field || eqb k.kind RecField) (c + k.len) (suc room - k.len) (omega (arith, w.1, positive)) in
      passed at n h c room e z i kept a b ends depth S y R u (inside-wider (c + k.len) (c + k.len) (c + k.len + (suc room - k.len)) e R (omega arith) (omega (arith, w.2)) v)
      (children_at f bytes m (parent c k lvl) 0 false (c + head_size f) (k.len - head_size f))
      (children_at f bytes m (parent at h n) (suc index) (field || eqb k.kind RecField) (c + k.len) (suc room - k.len))
      (λ ts us. more (node k.kind k.start k.end ts) us)
      (λ kept₁ a₁ b₁ ends₁ depth₁ S₁ y₁. scan-claim m k.len c lvl k 0 false (c + head_size f) (k.len - head_size f) (c + k.len) (omega (arith, w.1)) (omega (arith, w.2, w.1, positive)) (omega arith) (omega (arith, w.2)) kept₁ a₁ b₁ ends₁ depth₁ S₁ y₁)
      (λ ends₂ depth₂ S₂. scan-claim m m₂ at n h (suc index) (field || eqb k.kind RecField) (c + k.len) (suc room - k.len) e (omega (arith, w.2)) (omega (arith, w.1, positive)) (omega (arith, w.1, positive)) i kept a b ends₂ depth₂ S₂ y))

  -- the whole walk, from the outermost record on, which is all the bytes from there
  module _ (first : ℕ) (u : unfit f (length bytes - first) (head_at f bytes first) ≡ false) (all : length bytes - first ≤ (head_at f bytes first).len) where
    abbrev top : Head
    top = head_at f bytes first

    abbrev n : ℕ
    n = length bytes

    abbrev clean : Option Fault
    clean = None

    abbrev ends₀ : List ℕ
    ends₀ = replicate 65 n

    abbrev d₀ : ℕ
    d₀ = 1 - deepening top.kind

    abbrev ends₁ : List ℕ
    ends₁ = set ends₀ d₀ (first + top.len)

    fitted : (head_size f ≤ n - first) × (head_size f ≤ top.len) × (top.len ≤ n - first)
    fitted = unfit-false f (n - first) top u

    to_end : first + top.len ≡ n
    to_end = omega (arith, fitted.0, fitted.2, positive)

    few : deepening top.kind ≤ 1
    few = deepening-few top.kind

    entry : (j : ℕ) → j < 65 → get_or ends₁ j 0 ≡ n
    entry j h = go (eqb j d₀) refl
      where
        go : (b : Bool) → eqb j d₀ ≡ b → get_or ends₁ j 0 ≡ n
        go true e =
            let z = eqb-true j d₀ e in
            ap (λ (a : ℕ). get_or ends₁ a 0) z ∙ get_or-set_same ends₀ d₀ (first + top.len) 0 (omega (arith, length-replicate 65 n)) ∙ to_end
        go false e = get_or-set_other ends₀ d₀ j (first + top.len) 0 (eqb-false j d₀ e) ∙ get_or-replicate 65 j n 0 h

    all-open : still_open ends₀ d₀ first ≡ d₀
    all-open = open_is ends₀ d₀ d₀ first (omega arith) (λ j g. omega (arith, get_or-replicate 65 j n 0 (omega arith), fitted.0, positive)) (λ j g i. absurd (omega arith))

    begun : Stack ends₁ (d₀ + deepening top.kind) 1 (first + head_size f) n
    begun =
        record {
          size = length-set ends₀ d₀ (first + top.len) ∙ length-replicate 65 n;
          low = omega (arith, few);
          outer = λ j g. omega (arith, entry j (omega arith));
          inner = λ j g i. absurd (omega (arith, few));
        }

    abbrev R₀ : Option Fault
    R₀ = run_over f bytes first top

    over-clean : earlier clean R₀ ≡ over R₀ clean
    over-clean = earlier-over n (first + head_size f) (first + head_size f + (top.len - head_size f)) clean R₀ (omega (arith, to_end, fitted.1)) (run_in f bytes positive top.len (parent first top 0) 0 false (first + head_size f) (top.len - head_size f) (omega arith))

    entered-as : (s s₂ : ℕ) (K K₂ : Option Fault) (r : Option Fault) → s ≡ s₂ → K ≡ K₂ → Walks f bytes (set ends₀ s₂ (first + top.len)) (s₂ + deepening top.kind) (first + head_size f) K₂ r
        → Walks f bytes (set ends₀ s (first + top.len)) (s + deepening top.kind) (first + head_size f) K r
    entered-as s s₂ K K₂ r v w t = rw (v, w) t

    entered : (r : Option Fault) → Walks f bytes ends₁ (d₀ + deepening top.kind) (first + head_size f) (over R₀ clean) r → Walks f bytes ends₀ d₀ first clean r
    entered r w =
        walks-on f bytes ends₀ d₀ first clean (omega (arith, fitted.0, positive)) (omega arith) u (omega (arith, all-open, few)) positive r
        (entered-as (still_open ends₀ d₀ first) d₀ (earlier clean R₀) (over R₀ clean) r all-open over-clean w)

    answered : (X : Opened Trees) → Claim R₀ clean ends₁ (d₀ + deepening top.kind) 1 (first + head_size f) n X → (found : Option Fault) → Walks f bytes ends₀ d₀ first clean found → first_at f ≡ first
        → with_record (answer_by found first top) ≡ outermost f (onward X (λ ts. whole (node top.kind top.start top.end ts)))
    unfolding onward outermost kind_of start_of end_of
    answered (whole ts) T found w z =
        let v : clean ≡ found = sym (entered clean (T.goes clean (walks-end f bytes T.ends₂ T.depth₂ n clean (omega arith))) n (omega arith)) ∙ w n (omega arith) in
        ap (λ (K : Option Fault). with_record (answer_by K first top)) (sym v) ∙ ap (λ (o : ℕ). Ok (Some (saved_head o top))) (sym z)
    answered (damaged x) B found w z =
        let v : Some (fault B.place (suc B.number) B.offset) ≡ found = sym (entered _ B.walks n (omega arith)) ∙ w n (omega arith) in
        ap (λ (K : Option Fault). with_record (answer_by K first top)) (sym v) ∙ ap (λ (y : Refusal). Err y) (sym B.is)

    pub opens_as : (found : Option Fault) → Walks f bytes ends₀ d₀ first clean found → first_at f ≡ first
        → with_record (answer_by found first top) ≡ outermost f (onward (children_at f bytes n (parent first top 1) 0 false (first + head_size f) (top.len - head_size f)) (λ ts. whole (node top.kind top.start top.end ts)))
    opens_as found w z =
        answered (children_at f bytes n (parent first top 1) 0 false (first + head_size f) (top.len - head_size f))
        (scan-claim n top.len first 1 top 0 false (first + head_size f) (top.len - head_size f) n (omega (arith, to_end, fitted.1)) (omega (arith, to_end)) (omega arith) (omega arith) clean (omega arith) (omega arith) ends₁ (d₀ + deepening top.kind) begun (omega arith))
        found w z
