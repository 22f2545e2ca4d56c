-- Exactly the bytes of one record with legal children open, as the tree whose bytes they are.
use mathlib.Core.Path.{◌≡◌, refl, ap, sym, ◌∙◌, subst}
use mathlib.Core.Bool.{Bool, true, false, cond, not, ◌||◌}
use mathlib.Core.List.{List, [], ◌++◌, append-nil}
use Prim.Native.Nat.{ℕ, zero, suc, ◌+◌, ◌-◌, ◌^◌, ◌<◌, ◌≤◌}
use native.Mathlib.Omega.{arith}
use borrow.Author.Tests.{ltb-false, le-ltb}
use lib.Dec.{eqb, ltb}
use lib.ListN.{length, take, drop, length-append, length-drop, take-append-drop}
use lib.Seq.{take_all, drop-append_seam}
use Rattle.classes.specs.Bytes.{begins}
use Rattle.classes.proofs.Bools.{or_left, or_right}
use Rattle.tokens.specs.Calls.{text_limit}
use Rattle.tokens.specs.Refusals.{TooDeep}
use Rattle.records.specs.Kinds.{RecField}
use Rattle.records.specs.Tree.{Tree, leaf, node, Trees, none, more}
use Rattle.records.specs.Spans.{start_of, end_of, unspelled, unspelled_all}
use Rattle.records.specs.Stored.{head_of}
use Rattle.forms.specs.Forms.{FormWide, is_line, front, head_size, width, head, recorded, recorded_all, laid, written}
use Rattle.forms.specs.Sizes.{Fitting, FittingAll}
use Rattle.records.proofs.Numbers.{split}
use Rattle.forms.proofs.Placing.{head-long}
use Rattle.forms.proofs.Sizes.{head-is}
use Rattle.saved.specs.Refusals.{RecordUnfit, NoRecordKind, NotAllowed}
use Rattle.saved.specs.Children.{is_kind, may, least, deepens}
use Rattle.saved.specs.Heads.{form_told, head_in, head_at}
use Rattle.saved.specs.Open.{Opened, whole, damaged, onward, tested, levels, unfit, outside, head_fault, Parent, parent, child_fault, level_of, level_fault, ended, children_at, outermost_fault, outermost_at, first_at, open_tree}
use Rattle.saved.specs.Child.{kind_of, children_of}
use Rattle.saved.specs.Legal.{LegalAt, LegalChildren, Legal}
use Rattle.saved.specs.Theorems.{Bytes, Exactly}
use Rattle.saved.specs.declared.Head.{Head}
use Rattle.saved.proofs.Heads.{form_by, size-some, size-by, unfit-false}
use Rattle.saved.proofs.Equals.{fit_is}
use Rattle.saved.proofs.Parts.{part, part-add, part-long, begins-take, number-below, head_bytes, head_read}

-- what was whole passed its tests
apart : {A : Type 0} (P : Type 0) (r : _) (a : A) → ◌≡◌ {A = Opened A} (damaged r) (whole a) → P
apart P r a e = let z : ◌≡◌ {A = ℕ} 0 1 = cc in absurd (omega arith)

whole_same : {A : Type 0} {a b : A} → whole a ≡ whole b → a ≡ b
whole_same e = cc

tested-passed : {A : Type 0} (n o : ℕ) (f : Unit {0} → Opened A) (a : A) → tested n o f ≡ whole a → (n ≡ 0) × (f tt ≡ whole a)
unfolding tested
tested-passed zero o f a e = (refl, e)
tested-passed (suc n) o f a e = apart _ _ a e

record Passed {A B : Type 0} (X : Opened A) (f : A → Opened B) (b : B) : Type 0 where
  got : A
  is : X ≡ whole got
  then : f got ≡ whole b

onward-passed : {A B : Type 0} (X : Opened A) (f : A → Opened B) (b : B) → onward X f ≡ whole b → Passed X f b
unfolding onward
onward-passed (whole a) f b e = record { got = a; is = refl; then = e }
onward-passed (damaged r) f b e = apart _ r b e

-- what a head without fault is
record Sound (fails allowed : Bool) (from to : ℕ) (h : Head) : Type 0 where
  holds : fails ≡ false
  kind : is_kind h.kind ≡ true
  may : allowed ≡ true
  order : h.start ≤ h.end
  after : from ≤ h.start
  before : h.end ≤ to

outside-false : (from to : ℕ) (h : Head) → outside from to h ≡ false → (h.start ≤ h.end) × (from ≤ h.start) × (h.end ≤ to)
unfolding outside
outside-false from to h e =
    let r = or_right (ltb h.end h.start) _ e in (
      ltb-false h.end h.start (or_left (ltb h.end h.start) _ e),
      ltb-false h.start from (or_left (ltb h.start from) _ r),
      ltb-false to h.end (or_right (ltb h.start from) _ r),
    )

sound : (a b : Bool) (from to : ℕ) (h : Head) → head_fault a b from to h ≡ 0 → Sound a b from to h
unfolding head_fault
sound a b from to h e = go a (is_kind h.kind) b (outside from to h) refl refl e
  where
    go : (x k y o : Bool) → is_kind h.kind ≡ k → outside from to h ≡ o → cond x RecordUnfit (cond (not k) NoRecordKind (cond (not y || o) NotAllowed 0)) ≡ 0 → Sound x y from to h
    go true k y o p q z = absurd (omega (arith, z))
    go false false y o p q z = absurd (omega (arith, z))
    go false true false o p q z = absurd (omega (arith, z))
    go false true true true p q z = absurd (omega (arith, z))
    go false true true false p q z = let w = outside-false from to h q in record { holds = refl; kind = p; may = refl; order = w.0; after = w.1; before = w.2 }

faultless : (a b : Bool) (from to : ℕ) (h : Head) → a ≡ false → is_kind h.kind ≡ true → b ≡ true → h.start ≤ h.end → from ≤ h.start → h.end ≤ to → head_fault a b from to h ≡ 0
unfolding head_fault outside
faultless a b from to h x k y o p q = rw (x, k, y, le-ltb h.end h.start o, le-ltb h.start from p, le-ltb to h.end q)

level-passed : (n : ℕ) → level_fault n ≡ 0 → n ≤ levels
unfolding level_fault
level-passed n e = go (ltb levels n) refl e
  where
    go : (b : Bool) → ltb levels n ≡ b → cond b TooDeep 0 ≡ 0 → n ≤ levels
    go true x z = absurd (omega (arith, z))
    go false x z = ltb-false levels n x

level-fine : (n : ℕ) → n ≤ levels → level_fault n ≡ 0
unfolding level_fault
level-fine n h = rw (le-ltb levels n h)

ended-passed : (P : Parent) (index : ℕ) (ts : Trees) → ended P index ≡ whole ts → (ts ≡ none) × (least P.head.kind ≤ index)
unfolding ended
ended-passed P index ts e = go (ltb index (least P.head.kind)) refl (tested-passed _ P.at (λ _. whole none) ts e)
  where
    go : (b : Bool) → ltb index (least P.head.kind) ≡ b → (cond b NotAllowed 0 ≡ 0) × (whole none ≡ whole ts) → (ts ≡ none) × (least P.head.kind ≤ index)
    go true x z = absurd (omega (arith, z.0))
    go false x z = let w = z.1 in (cc, ltb-false index (least P.head.kind) x)

ended-fine : (P : Parent) (index : ℕ) → least P.head.kind ≤ index → ended P index ≡ whole none
unfolding ended tested
ended-fine P index h = rw (le-ltb index (least P.head.kind) h)

module _ (wide : Bool) (bytes : List ℕ) (small : Bytes bytes) where
  abbrev pub f : ℕ
  f = form_by wide

  stored : is_line f ≡ false
  stored = go wide
    where
      go : (b : Bool) → is_line (form_by b) ≡ false
      go true = refl
      go false = refl

  -- the numbers of a head fit their bytes, and these are its bytes
  kind_fits : (p : ℕ) → (head_at f bytes p).kind < 65536
  unfolding head_in
  kind_fits p = number-below bytes small 2 (p + width f)

  start_fits : (p : ℕ) → (head_at f bytes p).start < 256 ^ width f
  unfolding head_in
  start_fits p = number-below bytes small (width f) (p + width f + 2)

  end_fits : (p : ℕ) → (head_at f bytes p).end < 256 ^ width f
  unfolding head_in
  end_fits p = number-below bytes small (width f) (p + width f + 2 + width f)

  len-fits : (p : ℕ) → (head_at f bytes p).len < 256 ^ width f
  unfolding head_in
  len-fits p = number-below bytes small (width f) p

  pub positive : 0 < head_size f
  positive = omega (arith, (size-some wide).0)

  head-part : (p n : ℕ) → p + head_size f ≤ length bytes → n + head_size f ≡ (head_at f bytes p).len
      → head f n (head_at f bytes p).kind (head_at f bytes p).start (head_at f bytes p).end ≡ part bytes p (head_size f)
  head-part p n h e =
      let k : Head = head_at f bytes p in
      head-is f stored n k.kind k.start k.end ∙ ap (λ (x : ℕ). head_of (width f) x k.kind k.start k.end) e
      ∙ head_bytes bytes small (width f) p (omega (arith, size-by wide)) ∙ ap (part bytes p) (sym (size-by wide))

  -- a record's bytes: its head, and those of its children
  record-part : (p : ℕ) (ts : Trees) → head_size f ≤ (head_at f bytes p).len → p + (head_at f bytes p).len ≤ length bytes → part bytes (p + head_size f) ((head_at f bytes p).len - head_size f) ≡ recorded_all f ts
      → (part bytes p (head_at f bytes p).len ≡ recorded f (node (head_at f bytes p).kind (head_at f bytes p).start (head_at f bytes p).end ts)) × (length (recorded_all f ts) + head_size f ≡ (head_at f bytes p).len)
  unfolding recorded
  record-part p ts h g e =
      let k : Head = head_at f bytes p in
      let n : length (recorded_all f ts) ≡ k.len - head_size f = ap length (sym e) ∙ part-long bytes (p + head_size f) (k.len - head_size f) (omega arith) in
      let l : length (recorded_all f ts) + head_size f ≡ k.len = omega (arith, n) in
      let x : head_size f + (k.len - head_size f) ≡ k.len = omega arith in (
        ap (part bytes p) (sym x) ∙ part-add bytes p (head_size f) (k.len - head_size f)
            ∙ ap (λ (y : List ℕ). y ++ part bytes (p + head_size f) (k.len - head_size f)) (sym (head-part p (length (recorded_all f ts)) (omega arith) l))
            ∙ ap (λ (y : List ℕ). head f (length (recorded_all f ts)) k.kind k.start k.end ++ y) e,
        l,
      )

  -- what opened is what its bytes are the bytes of
  record Good (P : Parent) (index : ℕ) (field : Bool) (p room : ℕ) (ts : Trees) : Type 0 where
    written_as : part bytes p room ≡ recorded_all f ts
    fitting : FittingAll f ts
    legal : LegalChildren P.level P.head.kind P.head.start P.head.end index field ts

  none-good : (P : Parent) (index : ℕ) (field : Bool) (p : ℕ) (ts : Trees) → ended P index ≡ whole ts → Good P index field p 0 ts
  unfolding recorded_all FittingAll LegalChildren
  none-good P index field p ts e =
      let z = ended-passed P index ts e in
      subst (λ (x : Trees). Good P index field p 0 x) (sym z.0) (record { written_as = refl; fitting = tt; legal = z.1 })

  more-good : (P : Parent) (index : ℕ) (field : Bool) (p room : ℕ) (ts us : Trees) → p + room ≤ length bytes
      → Sound (unfit f room (head_at f bytes p)) (may P.head.kind index field (head_at f bytes p).kind) P.head.start P.head.end (head_at f bytes p)
      → level_of P (head_at f bytes p) ≤ levels
      → Good (parent p (head_at f bytes p) (level_of P (head_at f bytes p))) 0 false (p + head_size f) ((head_at f bytes p).len - head_size f) ts
      → Good P (suc index) (field || eqb (head_at f bytes p).kind RecField) (p + (head_at f bytes p).len) (room - (head_at f bytes p).len) us
      → Good P index field p room (more (node (head_at f bytes p).kind (head_at f bytes p).start (head_at f bytes p).end ts) us)
  unfolding recorded_all Fitting FittingAll LegalAt LegalChildren kind_of start_of end_of level_of
  more-good P index field p room ts us i S l G H =
      let k : Head = head_at f bytes p in
      let w = unfit-false f room k S.holds in
      let r = record-part p ts w.1 (omega (arith, w.2)) G.written_as in
      let x : k.len + (room - k.len) ≡ room = omega (arith, w.2) in
      record {
        written_as =
            ap (part bytes p) (sym x) ∙ part-add bytes p k.len (room - k.len)
            ∙ ap (λ (y : List ℕ). y ++ part bytes (p + k.len) (room - k.len)) r.0
            ∙ ap (λ (y : List ℕ). recorded f (node k.kind k.start k.end ts) ++ y) H.written_as;
        fitting = ((kind_fits p, start_fits p, end_fits p, omega (arith, r.1, len-fits p), G.fitting), H.fitting);
        legal = (S.may, S.after, S.before, (S.kind, S.order, l, G.legal), H.legal);
      }

  forward : (m : ℕ) (P : Parent) (index : ℕ) (field : Bool) (p room : ℕ) (ts : Trees) → room ≤ m → p + room ≤ length bytes → children_at f bytes m P index field p room ≡ whole ts → Good P index field p room ts
  unfolding children_at child_fault
  forward zero P index field p zero ts h i e = none-good P index field p ts e
  forward zero P index field p (suc room) ts h i e = absurd (omega arith)
  forward (suc m) P index field p zero ts h i e = none-good P index field p ts e
  forward (suc m) P index field p (suc room) ts h i e =
      let k : Head = head_at f bytes p in
      let a = tested-passed (child_fault f P index field (suc room) k) p _ ts e in
      let b = tested-passed (level_fault (level_of P k)) p _ ts a.1 in
      let c = onward-passed (children_at f bytes m (parent p k (level_of P k)) 0 false (p + head_size f) (k.len - head_size f)) _ ts b.1 in
      let d = onward-passed (children_at f bytes m P (suc index) (field || eqb k.kind RecField) (p + k.len) (suc room - k.len)) (λ us. whole (more (node k.kind k.start k.end c.got) us)) ts c.then in
      let S = sound (unfit f (suc room) k) (may P.head.kind index field k.kind) P.head.start P.head.end k a.0 in
      let w = unfit-false f (suc room) k S.holds in
      let z : more (node k.kind k.start k.end c.got) d.got ≡ ts = whole_same d.then in
      subst (λ (x : Trees). Good P index field p (suc room) x) z
      (more-good P index field p (suc room) c.got d.got i S (level-passed (level_of P k) b.0)
      (forward m (parent p k (level_of P k)) 0 false (p + head_size f) (k.len - head_size f) c.got (omega (arith, w.1, w.2, positive)) (omega (arith, w.2)) c.is)
      (forward m P (suc index) (field || eqb k.kind RecField) (p + k.len) (suc room - k.len) d.got (omega (arith, w.1, w.2, positive)) (omega (arith, w.2)) d.is))

  -- the children, with the head of the first at hand
  unfoldable step_at : ℕ → Parent → (index : ℕ) (field : Bool) (p room : ℕ) → Head → Opened Trees
  step_at m P index field p room h =
      tested (child_fault f P index field room h) p λ _.
      tested (level_fault (level_of P h)) p λ _.
      onward (children_at f bytes m (parent p h (level_of P h)) 0 false (p + head_size f) (h.len - head_size f)) λ ts.
      onward (children_at f bytes m P (suc index) (field || eqb h.kind RecField) (p + h.len) (room - h.len)) λ us.
      whole (more (node h.kind h.start h.end ts) us)

  children-step : (m : ℕ) (P : Parent) (index : ℕ) (field : Bool) (p room : ℕ) → 0 < room → room ≤ m → children_at f bytes m P index field p room ≡ step_at (m - 1) P index field p room (head_at f bytes p)
  unfolding children_at step_at
  children-step zero P index field p room h g = absurd (omega arith)
  children-step (suc m) P index field p zero h g = absurd (omega arith)
  children-step (suc m) P index field p (suc room) h g = let z : suc m - 1 ≡ m = omega arith in rw z

  children-none : (m : ℕ) (P : Parent) (index : ℕ) (field : Bool) (p : ℕ) → children_at f bytes m P index field p 0 ≡ ended P index
  unfolding children_at
  children-none zero P index field p = refl
  children-none (suc m) P index field p = refl

  step-passed : (m : ℕ) (P : Parent) (index : ℕ) (field : Bool) (p room : ℕ) (h : Head) (ts us : Trees) → child_fault f P index field room h ≡ 0 → level_fault (level_of P h) ≡ 0
      → children_at f bytes m (parent p h (level_of P h)) 0 false (p + head_size f) (h.len - head_size f) ≡ whole ts
      → children_at f bytes m P (suc index) (field || eqb h.kind RecField) (p + h.len) (room - h.len) ≡ whole us
      → step_at m P index field p room h ≡ whole (more (node h.kind h.start h.end ts) us)
  unfolding step_at tested onward
  step-passed m P index field p room h ts us a b c d = rw (a, b, c, d)

  -- a record over children whose bytes stand behind its head
  module _ (k s e : ℕ) (cs : Trees) (p : ℕ) (i : p + (head_size f + length (recorded_all f cs)) ≤ length bytes) (a : k < 65536) (b : s < 256 ^ width f) (c : e < 256 ^ width f)
      (d : length (recorded_all f cs) + head_size f < 256 ^ width f) (as-head : part bytes p (head_size f) ≡ head f (length (recorded_all f cs)) k s e) where
    abbrev pub top : Head
    top = record { len = length (recorded_all f cs) + head_size f; kind = k; start = s; end = e }

    pub head-told : head_at f bytes p ≡ top
    head-told =
        head_read bytes small (width f) p (length (recorded_all f cs) + head_size f) k s e (omega (arith, size-by wide))
        (ap (part bytes p) (sym (size-by wide)) ∙ as-head ∙ head-is f stored (length (recorded_all f cs)) k s e) d a b c

  -- the bytes of a record and of those behind it, apart
  pub bytes_apart : (p c u : ℕ) (hd xs ys : List ℕ) → p + (head_size f + c + u) ≤ length bytes → length hd ≡ head_size f → length xs ≡ c → part bytes p (head_size f + c + u) ≡ (hd ++ xs) ++ ys
      → (part bytes p (head_size f) ≡ hd) × (part bytes (p + head_size f) c ≡ xs) × (part bytes (p + (head_size f + c)) u ≡ ys)
  bytes_apart p c u hd xs ys i l l₂ e =
      let q = split (part bytes p (head_size f + c)) (hd ++ xs) (part bytes (p + (head_size f + c)) u) ys (part-long bytes p (head_size f + c) (omega arith) ∙ omega (arith, length-append hd xs)) (sym (part-add bytes p (head_size f + c) u) ∙ e) in
      let r = split (part bytes p (head_size f)) hd (part bytes (p + head_size f) c) xs (part-long bytes p (head_size f) (omega arith) ∙ sym l) (sym (part-add bytes p (head_size f) c) ∙ q.0) in
      (r.0, r.1, q.1)

  -- one record more in front
  more-back : (m : ℕ) (P : Parent) (index : ℕ) (field : Bool) (p room k s e : ℕ) (cs us : Trees) → room ≡ head_size f + length (recorded_all f cs) + length (recorded_all f us) → room ≤ m → p + room ≤ length bytes
      → part bytes p room ≡ (head f (length (recorded_all f cs)) k s e ++ recorded_all f cs) ++ recorded_all f us
      → k < 65536 → s < 256 ^ width f → e < 256 ^ width f → length (recorded_all f cs) + head_size f < 256 ^ width f
      → may P.head.kind index field k ≡ true → P.head.start ≤ s → e ≤ P.head.end → is_kind k ≡ true → s ≤ e → cond (deepens P.head.kind k) (suc P.level) P.level ≤ levels
      → ((Q : Parent) → Q ≡ parent p (record { len = length (recorded_all f cs) + head_size f; kind = k; start = s; end = e }) (cond (deepens P.head.kind k) (suc P.level) P.level)
      → (q : ℕ) → length (recorded_all f cs) ≤ m - 1 → q + length (recorded_all f cs) ≤ length bytes → part bytes q (length (recorded_all f cs)) ≡ recorded_all f cs → children_at f bytes (m - 1) Q 0 false q (length (recorded_all f cs)) ≡ whole (unspelled_all cs))
      → ((q : ℕ) → length (recorded_all f us) ≤ m - 1 → q + length (recorded_all f us) ≤ length bytes → part bytes q (length (recorded_all f us)) ≡ recorded_all f us
      → children_at f bytes (m - 1) P (suc index) (field || eqb k RecField) q (length (recorded_all f us)) ≡ whole (unspelled_all us))
      → children_at f bytes m P index field p room ≡ whole (more (node k s e (unspelled_all cs)) (unspelled_all us))
  unfolding child_fault level_of
  more-back m P index field p room k s e cs us z h i w a b c d y o q t v l inner rest =
      let n : ℕ = length (recorded_all f cs) in
      let u : ℕ = length (recorded_all f us) in
      let x = bytes_apart p n u (head f n k s e) (recorded_all f cs) (recorded_all f us) (omega (arith, z)) (head-long f n k s e) refl (ap (part bytes p) (sym z) ∙ w) in
      let K : Head = record { len = n + head_size f; kind = k; start = s; end = e } in
      let K-is : head_at f bytes p ≡ K = head-told k s e cs p (omega (arith, z)) a b c d x.0 in
      let n-is : n + head_size f - head_size f ≡ n = omega arith in
      let u-is : room - (n + head_size f) ≡ u = omega (arith, z) in
      let q-is : p + (head_size f + n) ≡ p + (n + head_size f) = omega arith in
      let fit : unfit f room K ≡ false = fit_is f room K (omega (arith, z)) (omega arith) (omega (arith, z)) in
      children-step m P index field p room (omega (arith, z, positive)) h ∙ ap (step_at (m - 1) P index field p room) K-is
      ∙ step-passed (m - 1) P index field p room K (unspelled_all cs) (unspelled_all us)
      (faultless (unfit f room K) (may P.head.kind index field k) P.head.start P.head.end K fit t y v o q)
      (level-fine (level_of P K) l)
      (rw n-is (inner (parent p K (level_of P K)) refl (p + head_size f) (omega (arith, z, positive)) (omega (arith, z)) x.1))
      (rw u-is (rest (p + (n + head_size f)) (omega (arith, z, positive)) (omega (arith, z)) (subst (λ (j : ℕ). part bytes j u ≡ recorded_all f us) q-is x.2)))

  none-back : (m : ℕ) (P : Parent) (index : ℕ) (field : Bool) (p : ℕ) → least P.head.kind ≤ index → children_at f bytes m P index field p 0 ≡ whole none
  none-back m P index field p h = children-none m P index field p ∙ ended-fine P index h

  leaf-fits : 0 + head_size f < 256 ^ width f
  unfolding head_size width
  leaf-fits = go wide
    where
      go : (b : Bool) → 0 + head_size (form_by b) < 256 ^ width (form_by b)
      go true = omega arith
      go false = omega arith

  -- a leaf is a record without children
  pub recorded-as : (t : Tree) → recorded f t ≡ head f (length (recorded_all f (children_of t))) (kind_of t) (start_of t) (end_of t) ++ recorded_all f (children_of t)
  unfolding recorded recorded_all children_of kind_of start_of end_of
  recorded-as (leaf k s e v) = sym (append-nil (head f 0 k s e))
  recorded-as (node k s e ts) = refl

  unspelled-as : (t : Tree) → unspelled t ≡ node (kind_of t) (start_of t) (end_of t) (unspelled_all (children_of t))
  unfolding unspelled unspelled_all children_of kind_of start_of end_of
  unspelled-as (leaf k s e v) = refl
  unspelled-as (node k s e ts) = refl

  pub fitting-as : (t : Tree) → Fitting f t
      → (kind_of t < 65536) × (start_of t < 256 ^ width f) × (end_of t < 256 ^ width f) × (length (recorded_all f (children_of t)) + head_size f < 256 ^ width f) × FittingAll f (children_of t)
  unfolding Fitting FittingAll recorded_all children_of kind_of start_of end_of
  fitting-as (leaf k s e v) g = (g.0, g.1, g.2, leaf-fits, tt)
  fitting-as (node k s e ts) g = g

  legal-as : (n : ℕ) (t : Tree) → LegalAt n t → (is_kind (kind_of t) ≡ true) × (start_of t ≤ end_of t) × (n ≤ levels) × LegalChildren n (kind_of t) (start_of t) (end_of t) 0 false (children_of t)
  unfolding LegalAt LegalChildren children_of kind_of start_of end_of
  legal-as n (leaf k s e v) l = l
  legal-as n (node k s e ts) l = l

  -- what is written over legal children opens as it was
  abbrev Back : Trees → Type 0
  Back ts =
      (m : ℕ) (P : Parent) (index : ℕ) (field : Bool) (p : ℕ) → length (recorded_all f ts) ≤ m → p + length (recorded_all f ts) ≤ length bytes → part bytes p (length (recorded_all f ts)) ≡ recorded_all f ts
      → FittingAll f ts → LegalChildren P.level P.head.kind P.head.start P.head.end index field ts → children_at f bytes m P index field p (length (recorded_all f ts)) ≡ whole (unspelled_all ts)

  back_none : Back none
  unfolding recorded_all unspelled_all LegalChildren
  back_none m P index field p h i w g l = none-back m P index field p l

  back_more : (t : Tree) (us : Trees) → Back (children_of t) → Back us → Back (more t us)
  unfolding recorded_all unspelled_all FittingAll LegalChildren
  back_more t us inner rest m P index field p h i w g l =
      let r : List ℕ = recorded_all f (children_of t) in
      let hd : List ℕ = head f (length r) (kind_of t) (start_of t) (end_of t) in
      let n = length-append (recorded f t) (recorded_all f us) in
      let n₂ : length (recorded f t) ≡ head_size f + length r = ap length (recorded-as t) ∙ length-append hd r ∙ omega (arith, head-long f (length r) (kind_of t) (start_of t) (end_of t)) in
      let z : length (recorded f t ++ recorded_all f us) ≡ head_size f + length r + length (recorded_all f us) = omega (arith, n, n₂) in
      let a = fitting-as t g.0 in
      let b = legal-as (cond (deepens P.head.kind (kind_of t)) (suc P.level) P.level) t l.3 in
      more-back m P index field p (length (recorded f t ++ recorded_all f us)) (kind_of t) (start_of t) (end_of t) (children_of t) us z h i (w ∙ ap (λ (x : List ℕ). x ++ recorded_all f us) (recorded-as t))
      a.0 a.1 a.2 a.3 l.0 l.1 l.2 b.0 b.1 b.2
      (λ Q y q c d e. inner (m - 1) Q 0 false q c d e a.4 (subst (λ (X : Parent). LegalChildren X.level X.head.kind X.head.start X.head.end 0 false (children_of t)) (sym y) b.3))
      (λ q c d e. rest (m - 1) P (suc index) (field || eqb (kind_of t) RecField) q c d e g.1 l.4)
      ∙ ap (λ (x : Tree). whole (more x (unspelled_all us))) (sym (unspelled-as t))

  mutual
    unfolding children_of

    back-tree : (t : Tree) → Back (children_of t)
    back-tree (leaf k s e v) = back_none
    back-tree (node k s e ts) = back-trees ts

    back-trees : (ts : Trees) → Back ts
    back-trees none = back_none
    back-trees (more t us) = back_more t us (back-tree t) (back-trees us)

  -- the outermost record
  module _ (text : List ℕ) (told : wide ≡ begins (front FormWide) bytes) where
    abbrev first : ℕ
    first = first_at f

    front-told : take first bytes ≡ front f
    unfolding front
    front-told = go wide told
      where
        go : (b : Bool) → b ≡ begins (front FormWide) bytes → take (first_at (form_by b)) bytes ≡ front (form_by b)
        go true e = begins-take (front FormWide) bytes (sym e)
        go false e = refl

    pub written_is : (t : Tree) → written f t ≡ front f ++ recorded f t
    unfolding written laid
    written_is t = rw stored

    pub whole-good : (t : Tree) → outermost_at f bytes text first ≡ whole t → (bytes ≡ written f t) × Fitting f t × Legal text t
    unfolding outermost_at outermost_fault Fitting Legal LegalAt end_of
    whole-good t e =
        let k : Head = head_at f bytes first in
        let room : ℕ = length bytes - first in
        let a = tested-passed (outermost_fault f room text k) first _ t e in
        let c = onward-passed (children_at f bytes (length bytes) (parent first k 1) 0 false (first + head_size f) (k.len - head_size f)) (λ ts. whole (node k.kind k.start k.end ts)) t a.1 in
        let S = sound (unfit f room k || ltb k.len room) true 0 (length text) k a.0 in
        let w = unfit-false f room k (or_left (unfit f room k) _ S.holds) in
        let all : room ≤ k.len = ltb-false k.len room (or_right (unfit f room k) _ S.holds) in
        let G = forward (length bytes) (parent first k 1) 0 false (first + head_size f) (k.len - head_size f) c.got (omega (arith, w.2)) (omega (arith, w.1, w.2, w.0, positive)) c.is in
        let r = record-part first c.got w.1 (omega (arith, w.2, w.0, positive)) G.written_as in
        let T : Tree = node k.kind k.start k.end c.got in
        let b : bytes ≡ written f T = sym (take-append-drop first bytes) ∙ ap (λ (x : List ℕ). x ++ drop first bytes) front-told ∙ ap (λ (x : List ℕ). front f ++ x) (sym (take_all k.len (drop first bytes) (omega (arith, length-drop first bytes))) ∙ r.0) ∙ sym (written_is T) in
        subst (λ (x : Tree). (bytes ≡ written f x) × Fitting f x × Legal text x) (whole_same c.then)
        (b, (kind_fits first, start_fits first, end_fits first, omega (arith, r.1, len-fits first), G.fitting), (S.before, (S.kind, S.order, omega arith, G.legal)))

    unfoldable outer_with : Head → Opened Tree
    outer_with h =
        tested (outermost_fault f (length bytes - first) text h) first λ _.
        onward (children_at f bytes (length bytes) (parent first h 1) 0 false (first + head_size f) (h.len - head_size f)) λ ts.
        whole (node h.kind h.start h.end ts)

    outer-passed : (h : Head) (ts : Trees) → outermost_fault f (length bytes - first) text h ≡ 0 → children_at f bytes (length bytes) (parent first h 1) 0 false (first + head_size f) (h.len - head_size f) ≡ whole ts
        → outer_with h ≡ whole (node h.kind h.start h.end ts)
    unfolding outer_with tested onward
    outer-passed h ts a b = rw (a, b)

    outer-is : outermost_at f bytes text first ≡ outer_with (head_at f bytes first)
    unfolding outermost_at outer_with
    outer-is = refl

    pub back_whole : (t : Tree) → bytes ≡ written f t → Fitting f t → Legal text t → outermost_at f bytes text first ≡ whole (unspelled t)
    unfolding Legal outermost_fault
    back_whole t e g l =
        let r : List ℕ = recorded_all f (children_of t) in
        let hd : List ℕ = head f (length r) (kind_of t) (start_of t) (end_of t) in
        let d : drop first bytes ≡ hd ++ r = ap (drop first) (e ∙ written_is t) ∙ drop-append_seam (front f) (recorded f t) ∙ recorded-as t in
        let n : length bytes ≡ first + (head_size f + length r) = ap length (e ∙ written_is t) ∙ length-append (front f) (recorded f t) ∙ omega (arith, ap length (recorded-as t), length-append hd r, head-long f (length r) (kind_of t) (start_of t) (end_of t)) in
        let w : part bytes first (head_size f + length r + 0) ≡ (hd ++ r) ++ [] = take_all (head_size f + length r + 0) (drop first bytes) (omega (arith, length-drop first bytes, n)) ∙ d ∙ sym (append-nil (hd ++ r)) in
        let x = bytes_apart first (length r) 0 hd r [] (omega (arith, n)) (head-long f (length r) (kind_of t) (start_of t) (end_of t)) refl w in
        let a = fitting-as t g in
        let b = legal-as 1 t l.1 in
        let K : Head = record { len = length r + head_size f; kind = kind_of t; start = start_of t; end = end_of t } in
        let K-is : head_at f bytes first ≡ K = head-told (kind_of t) (start_of t) (end_of t) (children_of t) first (omega (arith, n)) a.0 a.1 a.2 a.3 x.0 in
        let room : ℕ = length bytes - first in
        let n-is : length r + head_size f - head_size f ≡ length r = omega arith in
        outer-is ∙ ap outer_with K-is
        ∙ outer-passed K (unspelled_all (children_of t))
        (faultless (unfit f room K || ltb K.len room) true 0 (length text) K (rw (fit_is f room K (omega (arith, n)) (omega arith) (omega (arith, n))) (le-ltb K.len room (omega (arith, n)))) b.0 refl b.1 (omega arith) l.0)
        (rw n-is (back-tree t (length bytes) (parent first K 1) 0 false (first + head_size f) (omega (arith, n)) (omega (arith, n)) x.1 a.4 b.3))
        ∙ ap whole (sym (unspelled-as t))

pub open-is-outermost : (bytes text : List ℕ) → length text ≤ text_limit → open_tree bytes text ≡ outermost_at (form_told bytes) bytes text (first_at (form_told bytes))
unfolding open_tree tested
open-is-outermost bytes text h = rw (le-ltb text_limit (length text) h)

-- what is written of a legal tree opens as it, but for its words
pub opens : (bytes text : List ℕ) → Bytes bytes → length text ≤ text_limit → (t : Tree) → bytes ≡ written (form_told bytes) t → Fitting (form_told bytes) t → Legal text t → open_tree bytes text ≡ whole (unspelled t)
unfolding form_told
opens bytes text small short t e g l = open-is-outermost bytes text short ∙ back_whole (begins (front FormWide) bytes) bytes small text refl t e g l

pub opened-good : (bytes text : List ℕ) → Bytes bytes → (t : Tree) → open_tree bytes text ≡ whole t → (bytes ≡ written (form_told bytes) t) × Fitting (form_told bytes) t × Legal text t
unfolding form_told open_tree
opened-good bytes text small t e = whole-good (begins (front FormWide) bytes) bytes small text refl t (tested-passed _ 0 _ t e).1

pub exactly : Exactly
exactly bytes text small short t plain = (λ e. opened-good bytes text small t e, λ g. opens bytes text small short t g.0 g.1 g.2 ∙ ap whole plain)
