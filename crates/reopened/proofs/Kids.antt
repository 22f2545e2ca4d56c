-- Records over legal children, by the table of children: the ways in which the grammar's records are made.
use mathlib.Core.Path.{◌≡◌, refl, ◌∙◌}
use mathlib.Core.Bool.{Bool, true, false, cond, ◌||◌}
use mathlib.Core.List.{List}
use Prim.Native.Nat.{ℕ, zero, suc, ◌+◌, ◌<◌, ◌≤◌}
use native.Mathlib.Omega.{arith}
use borrow.Author.Tests.{leb-true, le-leb, lt-leb, eqb-true, ne_eqb}
use lib.Dec.{eqb, leb, eqb-suc-zero}
use Rattle.classes.specs.Class.{in_range}
use Rattle.classes.proofs.Bools.{false-true, and_left, and_right}
use Rattle.records.specs.Kinds.{RecField}
use Rattle.records.specs.Tree.{Tree, leaf, node, Trees, none, more, joined}
use Rattle.records.specs.Spans.{start_of, Nested, Within, unspelled, unspelled_all}
use Rattle.saved.specs.Children.{is_chain, is_type, is_binding, is_kind, allows, slot, may, least, deepens, is_leaf}
use Rattle.saved.specs.Open.{levels}
use Rattle.saved.specs.Child.{kind_of}
use Rattle.saved.specs.Legal.{LegalAt, LegalChildren, word_in, reworded, reworded_all}
use Rattle.saved.specs.declared.Allowed.{Allowed}
use Rattle.saved.specs.declared.Allowed.TheVariants.{NoChild, FirstPart, NamePart, PairPart, AnyChain, AnyType, AnyBinding, AnyField, TypesThenFields}
use Rattle.saved.specs.declared.Row.{Row}

-- what may stand at one place, by one kind of child; which of these deepen, and which are fields
abbrev pub single : Allowed → Bool
single NoChild = true
single FirstPart = true
single NamePart = true
single PairPart = true
single AnyChain = true
single AnyType = true
single AnyBinding = true
single AnyField = true
single TypesThenFields = false

abbrev pub deep : Allowed → Bool
deep NoChild = false
deep FirstPart = false
deep NamePart = false
deep PairPart = false
deep AnyChain = false
deep AnyType = true
deep AnyBinding = false
deep AnyField = true
deep TypesThenFields = true

abbrev pub fielded : Allowed → Bool
fielded NoChild = false
fielded FirstPart = false
fielded NamePart = false
fielded PairPart = false
fielded AnyChain = false
fielded AnyType = false
fielded AnyBinding = false
fielded AnyField = true
fielded TypesThenFields = true

between : (a b k : ℕ) → in_range a b k ≡ true → (a ≤ k) × (k ≤ b)
unfolding in_range
between a b k h = (leb-true a k (and_left (leb a k) (leb k b) h), leb-true k b (and_right (leb a k) (leb k b) h))

no-type-below : (k : ℕ) → k < 10 → is_type k ≡ false
unfolding is_type in_range
no-type-below k h = rw (lt-leb 10 k h)

no-type-above : (k : ℕ) → 16 < k → is_type k ≡ false
unfolding is_type in_range
no-type-above k h = rw (le-leb 10 k (omega arith), lt-leb k 16 h)

type-below : (k : ℕ) → is_type k ≡ true → k ≤ 16
unfolding is_type
type-below k h = (between 10 16 k h).1

record Levelled (a : Allowed) (k : ℕ) : Type 0 where
  deepens-as : (c : ℕ) → deepens c k ≡ deep a
  field-as : eqb k RecField ≡ fielded a

low : (a : Allowed) (k : ℕ) → deep a ≡ false → fielded a ≡ false → k < 10 → Levelled a k
unfolding deepens
low a k d f h = record { deepens-as = λ c. rw (no-type-below k h, ne_eqb k RecField (λ e. omega arith), d); field-as = rw f (ne_eqb k RecField (λ e. omega arith)) }

or_cases : (P : Type 0) (a b : Bool) → (a || b) ≡ true → (a ≡ true → P) → (b ≡ true → P) → P
or_cases P true b h f g = f refl
or_cases P false b h f g = g h

levelled : (a : Allowed) (k : ℕ) → single a ≡ true → allows a false k ≡ true → Levelled a k
unfolding allows is_chain is_binding deepens
levelled NoChild k s h = false-true _ h
levelled FirstPart k s h = or_cases (Levelled FirstPart k) (eqb k 1) (eqb k 2) h (λ e. let z = eqb-true k 1 e in low FirstPart k refl refl (omega arith)) (λ e. let z = eqb-true k 2 e in low FirstPart k refl refl (omega arith))
levelled NamePart k s h = let z = eqb-true k 1 h in low NamePart k refl refl (omega arith)
levelled PairPart k s h = let z = eqb-true k 6 h in low PairPart k refl refl (omega arith)
levelled AnyChain k s h = let z = between 3 5 k h in low AnyChain k refl refl (omega arith)
levelled AnyType k s h = let z = type-below k h in record { deepens-as = λ c. rw h; field-as = ne_eqb k RecField (λ e. omega arith) }
levelled AnyBinding k s h =
    let z = between 20 22 k h in
    record { deepens-as = λ c. rw (no-type-above k (omega arith), ne_eqb k RecField (λ e. omega arith)); field-as = ne_eqb k RecField (λ e. omega arith) }
levelled AnyField k s h =
    let z = eqb-true k RecField h in
    record { deepens-as = λ c. rw (no-type-above k (omega arith), h); field-as = h }
levelled TypesThenFields k s h = false-true _ s

module _ (text : List ℕ) where
  -- a tree that is legal at every level that leaves it this room, and whose words are those of the text
  pub record Good (room : ℕ) (x : Tree) : Type 0 where
    pub legal : Nested x → (n : ℕ) → n + room ≤ suc levels → LegalAt n x
    pub words : reworded text (unspelled x) ≡ x

  -- the same as a child
  pub record Kid (a : Allowed) (room : ℕ) (x : Tree) : Type 0 where
    pub good : Good room x
    pub kind : allows a false (kind_of x) ≡ true

  abbrev pub Kids : Allowed → ℕ → Trees → Type 0
  Kids a room none = Unit {0}
  Kids a room (more t ts) = Kid a room t × Kids a room ts

  abbrev pub Words : Trees → Type 0
  Words ts = reworded_all text (unspelled_all ts) ≡ ts

  pub words-none : Words none
  unfolding reworded_all unspelled_all
  words-none = refl

  pub words_more : (t : Tree) (ts : Trees) → reworded text (unspelled t) ≡ t → Words ts → Words (more t ts)
  unfolding reworded_all unspelled_all
  words_more t ts h g = rw (h, g)

  pub words-joined : (a : Allowed) (room : ℕ) (ts us : Trees) → Kids a room ts → Words us → Words (joined ts us)
  unfolding joined
  words-joined a room none us k w = w
  words-joined a room (more t ts) us k w = words_more t (joined ts us) k.0.good.words (words-joined a room ts us k.1 w)

  -- of a record of kind c from s to e, at level n, which has this room
  module _ (c s e n room : ℕ) (high : n + room ≤ suc levels) where
    abbrev Legally : (p index : ℕ) (field : Bool) → Trees → Type 0
    Legally p index field ts = s ≤ p → Within p ts e → LegalChildren n c s e index field ts

    -- one child more in front
    pub kid : (a : Allowed) (r : ℕ) (t : Tree) (ts : Trees) (p index : ℕ) (field : Bool) → single a ≡ true → Kid a r t → may c index field (kind_of t) ≡ true → r + cond (deep a) 1 0 ≤ room
        → Legally (start_of t) (suc index) (field || fielded a) ts → Legally p index field (more t ts)
    unfolding LegalChildren Within
    kid a r t ts p index field sg k m l rest h w =
        let v = levelled a (kind_of t) sg k.kind in
        (m, omega (arith, w.0), w.1, rw (v.deepens-as c) (k.good.legal w.2 (cond (deep a) (suc n) n) (deeper (deep a) l)), rw v.field-as (rest (omega (arith, w.0)) w.3))
      where
        deeper : (b : Bool) → r + cond b 1 0 ≤ room → cond b (suc n) n + r ≤ suc levels
        deeper true x = omega arith
        deeper false x = omega arith

    pub kids-end : (p index : ℕ) (field : Bool) → least c ≤ index → Legally p index field none
    unfolding LegalChildren
    kids-end p index field h a b = h

    -- children of one kind in front: from an index on they may stand at each, with a field before them or not
    pub kids : (a : Allowed) (r : ℕ) (us ts : Trees) (p index : ℕ) (field : Bool) → single a ≡ true → Kids a r us
        → ((j : ℕ) (b : Bool) (k : ℕ) → index ≤ j → (fielded a ≡ false → b ≡ field) → allows a false k ≡ true → may c j b k ≡ true) → r + cond (deep a) 1 0 ≤ room
        → ((p j : ℕ) (b : Bool) → index ≤ j → (fielded a ≡ false → b ≡ field) → Legally p j b ts) → Legally p index field (joined us ts)
    unfolding joined
    kids a r none ts p index field sg k m l rest = rest p index field (omega arith) (λ _. refl)
    kids a r (more u us) ts p index field sg k m l rest =
        kid a r u (joined us ts) p index field sg k.0 (m index field (kind_of u) (omega arith) (λ _. refl) k.0.kind) l
        (kids a r us ts (start_of u) (suc index) (field || fielded a) sg k.1 (λ j b x h g y. m j b x (omega arith) (λ z. g z ∙ as_it_was z) y) l (λ q j b h g. rest q j b (omega arith) (λ z. g z ∙ as_it_was z)))
      where
        as_it_was : fielded a ≡ false → (field || fielded a) ≡ field
        as_it_was z = rw z (or-false field)
          where
            or-false : (b : Bool) → (b || false) ≡ b
            or-false true = refl
            or-false false = refl

  -- a record over its children, and a leaf
  pub node-good : (c s e : ℕ) (ts : Trees) (room : ℕ) → is_kind c ≡ true → is_leaf c ≡ false → Words ts → 1 ≤ room
      → ((n : ℕ) → n + room ≤ suc levels → (p : ℕ) → s ≤ p → Within p ts e → LegalChildren n c s e 0 false ts) → Good room (node c s e ts)
  unfolding LegalAt Nested unspelled reworded
  node-good c s e ts room k l w h f = record { legal = λ d n g. (k, d.0, omega arith, f n g s (omega arith) d.1); words = rw (l, w) }

  pub leaf-good : (c s e : ℕ) (w : List ℕ) → is_kind c ≡ true → is_leaf c ≡ true → least c ≤ 0 → w ≡ word_in text c s e → (room : ℕ) → 1 ≤ room → Good room (leaf c s e w)
  unfolding LegalAt Nested unspelled reworded unspelled_all
  leaf-good c s e w k l m v room h = record { legal = λ d n g. (k, d, omega arith, m); words = rw (l, v) }

-- what every index from 1 on has; and every index at all
pub from_one : (r : Row) (a : Allowed) (j : ℕ) → r.second ≡ a → r.later ≡ a → 1 ≤ j → slot r j ≡ a
unfolding slot
from_one r a (suc j) x y h = rw (eqb-suc-zero j) (go (eqb (suc j) 1))
  where
    go : (b : Bool) → cond b r.second r.later ≡ a
    go true = x
    go false = y
from_one r a zero x y h = absurd (omega arith)

pub from-none : (r : Row) (a : Allowed) (j : ℕ) → r.first ≡ a → r.second ≡ a → r.later ≡ a → slot r j ≡ a
unfolding slot
from-none r a j w x y = go (eqb j 0) (eqb j 1)
  where
    go : (b d : Bool) → cond b r.first (cond d r.second r.later) ≡ a
    go true d = w
    go false true = x
    go false false = y
