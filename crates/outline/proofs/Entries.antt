-- Theorem 5: where an entry's comment comes from, that its numbers fit, and the order of names.
use mathlib.Core.Path.{◌≡◌, refl}
use mathlib.Core.Bool.{Bool, true, false, ◌||◌}
use mathlib.Core.List.Memᴰ
use mathlib.Core.List.{List, [], ◌∷◌, Memᴰ, map}
use Prim.Native.Nat.{ℕ, ◌^◌, ◌<◌, ◌≤◌}
use native.Mathlib.Omega.{arith}
use borrow.Author.Tests.{eqb-true}
use lib.Dec.{eqb}
use lib.ListN.{length}
use Rattle.gap.specs.declared.Comment.{Comment}
use Rattle.tokens.specs.Calls.{text_limit}
use Rattle.tokens.specs.Walk.{tokens_at}
use Rattle.tokens.specs.declared.Place.{Place}
use Rattle.outline.specs.Entry.{Entry, width_in, size_of}
use Rattle.outline.specs.Outline.{declares, no_place, handed}
use Rattle.outline.specs.Theorems.{span_of, Every, docs_from, Fits, InOrder, EntriesSound}
use Rattle.outline.proofs.Steps.{Claim, Closed}
use Rattle.outline.proofs.Asked.{fault-place, accepted-fine, outlined-each}
use Rattle.outline.proofs.Docs.{EachDoc}
use Rattle.outline.proofs.Kept.{InText, text-none, handed-in-text, handed-keyword, Commented, commented, Keyworded, keyworded, docs-inside}
use Rattle.outline.proofs.Sizes.{width-cases}
use Rattle.outline.proofs.Resumed.{EndsInText, ends-in-text}

-- what holds of every entry, from three things that do
pub every-three : (P Q R S : Entry → Type 0) → ((e : Entry) → P e → Q e → R e → S e) → (es : List Entry) → Every P es → Every Q es → Every R es → Every S es
unfolding Every
every-three P Q R S f [] h g i = tt
every-three P Q R S f (e ∷ es) h g i = (f e h.0 g.0 i.0, every-three P Q R S f es h.1 g.1 i.1)

-- names in order
order_from : (m from to : ℕ) (es : List Entry) → m ≤ from → InOrder from to es → InOrder m to es
unfolding InOrder
order_from m from to [] h o = omega arith
order_from m from to (e ∷ es) h o = (omega (arith, o.0), o.1, o.2)

order-to : (from to : ℕ) (es : List Entry) → InOrder from to es → from ≤ to
unfolding InOrder
order-to from to [] o = o
order-to from to (e ∷ es) o = omega (arith, o.0, o.1, order-to e.name.end to es o.2)

abbrev UpTo : ℕ → Entry → Type 0
UpTo n e = (e.name.start ≤ n) × (e.name.end ≤ n)

order-each : (n from to : ℕ) (es : List Entry) → to ≤ n → InOrder from to es → Every (UpTo n) es
unfolding InOrder Every
order-each n from to [] h o = tt
order-each n from to (e ∷ es) h o =
    let g = order-to e.name.end to es o.2 in
    ((omega (arith, o.1), omega arith), order-each n e.name.end to es h o.2)

abbrev Orders : Claim
Orders at p k n l a = InOrder at a.end a.entries

orders : (ed : ℕ) (text : List ℕ) → Closed ed text Orders
unfolding InOrder
orders ed text =
    record {
      none = λ at p k l w. omega arith;
      over = λ at p k n t w. omega arith;
      full = λ at p n t l w e. omega arith;
      pass = λ at p k n t l b w e ih. order_from at t.end b.end b.entries (omega (arith, w.1, w.2)) ih;
      entry = λ at p k n t l b w e ih. (w.1, w.2, ih);
    }

-- the numbers fit
keyword-fits : (k : ℕ) → declares k ≡ true → k < 256 ^ 2
unfolding declares
keyword-fits k h = go (eqb k 54) (eqb k 62) (eqb k 64) refl refl refl h
  where
    go : (a b c : Bool) → eqb k 54 ≡ a → eqb k 62 ≡ b → eqb k 64 ≡ c → (a || (b || c)) ≡ true → k < 256 ^ 2
    go true b c e f g h = omega (arith, eqb-true k 54 e)
    go false true c e f g h = omega (arith, eqb-true k 62 f)
    go false false true e f g h = omega (arith, eqb-true k 64 g)
    go false false false e f g h = let z : ◌≡◌ {A = ℕ} 0 1 = cc in absurd (omega arith)

fits_in : (text : List ℕ) → length text ≤ text_limit → (length text < 256 ^ width_in text) × (size_of (width_in text) < 256 ^ width_in text)
fits_in text h = width-cases text (λ w. (length text < 256 ^ w) × (size_of w < 256 ^ w)) (λ g. (omega arith, omega arith)) (omega arith, omega arith)

entry-fits : (text : List ℕ) → length text ≤ text_limit → (e : Entry) → InText text e.comment → declares e.keyword ≡ true → UpTo (length text) e → Fits (width_in text) e
entry-fits text h e c k n =
    let f = fits_in text h in
    record {
      size = f.1;
      keyword = keyword-fits e.keyword k;
      start = omega (arith, f.0, n.0);
      end = omega (arith, f.0, n.1);
      from = omega (arith, f.0, c.0);
      to = omega (arith, f.0, c.1);
    }

-- members of a list of comments
docs-mem : (Q : Place → Type 0) (ds : List Comment) → ((c : Comment) → Memᴰ c ds → Q (span_of c)) → EachDoc (λ d. Q (span_of d)) ds
docs-mem Q [] f = tt
docs-mem Q (d ∷ ds) f = (f d (Memᴰ.head refl), docs-mem Q ds (λ c m. f c (Memᴰ.tail m)))

pub entries-sound : EntriesSound
entries-sound ed text at limit p room a e =
    let f = fault-place ed text at (accepted-fine ed text at limit p room a e) in
    let ds = docs_from text at (tokens_at ed text at) in
    let M : Place → Type 0 = λ c. Memᴰ c (no_place ∷ (handed text p).comment ∷ map span_of ds) in
    let o = outlined-each ed text at limit p room Orders (orders ed text) a e in
    let i = outlined-each ed text at limit p room (EndsInText text) (ends-in-text ed text) a e in
    let k = (outlined-each ed text at limit p room Keyworded (keyworded ed text) a e (handed-keyword text p)).0 in
    let c = (outlined-each ed text at limit p room (Commented (InText text) (text-none text) ed text) (commented (InText text) (text-none text) ed text) a e (handed-in-text text p)
    (docs-inside ed text at (tokens_at ed text at))).0 in
    record {
      comments = (outlined-each ed text at limit p room (Commented M (Memᴰ.head refl) ed text) (commented M (Memᴰ.head refl) ed text) a e (Memᴰ.tail (Memᴰ.head refl))
          (docs-mem M ds (λ c m. Memᴰ.tail (Memᴰ.tail (Memᴰ.map span_of m))))).0;
      fits = every-three _ _ _ (Fits (width_in text)) (entry-fits text f.0) a.entries c k (order-each (length text) at a.end a.entries i o);
      keywords = k;
      in_order = o;
      in_text = i;
    }
