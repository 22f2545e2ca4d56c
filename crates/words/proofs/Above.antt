-- No entry of the tables has the kind of EOF, 0, or of a number, 1 and 2.
use mathlib.Core.Path.{◌≡◌, refl}
use mathlib.Core.Bool.{Bool, true, false, cond, ◌&&◌}
use mathlib.Core.List.{List, [], ◌∷◌}
use Prim.Native.Nat.{ℕ, ◌<◌}
use native.Mathlib.Omega.{arith}
use borrow.Author.Tests.{ltb-true}
use lib.Dec.{leb, ltb}
use lib.ListN.{length}
use Rattle.classes.specs.Bytes.{begins}
use Rattle.classes.proofs.Bools.{and_left, and_right}
use Rattle.words.specs.Tables.{Entry, keywords, long_marks, double_marks, single_marks, marks}
use Rattle.words.specs.Search.{same, lookup, kind_of, longer, longest, mark_of}
use Rattle.words.specs.declared.Fit.{Fit}

abbrev above : List Entry → Bool
above [] = true
above (e ∷ es) = ltb 2 e.kind && above es

look-step : (e : Entry) (w : List ℕ) (k : ℕ) (b : Bool) → ltb 2 e.kind ≡ true → 2 < k → 2 < cond b e.kind k
look-step e w k true h g = ltb-true 2 e.kind h
look-step e w k false h g = g

look-above : (t : List Entry) (w : List ℕ) → above t ≡ true → 2 < lookup t w
unfolding lookup
look-above [] w h = omega arith
look-above (e ∷ es) w h =
    look-step e w (lookup es w) (same w e.word) (and_left (ltb 2 e.kind) (above es) h) (look-above es w (and_right (ltb 2 e.kind) (above es) h))

pub name-above : (w : List ℕ) → 2 < kind_of w
unfolding kind_of keywords
name-above w = look-above keywords w refl

long-step : (e : Entry) (s : List ℕ) (f : Fit) (b : Bool) → ltb 2 e.kind ≡ true → (0 < f.len → 2 < f.kind) → 0 < (longer b e f).len → 2 < (longer b e f).kind
long-step e s f false h g = g
long-step e s f true h g = go (leb f.len (length e.word))
  where
    go : (b : Bool) → 0 < (cond b (record { len = length e.word; kind = e.kind }) f).len → 2 < (cond b (record { len = length e.word; kind = e.kind }) f).kind
    go true k = ltb-true 2 e.kind h
    go false k = g k

long-above : (t : List Entry) (s : List ℕ) → above t ≡ true → 0 < (longest t s).len → 2 < (longest t s).kind
unfolding longest
long-above [] s h k = absurd (omega arith)
long-above (e ∷ es) s h k =
    long-step e s (longest es s) (begins e.word s) (and_left (ltb 2 e.kind) (above es) h) (long-above es s (and_right (ltb 2 e.kind) (above es) h)) k

pub mark-above : (s : List ℕ) → 0 < (mark_of s).len → 2 < (mark_of s).kind
unfolding mark_of marks long_marks double_marks single_marks
mark-above s h = long-above marks s refl h
