-- The marks: the longest that fits is the first that fits, is no longer than the text, and fits its own bytes alone.
use mathlib.Core.Path.{◌≡◌, refl, sym, ◌∙◌}
use mathlib.Core.Bool.{Bool, true, false, cond, ◌&&◌}
use mathlib.Core.List.{List, [], ◌∷◌}
use Prim.Native.Nat.{ℕ, ◌≤◌}
use native.Mathlib.Omega.{arith}
use borrow.Author.Tests.{le-leb, leb-true}
use lib.Dec.{leb}
use lib.ListN.{length, take}
use Rattle.classes.specs.Bytes.{begins}
use Rattle.words.specs.Tables.{Entry, long_marks, double_marks, single_marks, marks}
use Rattle.words.specs.Search.{longer, longest, mark_of, first_fit}
use Rattle.words.specs.declared.Fit.{Fit}
use Rattle.classes.proofs.Bools.{and_left, and_right}
use Rattle.classes.proofs.Cut.{begins-short, begins-cut, begins-uncut}

-- no entry is longer than n or than the entry before it
fall : ℕ → List Entry → Bool
fall n [] = true
fall n (e ∷ es) = leb (length e.word) n && fall (length e.word) es

marks-fall : fall 5 marks ≡ true
unfolding fall marks long_marks double_marks single_marks
marks-fall = refl

step-below : (b : Bool) (e : Entry) (f : Fit) → f.len ≤ length e.word → (longer b e f).len ≤ length e.word
step-below true e f h = rw (le-leb f.len (length e.word) h) (omega arith)
step-below false e f h = h

below-longest : (n : ℕ) (t : List Entry) (s : List ℕ) → fall n t ≡ true → (longest t s).len ≤ n
unfolding fall longest
below-longest n [] s h = omega arith
below-longest n (e ∷ es) s h =
    let a : length e.word ≤ n = leb-true _ _ (and_left (leb (length e.word) n) (fall (length e.word) es) h) in
    let b : (longest es s).len ≤ length e.word
    = below-longest (length e.word) es s (and_right (leb (length e.word) n) (fall (length e.word) es) h) in
    let c : (longer (begins e.word s) e (longest es s)).len ≤ length e.word = step-below (begins e.word s) e (longest es s) b in
    omega arith

-- the entry, where s begins with it
fit_of : Entry → Fit
fit_of e = record { len = length e.word; kind = e.kind }

step-first : (b : Bool) (e : Entry) (f g : Fit) → f.len ≤ length e.word → f ≡ g → longer b e f ≡ cond b (fit_of e) g
unfolding fit_of
step-first true e f g h p = rw (le-leb f.len (length e.word) h)
step-first false e f g h p = p

first-longest : (n : ℕ) (t : List Entry) (s : List ℕ) → fall n t ≡ true → longest t s ≡ first_fit t s
unfolding fall longest first_fit fit_of
first-longest n [] s h = refl
first-longest n (e ∷ es) s h =
    let r : fall (length e.word) es ≡ true = and_right (leb (length e.word) n) (fall (length e.word) es) h in
    step-first (begins e.word s) e (longest es s) (first_fit es s) (below-longest (length e.word) es s r) (first-longest (length e.word) es s r)

pub mark-first : (s : List ℕ) → mark_of s ≡ first_fit marks s
unfolding mark_of
mark-first s = first-longest 5 marks s marks-fall

-- what fits is no longer than s
short-step : (b : Bool) (e : Entry) (f : Fit) (s : List ℕ) → begins e.word s ≡ b → f.len ≤ length s → (cond b (fit_of e) f).len ≤ length s
unfolding fit_of
short-step true e f s p h = begins-short e.word s p
short-step false e f s p h = h

pub fit-short : (t : List Entry) (s : List ℕ) → (first_fit t s).len ≤ length s
unfolding first_fit fit_of
fit-short [] s = omega arith
fit-short (e ∷ es) s = short-step (begins e.word s) e (first_fit es s) s refl (fit-short es s)

pub mark-short : (s : List ℕ) → (mark_of s).len ≤ length s
mark-short s = rw (mark-first s) (fit-short marks s)

-- a word that does not fit does not fit the first bytes
begins-less : (w s : List ℕ) (n : ℕ) → begins w s ≡ false → begins w (take n s) ≡ false
begins-less w s n h = go (begins w (take n s)) refl
  where
    go : (b : Bool) → begins w (take n s) ≡ b → b ≡ false
    go true p = sym (begins-uncut w s n p) ∙ h
    go false p = refl

alone-step : (b : Bool) (e : Entry) (es : List Entry) (s : List ℕ) → begins e.word s ≡ b
    → first_fit es (take (first_fit es s).len s) ≡ first_fit es s
    → first_fit (e ∷ es) (take (cond b (fit_of e) (first_fit es s)).len s) ≡ cond b (fit_of e) (first_fit es s)
unfolding first_fit fit_of
alone-step true e es s p h = rw (begins-cut e.word s (length e.word) (omega arith) p)
alone-step false e es s p h = rw (begins-less e.word s (first_fit es s).len p) h

pub fit-alone : (t : List Entry) (s : List ℕ) → first_fit t (take (first_fit t s).len s) ≡ first_fit t s
unfolding first_fit fit_of
fit-alone [] s = refl
fit-alone (e ∷ es) s = alone-step (begins e.word s) e es s refl (fit-alone es s)

pub mark-alone : (s : List ℕ) → mark_of (take (mark_of s).len s) ≡ mark_of s
mark-alone s = rw (mark-first (take (mark_of s).len s), mark-first s) (fit-alone marks s)
