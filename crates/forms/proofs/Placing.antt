-- Pieces of a record, one behind the other, and a record from its children and its head: each law once, for every form.
use mathlib.Core.Path.{◌≡◌, refl, ap, sym, ◌∙◌}
use mathlib.Core.Bool.{Bool, true, false, cond}
use mathlib.Core.List.{List, [], ◌++◌}
use Prim.Native.Nat.{ℕ, ◌+◌, ◌/◌, ◌*◌, ◌%◌, ◌≤◌}
use native.Mathlib.Omega.{arith}
use native.Mathlib.Nat.{mod-add-mod, add-mod}
use borrow.Author.Tests.{ltb-true, ltb-false, eq-eqb, ne_eqb}
use lib.Dec.{ltb}
use lib.ListN.{length, length-append}
use lib.Seq.{sets, length-sets}
use Rattle.buffer.proofs.Sets.{sets-append, sets-out}
use Rattle.records.specs.Stored.{little_endian, head_of}
use Rattle.records.specs.code.Narrow.{two, span, header}
use Rattle.records.proofs.Numbers.{number-turns, head-long as long-head}
use Rattle.records.proofs.Runs.{sets_below}
use Rattle.forms.specs.Forms.{FormNarrow, FormLine, is_line, is_narrow, head, head_size, width}
use Rattle.forms.specs.code.Constructs.{mark_in, headed}
use Rattle.forms.specs.code.Spots.{last, cap, wide, moved_by, size_between, Placed, inside, sealed}
use Rattle.forms.specs.declared.Spot.{Spot}

-- a write at the largest position or behind it is a write nowhere
pub capped : (l xs : List ℕ) (p : ℕ) → length l ≤ last → sets l (cap p) xs ≡ sets l p xs
capped l xs p h = go (ltb p last) refl
  where
    go : (b : Bool) → ltb p last ≡ b → sets l (cap p) xs ≡ sets l p xs
    go true e = let i = ltb-true p last e in let z : cap p ≡ p = omega arith in rw z
    go false e = let i = ltb-false p last e in sets-out xs l (cap p) (omega arith) ∙ sym (sets-out xs l p (omega arith))

abbrev spot : ℕ → ℕ → Spot
spot p q = record { pos = p; low = q }

-- as the code counts it
pub moved_by_lem : (s : Spot) (n p : ℕ) → p ≡ cap (s.pos + n) → spot p ((s.low % wide + n % wide) % wide) ≡ moved_by s n
moved_by_lem s n p e = rw (e, ← add-mod s.low n wide)

-- one way behind another
pub moved_twice : (s : Spot) (a b : ℕ) → moved_by (moved_by s a) b ≡ moved_by s (a + b)
moved_twice s a b =
    let p : cap (cap (s.pos + a) + b) ≡ cap (s.pos + (a + b)) = omega arith in
    let q : s.low + a + b ≡ s.low + (a + b) = omega arith in
    rw (p, mod-add-mod (s.low + a) wide b, q)

-- the size of what lies between two places, in four bytes
size-moved : (s : Spot) (n : ℕ) → size_between s (moved_by s n) ≡ n % wide
size-moved s n = omega arith

-- a head is told by the low four bytes of its size
low_narrow : (n c k s e : ℕ) → head_of 2 (n % wide + c) k s e ≡ head_of 2 (n + c) k s e
unfolding head_of
low_narrow n c k s e =
    let d : n + c ≡ n % wide + c + 65536 * (65536 * (n / wide)) = omega arith in
    ap (λ (x : List ℕ). x ++ (little_endian 2 k ++ (little_endian 2 s ++ little_endian 2 e))) (sym (number-turns 2 (n % wide + c) (65536 * (n / wide))) ∙ ap (little_endian 2) (sym d))

low_wide : (n c k s e : ℕ) → head_of 4 (n % wide + c) k s e ≡ head_of 4 (n + c) k s e
unfolding head_of
low_wide n c k s e =
    let d : n + c ≡ n % wide + c + wide * (n / wide) = omega arith in
    ap (λ (x : List ℕ). x ++ (little_endian 2 k ++ (little_endian 4 s ++ little_endian 4 e))) (sym (number-turns 4 (n % wide + c) (n / wide)) ∙ ap (little_endian 4) (sym d))

-- as the code writes it
module _ (f n k s e : ℕ) where
  pub head-as-narrow : f ≡ FormNarrow → header (n % wide + 8) k s e ≡ head f n k s e
  unfolding head head_size width header span two head_of little_endian
  head-as-narrow h = rw h (low_narrow n 8 k s e)

  pub head-none : f ≡ FormLine → [] ≡ head f n k s e
  unfolding head
  head-none h = rw (eq-eqb f FormLine h)

  pub head-as-wide : (f ≡ FormNarrow → ⊥) → (f ≡ FormLine → ⊥) → head_of 4 (n % wide + 14) k s e ≡ head f n k s e
  unfolding head head_size width
  head-as-wide h g = rw (ne_eqb f FormNarrow h, ne_eqb f FormLine g) (low_wide n 14 k s e)

  head-low : head f (n % wide) k s e ≡ head f n k s e
  unfolding head head_size width
  head-low = go (is_line f) (is_narrow f)
    where
      go : (a b : Bool) → cond a [] (head_of (cond b 2 4) (n % wide + cond a 0 (cond b 8 14)) k s e) ≡ cond a [] (head_of (cond b 2 4) (n + cond a 0 (cond b 8 14)) k s e)
      go true b = refl
      go false true = low_narrow n 8 k s e
      go false false = low_wide n 14 k s e

  pub head-long : length (head f n k s e) ≡ head_size f
  unfolding head head_size width
  head-long = go (is_line f) (is_narrow f)
    where
      go : (a b : Bool) → length (cond a [] (head_of (cond b 2 4) (n + cond a 0 (cond b 8 14)) k s e)) ≡ cond a 0 (cond b 8 14)
      go true b = refl
      go false true = long-head 2 (n + 8) k s e
      go false false = long-head 4 (n + 14) k s e

-- the buffer keeps its length
pub placed-long : (l m xs : List ℕ) (s r : Spot) → Placed l s xs r m → length m ≡ length l
placed-long l m xs s r f = ap length f.holds ∙ length-sets l s.pos xs

-- the same bytes under another name
pub placed-as : (l m xs ys : List ℕ) (s r : Spot) → xs ≡ ys → Placed l s xs r m → Placed l s ys r m
placed-as l m xs ys s r e f = rw e at f

-- one piece behind the other
pub placed-both : (l m n xs ys : List ℕ) (s r q : Spot) → length l ≤ last → Placed l s xs r m → Placed m r ys q n → Placed l s (xs ++ ys) q n
placed-both l m n xs ys s r q h f g =
    let a = placed-long l m xs s r f in
    record {
      ends = g.ends ∙ ap (λ (x : Spot). moved_by x (length ys)) f.ends ∙ moved_twice s (length xs) (length ys) ∙ ap (moved_by s) (sym (length-append xs ys));
      holds =
          g.holds ∙ ap (λ (x : Spot). sets m x.pos ys) f.ends ∙ capped m ys (s.pos + length xs) (omega (arith, a, h))
          ∙ ap (λ (x : List ℕ). sets x (s.pos + length xs) ys) f.holds ∙ sym (sets-append xs ys l s.pos);
    }

-- what stands in front is written last, where room was left for it
pub placed-front : (l m n xs ys : List ℕ) (s r : Spot) → length l ≤ last → Placed l (moved_by s (length xs)) ys r m → n ≡ sets m s.pos xs → Placed l s (xs ++ ys) r n
placed-front l m n xs ys s r h f w =
    record {
      ends = f.ends ∙ moved_twice s (length xs) (length ys) ∙ ap (moved_by s) (sym (length-append xs ys));
      holds =
          w ∙ ap (λ (x : List ℕ). sets x s.pos xs) (f.holds ∙ capped l ys (s.pos + length xs) h)
          ∙ sets_below xs ys l s.pos (s.pos + length xs) (omega arith) ∙ sym (sets-append xs ys l s.pos);
    }

-- a record, from its children, which stand where its head will end
pub placed-headed : (f k st e : ℕ) (l m n body : List ℕ) (s b : Spot) → length l ≤ last → Placed l (inside f s) body b m → n ≡ sealed f k st e s b m → Placed l s (headed f k st e body) b n
unfolding headed
placed-headed f k st e l m n body s b h g w =
    let z : head f (size_between (inside f s) b) k st e ≡ head f (length body) k st e = ap (λ (x : ℕ). head f x k st e) (ap (size_between (inside f s)) g.ends ∙ size-moved (inside f s) (length body)) ∙ head-low f (length body) k st e in
    placed-front l m n (head f (length body) k st e) body s b h
    (rw (head-long f (length body) k st e) g)
    (w ∙ ap (sets m s.pos) z)

-- two marks are one mark of both
pub mark-both : (f : ℕ) (xs ys : List ℕ) → mark_in f xs ++ mark_in f ys ≡ mark_in f (xs ++ ys)
unfolding mark_in
mark-both f xs ys = go (is_line f)
  where
    go : (b : Bool) → cond b xs [] ++ cond b ys [] ≡ cond b (xs ++ ys) []
    go true = refl
    go false = refl

pub marks-both : (f : ℕ) (l m n xs ys : List ℕ) (s r q : Spot) → length l ≤ last → Placed l s (mark_in f xs) r m → Placed m r (mark_in f ys) q n → Placed l s (mark_in f (xs ++ ys)) q n
marks-both f l m n xs ys s r q h d e = placed-as l n (mark_in f xs ++ mark_in f ys) (mark_in f (xs ++ ys)) s q (mark-both f xs ys) (placed-both l m n (mark_in f xs) (mark_in f ys) s r q h d e)

-- the head, as the code makes it
pub sealed-by : (f k st e : ℕ) (s b i : Spot) (z : ℕ) (l m : List ℕ) → i ≡ inside f s → z ≡ size_between i b → m ≡ sets l s.pos (head f z k st e) → m ≡ sealed f k st e s b l
sealed-by f k st e s b i z l m p q w = w ∙ ap (λ (x : ℕ). sets l s.pos (head f x k st e)) (q ∙ ap (λ (x : Spot). size_between x b) p)
