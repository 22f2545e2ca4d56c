-- The record of an entry, written piece by piece.
use mathlib.Core.Path.{◌≡◌, ap, sym, ◌∙◌}
use mathlib.Core.List.{List, ◌++◌}
use Prim.Native.Nat.{ℕ, ◌+◌, ◌*◌, ◌≤◌}
use native.Mathlib.Omega.{arith}
use lib.ListN.{length}
use lib.Seq.{sets}
use Rattle.buffer.proofs.Sets.{sets-out}
use Rattle.records.specs.Stored.{little_endian, head_of}
use Rattle.records.proofs.Numbers.{number-long, head-long}
use Rattle.records.proofs.Pieces.{both, head-pieces}
use Rattle.tokens.specs.declared.Place.{Place}
use Rattle.outline.specs.Entry.{Entry, entry, size_of, entry_bytes}

-- its numbers, which have w bytes each but the keyword; where the code's number of bytes, u, is said by w too
pub entry-pieces : (u w : ℕ) → u ≡ w → (l m n o q r s : List ℕ) (i k : ℕ) (name comment : Place) → m ≡ sets l i (little_endian w (2 + 5 * u))
    → n ≡ sets m (i + u) (little_endian 2 k) → o ≡ sets n (i + u + 2) (little_endian w name.start) → q ≡ sets o (i + 2 * u + 2) (little_endian w name.end)
    → r ≡ sets q (i + 3 * u + 2) (little_endian w comment.start) → s ≡ sets r (i + 4 * u + 2) (little_endian w comment.end)
    → s ≡ sets l i (entry_bytes w (entry k name comment))
unfolding entry_bytes
entry-pieces u w z l m n o q r s i k name comment a b c d e f =
    let h = head_of w (size_of w) k name.start name.end in
    let g : i + length h ≡ i + 3 * u + 2 = omega (arith, head-long w (size_of w) k name.start name.end, z) in
    let j : i + 3 * u + 2 + length (little_endian w comment.start) ≡ i + 4 * u + 2 = omega (arith, number-long w comment.start, z) in
    both l q s h (little_endian w comment.start ++ little_endian w comment.end) i
    (head-pieces u w z l m n o q i (size_of w) k name.start name.end (a ∙ ap (λ (x : ℕ). sets l i (little_endian w (2 + 5 * x))) z) b c d)
    (rw g (both q r s (little_endian w comment.start) (little_endian w comment.end) (i + 3 * u + 2) e (rw j f)))

-- behind the buffer's end no byte is written
pub past-entry : (w : ℕ) (e : Entry) (l : List ℕ) (i : ℕ) → length l ≤ i → l ≡ sets l i (entry_bytes w e)
past-entry w e l i h = sym (sets-out (entry_bytes w e) l i h)
