-- How many bytes records have, and how many fit.
use mathlib.Core.Path.{◌≡◌, refl, ap, sym, ◌∙◌}
use mathlib.Core.Bool.{Bool, true, false, cond}
use mathlib.Core.List.{List, [], ◌∷◌, ◌++◌, append_assoc}
use Prim.Native.Nat.{ℕ, ◌+◌, ◌*◌, ◌/◌, ◌≤◌}
use native.Mathlib.Omega.{arith}
use native.Mathlib.Nat.{zero-mul, suc-mul}
use borrow.Author.Tests.{ltb-false}
use lib.Dec.{ltb}
use lib.ListN.{length, length-append}
use Rattle.records.specs.Stored.{little_endian, head_of}
use Rattle.records.proofs.Numbers.{number-long, head-long}
use Rattle.outline.specs.Entry.{Entry, narrow_text, width_in, size_of, entry_bytes, all_bytes, records_of, fitting}
use Rattle.outline.specs.Theorems.{JoinedBytes}

pub entry-long : (w : ℕ) (e : Entry) → length (entry_bytes w e) ≡ size_of w
unfolding entry_bytes
entry-long w e =
    let h = head_of w (size_of w) e.keyword e.name.start e.name.end in
    let a = length-append h (little_endian w e.comment.start ++ little_endian w e.comment.end) in
    let b = length-append (little_endian w e.comment.start) (little_endian w e.comment.end) in
    omega (arith, a, b, head-long w (size_of w) e.keyword e.name.start e.name.end, number-long w e.comment.start, number-long w e.comment.end)

all-joined : (w : ℕ) (es fs : List Entry) → all_bytes w (es ++ fs) ≡ all_bytes w es ++ all_bytes w fs
unfolding all_bytes
all-joined w [] fs = refl
all-joined w (e ∷ es) fs = ap (λ (l : List ℕ). entry_bytes w e ++ l) (all-joined w es fs) ∙ sym (append_assoc (entry_bytes w e) (all_bytes w es) (all_bytes w fs))

pub joined_bytes : JoinedBytes
unfolding records_of
joined_bytes text es fs = all-joined (width_in text) es fs

-- what holds for both widths
pub width-cases : (text : List ℕ) (P : ℕ → Type 0) → (length text ≤ narrow_text → P 2) → P 4 → P (width_in text)
unfolding width_in
width-cases text P f g = go (ltb narrow_text (length text)) refl
  where
    go : (b : Bool) → ltb narrow_text (length text) ≡ b → P (cond b 4 2)
    go true e = g
    go false e = f (ltb-false narrow_text (length text) e)

all-long : (w : ℕ) (es : List Entry) → length (all_bytes w es) ≡ length es * size_of w
unfolding all_bytes
all-long w [] = sym (zero-mul (size_of w))
all-long w (e ∷ es) = omega (arith, length-append (entry_bytes w e) (all_bytes w es), entry-long w e, all-long w es, suc-mul (length es) (size_of w))

pub records-long : (text : List ℕ) (es : List Entry) → length (records_of text es) ≡ length es * size_of (width_in text)
unfolding records_of
records-long text es = all-long (width_in text) es

-- room for some records, and more room
pub fitting-more : (text : List ℕ) (es : List Entry) (room : ℕ) → fitting text (length (records_of text es) + room) ≡ length es + fitting text room
unfolding fitting
fitting-more text es room =
    ap (λ (m : ℕ). (m + room) / size_of (width_in text)) (records-long text es)
    ∙ width-cases text (λ w. (length es * size_of w + room) / size_of w ≡ length es + room / size_of w) (λ _. omega arith) (omega arith)
