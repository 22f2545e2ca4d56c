-- Where the closed parts of a gap end. Of a gap that ends clear this is its end; of one with an unclosed block comment the first
-- byte of that comment, its outermost opener, where `broken` tells the innermost one that is open.
use Rattle.gap.specs.declared.GapPart.{GapPart}
use Rattle.gap.specs.declared.Unclosed.{Unclosed}
use Rattle.gap.specs.declared.GapPart.TheVariants.{Pass, Doc}
use Rattle.std.specs.Prelude.{ℕ, zero, suc, ◌-◌, List, [], ◌∷◌, Result, Ok, Err, Option, Some, None}
use Rattle.gap.specs.Comments.{part_at}

-- from the gap's first part on, as `gap_from` goes: that part begins at p, and `go` is where the closed parts end once some more
-- bytes are passed over behind the first
abbrev pub parts_from : Result (Option GapPart) Unclosed → ℕ → (ℕ → ℕ) → ℕ
parts_from (Ok (Some (Pass e))) p go = go (e - suc p)
parts_from (Ok (Some (Doc c))) p go = go (c.end - suc p)
parts_from (Err w) p go = p
parts_from (Ok None) p go = p

-- of the gap at the front of the bytes, whose first is at p, once k of them are passed over
unfoldable pub parts_end : ℕ → ℕ → List ℕ → ℕ
parts_end k p [] = p
parts_end (suc k) p (a ∷ s) = parts_end k (suc p) s
parts_end zero p (a ∷ s) = parts_from (part_at p (a ∷ s)) p (λ k. parts_end k (suc p) s)
