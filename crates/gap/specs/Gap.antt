-- The gap before a token: blanks and comments, one after the other, with the doc comments among them.
use Rattle.gap.specs.declared.GapPart.{GapPart}
use Rattle.gap.specs.declared.Unclosed.{Unclosed}
use Rattle.gap.specs.Marks.{unclosed}
use Rattle.gap.specs.declared.GapPart.TheVariants.{Pass, Doc}
use Rattle.std.specs.Prelude.{ℕ, zero, suc, ◌-◌, List, [], ◌∷◌, Result, Ok, Err, Option, Some, None}
use Rattle.gap.specs.Comments.{part_at}
use Rattle.gap.specs.declared.Comment.{Comment}

-- how a gap ends: at a place with the bytes from there on, or with an unclosed block comment, whose opener has this span
pub data End : Type 0 where
  clear : (at : ℕ) (rest : List ℕ) → End
  broken : (start end : ℕ) → End

pub record Gap : Type 0 where
  pub docs : List Comment
  pub last : End

abbrev pub noted : Comment → Gap → Gap
noted c g = record { docs = c ∷ g.docs; last = g.last }

-- a gap from its first part on; the bytes s, whose first is at p, begin with that part, and `go` is the gap once some
-- more bytes are passed over behind the first
abbrev pub gap_from : Result (Option GapPart) Unclosed → ℕ → List ℕ → (ℕ → Gap) → Gap
gap_from (Ok (Some (Pass e))) p s go = go (e - suc p)
gap_from (Ok (Some (Doc c))) p s go = noted c (go (c.end - suc p))
gap_from (Err w) p s go = record { docs = []; last = broken w.start w.end }
gap_from (Ok None) p s go = record { docs = []; last = clear p s }

-- the gap at the front of the bytes, whose first is at p, once k of them are passed over
unfoldable pub gap : ℕ → ℕ → List ℕ → Gap
gap k p [] = record { docs = []; last = clear p [] }
gap (suc k) p (a ∷ s) = gap k (suc p) s
gap zero p (a ∷ s) = gap_from (part_at p (a ∷ s)) p (a ∷ s) (λ k. gap k (suc p) s)

-- the answers about a gap: its end, and its first doc comment
unfoldable pub gap_end_of : End → Result ℕ Unclosed
gap_end_of (clear p s) = Ok p
gap_end_of (broken o q) = Err (unclosed o q)

unfoldable pub first_doc : List Comment → End → Result (Option Comment) Unclosed
first_doc (c ∷ cs) e = Ok (Some c)
first_doc [] (clear p s) = Ok None
first_doc [] (broken o q) = Err (unclosed o q)

unfoldable pub doc_of : Gap → Result (Option Comment) Unclosed
doc_of g = first_doc g.docs g.last
