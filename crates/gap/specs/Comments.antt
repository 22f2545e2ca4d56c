-- Comments, from their first byte on: where they end, what their text is, and which opener an unclosed one is blamed on.
use Rattle.gap.specs.declared.GapPart.{GapPart}
use Rattle.gap.specs.declared.Unclosed.{Unclosed}
use Rattle.gap.specs.Marks.{unclosed}
use Rattle.gap.specs.declared.GapPart.TheVariants.{Pass, Doc}
use Rattle.std.specs.Prelude.{ℕ, suc, ◌+◌, ◌-◌, Bool, true, false, cond, ◌&&◌, List, [], ◌∷◌, eqb, drop, get_or, Result, Ok, Err, Option, Some, None}
use Rattle.classes.specs.Class.{in_line}
use Rattle.classes.specs.Run.{run_len}
use Rattle.gap.specs.Marks.{is_blank, slashes, opens, closes, doc_line, doc_block}

-- the innermost of the openers that are open
abbrev pub innermost : List ℕ → ℕ
innermost [] = 0
innermost (o ∷ os) = o

-- what a byte at i does in a block comment whose openers still open are os, innermost first: it is the first byte of an
-- opener; of a closing mark, which may be the last; or it is skipped
abbrev pub inside_step : Bool → Bool → List ℕ → ℕ → (Bool → List ℕ → Result ℕ ℕ) → Result ℕ ℕ
inside_step true c os i go = go true (i ∷ os)
inside_step false true [] i go = Ok (i + 2)
inside_step false true (o ∷ []) i go = Ok (i + 2)
inside_step false true (o ∷ q ∷ os) i go = go true (q ∷ os)
inside_step false false os i go = go false os

-- where a block comment ends, or the innermost opener that is still open at the end of the text; the first of the bytes
-- is at i, and b says that it is the second byte of a mark
unfoldable pub inside : Bool → List ℕ → ℕ → List ℕ → Result ℕ ℕ
inside b os i [] = Err (innermost os)
inside true os i (a ∷ s) = inside false os (suc i) s
inside false os i (a ∷ s) = inside_step (opens a (get_or s 0 0)) (closes a (get_or s 0 0)) os i (λ b os. inside b os (suc i) s)

-- where the text of a line comment ends: behind the last byte before LF that is no CR, t where there is none
unfoldable pub line_text : ℕ → ℕ → List ℕ → ℕ
line_text t i [] = t
line_text t i (a ∷ s) = cond (eqb a 10) t (line_text (cond (eqb a 13) t (suc i)) (suc i) s)

-- the line comment s, whose first byte is at p; it ends before LF
unfoldable pub line_comment : ℕ → List ℕ → Result (Option GapPart) Unclosed
line_comment p s =
    cond (doc_line (get_or s 2 0) (get_or s 3 0))
    (Ok (Some (Doc (record { start = p; end = p + run_len in_line s; from = p + 3; to = line_text p p s }))))
    (Ok (Some (Pass (p + run_len in_line s))))

-- the block comment at p, doc or plain, by where it ends; a doc opener, which only the outermost can be, has 3 bytes
unfoldable pub block_comment : Bool → ℕ → Result ℕ ℕ → Result (Option GapPart) Unclosed
block_comment true p (Ok e) = Ok (Some (Doc (record { start = p; end = e; from = p + 3; to = e - 2 })))
block_comment false p (Ok e) = Ok (Some (Pass e))
block_comment d p (Err o) = Err (unclosed o (o + cond (d && eqb o p) 3 2))

-- the part of a gap that the bytes s, whose first is at p, begin with
unfoldable pub part_at : ℕ → List ℕ → Result (Option GapPart) Unclosed
part_at p s =
    cond (is_blank (get_or s 0 0) (get_or s 1 0)) (Ok (Some (Pass (p + 1))))
    (cond (slashes (get_or s 0 0) (get_or s 1 0)) (line_comment p s)
    (cond (opens (get_or s 0 0) (get_or s 1 0)) (block_comment (doc_block (get_or s 2 0) (get_or s 3 0)) p (inside false (p ∷ []) (p + 2) (drop 2 s))) (Ok None)))
