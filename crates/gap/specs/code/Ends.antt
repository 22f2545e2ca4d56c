-- Where a part of a gap ends, whatever it is; and a gap by its end and its last doc comment.
use Rattle.gap.specs.declared.GapPart.{GapPart}
use Rattle.gap.specs.declared.Unclosed.{Unclosed}
use Rattle.gap.specs.declared.GapPart.TheVariants.{Pass, Doc}
use Rattle.std.specs.Prelude.{ℕ, List, [], ◌∷◌, Result, Ok, Err, Option, Some, None}
use Rattle.gap.specs.Gap.{End, Gap, gap_end_of}
use Rattle.gap.specs.declared.Comment.{Comment}
use Rattle.gap.specs.declared.DocScan.{DocScan}

abbrev pub part_end : GapPart → ℕ
part_end (Pass e) = e
part_end (Doc c) = c.end

unfoldable pub end_of_part : Result (Option GapPart) Unclosed → Result (Option ℕ) Unclosed
end_of_part (Ok (Some (Pass e))) = Ok (Some e)
end_of_part (Ok (Some (Doc c))) = Ok (Some c.end)
end_of_part (Err w) = Err w
end_of_part (Ok None) = Ok None

-- a part without the text of its doc comment
unfoldable pub textless : Result (Option GapPart) Unclosed → Result (Option GapPart) Unclosed
textless (Ok (Some (Pass e))) = Ok (Some (Pass e))
textless (Ok (Some (Doc c))) = Ok (Some (Doc (record { start = c.start; end = c.end; from = 0; to = 0 })))
textless (Err w) = Err w
textless (Ok None) = Ok None

-- the last of the comments; where there is none it is from s to e
unfoldable pub last_doc : ℕ → ℕ → End → List Comment → DocScan
last_doc s e l [] = record { end = gap_end_of l; from = s; to = e }
last_doc s e l (c ∷ cs) = last_doc c.start c.end l cs

unfoldable pub doc_scan : ℕ → ℕ → Gap → DocScan
doc_scan s e g = last_doc s e g.last g.docs
