use Rattle.classes.specs.Class.{in_class}
use mathlib.Core.Path.{◌∙◌, sym}
use Rattle.gap.proofs.Parts.{line-doc, line_plain}
use Rattle.gap.proofs.line_comment.Goals as goal

pub returns-then-doc_line : goal.returns-then-doc_line
unfolding in_class
returns-then-doc_line c = line-doc _ _ _ _ _ c.run_end-e.ensures c.byte_at-a.ensures c.byte_at-b.ensures (sym c.doc_line.ensures ∙ c.if-doc_line.true) _ c.text_end-d.ensures

pub returns : goal.returns
unfolding in_class
returns c = line_plain _ _ _ _ _ c.run_end-e.ensures c.byte_at-a.ensures c.byte_at-b.ensures (sym c.doc_line.ensures ∙ c.if-doc_line.false)
