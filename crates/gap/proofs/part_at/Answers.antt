use mathlib.Core.Path.{◌∙◌, sym}
use Rattle.gap.specs.Marks.{slashes, opens}
use Rattle.gap.proofs.Parts.{part-blank, part-line, part-block, part-other}
use borrow.Author.Rules.{rules}
use Rattle.gap.proofs.part_at.Goals as goal

pub returns-then-is_blank : goal.returns-then-is_blank
returns-then-is_blank c = part-blank _ _ _ c.byte_at-b.ensures (sym c.is_blank.ensures ∙ c.if-is_blank.true)

pub returns-then-pair : goal.returns-then-pair
unfolding slashes
returns-then-pair c = c.line_comment.ensures ∙ part-line _ _ _ c.byte_at-b.ensures (sym c.is_blank.ensures ∙ c.if-is_blank.false) (sym c.pair.ensures ∙ c.if-pair.true)

pub block_comment-requires : goal.block_comment-requires
block_comment-requires c = (search rules, c.close_of.ensures.close)

pub returns-then-pair-2 : goal.returns-then-pair-2
unfolding slashes opens
returns-then-pair-2 c = c.block_comment.ensures ∙ part-block _ _ _ c.byte_at-b.ensures (sym c.is_blank.ensures ∙ c.if-is_blank.false) (sym c.pair.ensures ∙ c.if-pair.false) (sym c.pair-2.ensures ∙ c.if-pair-2.true)

pub returns : goal.returns
unfolding slashes opens
returns c = part-other _ _ _ c.byte_at-b.ensures (sym c.is_blank.ensures ∙ c.if-is_blank.false) (sym c.pair.ensures ∙ c.if-pair.false) (sym c.pair-2.ensures ∙ c.if-pair-2.false)
