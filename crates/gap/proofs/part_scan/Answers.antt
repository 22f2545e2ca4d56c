use Rattle.std.specs.Prelude.{ℕ, Ok, Some}
use mathlib.Core.Path.{◌∙◌, sym, ap}
use Rattle.classes.specs.Class.{in_class}
use Rattle.gap.specs.Marks.{slashes, opens}
use Rattle.gap.specs.code.Ends.{end_of_part}
use Rattle.gap.proofs.LineFeeds.{line-feed-one, opens-only, feed-line, feed-in-block, feed-ends, feed-no-part}
use Rattle.gap.proofs.Parts.{line-end, part-blank, part-block, part-other}
use borrow.Author.Rules.{rules}
use Rattle.gap.proofs.part_scan.Goals as goal

pub returns-then-pair : goal.returns-then-pair
unfolding in_class slashes
returns-then-pair c = record {
  end = ap (λ (n : ℕ). Ok (Some n)) c.run_end.ensures ∙ line-end _ _ _ c.byte_at-b.ensures (sym c.pair.ensures ∙ c.if-pair.true);
  feed = feed-line _ _ _ c.run_end.ensures;
}

pub block_comment-requires : goal.block_comment-requires
block_comment-requires c = (search rules, c.close_of-c.ensures.close)

pub returns-then-pair-2 : goal.returns-then-pair-2
unfolding opens
returns-then-pair-2 c = record {
  end = c.end_of_part.ensures ∙ ap end_of_part (c.block_comment.ensures ∙ part-block _ _ _ c.byte_at-b.ensures (opens-only _ _ (sym c.pair-2.ensures ∙ c.if-pair-2.true)).0 (opens-only _ _ (sym c.pair-2.ensures ∙ c.if-pair-2.true)).1 (sym c.pair-2.ensures ∙ c.if-pair-2.true));
  feed = λ e q. feed-in-block _ _ e _ c.byte_at-b.ensures (sym c.pair-2.ensures ∙ c.if-pair-2.true) _ c.close_of-c.ensures.close _ c.close_of-c.ensures.feed (ap end_of_part (sym c.block_comment.ensures) ∙ sym c.end_of_part.ensures ∙ q);
}

pub returns-then-is_blank : goal.returns-then-is_blank
unfolding end_of_part
returns-then-is_blank c = record {
  end = ap end_of_part (part-blank _ _ _ c.byte_at-b.ensures (sym c.is_blank.ensures ∙ c.if-is_blank.true));
  feed = feed-ends _ _ _ _ (sym (line-feed-one _ _));
}

pub returns : goal.returns
unfolding end_of_part slashes opens
returns c = record {
  end = ap end_of_part (part-other _ _ _ c.byte_at-b.ensures (sym c.is_blank.ensures ∙ c.if-is_blank.false) (sym c.pair.ensures ∙ c.if-pair.false) (sym c.pair-2.ensures ∙ c.if-pair-2.false));
  feed = feed-no-part _ _ _;
}
