use mathlib.Core.Path.{◌∙◌, sym, ap}
use Rattle.gap.specs.Gap.{Gap, gap_end_of}
use Rattle.gap.specs.LineFeed.{gap_feed}
use Rattle.gap.proofs.Gaps.{gap-over, gap-plain}
use Rattle.gap.proofs.LineFeeds.{line-feed-none}
use Rattle.tokens.proofs.gap_behind.Goals as goal

pub returns-then-text-i : goal.returns-then-text-i
unfolding gap_end_of gap_feed
returns-then-text-i c = record {
  end = sym (ap (λ (g : Gap). gap_end_of g.last) (gap-over _ _ c.if-text-i.true));
  feed = sym (line-feed-none _ _);
}

pub returns : goal.returns
unfolding gap_end_of gap_feed
returns c = record {
  end = sym (ap (λ (g : Gap). gap_end_of g.last) (gap-plain _ _ c.if-text-i.false (c.requires c.if-text-i.false) (sym c.is.ensures ∙ c.if-is.false)));
  feed = sym (line-feed-none _ _);
}
