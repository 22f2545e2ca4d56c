use mathlib.Core.Path.{◌∙◌, sym, refl}
use Rattle.gap.specs.Marks.{opens, closes}
use Rattle.gap.proofs.Depth.{depth-end, opened, shut, closed, passed, passed-plain}
use Rattle.gap.proofs.LineFeeds.{line-feed-none, feed-step, feed-not-here, feed-mark, feed-closed, feed-missing, plain-no-feed}
use borrow.Author.Rules.{rules}
use Rattle.gap.proofs.close_of.Goals as goal

pub loop-i-init : goal.loop-i-init
loop-i-init c = (search rules, refl, search rules, sym (line-feed-none _ _))

pub loop-i-preserved-then-pair : goal.loop-i-preserved-then-pair
unfolding opens
loop-i-preserved-then-pair c = (search rules, c.loop-i.invariant.1 ∙ opened _ _ _ _ (search rules) c.byte_at-b.ensures (sym c.pair.ensures ∙ c.if-pair.true), search rules, feed-mark _ _ _ _ c.loop-i.invariant.3 c.loop-i.invariant.2 47 42 _ c.byte_at-b.ensures refl refl (sym c.pair.ensures ∙ c.if-pair.true))

pub returns-then-n-le1 : goal.returns-then-n-le1
unfolding opens closes
returns-then-n-le1 c = record {
  close = sym (c.loop-i.invariant.1 ∙ shut _ _ _ _ (search rules) c.byte_at-b.ensures (sym c.pair.ensures ∙ c.if-pair.false) (sym c.pair-else-pair.ensures ∙ c.if-pair-2.true) c.if-n-le1.true);
  feed = feed-closed _ _ _ _ (feed-mark _ _ _ _ c.loop-i.invariant.3 c.loop-i.invariant.2 42 47 _ c.byte_at-b.ensures refl refl (sym c.pair-else-pair.ensures ∙ c.if-pair-2.true));
}

pub loop-i-preserved-then-pair-2 : goal.loop-i-preserved-then-pair-2
unfolding opens closes
loop-i-preserved-then-pair-2 c = (search rules, c.loop-i.invariant.1 ∙ closed _ _ _ _ (search rules) c.byte_at-b.ensures (sym c.pair.ensures ∙ c.if-pair.false) (sym c.pair-else-pair.ensures ∙ c.if-pair-2.true) c.if-n-le1.false, search rules, feed-mark _ _ _ _ c.loop-i.invariant.3 c.loop-i.invariant.2 42 47 _ c.byte_at-b.ensures refl refl (sym c.pair-else-pair.ensures ∙ c.if-pair-2.true))

pub loop-i-preserved-else-pair-2 : goal.loop-i-preserved-else-pair-2
unfolding opens closes
loop-i-preserved-else-pair-2 c = (search rules, c.loop-i.invariant.1 ∙ passed _ _ _ _ (search rules) c.byte_at-b.ensures (sym c.pair.ensures ∙ c.if-pair.false) (sym c.pair-else-pair.ensures ∙ c.if-pair-2.false), search rules, feed-step _ _ _ _ c.loop-i.invariant.3 c.loop-i.invariant.2)

pub loop-i-preserved : goal.loop-i-preserved
loop-i-preserved c = (search rules, c.loop-i.invariant.1 ∙ passed-plain _ _ _ _ (search rules) refl (sym c.is.ensures ∙ c.if-is.false), search rules, feed-not-here _ _ _ _ c.loop-i.invariant.3 c.loop-i.invariant.2 (plain-no-feed _ (sym c.is.ensures ∙ c.if-is.false)))

pub returns : goal.returns
returns c = record {
  close = sym (c.loop-i.invariant.1 ∙ depth-end _ _ _ (search rules));
  feed = feed-missing _ _ _ _;
}
