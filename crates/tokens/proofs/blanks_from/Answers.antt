use mathlib.Core.Path.{◌∙◌, sym, refl}
use Rattle.classes.specs.Class.{is_space}
use Rattle.classes.proofs.Runs.{run_past, run_out, run_in}
use Rattle.gap.proofs.LineFeeds.{line-feed-none, feed-here, feed-not-here, space-no-feed, feed-space, no-space}
use borrow.Author.Rules.{rules}
use Rattle.tokens.proofs.blanks_from.Goals as goal

pub loop-i-init : goal.loop-i-init
loop-i-init c = (refl, search rules, sym (line-feed-none _ _))

pub loop-i-preserved-then-is : goal.loop-i-preserved-then-is
loop-i-preserved-then-is c = (c.loop-i.invariant.0 ∙ run_in is_space _ _ (search rules) (space-no-feed _ (sym c.is.ensures ∙ c.if-is.true)).0, search rules, feed-not-here _ _ _ _ c.loop-i.invariant.2 c.loop-i.invariant.1 (space-no-feed _ (sym c.is.ensures ∙ c.if-is.true)).1)

pub loop-i-preserved : goal.loop-i-preserved
loop-i-preserved c = (c.loop-i.invariant.0 ∙ run_in is_space _ _ (search rules) (feed-space _ c.if-a-eq10.true), search rules, feed-here _ _ _ _ c.loop-i.invariant.2 c.loop-i.invariant.1 c.if-a-eq10.true)

pub returns-else-a-eq10 : goal.returns-else-a-eq10
returns-else-a-eq10 c = record {
  end = sym (c.loop-i.invariant.0 ∙ run_out is_space _ _ (search rules) (no-space _ (sym c.is.ensures ∙ c.if-is.false) c.if-a-eq10.false));
  feed = c.loop-i.invariant.2;
}

pub returns : goal.returns
returns c = record {
  end = sym (c.loop-i.invariant.0 ∙ run_past is_space _ _ (search rules));
  feed = c.loop-i.invariant.2;
}
