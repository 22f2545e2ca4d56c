use mathlib.Core.Path.{◌∙◌, sym, ap, refl}
use native.Mathlib.Omega.{arith}
use Rattle.gap.specs.Gap.{Gap, gap_end_of}
use Rattle.gap.specs.LineFeed.{gap_feed}
use Rattle.gap.proofs.LineFeeds.{line-feed-none, feed-here, feed-not-here, feed-past, space-no-feed, feed-space, no-space}
use Rattle.gap.proofs.Gaps.{gap-over, gap-past, gap-unended, gap-none-at, gap-space, gap-plain}
use borrow.Author.Rules.{rules}
use Rattle.gap.proofs.gap_scan.Goals as goal

pub loop-i-init : goal.loop-i-init
loop-i-init c = (refl, search rules, sym (line-feed-none _ _))

pub loop-i-preserved-then-is : goal.loop-i-preserved-then-is
loop-i-preserved-then-is c =
    let loop = c.loop-i in
    let blank = space-no-feed _ (sym c.is.ensures ∙ c.if-is.true) in (
      loop.invariant.0 ∙ ap (λ (g : Gap). gap_end_of g.last) (gap-space _ _ (search rules) blank.0),
      search rules,
      feed-not-here _ _ _ _ loop.invariant.2 loop.invariant.1 blank.1,
    )

pub loop-i-preserved-then-a-eq10 : goal.loop-i-preserved-then-a-eq10
loop-i-preserved-then-a-eq10 c =
    let loop = c.loop-i in (
      loop.invariant.0 ∙ ap (λ (g : Gap). gap_end_of g.last) (gap-space _ _ (search rules) (feed-space _ c.if-a-eq10.true)),
      search rules,
      feed-here _ _ _ _ loop.invariant.2 loop.invariant.1 c.if-a-eq10.true,
    )

pub loop-i-smaller : goal.loop-i-smaller
loop-i-smaller c =
    let loop = c.loop-i in
    let r = gap-past c.args.text.now loop.i (search rules) c.in-Ok-Some.e (search rules) in
    omega arith

pub loop-i-preserved : goal.loop-i-preserved
loop-i-preserved c =
    let loop = c.loop-i in
    let r = gap-past c.args.text.now loop.i (search rules) c.in-Ok-Some.e (search rules) in (
      loop.invariant.0 ∙ ap gap_end_of r.0,
      omega (arith, loop.invariant.1),
      feed-past _ _ _ _ loop.invariant.2 loop.invariant.1 _ _ (c.part_scan-p.ensures.feed _ (search rules)) (omega arith),
    )

pub returns-in-Err : goal.returns-in-Err
unfolding gap_end_of gap_feed
returns-in-Err c =
    record {
      end = sym (c.loop-i.invariant.0 ∙ ap gap_end_of (gap-unended _ _ (search rules) _ _ (sym c.part_scan-p.ensures.end ∙ c.in-Err.is)));
      feed = refl;
    }

pub returns-in-Ok-None : goal.returns-in-Ok-None
unfolding gap_end_of gap_feed
returns-in-Ok-None c =
    let loop = c.loop-i in
    record {
      end = sym (loop.invariant.0 ∙ ap gap_end_of (gap-none-at _ _ (search rules) (search rules)));
      feed = loop.invariant.2;
    }

pub returns-else-is-2 : goal.returns-else-is-2
unfolding gap_end_of gap_feed
returns-else-is-2 c =
    let loop = c.loop-i in
    let no = no-space _ (sym c.is.ensures ∙ c.if-is.false) c.if-a-eq10.false in record {
      end = sym (loop.invariant.0 ∙ ap (λ (g : Gap). gap_end_of g.last) (gap-plain _ _ (search rules) no (sym c.is-else-a-eq10.ensures ∙ c.if-is-2.false)));
      feed = loop.invariant.2;
    }

pub returns : goal.returns
unfolding gap_end_of gap_feed
returns c =
    let loop = c.loop-i in
    record {
      end = sym (loop.invariant.0 ∙ ap (λ (g : Gap). gap_end_of g.last) (gap-over _ _ (search rules)));
      feed = loop.invariant.2;
    }
