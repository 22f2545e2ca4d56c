use Rattle.words.proofs.Found.{past_end, is-long, is-double, is-single}
use Rattle.words.proofs.mark_at.Goals as goal

-- `words::mark_at` meets its contract.

pub returns-then-text-at-clause-fit : goal.returns-then-text-at-clause-fit
returns-then-text-at-clause-fit c = past_end _ _ c.if-text-at.true

pub returns-in-Some-clause-fit : goal.returns-in-Some-clause-fit
returns-in-Some-clause-fit c = is-long c.args.text.now c.args.at _ c.in-Some.ensures.fit c.in-Some.ensures.some

pub returns-in-Some-double_mark-clause-fit : goal.returns-in-Some-double_mark-clause-fit
returns-in-Some-double_mark-clause-fit c =
    is-double c.args.text.now c.args.at c.in_default.ensures.fit _ c.byte_at-b.ensures _ c.in-Some-double_mark.ensures.fit c.in-Some-double_mark.ensures.some

pub returns-clause-fit : goal.returns-clause-fit
returns-clause-fit c =
    is-single c.args.text.now c.args.at c.in_default.ensures.fit _ c.byte_at-b.ensures c.in_default-double_mark.ensures.fit _ c.single_mark.ensures.fit
