use mathlib.Core.Path.{◌≡◌, ◌∙◌, sym, ap}
use Rattle.std.proofs.Common.{Err, rules}
use Rattle.tokens.specs.Answers.{refusal}
use Rattle.tokens.proofs.Flags.{advanced-refused, advanced-found, flag-before}
use Rattle.tokens.proofs.Faults.{too_long, past_end, placed}
use Rattle.tokens.proofs.Steps.{next-faulty, blanks-end, next-clear, next-broken}
use Rattle.tokens.proofs.advance.Goals as goal

pub returns-then-text-gt-TEXT_LIMIT : goal.returns-then-text-gt-TEXT_LIMIT
returns-then-text-gt-TEXT_LIMIT c = c.refused_answer.ensures ∙ advanced-refused _ _ _ _ (next-faulty _ _ _ _ (sym (too_long _ _ c.if-text-gt-TEXT_LIMIT.true)))

pub returns-then-text-at : goal.returns-then-text-at
returns-then-text-at c = c.refused_answer-then-text-at.ensures ∙ advanced-refused _ _ _ _ (next-faulty _ _ _ _ (sym (past_end _ _ c.if-text-gt-TEXT_LIMIT.false c.if-text-at.true)))

pub gap_behind-g-requires : goal.gap_behind-g-requires
gap_behind-g-requires c = blanks-end _ _ _ c.blanks_from-b.ensures.end

pub returns-in-Ok : goal.returns-in-Ok
returns-in-Ok c =
    let gap-end = c.gap_behind-g.ensures in
    let blanks = c.blanks_from-b.ensures in
    let told = c.in-Ok.is in
    c.with_flag.ensures
    ∙ advanced-found _ _ _ _ _ _ _ c.find_token.ensures
    (next-clear _ _ _ _ blanks.end (placed _ _ c.if-text-gt-TEXT_LIMIT.false c.if-text-at.false) _ (sym gap-end.end ∙ told))
    (flag-before _ _ _ _ blanks.end _ blanks.feed _ gap-end.end _ gap-end.feed told)

pub returns-in-Err : goal.returns-in-Err
returns-in-Err c =
    let told : c.into.result ≡ refusal 6 c.in-Err.w.start c.in-Err.w.end = search rules in
    advanced-refused _ _ _ _ (ap Err told ∙ next-broken _ _ _ _ c.blanks_from-b.ensures.end (placed _ _ c.if-text-gt-TEXT_LIMIT.false c.if-text-at.false) _ _
    (sym c.gap_behind-g.ensures.end ∙ c.in-Err.is))
