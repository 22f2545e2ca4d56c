use mathlib.Core.Path.{◌∙◌, sym}
use Rattle.tokens.proofs.Steps.{find-over, find-number, find-word, find-mark}
use borrow.Author.Rules.{rules}
use Rattle.tokens.proofs.find_token.Goals as goal

pub returns-then-text-at : goal.returns-then-text-at
returns-then-text-at c = find-over _ _ _ c.if-text-at.true

pub word_at-requires : goal.word_at-requires
word_at-requires c = (search rules, sym c.is.ensures ∙ c.if-is.true)

pub returns-then-is : goal.returns-then-is
returns-then-is c = c.word_at.ensures ∙ find-word _ _ _ c.if-text-at.false (sym c.is.ensures ∙ c.if-is.true)

pub returns-then-is-2 : goal.returns-then-is-2
returns-then-is-2 c = c.number_at.ensures ∙ find-number _ _ _ c.if-text-at.false (sym c.is-2.ensures ∙ c.if-is-2.true)

pub returns : goal.returns
returns c = c.mark_at.ensures ∙ find-mark _ _ _ c.if-text-at.false (sym c.is-2.ensures ∙ c.if-is-2.false) (sym c.is.ensures ∙ c.if-is.false)
