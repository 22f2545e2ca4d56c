use mathlib.Core.Path.{◌∙◌, sym}
use Rattle.tokens.proofs.Steps.{call-refused, call_known}
use Rattle.tokens.proofs.token_call.Goals as goal

pub returns-then-no_edition : goal.returns-then-no_edition
returns-then-no_edition c = c.refused_answer.ensures ∙ call-refused _ _ _ (sym c.no_edition.ensures ∙ c.if-no_edition.true) _ c.edition_refusal.ensures

pub returns : goal.returns
returns c = c.advance.ensures ∙ call_known _ _ _ (sym c.no_edition.ensures ∙ c.if-no_edition.false)
