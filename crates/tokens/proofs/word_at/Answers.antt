use mathlib.Core.Path.{◌∙◌, sym}
use Rattle.tokens.proofs.Steps.{word-string, word-name}
use Rattle.tokens.proofs.word_at.Goals as goal

pub returns-then-opens_string : goal.returns-then-opens_string
returns-then-opens_string c = c.string_at.ensures ∙ word-string _ _ _ c.byte_at-b.ensures (sym c.opens_string.ensures ∙ c.if-opens_string.true) _ c.string_refusal-m.ensures

pub returns : goal.returns
returns c = c.name_at.ensures ∙ word-name _ _ _ c.byte_at-b.ensures (sym c.opens_string.ensures ∙ c.if-opens_string.false)
