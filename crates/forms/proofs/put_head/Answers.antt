use mathlib.Core.Path.{ap, ◌∙◌}
use lib.Seq.{sets}
use Rattle.forms.proofs.Placing.{head-as-narrow, head-none, head-as-wide}
use Rattle.forms.proofs.put_head.Goals as goal

pub returns-then-form-eq-FORM_NARROW : goal.returns-then-form-eq-FORM_NARROW
returns-then-form-eq-FORM_NARROW c = c.put_header.ensures ∙ ap (sets _ _) (head-as-narrow _ _ _ _ _ c.if-form-eq-FORM_NARROW.true)

pub returns-then-form-eq-FORM_LINE : goal.returns-then-form-eq-FORM_LINE
returns-then-form-eq-FORM_LINE c = ap (sets _ _) (head-none _ _ _ _ _ c.if-form-eq-FORM_LINE.true)

pub returns : goal.returns
returns c = c.put_wide_header.ensures ∙ ap (sets _ _) (head-as-wide _ _ _ _ _ c.if-form-eq-FORM_NARROW.false c.if-form-eq-FORM_LINE.false)
