use borrow.Author.Tests.{eq-eqb, ne_eqb}
use Rattle.forms.specs.Forms.{head_size}
use Rattle.forms.proofs.head_size.Goals as goal

pub returns-then-form-eq-FORM_NARROW : goal.returns-then-form-eq-FORM_NARROW
unfolding head_size
returns-then-form-eq-FORM_NARROW c = rw c.if-form-eq-FORM_NARROW.true

pub returns-then-form-eq-FORM_LINE : goal.returns-then-form-eq-FORM_LINE
unfolding head_size
returns-then-form-eq-FORM_LINE c = rw (eq-eqb _ _ c.if-form-eq-FORM_LINE.true)

pub returns : goal.returns
unfolding head_size
returns c = rw (ne_eqb _ _ c.if-form-eq-FORM_NARROW.false, ne_eqb _ _ c.if-form-eq-FORM_LINE.false)
