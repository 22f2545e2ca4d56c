use borrow.Author.Tests.{eq-eqb, ne_eqb}
use Rattle.forms.specs.code.Constructs.{mark_in}
use Rattle.forms.proofs.put_angle.Goals as goal

pub returns-then-form-eq-FORM_LINE : goal.returns-then-form-eq-FORM_LINE
unfolding mark_in
returns-then-form-eq-FORM_LINE c = rw (eq-eqb _ _ c.if-form-eq-FORM_LINE.true) c.put.ensures

pub returns-else-form-eq-FORM_LINE : goal.returns-else-form-eq-FORM_LINE
unfolding mark_in
returns-else-form-eq-FORM_LINE c = rw (ne_eqb _ _ c.if-form-eq-FORM_LINE.false)
