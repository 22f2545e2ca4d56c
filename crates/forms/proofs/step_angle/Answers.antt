use borrow.Author.Tests.{eq-eqb, ne_eqb}
use Rattle.forms.specs.code.Constructs.{mark_in}
use Rattle.forms.proofs.step_angle.Goals as goal

pub returns-then-form-eq-FORM_LINE : goal.returns-then-form-eq-FORM_LINE
unfolding mark_in
returns-then-form-eq-FORM_LINE c = rw (eq-eqb _ _ c.if-form-eq-FORM_LINE.true) c.move_by.ensures

pub returns : goal.returns
unfolding mark_in
returns c = rw (ne_eqb _ _ c.if-form-eq-FORM_LINE.false) c.move_by-2.ensures
