use borrow.Author.Tests.{eq-eqb, ne_eqb}
use mathlib.Core.Path.{refl}
use Rattle.forms.specs.code.Constructs.{mark_in}
use Rattle.forms.proofs.put_mark.Goals as goal

pub returns-then-form-eq-FORM_LINE : goal.returns-then-form-eq-FORM_LINE
unfolding mark_in
returns-then-form-eq-FORM_LINE c = rw (eq-eqb _ _ c.if-form-eq-FORM_LINE.true) (record { ends = c.move_by.ensures; holds = c.put.ensures })

pub returns : goal.returns
unfolding mark_in
returns c = rw (ne_eqb _ _ c.if-form-eq-FORM_LINE.false) (record { ends = c.move_by-2.ensures; holds = refl })
