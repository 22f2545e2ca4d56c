use borrow.Author.Tests.{eq-eqb, ne_eqb}
use mathlib.Core.Path.{refl}
use Rattle.records.specs.Stored.{little_endian}
use Rattle.forms.specs.Forms.{front}
use Rattle.forms.proofs.put_front.Goals as goal

pub returns-then-form-eq-FORM_NARROW : goal.returns-then-form-eq-FORM_NARROW
unfolding front
returns-then-form-eq-FORM_NARROW c = rw c.if-form-eq-FORM_NARROW.true (record { ends = c.move_by.ensures; holds = refl })

pub returns-then-form-eq-FORM_LINE : goal.returns-then-form-eq-FORM_LINE
unfolding front
returns-then-form-eq-FORM_LINE c = rw (eq-eqb _ _ c.if-form-eq-FORM_LINE.true) (record { ends = c.move_by-then-form-eq-FORM_LINE.ensures; holds = refl })

pub returns : goal.returns
unfolding front little_endian
returns c = rw (ne_eqb _ _ c.if-form-eq-FORM_NARROW.false, ne_eqb _ _ c.if-form-eq-FORM_LINE.false) (record { ends = c.move_by-2.ensures; holds = c.put_number.ensures })
