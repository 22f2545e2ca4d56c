use borrow.Author.Tests.{eq-eqb, ne_eqb}
use mathlib.Core.Path.{ap, sym, ◌∙◌}
use Rattle.forms.specs.code.Constructs.{spelt}
use Rattle.forms.specs.code.Spots.{moved_by}
use Rattle.forms.proofs.Placing.{head-long}
use Rattle.forms.proofs.put_leaf.Goals as goal

pub returns-then-form-eq-FORM_LINE : goal.returns-then-form-eq-FORM_LINE
unfolding spelt
returns-then-form-eq-FORM_LINE c = rw (eq-eqb _ _ c.if-form-eq-FORM_LINE.true) c.put_word.ensures

pub returns : goal.returns
unfolding spelt
returns c = rw (ne_eqb _ _ c.if-form-eq-FORM_LINE.false) (record { ends = c.move_by.ensures ∙ ap (moved_by c.args.s) (c.head_size.ensures ∙ sym (head-long _ 0 _ _ _)); holds = c.put_head.ensures })
