use mathlib.Core.Path.{refl}
use Rattle.forms.proofs.put_between.Goals as goal

pub returns-then-first : goal.returns-then-first
returns-then-first c = rw c.if-first.true (record { ends = c.move_by.ensures; holds = refl })

pub returns : goal.returns
returns c = rw c.if-first.false c.put_marks.ensures
