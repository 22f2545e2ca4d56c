use Rattle.forms.proofs.close_bars.Goals as goal

pub returns-then-none : goal.returns-then-none
returns-then-none c = rw c.if-none.true c.put_marks.ensures

pub returns : goal.returns
returns c = rw c.if-none.false c.put_mark.ensures
