use native.Mathlib.Omega.{arith}
use Rattle.forms.proofs.Placing.{marks-both}
use Rattle.forms.proofs.put_reference.Goals as goal

pub returns-then-mutable : goal.returns-then-mutable
returns-then-mutable c =
    rw c.if-mutable.true
    (marks-both _ _ _ _ _ _ _ _ _ (omega arith) c.put_marks-p.ensures
    (marks-both _ _ _ _ _ _ _ _ _ (omega arith) c.put_marks-q.ensures c.put_mark.ensures))

pub returns : goal.returns
returns c = rw c.if-mutable.false c.put_marks.ensures
