use native.Mathlib.Omega.{arith}
use Rattle.forms.proofs.Placing.{marks-both}
use Rattle.forms.proofs.put_marks.Goals as goal

pub returns : goal.returns
returns c = marks-both _ _ _ _ _ _ _ _ _ (omega arith) c.put_mark-p.ensures c.put_mark.ensures
