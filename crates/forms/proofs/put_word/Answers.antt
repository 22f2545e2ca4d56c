use native.Mathlib.Omega.{arith}
use Rattle.forms.proofs.Copying.{clipped-inside, word_none, word_some}
use Rattle.forms.proofs.put_word.Goals as goal

-- `forms::put_word` meets its contract.

pub returns-then-e-s : goal.returns-then-e-s
returns-then-e-s c = let a = c.args in word_none a.text.now a.t.start a.t.end _ c.clip-e.ensures a.out.now a.out.now a.p _ (omega arith) c.move_by.ensures

pub slice_bounds-copy_at-end : goal.slice_bounds-copy_at-end
slice_bounds-copy_at-end c = let a = c.args in clipped-inside a.text.now a.t.start a.t.end _ c.clip-e.ensures

pub returns : goal.returns
returns c = let a = c.args in word_some a.text.now a.t.start a.t.end _ c.clip-e.ensures _ _ _ _ (omega arith) c.move_by-2.ensures c.copy_at.ensures
