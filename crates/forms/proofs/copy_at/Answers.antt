use Rattle.forms.proofs.Copying.{sets-mid}
use mathlib.Core.Path.{sym}
use native.Mathlib.Omega.{arith}
use Rattle.buffer.proofs.Sets.{sets-out}
use Rattle.forms.proofs.copy_at.Goals as goal

-- `forms::copy_at` meets its contract.

pub returns-then-pos-out : goal.returns-then-pos-out
returns-then-pos-out c = sets-mid c.args.pos c.args.out.now _ c.args.from.now (omega arith) c.copy.ensures

pub returns-else-pos-out : goal.returns-else-pos-out
returns-else-pos-out c = sym (sets-out c.args.from.now c.args.out.now c.args.pos (omega arith))
