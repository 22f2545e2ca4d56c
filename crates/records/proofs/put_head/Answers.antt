use Rattle.std.proofs.Common.{sym}
use Rattle.buffer.proofs.Sets.{sets-out}
use Rattle.records.specs.Stored.{head_of}
use Rattle.records.proofs.Pieces.{head-pieces}
use Rattle.records.proofs.put_head.Goals as goal

pub returns-then-w-out : goal.returns-then-w-out
returns-then-w-out g c =
    head-pieces _ g.row.W c.from-w.ensures _ _ _ _ _ _ _ _ _ _ c.set_number.ensures c.set_number-then-w-out.ensures
    c.set_number-then-w-out-2.ensures c.set_number-then-w-out-3.ensures

pub returns-else-w-out : goal.returns-else-w-out
returns-else-w-out g c =
    head-pieces _ g.row.W c.from-w.ensures _ _ _ _ _ _ _ _ _ _ c.put_number.ensures c.put_number-else-w-out.ensures
    c.put_number-else-w-out-2.ensures c.put_number-else-w-out-3.ensures

pub returns-else-pos-out : goal.returns-else-pos-out
returns-else-pos-out g c = sym (sets-out (head_of g.row.W _ _ _ _) _ _ c.if-pos-out.false)
