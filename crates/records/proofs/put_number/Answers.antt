use Rattle.std.proofs.Common.{sym, ap, ◌∙◌}
use Rattle.std.proofs.lemmas.List.Edits.{sets}
use Rattle.records.specs.Stored.{little_endian}
use Rattle.records.proofs.Pieces.{number-step, number-done}
use Rattle.buffer.proofs.Sets.{sets-out}
use Rattle.records.proofs.put_number.Goals as goal

pub loop-i-preserved : goal.loop-i-preserved
loop-i-preserved g c =
    rw c.put.ensures (sym (number-step c.from-i-end.result c.loop-i.rest c.args.pos c.loop-i.i c.loop-i.out c.loop-i-test.true) ∙ c.loop-i.invariant)

pub returns-after-loop-i : goal.returns-after-loop-i
returns-after-loop-i g c =
    sym (number-done c.from-i-end.result c.loop-i.rest _ c.loop-i.i c.loop-i.out c.loop-i-test.false) ∙ c.loop-i.invariant
    ∙ ap (λ w. sets c.args.out.now c.args.pos (little_endian w c.args.v)) c.from-i-end.ensures

pub returns-else-pos-out : goal.returns-else-pos-out
returns-else-pos-out g c = sym (sets-out (little_endian g.row.W c.args.v) _ _ c.if-pos-out.false)
