use Rattle.std.proofs.Common.{sym, ap, ◌∙◌}
use Rattle.std.proofs.lemmas.List.Edits.{sets}
use Rattle.records.specs.Stored.{little_endian}
use Rattle.records.proofs.Pieces.{number-step, number-done}
use Rattle.records.proofs.set_number.Goals as goal

pub loop-i-preserved : goal.loop-i-preserved
loop-i-preserved g c =
    sym (number-step c.from-i-end.result c.loop-i.rest c.args.pos c.loop-i.i c.loop-i.out c.loop-i-test.true) ∙ c.loop-i.invariant

pub returns : goal.returns
returns g c =
    sym (number-done c.from-i-end.result c.loop-i.rest _ c.loop-i.i c.loop-i.out c.loop-i-test.false) ∙ c.loop-i.invariant
    ∙ ap (λ w. sets c.args.out.now c.args.pos (little_endian w c.args.v)) c.from-i-end.ensures
