use Rattle.std.proofs.Common.{ap, ◌∙◌}
use Rattle.std.proofs.lemmas.List.Edits.{sets}
use Rattle.records.proofs.Pieces.{head-narrow}
use Rattle.records.proofs.put_header.Goals as goal

pub returns : goal.returns
returns c = c.put_head.ensures ∙ ap (sets c.args.out.now c.args.pos) (head-narrow _ _ _ _)
