use mathlib.Core.Path.{ap, ◌∙◌}
use Rattle.forms.specs.code.Spots.{moved_by}
use Rattle.forms.proofs.step_inside.Goals as goal

pub returns : goal.returns
returns c = c.move_by.ensures ∙ ap (moved_by c.args.s) c.head_size.ensures
