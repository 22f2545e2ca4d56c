use mathlib.Core.Path.{◌≡◌}
use lib.ListN.{drop}
use Rattle.gap.specs.Comments.{line_text}
use Rattle.gap.proofs.text_end.Given as goal

abbrev pub invariant-loop-i : goal.invariant-loop-i
invariant-loop-i l = line_text l.at l.at (drop l.at l.text) ≡ line_text l.t l.i (drop l.i l.text)
