use mathlib.Core.Path.{sym, ap, ◌∙◌}
use Rattle.parts.proofs.Contracts.{handed-on}
use Rattle.lists.proofs.Listing.{steps-refused, steps-closes, steps-item}
use Rattle.std.specs.Prelude.{Ok}
use Rattle.bind_walk.proofs.bind_step.Goals as goal

pub returns-in_err-q : goal.returns-in_err-q
returns-in_err-q c =
    steps-refused _ _ _ _ _ _ _ _ _ _ _ _ (sym c.next_item.ensures ∙ c.in_err-q.was) (handed-on _ _ c.from_residual.ensures)

pub returns-in-Closes : goal.returns-in-Closes
returns-in-Closes c = steps-closes _ _ _ _ _ _ _ _ _ _ _ (sym c.next_item.ensures ∙ c.in_ok-q.was ∙ ap Ok c.in-Closes.is)

pub returns-in-Item : goal.returns-in-Item
returns-in-Item c =
    steps-item _ _ _ _ _ _ _ _ _ _ _ _ _ (sym c.next_item.ensures ∙ c.in_ok-q.was ∙ ap Ok c.in-Item.is)
    (record { from = _; parted = _; between = c.put_between-p.ensures; part = _; reads = c.parse_bind-t.ensures; is = c.after_item.ensures })
