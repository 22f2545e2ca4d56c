use Rattle.outline.proofs.Pieces.{past-entry}
use Rattle.outline.proofs.put_entry.Goals as goal

pub returns-then-out-pos : goal.returns-then-out-pos
returns-then-out-pos c = past-entry _ _ _ _ c.if-out-pos.true
