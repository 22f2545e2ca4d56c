use Rattle.outline.proofs.Ways.{full-way, on-way}
use Rattle.outline.proofs.Request.name_step.Goals as goal

pub returns-then-self-n : goal.returns-then-self-n
returns-then-self-n c = full-way _ _ _ _ _ _ _ _ c.is_wide-wide.ensures c.record_size-size.ensures c.if-self-n.true

pub returns : goal.returns
returns c =
    on-way _ _ _ _ _ _ _ _ c.is_wide-wide.ensures c.record_size-size.ensures _ _ c.requires c.if-self-n.false c.put_entry.ensures c.behind.ensures
