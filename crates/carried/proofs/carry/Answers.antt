use Rattle.std.proofs.Common.{rules}
use Rattle.carried.proofs.Carrying.{refused-by, movable-by, moved_by_lem}
use Rattle.carried.proofs.carry.Goals as goal

pub move_notes-requires : goal.move_notes-requires
move_notes-requires c = movable-by _ _ _ c.carry_fault.ensures c.in_ok-carry_fault.was

pub returns-in_err-carry_fault : goal.returns-in_err-carry_fault
returns-in_err-carry_fault c =
    let whole = refused-by _ _ _ c.carry_fault.ensures _ c.in_err-carry_fault.was in
    record { answer = search rules; notes = whole.1 }

pub returns : goal.returns
returns c =
    let whole = moved_by_lem _ _ _ c.carry_fault.ensures c.in_ok-carry_fault.was _ c.move_notes.ensures in
    record { answer = whole.0; notes = whole.1 }
