use mathlib.Core.Path.{◌∙◌, ap, sym}
use native.Mathlib.Omega.{arith}
use lib.Seq.{length-take-le}
use Rattle.carried.proofs.Passes.{fault-at, fault-none}
use Rattle.carried.proofs.note_fault.Goals as goal
use Rattle.std.specs.Prelude.{Err}

pub slice_bounds-lowest_bad-end : goal.slice_bounds-lowest_bad-end
slice_bounds-lowest_bad-end c = sym (length-take-le _ c.args.notes.now (omega (arith, c.min-n.ensures)))

pub returns-then-i-notes : goal.returns-then-i-notes
returns-then-i-notes c = ap Err c.refuse.ensures ∙ fault-at _ _ _ c.min-n.ensures _ c.lowest_bad-i.ensures c.if-i-notes.true

pub returns : goal.returns
returns c = fault-none _ _ _ c.min-n.ensures _ c.lowest_bad-i.ensures c.if-i-notes.false
