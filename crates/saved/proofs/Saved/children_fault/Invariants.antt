use Prim.Native.Nat.{◌+◌, ◌≤◌}
use lib.ListN.{length}
use Rattle.std.specs.Prelude.{Option}
use Rattle.saved.specs.Heads.{form_told}
use Rattle.saved.specs.Open.{parent}
use Rattle.saved.specs.code.Scan.{Runs}
use Rattle.saved.specs.declared.Fault.{Fault}
use Rattle.saved.proofs.Saved.children_fault.Given as goal

abbrev pub invariant-loop-room : goal.invariant-loop-room
invariant-loop-room l = record {
  inside : l.p + l.room ≤ length l.self.tree.now;
  counted : l.index + l.room ≤ l.h.len;
  runs : (r : Option Fault) → Runs (form_told l.self.tree.now) l.self.tree.now (parent l.at l.h 0) l.index l.field l.p l.room r → Runs (form_told l.self.tree.now) l.self.tree.now (parent l.at l.h 0) l.initial.index l.initial.field l.initial.p l.initial.room r;
}

abbrev pub decreases-loop-room : goal.decreases-loop-room
decreases-loop-room l = l.room
