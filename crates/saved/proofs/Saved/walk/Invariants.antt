use mathlib.Core.Path.{◌≡◌}
use Prim.Native.Nat.{◌-◌, ◌≤◌}
use lib.ListN.{length}
use Rattle.std.specs.Prelude.{Option}
use Rattle.saved.specs.Heads.{form_told}
use Rattle.saved.specs.code.Scan.{stop, Walks}
use Rattle.saved.specs.declared.Fault.{Fault}
use Rattle.saved.proofs.Saved.walk.Given as goal

abbrev pub invariant-loop-i : goal.invariant-loop-i
invariant-loop-i l = record {
  stops : l.end ≡ stop (length l.self.tree.now) l.kept;
  inside : l.end ≤ length l.self.tree.now;
  few : l.depth ≤ 64;
  walks : (r : Option Fault) → Walks (form_told l.self.tree.now) l.self.tree.now l.ends l.depth l.i l.kept r → Walks (form_told l.self.tree.now) l.self.tree.now l.initial.ends l.initial.depth l.initial.i l.initial.kept r;
}

abbrev pub decreases-loop-i : goal.decreases-loop-i
decreases-loop-i l = length l.self.tree.now - l.i
