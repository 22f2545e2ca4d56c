use mathlib.Core.Path.{◌≡◌}
use Prim.Native.Nat.{◌+◌, ◌-◌, ◌≤◌}
use lib.ListN.{length}
use Rattle.saved.specs.Heads.{form_told}
use Rattle.saved.specs.Child.{child_from}
use Rattle.saved.proofs.Saved.child_from.Given as goal

abbrev pub invariant-loop : goal.invariant-loop
invariant-loop l = record {
  inside : l.at + l.left ≤ length l.self.tree.now;
  same : child_from (form_told l.self.tree.now) l.self.tree.now l.index l.p l.room ≡ child_from (form_told l.self.tree.now) l.self.tree.now (l.index - l.counter) l.at l.left;
}
