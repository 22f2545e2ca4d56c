use mathlib.Core.Path.{◌≡◌}
use Prim.Native.Nat.{◌+◌, ◌-◌, ◌^◌, ◌<◌}
use Rattle.saved.specs.Heads.{number_at}
use Rattle.saved.proofs.Saved.number_at.Given as goal

abbrev pub invariant-loop-i : goal.invariant-loop-i
invariant-loop-i g l = record { same : l.n ≡ number_at (g.row.W - l.i) l.self.tree.now (l.p + l.i); below : l.n < 256 ^ (g.row.W - l.i) }
