use Prim.Native.Nat.{◌-◌}
use Rattle.tokens.specs.Walk.{tokens_at}
use Rattle.carried.proofs.Passes.{Steps, BadBelow}
use Rattle.carried.proofs.lowest_bad.Given as goal

abbrev pub invariant-loop-k : goal.invariant-loop-k
invariant-loop-k l = Steps 1 l.text l.p l.at × BadBelow (tokens_at 1 l.text 0) l.notes l.p l.bad

abbrev pub decreases-loop-k : goal.decreases-loop-k
decreases-loop-k l = 18446744073709551616 - l.p
