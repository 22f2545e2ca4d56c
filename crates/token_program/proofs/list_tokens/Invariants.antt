use Prim.Native.Nat.{◌-◌}
use lib.ListN.{length}
use Rattle.token_program.proofs.Listing.{Progress}
use Rattle.token_program.proofs.list_tokens.Given as goal

abbrev pub invariant-loop-t : goal.invariant-loop-t
invariant-loop-t l = Progress l.text l.at l.lines

abbrev pub decreases-loop-t : goal.decreases-loop-t
decreases-loop-t l = length l.text - l.at
