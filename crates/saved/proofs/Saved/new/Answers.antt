use native.Mathlib.Omega.{arith}
use Rattle.std.proofs.lemmas.Bool.Decides.{nat_tests}
use Rattle.saved.proofs.Heads.{told-short, told-by}
use Rattle.saved.proofs.Saved.new.Goals.{in-4, in_default, in_default-2, in_default-3, in_default-4, in_default-5}
use Rattle.saved.proofs.Saved.new.Goals as goal

pub invariant_of-result : goal.invariant_of-result
invariant_of-result c = record { told = elim c.if-matches.branch [ in-4 w ↦ grind (arith, nat_tests, told-by, told-short) | in_default w ↦ grind (arith, nat_tests, told-by, told-short) | in_default-2 w ↦ grind (arith, nat_tests, told-by, told-short) | in_default-3 w ↦ grind (arith, nat_tests, told-by, told-short) | in_default-4 w ↦ grind (arith, nat_tests, told-by, told-short) | in_default-5 w ↦ grind (arith, nat_tests, told-by, told-short) ] }
