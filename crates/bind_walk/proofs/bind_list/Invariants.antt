use Prim.Native.Nat.{◌-◌}
use lib.ListN.{length}
use Rattle.grammar.specs.Binds.{read_bind}
use Rattle.lists.proofs.Listing.{Going}
use Rattle.bind_walk.proofs.bind_list.Given as goal

abbrev pub invariant-loop-q : goal.invariant-loop-q
invariant-loop-q l = Going l.w.form l.w.edition l.text (read_bind l.w.left) l.close l.o l.initial.to l.initial.out l.i l.to l.count l.out

abbrev pub decreases-loop-q : goal.decreases-loop-q
decreases-loop-q l = length l.text - l.i
