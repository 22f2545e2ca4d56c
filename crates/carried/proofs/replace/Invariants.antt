use Rattle.carried.proofs.Passes.{Exchanging}
use Rattle.carried.proofs.replace.Given as goal

abbrev pub invariant-loop-note : goal.invariant-loop-note
invariant-loop-note l = Exchanging l.x l.v l.initial.notes l.note-index l.notes
