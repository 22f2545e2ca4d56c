use Rattle.outline.proofs.Ways.{Going}
use Rattle.outline.proofs.Request.read.Given as goal

abbrev pub invariant-loop-count : goal.invariant-loop-count
invariant-loop-count l = Going l.self.edition l.self.text.now l.self.room l.self.limit l.self.at l.self.pending l.s l.count l.initial.out l.out
