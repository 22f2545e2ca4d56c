use Rattle.std.proofs.Common.{sym, subst, rules}
use Rattle.std.specs.Io.KnownBytes.{Consumes}
use Rattle.std.proofs.KnownBytes.{Consumes-trans}
use Rattle.inputs.proofs.Filled.{one_more}
use Rattle.inputs.proofs.read_full.Goals as goal

pub loop-done-preserved : goal.loop-done-preserved
loop-done-preserved g c =
    let before = c.loop-done.invariant in
    let read = c.in_ok-n.ensures in
    record {
      within = search rules;
      filled = subst (Consumes _ _) (sym (one_more _ _ _ _ _ before.within read.bound.0)) (Consumes-trans _ _ _ _ _ before.filled read.bytes.0);
    }
