use native.Mathlib.Omega.{arith}
use mathlib.Core.Path.{sym, subst}
use Prim.Native.Nat.{ℕ, ◌+◌}
use mathlib.Core.List.{List}
use borrow.Author.Rules.{rules}
use borrow.Author.Tests.{eq-eqb, ne_eqb}
use Rattle.carried.specs.code.Passes.{exchanged}
use Rattle.carried.proofs.Passes.{Exchanging, exchanging-step, exchanging-done}
use Rattle.carried.proofs.replace.Goals as goal
use Rattle.carried.proofs.replace.Goals.{then-note-x, else-note-x}

pub loop-note-preserved : goal.loop-note-preserved
unfolding exchanged
loop-note-preserved c =
    let x = c.args in
    let on = c.loop-note.note-index + 1 in
    elim c.if-note-x.branch [
      | then-note-x w ↦ subst (λ (l : List ℕ). Exchanging x.x x.v x.notes.now on l) (sym w.notes-is)
          (exchanging-step _ _ _ _ _ c.loop-note.invariant (search rules) _ (rw (eq-eqb _ _ w.if-note-x.true)))
      | else-note-x w ↦ subst (λ (l : List ℕ). Exchanging x.x x.v x.notes.now on l) (sym w.notes-is)
          (exchanging-step _ _ _ _ _ c.loop-note.invariant (search rules) _ (rw (ne_eqb _ _ w.if-note-x.false)))
    ]

pub returns : goal.returns
returns c = exchanging-done _ _ _ _ _ c.loop-note.invariant (omega (arith, c.loop-note.auto.notes, c.loop-note-test.false))
