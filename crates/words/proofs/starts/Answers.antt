use mathlib.Core.Path.{◌∙◌, sym}
use native.Mathlib.Omega.{arith}
use Rattle.words.proofs.Places.{from_start, from_end, from-miss, from_step, no_room_lem}
use borrow.Author.Rules.{rules}
use Rattle.words.proofs.starts.Goals.{then-text-n-via-then-text-n, then-text-n-via-else-text-n+then-text-n-2}
use Rattle.words.proofs.starts.Goals as goal

pub returns-then-text-n : goal.returns-then-text-n
returns-then-text-n c = sym (no_room_lem c.args.text.now c.args.at _ _ c.requires.1 c.requires.0
    (elim c.then-text-n.branch [
      | then-text-n-via-then-text-n w ↦ omega arith
      | then-text-n-via-else-text-n+then-text-n-2 w ↦ omega arith
    ]))

pub loop-j-init : goal.loop-j-init
loop-j-init c = from_start _ _ _ _

pub returns-then-text-at : goal.returns-then-text-at
returns-then-text-at c = sym (c.loop-j.invariant ∙ from-miss _ _ _ _ c.requires.1 (omega arith) _ (search rules) c.if-text-at.true)

pub loop-j-preserved : goal.loop-j-preserved
loop-j-preserved c = c.loop-j.invariant ∙ from_step _ _ _ _ c.requires.1 (omega arith) _ (search rules) c.if-text-at.false

pub returns : goal.returns
returns c = sym (c.loop-j.invariant ∙ from_end _ _ _ _ c.requires.1 _ (search rules))
