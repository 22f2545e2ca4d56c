use mathlib.Core.Path.{◌∙◌, ap}
use Rattle.saved.proofs.Calls.{open-long, open-refused, open-whole}
use Rattle.saved.proofs.open_tree.Goals as goal
use Rattle.std.specs.Prelude.{Err}
use Rattle.tokens.specs.declared.Refusal.{Refusal}

pub returns-then-text-gt-TEXT_LIMIT : goal.returns-then-text-gt-TEXT_LIMIT
returns-then-text-gt-TEXT_LIMIT c = ap (λ (r : Refusal). Err r) c.refusal_at.ensures ∙ open-long c.args.tree.now c.args.text.now c.if-text-gt-TEXT_LIMIT.true

pub returns-in-Err : goal.returns-in-Err
returns-in-Err c =
    let tree = c.args.tree.now in
    let at = rw c.new-saved.ensures at c.first_at-first.ensures.value in
    let e = rw c.new-saved.ensures at c.outermost.ensures in
    ap (λ (r : Refusal). Err r) c.refusal_at-in-Err.ensures ∙ open-refused tree c.args.text.now c.if-text-gt-TEXT_LIMIT.false _ at _ e _ c.in-Err.is

pub returns-in-Ok : goal.returns-in-Ok
returns-in-Ok c =
    let tree = c.args.tree.now in
    let at = rw c.new-saved.ensures at c.first_at-first.ensures.value in
    let e = rw c.new-saved.ensures at c.outermost.ensures in
    open-whole tree c.args.text.now c.if-text-gt-TEXT_LIMIT.false _ at _ e _ c.in-Ok.is _ (rw c.new-saved.ensures at c.opened_over.ensures)
