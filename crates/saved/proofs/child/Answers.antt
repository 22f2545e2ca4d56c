use mathlib.Core.Path.{◌≡◌, ◌∙◌}
use borrow.Author.Rules.{rules}
use Rattle.std.specs.Prelude.{Err}
use Rattle.saved.specs.Answers.{open_call, child_call}
use Rattle.saved.proofs.Calls.{opened-refused, opened-record}
use Rattle.saved.proofs.child.Goals as goal

pub returns-in_err-open_tree : goal.returns-in_err-open_tree
unfolding open_call child_call
returns-in_err-open_tree c = let e : c.from_residual.result ≡ Err c.in_err-open_tree.field-0.0 = search rules in e ∙ opened-refused _ _ _ _ c.open_tree.ensures _ c.in_err-open_tree.was

pub returns : goal.returns
unfolding open_call child_call
returns c = c.opened_child.ensures ∙ opened-record _ _ _ _ c.open_tree.ensures _ c.in_ok-open_tree.was
