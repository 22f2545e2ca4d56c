use mathlib.Core.Path.{◌≡◌, refl}
use Rattle.std.proofs.Common.{Option, Some, None, Ok, rules}
use Rattle.gap.specs.declared.Comment.{Comment}
use Rattle.tokens.specs.Calls.{comment_of, next_comment, unless}
use Rattle.tokens.proofs.next_comment.Goals as goal

pub returns-in_err-call_fault : goal.returns-in_err-call_fault
unfolding next_comment unless
returns-in_err-call_fault c = search rules

pub returns-in_err-first_doc : goal.returns-in_err-first_doc
unfolding next_comment unless comment_of
returns-in_err-first_doc c = search rules

told : (d : Option Comment) → Ok d ≡ comment_of (Ok d)
unfolding comment_of
told (Some c) = refl
told None = refl

pub returns : goal.returns
unfolding next_comment unless
returns c = search (rules, told c.in_ok-first_doc.field-0)
