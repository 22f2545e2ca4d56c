use mathlib.Core.Path.{◌∙◌, sym}
use borrow.Author.Tests.{lt-ltb, le-ltb}
use Rattle.saved.specs.Open.{head_fault}
use Rattle.saved.proofs.Heads.{outer-unfit, outer-fits}
use Rattle.saved.proofs.Saved.outermost.Goals as goal

pub returns-in_default : goal.returns-in_default
returns-in_default c = outer-unfit _ _ _ c.first_at-first.ensures.value _ c.head_within.ensures.value c.in_default.is

pub returns-then-h-room : goal.returns-then-h-room
unfolding head_fault
returns-then-h-room c = rw (outer-fits _ _ _ c.first_at-first.ensures.value _ _ c.head_within.ensures.value c.in-Some.is, lt-ltb _ _ c.if-h-room.true)

pub returns-then-not-is_kind : goal.returns-then-not-is_kind
unfolding head_fault
returns-then-not-is_kind c = rw (outer-fits _ _ _ c.first_at-first.ensures.value _ _ c.head_within.ensures.value c.in-Some.is, le-ltb _ _ c.if-h-room.false, sym c.is_kind.ensures ∙ c.if-not-is_kind.true)

pub returns-then-lies_outside : goal.returns-then-lies_outside
unfolding head_fault
returns-then-lies_outside c = rw (outer-fits _ _ _ c.first_at-first.ensures.value _ _ c.head_within.ensures.value c.in-Some.is, le-ltb _ _ c.if-h-room.false, sym c.is_kind.ensures ∙ c.if-not-is_kind.false, sym c.lies_outside.ensures ∙ c.if-lies_outside.true)

pub returns : goal.returns
unfolding head_fault
returns c = rw (outer-fits _ _ _ c.first_at-first.ensures.value _ _ c.head_within.ensures.value c.in-Some.is, le-ltb _ _ c.if-h-room.false, sym c.is_kind.ensures ∙ c.if-not-is_kind.false, sym c.lies_outside.ensures ∙ c.if-lies_outside.false)
