use borrow.Author.Tests.{lt-ltb, le-ltb}
use Rattle.tokens.specs.code.Found.{edition_refusal}
use Rattle.tokens.proofs.edition_refusal.Goals as goal

pub returns-then-text-gt-TEXT_LIMIT : goal.returns-then-text-gt-TEXT_LIMIT
unfolding edition_refusal
returns-then-text-gt-TEXT_LIMIT c = rw (lt-ltb _ _ c.if-text-gt-TEXT_LIMIT.true)

pub returns-then-text-at : goal.returns-then-text-at
unfolding edition_refusal
returns-then-text-at c = rw (le-ltb _ _ c.if-text-gt-TEXT_LIMIT.false, lt-ltb _ _ c.if-text-at.true)

pub returns : goal.returns
unfolding edition_refusal
returns c = rw (le-ltb _ _ c.if-text-gt-TEXT_LIMIT.false, le-ltb _ _ c.if-text-at.false)
