use borrow.Author.Tests.{lt-ltb, le-ltb}
use Rattle.forms.proofs.clip.Goals as goal

-- `forms::clip` meets its contract.

pub returns-then-pos-n : goal.returns-then-pos-n
returns-then-pos-n c = rw (lt-ltb _ _ c.if-pos-n.true)

pub returns : goal.returns
returns c = rw (le-ltb _ _ c.if-pos-n.false)
