use mathlib.Core.Path.{◌∙◌, sym, ap, refl}
use Rattle.std.proofs.Common.{Err}
use Rattle.words.proofs.Quotes.{quote-over, line-over, behind-backslash, quote, passed}
use borrow.Author.Rules.{rules}
use Rattle.words.proofs.closing_quote.Goals.{then-escaped, else-escaped+else-text-i-eq34}
use Rattle.words.proofs.closing_quote.Goals as goal

-- `words::closing_quote` meets its contract. The loop's invariant: the answer is that from i on.

pub loop-i-init : goal.loop-i-init
loop-i-init c = refl

pub returns-then-ends_line : goal.returns-then-ends_line
returns-then-ends_line c = sym (c.loop-i.invariant ∙ line-over _ _ (search rules) _ c.ends_line.ensures _ c.if-ends_line.true)

pub returns-then-text-i-eq34 : goal.returns-then-text-i-eq34
returns-then-text-i-eq34 c =
    sym (c.loop-i.invariant ∙ quote _ _ c.loop-i-test.true _ c.ends_line.ensures _ c.if-ends_line.false c.if-escaped.false c.if-text-i-eq34.true)

pub loop-i-preserved : goal.loop-i-preserved
loop-i-preserved c = c.loop-i.invariant ∙ elim c.if-escaped.branch [
  | then-escaped w ↦ rw w.escaped-is (behind-backslash _ _ c.loop-i-test.true _ c.ends_line.ensures _ c.if-ends_line.false w.if-escaped.true)
  | else-escaped+else-text-i-eq34 w ↦ rw w.escaped-is (passed _ _ c.loop-i-test.true _ c.ends_line.ensures _ c.if-ends_line.false w.if-escaped.false w.if-text-i-eq34.false)
]

pub returns : goal.returns
returns c = ap Err c.max.ensures ∙ quote-over _ _ _ _ c.loop-i-test.false c.loop-i.auto.i-end c.loop-i.invariant
