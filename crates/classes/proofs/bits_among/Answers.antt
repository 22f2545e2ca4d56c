use mathlib.Core.Path.{◌∙◌, sym, ap}
use native.Mathlib.Omega.{arith}
use Rattle.std.proofs.Common.{bit_and}
use Rattle.classes.proofs.Search.{entry_read, bits-hit, bits-off, bits-end}
use Rattle.classes.proofs.bits_among.Goals as goal

pub returns-then-x-ne0 : goal.returns-then-x-ne0
returns-then-x-ne0 c =
    let found = ap (λ x. bit_and x c.args.mask) c.entry_if.ensures in
    found
    ∙ sym (c.loop-i.invariant
    ∙ bits-hit _ _ _ _ _ c.loop-i-test.true (entry_read _ _ c.requires.0 (omega (arith, c.loop-i-test.true, c.requires.1)))
    (λ z. c.if-x-ne0.true (found ∙ z)))

pub loop-i-preserved : goal.loop-i-preserved
loop-i-preserved c =
    c.loop-i.invariant
    ∙ bits-off _ _ _ _ _ c.loop-i-test.true (entry_read _ _ c.requires.0 (omega (arith, c.loop-i-test.true, c.requires.1)))
    (sym (ap (λ x. bit_and x c.args.mask) c.entry_if.ensures) ∙ c.if-x-ne0.false)

pub returns : goal.returns
returns c = sym (c.loop-i.invariant ∙ bits-end _ _ _ _ c.loop-i-test.false)
