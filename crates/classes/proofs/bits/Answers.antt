use mathlib.Core.Path.{◌∙◌, sym}
use native.Mathlib.Omega.{arith}
use Rattle.classes.proofs.Search.{bits-front, bits-behind}
use Rattle.classes.proofs.bits.Goals as goal

pub returns-then-first-ne0 : goal.returns-then-first-ne0
returns-then-first-ne0 c =
    let p = c.requires in
    c.bits_among-first.ensures
    ∙ sym (bits-front _ _ _ _ (omega arith) (omega (arith, p.1)) _ (λ z. c.if-first-ne0.true (c.bits_among-first.ensures ∙ z)))

pub returns-then-second-ne0 : goal.returns-then-second-ne0
returns-then-second-ne0 c =
    let p = c.requires in
    c.bits_among-second.ensures
    ∙ sym (bits-behind _ _ _ _ (omega arith) (omega (arith, p.1)) _ (sym c.bits_among-first.ensures ∙ c.if-first-ne0.false)
    ∙ bits-front _ _ _ _ (omega arith) (omega (arith, p.1)) _ (λ z. c.if-second-ne0.true (c.bits_among-second.ensures ∙ z)))

pub returns-then-third-ne0 : goal.returns-then-third-ne0
returns-then-third-ne0 c =
    let p = c.requires in
    c.bits_among-third.ensures
    ∙ sym (bits-behind _ _ _ _ (omega arith) (omega (arith, p.1)) _ (sym c.bits_among-first.ensures ∙ c.if-first-ne0.false)
    ∙ bits-behind _ _ _ _ (omega arith) (omega (arith, p.1)) _ (sym c.bits_among-second.ensures ∙ c.if-second-ne0.false)
    ∙ bits-front _ _ _ _ (omega (arith, p.1)) (omega arith) _ (λ z. c.if-third-ne0.true (c.bits_among-third.ensures ∙ z)))

pub returns : goal.returns
returns c =
    let p = c.requires in
    c.bits_among.ensures
    ∙ sym (bits-behind _ _ _ _ (omega arith) (omega (arith, p.1)) _ (sym c.bits_among-first.ensures ∙ c.if-first-ne0.false)
    ∙ bits-behind _ _ _ _ (omega arith) (omega (arith, p.1)) _ (sym c.bits_among-second.ensures ∙ c.if-second-ne0.false)
    ∙ bits-behind _ _ _ _ (omega (arith, p.1)) (omega arith) _ (sym c.bits_among-third.ensures ∙ c.if-third-ne0.false))
