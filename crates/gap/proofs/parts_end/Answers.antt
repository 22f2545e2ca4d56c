use mathlib.Core.Path.{◌∙◌, sym, refl, ap}
use native.Mathlib.Omega.{arith}
use Rattle.gap.specs.code.Ends.{end_of_part}
use Rattle.gap.proofs.PartsEnd.{parts-over, parts-past, parts-unended, parts_none}
use Rattle.std.proofs.Common.{rules}
use Rattle.gap.proofs.parts_end.Goals as goal

pub loop-i-init : goal.loop-i-init
loop-i-init c = refl

pub loop-i-smaller : goal.loop-i-smaller
loop-i-smaller c =
    let r = parts-past c.args.text.now c.loop-i.i (search rules) c.in-Ok-Some.e (ap end_of_part (sym c.part_at.ensures) ∙ sym c.end_of_part.ensures ∙ search rules) in
    omega arith

pub loop-i-preserved : goal.loop-i-preserved
loop-i-preserved c =
    c.loop-i.invariant ∙ (parts-past _ _ (search rules) c.in-Ok-Some.e (ap end_of_part (sym c.part_at.ensures) ∙ sym c.end_of_part.ensures ∙ search rules)).0

pub returns-in_default : goal.returns-in_default
returns-in_default c =
    sym (c.loop-i.invariant ∙ parts_none _ _ (search rules) (ap end_of_part (sym c.part_at.ensures) ∙ sym c.end_of_part.ensures ∙ search rules))

pub returns-in_default-2 : goal.returns-in_default-2
returns-in_default-2 c =
    sym (c.loop-i.invariant ∙ parts-unended _ _ (search rules) _ _ (ap end_of_part (sym c.part_at.ensures) ∙ sym c.end_of_part.ensures ∙ c.in_default.is))

pub returns : goal.returns
returns c = sym (c.loop-i.invariant ∙ parts-over _ _ (search rules))
