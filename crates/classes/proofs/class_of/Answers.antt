use mathlib.Core.Path.{◌∙◌}
use Rattle.classes.proofs.Search.{bits-low, bits-high}
use Rattle.classes.proofs.Table.{entries-fit}
use Rattle.classes.proofs.class_of.Goals as goal

pub returns-then-low-ne0 : goal.returns-then-low-ne0
returns-then-low-ne0 c = bits-low _ c.ranges.b.fits _ _ c.bits-low.ensures c.if-low-ne0.true ∙ entries-fit _ c.ranges.b.fits

pub returns : goal.returns
returns c = bits-high _ c.ranges.b.fits _ _ c.bits-low.ensures _ c.if-low-ne0.false c.bits.ensures ∙ entries-fit _ c.ranges.b.fits
