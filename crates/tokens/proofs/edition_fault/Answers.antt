use mathlib.Core.Path.{◌∙◌, sym, ap}
use mathlib.Core.Bool.{Bool}
use Rattle.tokens.specs.Refusals.{NoSuchEdition}
use Rattle.tokens.specs.Calls.{fault_if}
use Rattle.tokens.proofs.edition_fault.Goals as goal
use Rattle.std.specs.Prelude.{Err}

pub returns-then-no_edition : goal.returns-then-no_edition
returns-then-no_edition c = ap Err c.refuse.ensures ∙ ap (λ (b : Bool). fault_if b NoSuchEdition) (sym c.if-no_edition.true ∙ c.no_edition.ensures)

pub returns : goal.returns
returns c = ap (λ (b : Bool). fault_if b NoSuchEdition) (sym c.if-no_edition.false ∙ c.no_edition.ensures)
