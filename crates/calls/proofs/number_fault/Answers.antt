use Rattle.std.proofs.Common.{rules}
use Rattle.tokens.specs.Calls.{◌or_else◌}
use Rattle.grammar.specs.Items.{number_fault}
use Rattle.calls.proofs.Answers.{kind-numbered, admits-no}
use Rattle.calls.proofs.number_fault.Goals as goal

pub returns-in_err-place_fault : goal.returns-in_err-place_fault
unfolding number_fault ◌or_else◌
returns-in_err-place_fault c = admits-no _ _ _ _ c.from_residual.ensures (search rules)

pub returns-in_err-kind : goal.returns-in_err-kind
unfolding number_fault ◌or_else◌
returns-in_err-kind c = admits-no _ _ _ _ c.from_residual-in_err-kind.ensures (search rules)

pub returns-in_err-edition_fault : goal.returns-in_err-edition_fault
unfolding number_fault ◌or_else◌
returns-in_err-edition_fault c =
    let h = kind-numbered _ _ c.in_ok-kind.ensures in
    admits-no _ _ _ _ c.from_residual-in_err-edition_fault.ensures (search rules)

pub returns : goal.returns
unfolding number_fault ◌or_else◌
returns c = let h = kind-numbered _ _ c.in_ok-kind.ensures in (search rules, c.in_ok-kind.ensures)
