use mathlib.Core.Path.{◌≡◌, ap, sym, ◌∙◌}
use mathlib.Core.List.{List}
use Prim.Native.Nat.{ℕ}
use Rattle.std.specs.Prelude.{Ok}
use Rattle.starts.specs.Beginning.{start_fault}
use Rattle.starts.proofs.StartFaults.{zero-faultless}
use Rattle.std.proofs.Common.{rules}
use Rattle.tokens.specs.Calls.{◌or_else◌}
use Rattle.grammar.specs.Items.{fault_of}
use Rattle.calls.proofs.Answers.{admits-no}
use Rattle.calls.proofs.fault.Goals as goal

at_zero_lem : (ed : ℕ) (text : List ℕ) (at : ℕ) → at ≡ 0 → Ok tt ≡ start_fault ed text at
at_zero_lem ed text at e = sym (ap (start_fault ed text) e ∙ zero-faultless ed text)

pub returns-in_err-kind : goal.returns-in_err-kind
unfolding fault_of ◌or_else◌
returns-in_err-kind c = admits-no _ _ _ _ c.from_residual.ensures (search rules)

pub returns-then-q-eq0 : goal.returns-then-q-eq0
unfolding fault_of ◌or_else◌
returns-then-q-eq0 c =
    let f = c.in_ok-kind.ensures.0 in
    let h = at_zero_lem c.args.q.edition c.args.q.text.now c.args.q.at c.if-q-eq0.true in
    (search rules, c.in_ok-kind.ensures.1)

pub returns-in_err-start_fault : goal.returns-in_err-start_fault
unfolding fault_of ◌or_else◌
returns-in_err-start_fault c =
    let f = c.in_ok-kind.ensures.0 in
    admits-no _ _ _ _ c.from_residual-in_err-start_fault.ensures (search rules)

pub returns : goal.returns
unfolding fault_of ◌or_else◌
returns c =
    let f = c.in_ok-kind.ensures.0 in
    (search rules, c.in_ok-kind.ensures.1)
