use Rattle.std.proofs.Common.{rules, ◌≡◌, sym, ◌∙◌, Err}
use Rattle.outline.proofs.Asked.{fault-place}
use Rattle.outline.proofs.Whole.{faulty-way, fine-way}
use Rattle.outline.proofs.outline.Goals as goal

pub returns-in_err-call_fault : goal.returns-in_err-call_fault
returns-in_err-call_fault c =
    let r = c.in_err-call_fault.field-0.0 in
    let z : c.from_residual.result ≡ Err r = search rules in
    let o = faulty-way _ _ _ _ _ _ _ c.call_fault.ensures r c.in_err-call_fault.was in
    rw z (record { answer = o.0; buffer = o.1 })

pub invariant_of-request : goal.invariant_of-request
invariant_of-request c = record { in_text = (fault-place _ _ _ (sym c.call_fault.ensures ∙ c.in_ok-call_fault.was)).1 }

pub returns-then-limit-le-FEW : goal.returns-then-limit-le-FEW
returns-then-limit-le-FEW c =
    let o = fine-way _ _ _ _ _ c.args.out.now _ c.call_fault.ensures _ _ _ c.in_ok-call_fault.was c.handed.ensures c.read_in.ensures in
    record { answer = o.0; buffer = o.1 }

pub invariant_of-request-2 : goal.invariant_of-request-2
invariant_of-request-2 c = record { in_text = (fault-place _ _ _ (sym c.call_fault.ensures ∙ c.in_ok-call_fault.was)).1 }

pub returns : goal.returns
returns c =
    let o = fine-way _ _ _ _ _ c.args.out.now _ c.call_fault.ensures _ _ _ c.in_ok-call_fault.was c.handed.ensures c.read_in-2.ensures in
    record { answer = o.0; buffer = o.1 }
