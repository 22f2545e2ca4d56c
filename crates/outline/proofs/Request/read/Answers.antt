use Rattle.std.proofs.Common.{rules, ◌≡◌, Err}
use Rattle.outline.proofs.Ways.{sets_out, goes_on, ends-way, fills-way, refused-way, limit-way}
use Rattle.outline.proofs.Request.read.Goals as goal

pub loop-count-init : goal.loop-count-init
loop-count-init c = sets_out _ _ _ _ _ _ _ c.args.self.in_text

pub loop-count-preserved : goal.loop-count-preserved
loop-count-preserved c = goes_on _ _ _ _ _ _ _ _ _ _ c.loop-count.invariant _ _ (rw c.in-GoOn.is at c.in_ok-t.ensures) c.loop-count-test.true

pub returns-in_err-t : goal.returns-in_err-t
returns-in_err-t c =
    let r = c.in_err-t.field-0.0 in
    let z : c.from_residual.result ≡ Err r = search rules in
    let o = refused-way _ _ _ _ _ _ _ _ _ _ c.loop-count.invariant _ r c.in_err-t.ensures c.loop-count-test.true in
    rw z (record { answer = o.0; buffer = o.1 })

pub returns-in-End : goal.returns-in-End
returns-in-End c =
    let o = ends-way _ _ _ _ _ _ _ _ _ _ c.loop-count.invariant _ (rw c.in-End.is at c.in_ok-t.ensures) c.loop-count-test.true _ c.summary.ensures in
    record { answer = o.0; buffer = o.1 }

pub returns-in-Full : goal.returns-in-Full
returns-in-Full c =
    let o = fills-way _ _ _ _ _ _ _ _ _ _ c.loop-count.invariant _ (rw c.in-Full.is at c.in_ok-t.ensures) c.loop-count-test.true _ c.summary-in-Full.ensures in
    record { answer = o.0; buffer = o.1 }

pub returns : goal.returns
returns c =
    let o = limit-way _ _ _ _ _ _ _ _ _ _ c.loop-count.invariant c.loop-count-test.false _ c.summary-2.ensures in
    record { answer = o.0; buffer = o.1 }
