use Rattle.std.proofs.Common.{rules, ◌≡◌, sym, Err}
use Rattle.outline.proofs.Ways.{token-of, comment-of, unread-way, eof-way, pass-way, name-way}
use Rattle.outline.proofs.Request.step.Goals as goal

pub returns-in_err-t : goal.returns-in_err-t
returns-in_err-t c =
    let r = c.in_err-t.field-0.0 in
    let z : c.from_residual.result ≡ Err r = search rules in
    rw z (unread-way _ _ _ _ c.requires _ _ _ (token-of _ _ _ _ c.next_documented-d.ensures _ c.in_err-t.was))

pub returns-then-t-eq-EOF : goal.returns-then-t-eq-EOF
returns-then-t-eq-EOF c = eof-way _ _ _ _ c.requires _ _ (token-of _ _ _ _ c.next_documented-d.ensures _ c.in_ok-t.was) c.if-t-eq-EOF.true

pub returns-then-names : goal.returns-then-names
returns-then-names c =
    let e = token-of _ _ _ _ c.next_documented-d.ensures _ c.in_ok-t.was in
    let q = comment-of _ _ _ _ c.next_documented-d.ensures _ _ _ c.in_ok-t.was c.comment_or-c.ensures in
    name-way _ _ _ _ c.requires _ e c.if-t-eq-EOF.false _ q _ _ _ (sym c.if-names.ensures) c.name_step.ensures

pub returns : goal.returns
returns c =
    let e = token-of _ _ _ _ c.next_documented-d.ensures _ c.in_ok-t.was in
    let q = comment-of _ _ _ _ c.next_documented-d.ensures _ _ _ c.in_ok-t.was c.comment_or-c.ensures in
    pass-way _ _ _ _ c.requires _ e c.if-t-eq-EOF.false _ q _ _ (sym c.if-names.ensures) c.behind.ensures
