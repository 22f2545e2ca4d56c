use mathlib.Core.Path.{◌∙◌, sym}
use native.Mathlib.Omega.{arith}
use Rattle.token_program.proofs.Listing.{begun, with-refusal, with-eof, goes_on, with-token}
use Rattle.token_program.proofs.list_tokens.Goals as goal

pub loop-t-init : goal.loop-t-init
loop-t-init c = begun _ _ c.requires.empty

pub returns-in-Err : goal.returns-in-Err
returns-in-Err c = c.put_refusal.ensures ∙ with-refusal _ _ _ c.loop-t.invariant _ (sym c.next_token.ensures ∙ c.in-Err.is)

pub returns-then-t-eq-EOF : goal.returns-then-t-eq-EOF
returns-then-t-eq-EOF c =
    c.put_token.ensures.written ∙ with-eof _ _ _ c.loop-t.invariant _ (sym c.next_token.ensures ∙ c.in-Ok.is) c.if-t-eq-EOF.true

pub loop-t-smaller : goal.loop-t-smaller
loop-t-smaller c =
    let r = goes_on _ _ _ c.loop-t.invariant _ (sym c.next_token.ensures ∙ c.in-Ok.is) c.if-t-eq-EOF.false in omega arith

pub loop-t-preserved : goal.loop-t-preserved
loop-t-preserved c =
    with-token _ _ _ c.loop-t.invariant _ (sym c.next_token.ensures ∙ c.in-Ok.is) c.if-t-eq-EOF.false _ c.put_token.ensures.written c.put_token.ensures.upper_bound
