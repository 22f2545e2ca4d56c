use Rattle.std.proofs.Common.{rules, ◌≡◌, Err, ℕ}
use native.Mathlib.Omega.{arith}
use Rattle.std.proofs.lemmas.List.{length-replicate}
use Rattle.outline.proofs.Whole.{over-refused, over-again, over-whole}
use Rattle.outline.proofs.Request.read_in.Goals as goal

pub whole_as_slice-read : goal.whole_as_slice-read
whole_as_slice-read g c = omega (arith, c.requires.1)

pub returns-in_err-s : goal.returns-in_err-s
returns-in_err-s g c =
    let z : c.from_residual.result ≡ Err c.in_err-s.field-0.0 = search rules in
    rw (z, ← c.requires.0) (over-refused _ _ _ c.requires.0 _ _ c.read.ensures.answer c.in_err-s.field-0.0 c.in_err-s.was)

pub returns-then-s : goal.returns-then-s
returns-then-s g c =
    let again = c.read-then-s.ensures in
    rw (← c.requires.0) (over-again _ _ _ c.requires.0 _ _ c.read.ensures.answer _ _ _ c.in_ok-s.was again.answer again.buffer)

pub shared_whole_as_front-copy : goal.shared_whole_as_front-copy
shared_whole_as_front-copy g c = (c.if-s.false, omega (arith, c.requires.1))

pub returns : goal.returns
returns g c = rw (← c.requires.0) (over-whole _ _ _ c.requires.0 _ _ c.read.ensures.answer _ _ _ _ c.in_ok-s.was c.read.ensures.buffer (omega (arith, c.if-s.false, c.read.auto.out, length-replicate {A = ℕ} g.row.N 0)) c.copy.ensures)
