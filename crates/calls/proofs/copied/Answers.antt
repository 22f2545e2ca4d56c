use mathlib.Core.Path.{sym}
use lib.Seq.{length-take-le}
use native.Mathlib.Omega.{arith}
use Rattle.std.proofs.Common.{rules}
use Rattle.calls.specs.code.Given.{answer_of, buffer_of}
use Rattle.calls.proofs.Answers.{take_min}
use Rattle.calls.proofs.copied.Goals as goal

pub slice_bounds-copy-end : goal.slice_bounds-copy-end
slice_bounds-copy-end c = sym (length-take-le _ _ (omega (arith, c.min.ensures)))

pub returns-in-Lent : goal.returns-in-Lent
unfolding answer_of buffer_of
returns-in-Lent c = record { answer = search rules; buffer = search rules }

pub returns-in-Own : goal.returns-in-Own
unfolding answer_of buffer_of
returns-in-Own c = record { answer = search rules; buffer = let h = take_min c.in-Own.a.len c.args.made.now in search rules }
