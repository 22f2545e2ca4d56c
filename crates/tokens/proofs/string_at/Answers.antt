use mathlib.Core.Path.{◌∙◌, ap, sym}
use native.Mathlib.Omega.{arith}
use lib.Seq.{length-take-le}
use Rattle.tokens.proofs.Steps.{string-missing, string-high, string-closed, quote-room}
use Rattle.tokens.proofs.string_at.Goals as goal
use Rattle.std.specs.Prelude.{Err}

pub slice_bounds-run_end-end : goal.slice_bounds-run_end-end
slice_bounds-run_end-end c = let r = quote-room c.args.text.now c.args.at c.args.m _ c.closing_quote-k.ensures _ c.in-Ok.is in sym (length-take-le c.in-Ok.q c.args.text.now (omega arith))

pub returns-then-h-q : goal.returns-then-h-q
returns-then-h-q c = ap Err c.refuse-then-h-q.ensures ∙ string-high _ _ _ _ c.closing_quote-k.ensures _ c.in-Ok.is _ c.run_end-h.ensures c.if-h-q.true

pub overflow_add-result : goal.overflow_add-result
overflow_add-result c = let r = quote-room c.args.text.now c.args.at c.args.m _ c.closing_quote-k.ensures _ c.in-Ok.is in omega arith

pub returns-in-Err : goal.returns-in-Err
returns-in-Err c = ap Err c.refuse.ensures ∙ string-missing _ _ _ _ c.closing_quote-k.ensures _ c.in-Err.is

pub returns-else-h-q : goal.returns-else-h-q
returns-else-h-q c = string-closed _ _ _ _ c.closing_quote-k.ensures _ c.in-Ok.is _ c.run_end-h.ensures c.if-h-q.false
