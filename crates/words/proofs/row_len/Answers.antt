use mathlib.Core.Path.{◌≡◌}
use Prim.Native.Nat.{suc, ◌+◌}
use native.Mathlib.Omega.{arith}
use lib.ListN.{drop}
use Rattle.words.specs.code.Rows.{row_len}
use Rattle.words.proofs.Rows.{len-zero, len-next, len-end}
use borrow.Author.Rules.{rules}
use Rattle.words.proofs.row_len.Goals as goal

-- `words::row_len` meets its contract.

pub returns-then-row-n-eq0 : goal.returns-then-row-n-eq0
returns-then-row-n-eq0 c =
    let row = c.args.row in
    let n = c.loop-n.n in
    let z : row_len (drop n row) ≡ 0 = len-zero row n (search rules) c.if-row-n-eq0.true in omega arith

pub loop-n-preserved : goal.loop-n-preserved
loop-n-preserved c =
    let row = c.args.row in
    let n = c.loop-n.n in
    let z : row_len (drop n row) ≡ suc (row_len (drop (n + 1) row)) = len-next row n (search rules) c.if-row-n-eq0.false in omega arith

pub returns : goal.returns
returns c =
    let row = c.args.row in
    let n = c.loop-n.n in
    let z : row_len (drop n row) ≡ 0 = len-end row n (search rules) in omega arith
