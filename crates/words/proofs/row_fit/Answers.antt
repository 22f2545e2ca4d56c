use Rattle.words.proofs.Found.{row_fits, row-off}
use Rattle.words.proofs.row_fit.Goals as goal

-- `words::row_fit` meets its contract.

pub returns-then-starts-clause-fit : goal.returns-then-starts-clause-fit
returns-then-starts-clause-fit c = row_fits _ _ _ c.from-len.ensures _ c.starts.ensures c.if-starts.true

pub returns-clause-fit : goal.returns-clause-fit
returns-clause-fit c = row-off _ _ _ c.from-len.ensures _ c.starts.ensures c.if-starts.false
