use Rattle.outline.proofs.Pieces.{entry-pieces}
use Rattle.outline.proofs.put_numbers.Goals as goal

pub returns : goal.returns
returns g c =
    entry-pieces _ _ c.from-w.ensures _ _ _ _ _ _ _ _ _ _ _ c.put_number.ensures c.put_number-2.ensures c.put_number-3.ensures c.put_number-4.ensures c.put_number-5.ensures c.put_number-6.ensures
