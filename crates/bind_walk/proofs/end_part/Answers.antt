use mathlib.Core.Path.{refl}
use Rattle.bind_walk.proofs.Parted.{ending-read}
use Rattle.bind_walk.proofs.end_part.Goals as goal

pub returns : goal.returns
returns c =
    let whole = ending-read _ _ _ _ _ _ _ refl c.put_mark.ensures in
    record { answer = whole.0; bytes = whole.1 }
