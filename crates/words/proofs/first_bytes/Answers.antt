use Rattle.words.proofs.Numbers.{shifted-out}
use Rattle.words.proofs.first_bytes.Goals as goal

-- `words::first_bytes` meets its contract.

pub returns : goal.returns
returns c = shifted-out c.args.v c.args.n c.requires.1
