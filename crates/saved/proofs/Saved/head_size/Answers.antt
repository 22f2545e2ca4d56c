use Rattle.saved.proofs.Heads.{size-told}
use Rattle.saved.proofs.Saved.head_size.Goals as goal

pub returns-then-self-clause-value : goal.returns-then-self-clause-value
returns-then-self-clause-value c = rw (size-told _ _ c.args.self.now.told, c.if-self.true)

pub returns-else-self-clause-value : goal.returns-else-self-clause-value
returns-else-self-clause-value c = rw (size-told _ _ c.args.self.now.told, c.if-self.false)
