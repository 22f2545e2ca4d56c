use Rattle.saved.proofs.Heads.{first-told, told-long}
use Rattle.saved.proofs.Saved.first_at.Goals as goal

pub returns-then-self-clause-value : goal.returns-then-self-clause-value
returns-then-self-clause-value c = rw (first-told _ _ c.args.self.now.told, c.if-self.true)

pub returns-then-self-clause-inside : goal.returns-then-self-clause-inside
returns-then-self-clause-inside c = told-long _ _ c.args.self.now.told c.if-self.true

pub returns-else-self-clause-value : goal.returns-else-self-clause-value
returns-else-self-clause-value c = rw (first-told _ _ c.args.self.now.told, c.if-self.false)
