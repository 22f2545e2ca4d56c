use Rattle.std.proofs.Common.{rules}
use Rattle.words.specs.Quote.{ends_line}
use Rattle.words.proofs.ends_line.Goals as goal

pub returns-then-text-i-eq10 : goal.returns-then-text-i-eq10
unfolding ends_line
returns-then-text-i-eq10 c = search rules

pub returns-then-text-i-eq13 : goal.returns-then-text-i-eq13
unfolding ends_line
returns-then-text-i-eq13 c = search rules

pub returns-else-text-i-eq13 : goal.returns-else-text-i-eq13
unfolding ends_line
returns-else-text-i-eq13 c = search rules
