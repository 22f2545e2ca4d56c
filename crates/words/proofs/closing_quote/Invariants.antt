use mathlib.Core.Path.{◌≡◌}
use mathlib.Core.Bool.{false}
use lib.ListN.{drop}
use Rattle.words.specs.Quote.{quote_from}
use Rattle.words.proofs.closing_quote.Given as goal

abbrev pub invariant-loop-i : goal.invariant-loop-i
invariant-loop-i l = quote_from false l.at (drop l.at l.text) ≡ quote_from l.escaped l.i (drop l.i l.text)
