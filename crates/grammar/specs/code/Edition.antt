-- The same asked in another edition.
use Rattle.std.specs.Prelude.{ℕ}
use Rattle.grammar.specs.Items.{Asked}

abbrev pub in_edition : ℕ → Asked → Asked
in_edition ed q = record { kind = q.kind; edition = ed; text = q.text; at = q.at }
