-- The same asked of another text, from 0; and items with all places raised by k.
use Rattle.std.specs.Prelude.{ℕ, List}
use Rattle.tokens.specs.Raise.{raise_refusal}
use Rattle.records.specs.Raise.{raise_tree}
use Rattle.sources.specs.Raise.{raise_token}
use Rattle.grammar.specs.Items.{Item, item, refused, Asked}

abbrev pub of_text : List ℕ → Asked → Asked
of_text text q = record { kind = q.kind; edition = q.edition; text = text; at = 0 }

unfoldable pub raise_item : ℕ → Item → Item
raise_item k (item x t) = item (raise_tree k x) (raise_token k t)
raise_item k (refused r) = refused (raise_refusal k r)
