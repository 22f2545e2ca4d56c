-- What the calls over saved trees answer; for every case of the answer its number, 0 where nothing is refused, and its six values.
use Rattle.std.specs.Prelude.{ℕ, List, [], ◌∷◌, Some, None, Result, Ok, Err}
use Rattle.tokens.specs.Answers.{places}
use Rattle.tokens.specs.declared.Refusal.{Refusal}
use Rattle.records.specs.Tree.{Tree}
use Rattle.saved.specs.Heads.{form_told}
use Rattle.saved.specs.Open.{Opened, whole, damaged, first_at, open_tree}
use Rattle.saved.specs.Child.{Handed, saved_tree, child_in}
use Rattle.saved.specs.declared.SavedRecord.{SavedRecord}

-- the outermost record of what was opened, or the refusal
unfoldable pub outermost : (f : ℕ) → Opened Tree → Handed
outermost f (whole t) = Ok (Some (saved_tree (first_at f) t))
outermost f (damaged r) = Err r

-- opening always hands back a record or a refusal
abbrev pub with_record : Result SavedRecord Refusal → Handed
with_record (Ok k) = Ok (Some k)
with_record (Err r) = Err r

unfoldable pub open_call : (bytes text : List ℕ) → Handed
open_call bytes text = outermost (form_told bytes) (open_tree bytes text)

-- a child, where the bytes open
unfoldable pub if_opened : Opened Tree → Handed → Handed
if_opened (whole t) a = a
if_opened (damaged r) a = Err r

unfoldable pub child_call : (bytes text : List ℕ) → (p index : ℕ) → Handed
child_call bytes text p index = if_opened (open_tree bytes text) (child_in bytes p index)

unfoldable pub handed_number : Handed → ℕ
handed_number (Ok (Some r)) = 0
handed_number (Ok None) = 0
handed_number (Err r) = r.number

unfoldable pub handed_values : Handed → List ℕ
handed_values (Ok (Some r)) = 1 ∷ r.offset ∷ r.kind ∷ r.start ∷ r.end ∷ 0 ∷ []
handed_values (Ok None) = 0 ∷ 0 ∷ 0 ∷ 0 ∷ 0 ∷ 0 ∷ []
handed_values (Err r) = places r
