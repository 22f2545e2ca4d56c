-- What the small functions of types answer and leave.
use Rattle.std.specs.Prelude.{ℕ, ◌≡◌, Bool, cond, List, eqb, length}
use Rattle.std.proofs.lemmas.List.Edits.{sets}
use Rattle.classes.specs.Bytes.{bytes}
use Rattle.records.specs.Kinds.{RecUnit, RecTuple, RecBrackets}
use Rattle.forms.specs.code.Constructs.{mark_in}
use Rattle.forms.specs.code.Spots.{moved_by}
use Rattle.forms.specs.declared.Spot.{Spot}

-- the kind of brackets round so many items
abbrev pub brackets_kind : ℕ → ℕ
brackets_kind n = cond (eqb n 0) RecUnit (cond (eqb n 1) RecBrackets RecTuple)

-- a `<` at s and a `>` at b, unless there is nothing between them
pub record Angled (form : ℕ) (empty : Bool) (entry : List ℕ) (s b r : Spot) (exit : List ℕ) : Type 0 where
  pub ends : r ≡ cond empty (moved_by s 0) (moved_by b (length (mark_in form (bytes ">"))))
  pub holds : exit ≡ cond empty entry (sets (sets entry b.pos (mark_in form (bytes ">"))) s.pos (mark_in form (bytes "<")))
