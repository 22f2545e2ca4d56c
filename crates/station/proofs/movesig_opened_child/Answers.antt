use mathlib.Core.Path.{◌≡◌, ◌∙◌, refl, ap}
use Rattle.std.specs.Prelude.{Option, Some, None, Ok}
use Rattle.saved.specs.declared.SavedRecord.{SavedRecord}
use Rattle.saved.specs.Answers.{handed_number, handed_values}
use Rattle.station.proofs.movesig_opened_child.Goals as goal

unrefused : (x : Option SavedRecord) → handed_number (Ok x) ≡ 0
unfolding handed_number
unrefused None = refl
unrefused (Some k) = refl

pub returns : goal.returns
returns c = record {
  number = c.hand_back.ensures.number ∙ unrefused _;
  values = c.hand_back.ensures.values ∙ ap handed_values c.opened_child.ensures;
}
