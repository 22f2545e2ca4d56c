-- The examples hold of the definitions that the contracts of the calls cite, by computation.
use mathlib.Core.Path.{◌≡◌, refl}
use mathlib.Core.List.{map}
use Rattle.classes.specs.Bytes.{begins}
use Rattle.classes.specs.Class.{in_range}
use Rattle.records.specs.Spans.{start_of, end_of}
use Rattle.records.specs.Stored.{little_endian, head_of}
use Rattle.forms.specs.Forms.{front, head_size, width, head, recorded, recorded_all, laid, written}
use Rattle.saved.specs.Children.{is_chain, is_type, is_binding, is_kind, allows, row_of, slot, deepens}
use Rattle.saved.specs.Heads.{form_told, number_in, number_at, head_in}
use Rattle.saved.specs.Open.{onward, tested, unfit, outside, head_fault, child_fault, level_of, level_fault, ended, children_at, outermost_fault, outermost_at, open_tree}
use Rattle.saved.specs.Child.{starts_by, child_from, child_over, kind_of}
use Rattle.saved.specs.Answers.{outermost, open_call, if_opened, child_call, handed_number, handed_values}
use Rattle.saved.specs.Examples.{expected, given, examples, deep_examples}

-- the bytes of a tree; what opens them
unfoldable writing : Unit {0}
unfolding little_endian head_of front head_size width head recorded recorded_all laid written
writing = tt

unfoldable opening : Unit {0}
unfolding begins in_range start_of end_of is_chain is_type is_binding is_kind allows row_of slot deepens form_told number_in number_at head_in onward tested unfit outside head_fault child_fault level_of level_fault ended children_at outermost_fault outermost_at open_tree starts_by child_from child_over kind_of outermost open_call if_opened child_call handed_number handed_values
opening = tt

pub examples-hold : map given examples ≡ map expected examples
unfolding given examples writing opening
examples-hold = refl

pub deep-hold : map given deep_examples ≡ map expected deep_examples
unfolding given deep_examples writing opening
deep-hold = refl
