-- The measures of the cycle, and what each member is given at a measure and asks below it. A measure is seven times the bytes behind the
-- place where the member stands, and which member runs; the token behind a field's name counts a byte more, unless it is EOF.
use Prim.Native.Nat.{◌+◌, ◌-◌, ◌*◌, min}
use lib.ListN.{length}
use Rattle.words.specs.Kinds.{RBrace}
use Rattle.bind_walk.specs.code.Pieces.{field_at}
use Rattle.lists.proofs.Listing.{Going}
use Rattle.bind_walk.proofs.+binds.Given as goal

abbrev pub decreases-field_bind : goal.decreases-field_bind
decreases-field_bind l = 7 * (length l.text.now - l.n.end) + 7 * min 1 l.n.kind

abbrev pub decreases-field_list : goal.decreases-field_list
decreases-field_list l = 7 * (length l.text.now - l.o.end) + 3

abbrev pub decreases-field_step : goal.decreases-field_step
decreases-field_step l = 7 * (length l.text.now - l.at) + 2

abbrev pub decreases-fields_at : goal.decreases-fields_at
decreases-fields_at l = 7 * (length l.text.now - l.b.end) + 4

abbrev pub decreases-parse_bind : goal.decreases-parse_bind
decreases-parse_bind l = 7 * (length l.text.now - l.a.end) + 6

abbrev pub decreases-parse_bind_field : goal.decreases-parse_bind_field
decreases-parse_bind_field l = 7 * (length l.text.now - l.a.end) + 1

abbrev pub decreases-unpack_at : goal.decreases-unpack_at
decreases-unpack_at l = 7 * (length l.text.now - l.n.end) + 5

abbrev pub invariant-field_list-loop-q : goal.invariant-field_list-loop-q
invariant-field_list-loop-q l = Going l.w.form l.w.edition l.text (field_at l.w.left) RBrace l.o l.initial.to l.initial.out l.i l.to l.count l.out

abbrev pub decreases-field_list-loop-q : goal.decreases-field_list-loop-q
decreases-field_list-loop-q l = length l.text - l.i
