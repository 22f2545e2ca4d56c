-- The measures of the cycle, and what each member is given at a measure and asks below it. A measure is six times the bytes behind the
-- place where the member stands, and which member runs; an item's first token counts a byte more, unless it is EOF, so that a step to the
-- next token falls whatever token a member is given.
use Prim.Native.Nat.{◌+◌, ◌-◌, ◌*◌, min}
use lib.ListN.{length}
use Rattle.grammar.specs.Types.{read_type}
use Rattle.lists.proofs.Listing.{Going}
use Rattle.type_walk.proofs.+types.Given as goal

abbrev pub decreases-brackets_at : goal.decreases-brackets_at
decreases-brackets_at l = 6 * (length l.text.now - l.a.end) + 5

abbrev pub decreases-function_at : goal.decreases-function_at
decreases-function_at l = 6 * (length l.text.now - l.a.end) + 5

abbrev pub decreases-marked_at : goal.decreases-marked_at
decreases-marked_at l = 6 * (length l.text.now - l.a.end) + 6 * min 1 l.a.kind

abbrev pub decreases-named_at : goal.decreases-named_at
decreases-named_at l = 6 * (length l.text.now - l.n.end) + 5

abbrev pub decreases-parse_type : goal.decreases-parse_type
decreases-parse_type l = 6 * (length l.text.now - l.a.end) + 6 * min 1 l.a.kind + 1

abbrev pub decreases-reference_at : goal.decreases-reference_at
decreases-reference_at l = 6 * (length l.text.now - l.a.end) + 5

abbrev pub decreases-type_item : goal.decreases-type_item
decreases-type_item l = 6 * (length l.text.now - l.a.end) + 6 * min 1 l.a.kind + 2

abbrev pub decreases-type_list : goal.decreases-type_list
decreases-type_list l = 6 * (length l.text.now - l.o.end) + 4

abbrev pub decreases-type_step : goal.decreases-type_step
decreases-type_step l = 6 * (length l.text.now - l.at) + 3

abbrev pub invariant-type_list-loop-q : goal.invariant-type_list-loop-q
invariant-type_list-loop-q l = Going l.w.form l.w.edition l.text (read_type l.w.left) l.close l.o l.initial.to l.initial.out l.i l.to l.count l.out

abbrev pub decreases-type_list-loop-q : goal.decreases-type_list-loop-q
decreases-type_list-loop-q l = length l.text - l.i
