-- The examples hold of the definitions, by computation.
use mathlib.Core.Path.{◌≡◌, refl}
use mathlib.Core.List.{map}
use Rattle.classes.specs.Bytes.{begins}
use Rattle.classes.specs.Class.{in_range, is_digit, is_letter, is_name}
use Rattle.classes.specs.Run.{run_len}
use Rattle.gap.specs.Marks.{is_space, is_blank, slashes, opens}
use Rattle.gap.specs.Comments.{part_at}
use Rattle.gap.specs.Gap.{gap}
use Rattle.words.specs.Tables.{keywords, long_marks, double_marks, single_marks, marks}
use Rattle.words.specs.Search.{same, lookup, kind_of, longest, mark_of}
use Rattle.tokens.specs.Token.{opens_string, name, word_token, mark, find_token, placed, behind_gap, scan}
use Rattle.tokens.specs.Calls.{◌or_else◌, place_fault, unless}
use Rattle.records.specs.Tree.{build, builds, behind}
use Rattle.records.specs.Spans.{start_of, end_of}
use Rattle.records.specs.Stored.{counted, counted_all, records}
use Rattle.sources.specs.Source.{scanned, lex}
use Rattle.answers.specs.Reading.{then, look, when, closed, list, list_behind}
use Rattle.grammar.specs.Names.{last_part, third_part, second_part, chain}
use Rattle.grammar.specs.Types.{bracketed, brackets, reference, function, with_arguments, named, type_over, read_type}
use Rattle.starts.specs.Beginning.{beginning, beginning_fault, start_fault}
use Rattle.grammar.specs.Items.{read_kind, followed, finished, number_fault, fault_of, read_item}
use Rattle.largest.specs.Largest.{bytes_of, further_arguments, function_type, largest, most, type_room}
use Rattle.largest.specs.Examples.{expected, given, examples}

-- the definitions by which a token is found, and an item
unfoldable lexing : Unit {0}
unfolding begins in_range is_digit is_letter is_name run_len is_space is_blank slashes opens part_at gap keywords long_marks double_marks single_marks marks same lookup kind_of longest mark_of opens_string name word_token mark find_token placed behind_gap scan scanned lex
lexing = tt

unfoldable reading : Unit {0}
unfolding ◌or_else◌ place_fault unless then look when closed list list_behind last_part third_part second_part chain bracketed brackets reference function with_arguments named type_over read_type read_kind followed finished number_fault beginning beginning_fault start_fault fault_of read_item behind
reading = tt

unfoldable telling : Unit {0}
unfolding build builds counted counted_all records start_of end_of bytes_of further_arguments function_type largest most type_room
telling = tt

pub examples-hold : (map (given 1) examples ≡ map expected examples) × (map (given 2) examples ≡ map expected examples)
unfolding given examples lexing reading telling
examples-hold = (refl, refl)
