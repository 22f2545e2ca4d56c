-- The examples hold of the definitions that the contracts of the calls cite, by computation.
use mathlib.Core.Path.{◌≡◌, refl}
use mathlib.Core.List.{map}
use Rattle.classes.specs.Bytes.{begins}
use Rattle.classes.specs.Class.{in_range, is_digit, is_hex, is_digit_or_underscore, is_hex_or_underscore, is_letter, is_name, is_ascii, in_line}
use Rattle.classes.specs.Run.{run_len}
use Rattle.gap.specs.Marks.{is_space, is_blank, slashes, opens, closes, doc_line, doc_block}
use Rattle.gap.specs.Comments.{inside, line_text, line_comment, block_comment, part_at}
use Rattle.gap.specs.Gap.{gap}
use Rattle.gap.specs.PartsEnd.{parts_end}
use Rattle.gap.specs.LineFeed.{holds_line_feed, line_feed}
use Rattle.words.specs.Tables.{keywords, long_marks, double_marks, single_marks, marks}
use Rattle.words.specs.Search.{same, lookup, kind_of, longest, mark_of, front_len, suffixes1, suffixes2, suffixes_of, suffix_len}
use Rattle.words.specs.Quote.{ends_line, quote_from}
use Rattle.tokens.specs.Token.{typed, digits_len, more_digits, more_hex, decimal_len, decimal, hex_typed, hex_len, hex_number, number_token, string_by, string, opens_string, string_refusal, name, word_token, mark, find_token, placed, behind_gap, scan}
use Rattle.tokens.specs.Answers.{token_number, token_values}
use Rattle.tokens.specs.Calls.{◌or_else◌, place_fault, call_fault, unless, lexed, next_token, line_feed_before, advanced, token_call}
use Rattle.tokens.specs.Walk.{walk, tokens_from, tokens_at}
use Rattle.starts.specs.Beginning.{bounds, by_refusal, by_tokens, beginning, beginning_fault, start_fault}
use Rattle.records.specs.Tree.{build, builds, behind, joined}
use Rattle.records.specs.Stored.{little_endian, head_of, counted, counted_all, records}
use Rattle.sources.specs.Source.{scanned, lex}
use Rattle.answers.specs.Reading.{then, look, when, closed, list, list_behind}
use Rattle.grammar.specs.Names.{last_part, third_part, second_part, chain}
use Rattle.grammar.specs.Values.{leaf_kind, leaf_value, address_value, value}
use Rattle.grammar.specs.Types.{bracketed, brackets, reference, function, with_arguments, named, type_over, read_type}
use Rattle.grammar.specs.Binds.{fields, struct_over, unpacked, bind_over, field_over, read_field, read_bind, read_bind_list, read_lambda_list}
use Rattle.grammar.specs.Items.{read_kind, followed, finished, number_fault, fault_of, read_item}
use Rattle.forms.specs.Line.{plain, others, commas, bars, angles, in_brackets, braces, first, later, initial, final, select, is_field, is_type, shape, kind_of_build, line as line_of, pieces, shown}
use Rattle.forms.specs.Forms.{front, head_size, width, head, recorded, recorded_all, laid, written, form_of}
use Rattle.forms.specs.Unprintable.{is_unprintable, unprintable_in, first_of, unprintable, unprintable_all}
use Rattle.calls.specs.Calls.{roomed, filled, unless_unprintable, if_printable, answered_in, read as read_call, read_buffer, answered, read_number, read_values, display as display_call, display_buffer, displayed, display_number, display_values}
use Rattle.roundtrip.specs.Examples.{expected, given, examples}

-- the definitions by which a gap and a word are found; a token; its answer; where reading may begin; an item; its bytes and answer; and the first unprintable byte
unfoldable scanning : Unit {0}
unfolding begins in_range is_digit is_hex is_digit_or_underscore is_hex_or_underscore is_letter is_name is_ascii in_line run_len is_space is_blank slashes opens closes doc_line doc_block inside line_text line_comment block_comment part_at gap parts_end holds_line_feed line_feed
scanning = tt

unfoldable lexing : Unit {0}
unfolding keywords long_marks double_marks single_marks marks same lookup kind_of longest mark_of front_len suffixes1 suffixes2 suffixes_of suffix_len ends_line quote_from typed digits_len more_digits more_hex decimal_len decimal hex_typed hex_len hex_number number_token string_by string opens_string string_refusal name word_token mark find_token placed behind_gap scan
lexing = tt

unfoldable telling : Unit {0}
unfolding token_number token_values ◌or_else◌ place_fault call_fault unless lexed next_token scanned lex line_feed_before advanced token_call
telling = tt

unfoldable walking : Unit {0}
unfolding walk tokens_from tokens_at bounds by_refusal by_tokens beginning beginning_fault start_fault
walking = tt

unfoldable reading : Unit {0}
unfolding then look when closed list list_behind last_part third_part second_part chain leaf_kind leaf_value address_value value bracketed brackets reference function with_arguments named type_over read_type fields struct_over unpacked bind_over field_over read_field read_bind read_bind_list read_lambda_list read_kind followed finished number_fault fault_of read_item behind joined
reading = tt

unfoldable calling : Unit {0}
unfolding build builds little_endian head_of counted counted_all records plain others commas bars angles in_brackets braces first later initial final select is_field is_type shape kind_of_build line_of pieces shown front head_size width head recorded recorded_all laid written form_of roomed filled answered_in read_call read_buffer answered read_number read_values display_call display_buffer displayed display_number display_values
calling = tt

unfoldable printing : Unit {0}
unfolding is_unprintable unprintable_in first_of unprintable unprintable_all unless_unprintable if_printable
printing = tt

pub examples-hold : map given examples ≡ map expected examples
unfolding given examples scanning lexing telling walking reading calling printing
examples-hold = refl
