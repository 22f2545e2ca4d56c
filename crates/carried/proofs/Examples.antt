-- The examples hold of the definitions that the contract of the call cites, by computation.
use mathlib.Core.Path.{◌≡◌, refl}
use mathlib.Core.List.{map}
use Rattle.classes.specs.Bytes.{bytes, begins}
use Rattle.classes.specs.Class.{in_range, is_digit, is_hex, is_letter, is_name, is_ascii, in_line, is_digit_or_underscore, is_hex_or_underscore}
use Rattle.classes.specs.Run.{run_len}
use Rattle.gap.specs.Marks.{is_space, is_blank, slashes, opens, closes, doc_line, doc_block}
use Rattle.gap.specs.Comments.{inside, line_text, line_comment, block_comment, part_at}
use Rattle.gap.specs.Gap.{gap}
use Rattle.words.specs.Tables.{keywords, long_marks, double_marks, single_marks, marks}
use Rattle.words.specs.Search.{same, lookup, kind_of, longest, mark_of, front_len, suffixes1, suffixes2, suffixes_of, suffix_len}
use Rattle.words.specs.Quote.{ends_line, quote_from}
use Rattle.tokens.specs.Token.{typed, digits_len, more_digits, more_hex, decimal_len, decimal, hex_typed, hex_len, hex_number, number_token, string_by, string, opens_string, string_refusal, name, word_token, mark, find_token, placed, behind_gap, scan}
use Rattle.tokens.specs.Calls.{◌or_else◌, place_fault, unless}
use Rattle.tokens.specs.Walk.{walk, tokens_from, tokens_at}
use Rattle.carried.specs.Carry.{refusal_of, is_start, covers, covering_start, bad_note, carry_fault, carry, answer_of, notes_after, carry_number, carry_values}
use Rattle.carried.specs.Examples.{given, examples}
use Rattle.std.specs.Prelude.{Ok}

-- the definitions by which a gap and a word are found; a token; the tokens of a text; and what is carried
unfoldable scanning : Unit {0}
unfolding begins in_range is_digit is_hex is_letter is_name is_ascii in_line is_digit_or_underscore is_hex_or_underscore run_len is_space is_blank slashes opens closes doc_line doc_block inside line_text line_comment block_comment part_at gap
scanning = tt

unfoldable lexing : Unit {0}
unfolding keywords long_marks double_marks single_marks marks same lookup kind_of longest mark_of front_len suffixes1 suffixes2 suffixes_of suffix_len ends_line quote_from typed digits_len more_digits more_hex decimal_len decimal hex_typed hex_len hex_number number_token string_by string opens_string string_refusal name word_token mark find_token placed behind_gap scan
lexing = tt

unfoldable carrying : Unit {0}
unfolding ◌or_else◌ place_fault unless walk tokens_from tokens_at refusal_of is_start covers covering_start bad_note carry_fault carry answer_of notes_after carry_number carry_values
carrying = tt

-- that edition 2 reads what edition 1 reads has no converse
pub only-edition-2 : refusal_of (tokens_at 2 (bytes "1_x\"a\"") 0) ≡ Ok tt
unfolding scanning lexing carrying
only-edition-2 = refl

pub examples-hold : map given examples ≡ examples
unfolding given examples scanning lexing carrying
examples-hold = refl
