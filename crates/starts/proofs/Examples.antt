-- The examples hold of the definition, by computation.
use mathlib.Core.Path.{◌≡◌, refl}
use mathlib.Core.List.{map}
use Rattle.classes.specs.Bytes.{begins}
use Rattle.classes.specs.Class.{in_range, is_digit, is_hex, is_letter, is_name, is_ascii, is_digit_or_underscore, is_hex_or_underscore, in_line}
use Rattle.classes.specs.Run.{run_len}
use Rattle.gap.specs.Marks.{is_space, is_blank, slashes, opens, closes, doc_line, doc_block}
use Rattle.gap.specs.Comments.{inside, line_text, line_comment, block_comment, part_at}
use Rattle.gap.specs.Gap.{gap}
use Rattle.gap.specs.PartsEnd.{parts_end}
use Rattle.words.specs.Tables.{keywords, long_marks, double_marks, single_marks, marks}
use Rattle.words.specs.Search.{same, lookup, kind_of, longest, mark_of, front_len, suffixes1, suffixes2, suffixes_of, suffix_len}
use Rattle.words.specs.Quote.{ends_line, quote_from}
use Rattle.tokens.specs.Token.{typed, digits_len, more_digits, more_hex, decimal_len, decimal, hex_typed, hex_len, hex_number, number_token, string_by, string, opens_string, string_refusal, name, word_token, mark, find_token, placed, behind_gap, scan}
use Rattle.tokens.specs.Calls.{◌or_else◌, place_fault, unless}
use Rattle.tokens.specs.Walk.{walk, tokens_from, tokens_at}
use Rattle.starts.specs.Beginning.{bounds, by_refusal, by_tokens, beginning}
use Rattle.starts.specs.Examples.{given, expected, examples}

-- the definitions by which a gap and a word are found; a token; and the walk
unfoldable scanning : Unit {0}
unfolding begins in_range is_digit is_hex is_letter is_name is_ascii is_digit_or_underscore is_hex_or_underscore in_line run_len is_space is_blank slashes opens closes doc_line doc_block inside line_text line_comment block_comment part_at gap parts_end
scanning = tt

unfoldable lexing : Unit {0}
unfolding keywords long_marks double_marks single_marks marks same lookup kind_of longest mark_of front_len suffixes1 suffixes2 suffixes_of suffix_len ends_line quote_from typed digits_len more_digits more_hex decimal_len decimal hex_typed hex_len hex_number number_token string_by string opens_string string_refusal name word_token mark find_token placed behind_gap scan
lexing = tt

unfoldable walking : Unit {0}
unfolding ◌or_else◌ place_fault unless walk tokens_from tokens_at
walking = tt

pub examples-hold : map given examples ≡ map expected examples
unfolding examples scanning lexing walking bounds by_refusal by_tokens beginning
examples-hold = refl
