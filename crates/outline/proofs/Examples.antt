-- The examples hold of the definitions that the contract of the call cites, by computation.
use mathlib.Core.Path.{◌≡◌, refl}
use mathlib.Core.List.{List, map}
use Prim.Native.Nat.{ℕ}
use native.Mathlib.Omega.{arith}
use Rattle.classes.specs.Bytes.{bytes, begins}
use Rattle.classes.specs.Class.{in_range, is_digit, is_hex, is_letter, is_name, is_ascii, in_line, is_digit_or_underscore, is_hex_or_underscore}
use Rattle.classes.specs.Run.{run_len}
use Rattle.gap.specs.Marks.{is_space, is_blank, slashes, opens, closes, doc_line, doc_block}
use Rattle.gap.specs.Comments.{inside, line_text, line_comment, block_comment, part_at}
use Rattle.gap.specs.Gap.{gap, gap_end_of}
use Rattle.words.specs.Tables.{keywords, long_marks, double_marks, single_marks, marks}
use Rattle.words.specs.Search.{same, lookup, kind_of, longest, mark_of, front_len, suffixes1, suffixes2, suffixes_of, suffix_len}
use Rattle.words.specs.Kinds.{Fun}
use Rattle.words.specs.Quote.{ends_line, quote_from}
use Rattle.tokens.specs.Answers.{token}
use Rattle.tokens.specs.Token.{typed, digits_len, more_digits, more_hex, decimal_len, decimal, hex_typed, hex_len, hex_number, number_token, string_by, string, opens_string, string_refusal, name, word_token, mark, find_token, placed, behind_gap, scan}
use Rattle.tokens.specs.Calls.{◌or_else◌, place_fault, call_fault, unless, lexed, next_token, last_span}
use Rattle.tokens.specs.Walk.{walk, tokens_from, tokens_at}
use Rattle.records.specs.Stored.{little_endian, head_of}
use Rattle.outline.specs.Entry.{width_in, entry_bytes, all_bytes, records_of, fitting}
use Rattle.outline.specs.Outline.{declares, keyword_of, separates, passes, handed, comment_at, pending_after, stopped, joined, names, stepped, portion, outlined}
use Rattle.outline.specs.Calls.{answered, outline_number, outline_values, pending_of, pending_left, outline_buffer}
use Rattle.outline.specs.Examples.{repeated, expected, shown, given, reads, none, blanks, blanks_narrow, blanks_wide, narrow_record, wide_record, examples, long_examples}
use Rattle.outline.proofs.Blanks.{behind-blanks}

-- the definitions by which a gap and a word are found; a list of tokens; the outline
unfoldable scanning : Unit {0}
unfolding begins in_range is_digit is_hex is_letter is_name is_ascii in_line is_digit_or_underscore is_hex_or_underscore run_len is_space is_blank slashes opens closes doc_line doc_block inside line_text line_comment block_comment part_at gap
scanning = tt

unfoldable lexing : Unit {0}
unfolding keywords long_marks double_marks single_marks marks same lookup kind_of longest mark_of front_len suffixes1 suffixes2 suffixes_of suffix_len ends_line quote_from typed digits_len more_digits more_hex decimal_len decimal hex_typed hex_len hex_number number_token string_by string opens_string string_refusal name word_token mark find_token placed behind_gap scan
lexing = tt

unfoldable listing : Unit {0}
unfolding ◌or_else◌ place_fault call_fault unless walk tokens_from tokens_at little_endian head_of
listing = tt

unfoldable outlining : Unit {0}
unfolding width_in entry_bytes all_bytes records_of fitting declares keyword_of separates passes handed last_span comment_at pending_after stopped joined names stepped portion outlined answered outline_number outline_values pending_of pending_left outline_buffer repeated
outlining = tt

pub examples-hold : map given examples ≡ map expected examples
unfolding shown given examples scanning lexing listing outlining
examples-hold = refl

-- from the start of a long text on: what is read from behind its blanks, and that by computation
abbrev FromBehind : List ℕ → ℕ → Type 0
FromBehind text room = outlined 1 text 0 9 (pending_of none) room ≡ outlined 1 text blanks 9 (pending_of none) room

narrow-behind : FromBehind blanks_narrow 12
unfolding gap_end_of lexed next_token scanning lexing listing outlining
narrow-behind = behind-blanks 1 blanks (bytes "fun f") refl refl (token Fun blanks 65533) refl (λ e. omega arith) (pending_of none) refl 8 12

wide-behind : FromBehind blanks_wide 22
unfolding gap_end_of lexed next_token scanning lexing listing outlining
wide-behind = behind-blanks 1 blanks (bytes "fun f ") refl refl (token Fun blanks 65533) refl (λ e. omega arith) (pending_of none) refl 8 22

narrow-shown : shown (reads 1 blanks_narrow 0 9 none 12 0 2 12 65535 none narrow_record) (outlined 1 blanks_narrow blanks 9 (pending_of none) 12) ≡ expected (reads 1 blanks_narrow 0 9 none 12 0 2 12 65535 none narrow_record)
unfolding shown scanning lexing listing outlining
narrow-shown = refl

wide-shown : shown (reads 1 blanks_wide 0 9 none 22 0 2 22 65535 none wide_record) (outlined 1 blanks_wide blanks 9 (pending_of none) 22) ≡ expected (reads 1 blanks_wide 0 9 none 22 0 2 22 65535 none wide_record)
unfolding shown scanning lexing listing outlining
wide-shown = refl

pub long-examples-hold : map given long_examples ≡ map expected long_examples
unfolding given long_examples
long-examples-hold = rw (narrow-behind, wide-behind, narrow-shown, wide-shown)
