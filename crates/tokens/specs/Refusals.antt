-- The numbers of the refusals, by the specification.
use Rattle.std.specs.Prelude.{ℕ}

abbrev pub TextTooLong : ℕ
TextTooLong = 1

abbrev pub StartPastEnd : ℕ
StartPastEnd = 2

abbrev pub NoSuchKind : ℕ
NoSuchKind = 3

abbrev pub NoRoom : ℕ
NoRoom = 4

abbrev pub NoToken : ℕ
NoToken = 5

abbrev pub CommentNotClosed : ℕ
CommentNotClosed = 6

abbrev pub HexStringNotClosed : ℕ
HexStringNotClosed = 7

abbrev pub ByteStringNotClosed : ℕ
ByteStringNotClosed = 8

abbrev pub StringNotAscii : ℕ
StringNotAscii = 9

abbrev pub UnexpectedToken : ℕ
UnexpectedToken = 10

abbrev pub CommaForItem : ℕ
CommaForItem = 11

abbrev pub ListNotClosed : ℕ
ListNotClosed = 12

abbrev pub NoValue : ℕ
NoValue = 13

abbrev pub TooDeep : ℕ
TooDeep = 14

abbrev pub LineUnprintable : ℕ
LineUnprintable = 18

abbrev pub NoSuchEdition : ℕ
NoSuchEdition = 19

abbrev pub NotATokenStart : ℕ
NotATokenStart = 20

abbrev pub NothingStarts : ℕ
NothingStarts = 21
