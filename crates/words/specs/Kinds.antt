-- The kinds of tokens: the Rust's `Tok`, numbered in its order.
use Rattle.std.specs.Prelude.{ℕ}

abbrev pub EOF : ℕ
EOF = 0

abbrev pub NumValue : ℕ
NumValue = 1

abbrev pub NumTypedValue : ℕ
NumTypedValue = 2

abbrev pub ByteStringValue : ℕ
ByteStringValue = 3

abbrev pub Identifier : ℕ
Identifier = 4

abbrev pub Exclaim : ℕ
Exclaim = 5

abbrev pub ExclaimEqual : ℕ
ExclaimEqual = 6

abbrev pub Percent : ℕ
Percent = 7

abbrev pub Amp : ℕ
Amp = 8

abbrev pub AmpAmp : ℕ
AmpAmp = 9

abbrev pub AmpMut : ℕ
AmpMut = 10

abbrev pub LParen : ℕ
LParen = 11

abbrev pub RParen : ℕ
RParen = 12

abbrev pub LBracket : ℕ
LBracket = 13

abbrev pub RBracket : ℕ
RBracket = 14

abbrev pub Star : ℕ
Star = 15

abbrev pub Plus : ℕ
Plus = 16

abbrev pub Comma : ℕ
Comma = 17

abbrev pub Minus : ℕ
Minus = 18

abbrev pub Period : ℕ
Period = 19

abbrev pub PeriodPeriod : ℕ
PeriodPeriod = 20

abbrev pub Slash : ℕ
Slash = 21

abbrev pub Colon : ℕ
Colon = 22

abbrev pub ColonColon : ℕ
ColonColon = 23

abbrev pub Semicolon : ℕ
Semicolon = 24

abbrev pub Less : ℕ
Less = 25

abbrev pub LessEqual : ℕ
LessEqual = 26

abbrev pub LessLess : ℕ
LessLess = 27

abbrev pub Equal : ℕ
Equal = 28

abbrev pub EqualEqual : ℕ
EqualEqual = 29

abbrev pub EqualEqualGreater : ℕ
EqualEqualGreater = 30

abbrev pub LessEqualEqualGreater : ℕ
LessEqualEqualGreater = 31

abbrev pub Greater : ℕ
Greater = 32

abbrev pub GreaterEqual : ℕ
GreaterEqual = 33

abbrev pub GreaterGreater : ℕ
GreaterGreater = 34

abbrev pub Caret : ℕ
Caret = 35

abbrev pub Abort : ℕ
Abort = 36

abbrev pub Acquires : ℕ
Acquires = 37

abbrev pub As : ℕ
As = 38

abbrev pub Break : ℕ
Break = 39

abbrev pub Continue : ℕ
Continue = 40

abbrev pub Copy : ℕ
Copy = 41

abbrev pub Else : ℕ
Else = 42

abbrev pub False : ℕ
False = 43

abbrev pub If : ℕ
If = 44

abbrev pub Invariant : ℕ
Invariant = 45

abbrev pub Let : ℕ
Let = 46

abbrev pub Loop : ℕ
Loop = 47

abbrev pub Module : ℕ
Module = 48

abbrev pub Move : ℕ
Move = 49

abbrev pub Native : ℕ
Native = 50

abbrev pub Public : ℕ
Public = 51

abbrev pub Return : ℕ
Return = 52

abbrev pub Spec : ℕ
Spec = 53

abbrev pub Struct : ℕ
Struct = 54

abbrev pub True : ℕ
True = 55

abbrev pub Use : ℕ
Use = 56

abbrev pub While : ℕ
While = 57

abbrev pub LBrace : ℕ
LBrace = 58

abbrev pub Pipe : ℕ
Pipe = 59

abbrev pub PipePipe : ℕ
PipePipe = 60

abbrev pub RBrace : ℕ
RBrace = 61

abbrev pub Fun : ℕ
Fun = 62

abbrev pub Script : ℕ
Script = 63

abbrev pub Const : ℕ
Const = 64

abbrev pub Friend : ℕ
Friend = 65

abbrev pub NumSign : ℕ
NumSign = 66

abbrev pub AtSign : ℕ
AtSign = 67
