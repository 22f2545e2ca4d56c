-- The kinds of the records of a stored tree, by the specification's numbers.
use Rattle.std.specs.Prelude.{ℕ}

-- names and addresses, chains of one, two and three parts, pairs
abbrev pub RecName : ℕ
RecName = 1

abbrev pub RecAddress : ℕ
RecAddress = 2

abbrev pub RecOnePart : ℕ
RecOnePart = 3

abbrev pub RecTwoPart : ℕ
RecTwoPart = 4

abbrev pub RecThreePart : ℕ
RecThreePart = 5

abbrev pub RecPair : ℕ
RecPair = 6

-- types
abbrev pub RecType : ℕ
RecType = 10

abbrev pub RecRef : ℕ
RecRef = 11

abbrev pub RecRefMut : ℕ
RecRefMut = 12

abbrev pub RecFunction : ℕ
RecFunction = 13

abbrev pub RecUnit : ℕ
RecUnit = 14

abbrev pub RecTuple : ℕ
RecTuple = 15

abbrev pub RecBrackets : ℕ
RecBrackets = 16

-- bindings
abbrev pub RecVariable : ℕ
RecVariable = 20

abbrev pub RecStruct : ℕ
RecStruct = 21

abbrev pub RecStructTyped : ℕ
RecStructTyped = 22

abbrev pub RecField : ℕ
RecField = 24

abbrev pub RecBindList : ℕ
RecBindList = 25

abbrev pub RecLambdaBindList : ℕ
RecLambdaBindList = 26

-- values
abbrev pub RecAddressValue : ℕ
RecAddressValue = 30

abbrev pub RecNumber : ℕ
RecNumber = 31

abbrev pub RecTrue : ℕ
RecTrue = 32

abbrev pub RecFalse : ℕ
RecFalse = 33

abbrev pub RecHexString : ℕ
RecHexString = 34

abbrev pub RecByteString : ℕ
RecByteString = 35
