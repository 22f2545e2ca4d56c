-- The two tables: the 26 keywords and the 37 marks, with the numbers of their token kinds.
use Rattle.std.specs.Prelude.{ℕ, List, [], ◌∷◌, ◌++◌}
use Rattle.classes.specs.Bytes.{bytes}
use Rattle.words.specs.Kinds.{Exclaim, ExclaimEqual, Percent, Amp, AmpAmp, AmpMut, LParen, RParen, LBracket, RBracket, Star, Plus, Comma, Minus, Period, PeriodPeriod, Slash, Colon, ColonColon, Semicolon, Less, LessEqual, LessLess, Equal, EqualEqual, EqualEqualGreater, LessEqualEqualGreater, Greater, GreaterEqual, GreaterGreater, Caret, Abort, Acquires, As, Break, Continue, Copy, Else, False, If, Invariant, Let, Loop, Module, Move, Native, Public, Return, Spec, Struct, True, Use, While, LBrace, Pipe, PipePipe, RBrace, Fun, Script, Const, Friend, NumSign, AtSign}

-- an entry of a table: a spelling and the number of its kind
pub record Entry : Type 0 where
  pub word : List ℕ
  pub kind : ℕ

abbrev pub entry : ℕ → List ℕ → Entry
entry k w = record { word = w; kind = k }

abbrev pub none : Entry
none = entry 0 []

unfoldable pub keywords : List Entry
keywords =
    entry Abort (bytes "abort") ∷
    entry Acquires (bytes "acquires") ∷
    entry As (bytes "as") ∷
    entry Break (bytes "break") ∷
    entry Const (bytes "const") ∷
    entry Continue (bytes "continue") ∷
    entry Copy (bytes "copy") ∷
    entry Else (bytes "else") ∷
    entry False (bytes "false") ∷
    entry Friend (bytes "friend") ∷
    entry Fun (bytes "fun") ∷
    entry If (bytes "if") ∷
    entry Invariant (bytes "invariant") ∷
    entry Let (bytes "let") ∷
    entry Loop (bytes "loop") ∷
    entry Module (bytes "module") ∷
    entry Move (bytes "move") ∷
    entry Native (bytes "native") ∷
    entry Public (bytes "public") ∷
    entry Return (bytes "return") ∷
    entry Script (bytes "script") ∷
    entry Spec (bytes "spec") ∷
    entry Struct (bytes "struct") ∷
    entry True (bytes "true") ∷
    entry Use (bytes "use") ∷
    entry While (bytes "while") ∷
    []

-- of three bytes and more
unfoldable pub long_marks : List Entry
long_marks =
    entry AmpMut (bytes "&mut ") ∷
    entry LessEqualEqualGreater (bytes "<==>") ∷
    entry EqualEqualGreater (bytes "==>") ∷
    []

-- of two bytes
unfoldable pub double_marks : List Entry
double_marks =
    entry ExclaimEqual (bytes "!=") ∷
    entry AmpAmp (bytes "&&") ∷
    entry PeriodPeriod (bytes "..") ∷
    entry ColonColon (bytes "::") ∷
    entry LessEqual (bytes "<=") ∷
    entry LessLess (bytes "<<") ∷
    entry EqualEqual (bytes "==") ∷
    entry GreaterEqual (bytes ">=") ∷
    entry GreaterGreater (bytes ">>") ∷
    entry PipePipe (bytes "||") ∷
    []

-- of one byte
unfoldable pub single_marks : List Entry
single_marks =
    entry Exclaim (bytes "!") ∷
    entry Percent (bytes "%") ∷
    entry Amp (bytes "&") ∷
    entry LParen (bytes "(") ∷
    entry RParen (bytes ")") ∷
    entry LBracket (bytes "[") ∷
    entry RBracket (bytes "]") ∷
    entry Star (bytes "*") ∷
    entry Plus (bytes "+") ∷
    entry Comma (bytes ",") ∷
    entry Minus (bytes "-") ∷
    entry Period (bytes ".") ∷
    entry Slash (bytes "/") ∷
    entry Colon (bytes ":") ∷
    entry Semicolon (bytes ";") ∷
    entry Less (bytes "<") ∷
    entry Equal (bytes "=") ∷
    entry Greater (bytes ">") ∷
    entry Caret (bytes "^") ∷
    entry LBrace (bytes "{") ∷
    entry Pipe (bytes "|") ∷
    entry RBrace (bytes "}") ∷
    entry NumSign (bytes "#") ∷
    entry AtSign (bytes "@") ∷
    []

-- all 37, the longer before the shorter
unfoldable pub marks : List Entry
marks = long_marks ++ (double_marks ++ single_marks)
