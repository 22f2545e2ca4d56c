-- The display line of a build. Brackets are shown where they were written and nowhere else.
use Rattle.std.specs.Prelude.{ℕ, Bool, not, cond, ◌||◌, List, [], ◌∷◌, ◌++◌, eqb}
use Rattle.classes.specs.Bytes.{bytes}
use Rattle.records.specs.Kinds.{RecTwoPart, RecThreePart, RecPair, RecType, RecRef, RecRefMut, RecFunction, RecUnit, RecTuple, RecBrackets, RecStruct, RecStructTyped, RecField, RecBindList, RecLambdaBindList, RecAddressValue}
use Rattle.records.specs.Tree.{Tree, Build, spelled, made, Builds, bnone, bmore, build}

-- a child: its kind and its line
pub record Piece : Type 0 where
  pub kind : ℕ
  pub text : List ℕ

-- the lines of children
unfoldable pub plain : List Piece → List (List ℕ)
plain [] = []
plain (p ∷ ps) = p.text ∷ plain ps

-- `a, b, c`: the first, and each other behind a comma
unfoldable pub others : List (List ℕ) → List ℕ
others [] = []
others (a ∷ xs) = bytes ", " ++ (a ++ others xs)

unfoldable pub commas : List (List ℕ) → List ℕ
commas [] = []
commas (a ∷ xs) = a ++ others xs

-- `|a, b|`, and `| |` round nothing
unfoldable pub bars : List (List ℕ) → List ℕ
bars [] = bytes "| |"
bars (a ∷ xs) = bytes "|" ++ (commas (a ∷ xs) ++ bytes "|")

-- `<a, b>`, and nothing for no arguments of a type
unfoldable pub angles : List (List ℕ) → List ℕ
angles [] = []
angles (a ∷ xs) = bytes "<" ++ (commas (a ∷ xs) ++ bytes ">")

-- `(a, b)`, and ` {a, b}` behind a name
unfoldable pub in_brackets : List (List ℕ) → List ℕ
in_brackets xs = bytes "(" ++ (commas xs ++ bytes ")")

unfoldable pub braces : List (List ℕ) → List ℕ
braces xs = bytes " {" ++ (commas xs ++ bytes "}")

-- the line of the first child, and the children behind it
unfoldable pub first : List Piece → List ℕ
first [] = []
first (p ∷ ps) = p.text

unfoldable pub later : List Piece → List Piece
later [] = []
later (p ∷ ps) = ps

-- the children before the last, and the line of the last
unfoldable pub initial : List Piece → List Piece
initial [] = []
initial (p ∷ []) = []
initial (p ∷ q ∷ ps) = p ∷ initial (q ∷ ps)

unfoldable pub final : List Piece → List ℕ
final [] = []
final (p ∷ []) = p.text
final (p ∷ q ∷ ps) = final (q ∷ ps)

-- of a struct's types and fields: the fields, and the types
unfoldable pub select : (ℕ → Bool) → List Piece → List Piece
select f [] = []
select f (p ∷ ps) = cond (f p.kind) (p ∷ select f ps) (select f ps)

unfoldable pub is_field : ℕ → Bool
is_field k = eqb k RecField

unfoldable pub is_type : ℕ → Bool
is_type k = not (is_field k)

-- the line of a record of kind k over its children
unfoldable pub shape : ℕ → List Piece → List ℕ
shape k ps =
    cond (eqb k RecTwoPart || (eqb k RecThreePart || eqb k RecPair)) (first ps ++ (bytes "::" ++ first (later ps)))
    (cond (eqb k RecType) (first ps ++ angles (plain (later ps)))
    (cond (eqb k RecRef) (bytes "& " ++ first ps)
    (cond (eqb k RecRefMut) (bytes "&mut " ++ first ps)
    (cond (eqb k RecFunction) (bars (plain (initial ps)) ++ (bytes " " ++ final ps))
    (cond (eqb k RecTuple || (eqb k RecBrackets || eqb k RecBindList)) (in_brackets (plain ps))
    (cond (eqb k RecStruct) (first ps ++ braces (plain (later ps)))
    (cond (eqb k RecStructTyped)
    (first ps ++ (bytes "<" ++ (commas (plain (select is_type (later ps))) ++ (bytes ">" ++ braces (plain (select is_field (later ps)))))))
    (cond (eqb k RecField) (first ps ++ (bytes ": " ++ first (later ps)))
    (cond (eqb k RecLambdaBindList) (bars (plain ps))
    (cond (eqb k RecAddressValue) (bytes "@" ++ first ps) []))))))))))

unfoldable pub kind_of_build : Build → ℕ
kind_of_build (spelled k w) = k
kind_of_build (made k bs) = k

-- a leaf is shown as it is spelled; the unit, which has no spelling, as `()`
unfoldable mutual
  pub line : Build → List ℕ
  line (spelled k w) = cond (eqb k RecUnit) (bytes "()") w
  line (made k bs) = shape k (pieces bs)

  pub pieces : Builds → List Piece
  pieces bnone = []
  pieces (bmore b bs) = record { kind = kind_of_build b; text = line b } ∷ pieces bs

-- the line of a tree
unfoldable pub shown : Tree → List ℕ
shown t = line (build t)
