-- The kinds of records, and which children each may have: one table, to which later kinds add rows.
use Rattle.std.specs.Prelude.{ℕ, Bool, true, false, cond, not, ◌&&◌, ◌||◌, eqb}
use Rattle.classes.specs.Class.{in_range}
use Rattle.records.specs.Kinds.{RecName, RecAddress, RecOnePart, RecTwoPart, RecThreePart, RecPair, RecType, RecRef, RecRefMut, RecFunction, RecTuple, RecBrackets, RecVariable, RecStruct, RecStructTyped, RecField, RecBindList, RecLambdaBindList, RecAddressValue, RecByteString}
use Rattle.saved.specs.declared.Allowed.{Allowed}
use Rattle.saved.specs.declared.Allowed.TheVariants.{NoChild, FirstPart, NamePart, PairPart, AnyChain, AnyType, AnyBinding, AnyField, TypesThenFields}
use Rattle.saved.specs.declared.Row.{Row}

-- chains, types and bindings; and all kinds
unfoldable pub is_chain : ℕ → Bool
is_chain k = in_range RecOnePart RecThreePart k

unfoldable pub is_type : ℕ → Bool
is_type k = in_range RecType RecBrackets k

unfoldable pub is_binding : ℕ → Bool
is_binding k = in_range RecVariable RecStructTyped k

unfoldable pub is_kind : ℕ → Bool
is_kind k =
    in_range RecName RecPair k || (is_type k || (is_binding k || (in_range RecField RecLambdaBindList k || in_range RecAddressValue RecByteString k)))

-- whether a child of kind k may stand where these are allowed; `field`: a field stands before it
unfoldable pub allows : Allowed → (field : Bool) → ℕ → Bool
allows NoChild field k = false
allows FirstPart field k = eqb k RecName || eqb k RecAddress
allows NamePart field k = eqb k RecName
allows PairPart field k = eqb k RecPair
allows AnyChain field k = is_chain k
allows AnyType field k = is_type k
allows AnyBinding field k = is_binding k
allows AnyField field k = eqb k RecField
allows TypesThenFields field k = eqb k RecField || (not field && is_type k)

abbrev pub row : (first second later : Allowed) (least : ℕ) → Row
row a b c n = record { first = a; second = b; later = c; least = n }

-- the table, by the parent's kind
unfoldable pub row_of : ℕ → Row
row_of k =
    cond (eqb k RecTwoPart || eqb k RecPair) (row FirstPart NamePart NoChild 2)
    (cond (eqb k RecThreePart) (row PairPart NamePart NoChild 2)
    (cond (eqb k RecType) (row AnyChain AnyType AnyType 1)
    (cond (eqb k RecRef || (eqb k RecRefMut || eqb k RecBrackets)) (row AnyType NoChild NoChild 1)
    (cond (eqb k RecFunction) (row AnyType AnyType AnyType 1)
    (cond (eqb k RecTuple) (row AnyType AnyType AnyType 2)
    (cond (eqb k RecStruct) (row AnyChain AnyField AnyField 1)
    (cond (eqb k RecStructTyped) (row AnyChain TypesThenFields TypesThenFields 1)
    (cond (eqb k RecField) (row NamePart AnyBinding NoChild 2)
    (cond (eqb k RecBindList || eqb k RecLambdaBindList) (row AnyBinding AnyBinding AnyBinding 0)
    (cond (eqb k RecAddressValue) (row FirstPart NoChild NoChild 1)
    (row NoChild NoChild NoChild 0)))))))))))

-- what the row has for the child of an index, counted from 0
unfoldable pub slot : Row → ℕ → Allowed
slot r index = cond (eqb index 0) r.first (cond (eqb index 1) r.second r.later)

-- whether a record of kind k may be the child of this index; and how many children there are at least
abbrev pub may : (parent index : ℕ) (field : Bool) (k : ℕ) → Bool
may parent index field k = allows (slot (row_of parent) index) field k

abbrev pub least : (parent : ℕ) → ℕ
least parent = (row_of parent).least

-- whether a record is one level deeper than its parent
unfoldable pub deepens : (parent k : ℕ) → Bool
deepens parent k = is_type k || eqb k RecField

-- leaves, which are spelled: no child may stand in them
unfoldable pub is_none : Allowed → Bool
is_none NoChild = true
is_none FirstPart = false
is_none NamePart = false
is_none PairPart = false
is_none AnyChain = false
is_none AnyType = false
is_none AnyBinding = false
is_none AnyField = false
is_none TypesThenFields = false

abbrev pub is_leaf : ℕ → Bool
is_leaf k = is_none (row_of k).first
