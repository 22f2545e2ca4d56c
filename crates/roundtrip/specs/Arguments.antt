-- Builds in which no function type stands directly among the arguments of another: brackets stand round it there.
use Rattle.std.specs.Prelude.{◌≡◌, Bool, true, false, eqb}
use Rattle.records.specs.Kinds.{RecFunction}
use Rattle.records.specs.Tree.{Build, spelled, made, Builds, bnone, bmore}
use Rattle.forms.specs.Line.{kind_of_build}

abbrev pub is_function : Build → Bool
is_function b = eqb (kind_of_build b) RecFunction

-- the children of a function type, its result last: the arguments before it are no function types
unfoldable pub NoneBare : Builds → Type 0
NoneBare bnone = Unit {0}
NoneBare (bmore b bnone) = Unit {0}
NoneBare (bmore b (bmore c bs)) = (is_function b ≡ false) × NoneBare (bmore c bs)

-- all through the build
unfoldable mutual
  pub Bracketed : Build → Type 0
  Bracketed (spelled k w) = Unit {0}
  Bracketed (made k bs) = (eqb k RecFunction ≡ true → NoneBare bs) × BracketedAll bs

  pub BracketedAll : Builds → Type 0
  BracketedAll bnone = Unit {0}
  BracketedAll (bmore b bs) = Bracketed b × BracketedAll bs
