-- Quoted text as its bytes, for texts of ASCII; and whether a list begins with some bytes.
use Rattle.std.specs.Prelude.{ℕ, Bool, true, false, ◌&&◌, List, eqb}
use Prim.Native.Char.{code}
use Prim.Native.String.{String}

abbrev pub bytes : String → List ℕ
bytes String.[] = List.[]
bytes (String.◌∷◌ c s) = List.◌∷◌ (code c) (bytes s)

-- s begins with w
unfoldable pub begins : List ℕ → List ℕ → Bool
begins List.[] s = true
begins (List.◌∷◌ a w) List.[] = false
begins (List.◌∷◌ a w) (List.◌∷◌ b s) = eqb b a && begins w s
