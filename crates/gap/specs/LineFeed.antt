-- Whether a line feed stands in a part of a text: inside comments too, whatever the bytes around it are.
use Rattle.gap.specs.declared.Unclosed.{Unclosed}
use Rattle.std.specs.Prelude.{ℕ, ◌-◌, Bool, false, ◌||◌, List, [], ◌∷◌, eqb, take, drop, Result, Ok, Err}

-- one of the bytes is LF
unfoldable pub holds_line_feed : List ℕ → Bool
holds_line_feed [] = false
holds_line_feed (a ∷ s) = eqb a 10 || holds_line_feed s

-- one of the bytes of the text from `at` to s - 1 is LF
unfoldable pub line_feed : List ℕ → ℕ → ℕ → Bool
line_feed text at s = holds_line_feed (take (s - at) (drop at text))

-- what a gap from `at` on has that ends so; one that is not closed has none
unfoldable pub gap_feed : List ℕ → ℕ → Result ℕ Unclosed → Bool
gap_feed text at (Ok e) = line_feed text at e
gap_feed text at (Err w) = false
