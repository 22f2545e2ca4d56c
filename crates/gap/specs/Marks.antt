-- The marks of a gap, told by a byte and the one behind it (0 past the end).
use Rattle.std.specs.Prelude.{ℕ, Bool, ◌||◌, ◌&&◌, not, eqb}
unfoldable pub use Rattle.classes.specs.Class.{is_space}
use Rattle.gap.specs.declared.Unclosed.{Unclosed}

-- space, tab, LF, CR before LF
unfoldable pub is_blank : ℕ → ℕ → Bool
is_blank x y = is_space x || (eqb x 13 && eqb y 10)

-- `//`
unfoldable pub slashes : ℕ → ℕ → Bool
slashes x y = eqb x 47 && eqb y 47

-- `/*`
unfoldable pub opens : ℕ → ℕ → Bool
opens x y = eqb x 47 && eqb y 42

-- `*/`
unfoldable pub closes : ℕ → ℕ → Bool
closes x y = eqb x 42 && eqb y 47

-- behind `//`: a third `/`, not followed by `/`
unfoldable pub doc_line : ℕ → ℕ → Bool
doc_line x y = eqb x 47 && not (eqb y 47)

-- behind `/*`: a second `*`, not followed by `*`; nor by `/`, since `/**/` is a plain comment
unfoldable pub doc_block : ℕ → ℕ → Bool
doc_block x y = eqb x 42 && not (eqb y 42) && not (eqb y 47)

-- the span of the opener of a block comment that is not closed
abbrev pub unclosed : ℕ → ℕ → Unclosed
unclosed s e = record { start = s; end = e }
