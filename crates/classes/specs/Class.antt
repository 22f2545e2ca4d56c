-- The classes of bytes. Each has a number, by which the code names it.
use Rattle.std.specs.Prelude.{ℕ, Bool, false, ◌||◌, ◌&&◌, not, cond, leb, ltb, eqb}

-- x is from lo to hi, both counted
unfoldable pub in_range : ℕ → ℕ → ℕ → Bool
in_range lo hi x = leb lo x && leb x hi

-- 0 to 9
unfoldable pub is_digit : ℕ → Bool
is_digit x = in_range 48 57 x

-- 0 to 9, A to F, a to f
unfoldable pub is_hex : ℕ → Bool
is_hex x = in_range 48 57 x || in_range 65 70 x || in_range 97 102 x

-- a to z, A to Z, _
unfoldable pub is_letter : ℕ → Bool
is_letter x = in_range 97 122 x || in_range 65 90 x || eqb x 95

-- a letter or a digit
unfoldable pub is_name : ℕ → Bool
is_name x = is_letter x || is_digit x

-- below 128
unfoldable pub is_ascii : ℕ → Bool
is_ascii x = ltb x 128

-- every byte but LF
unfoldable pub in_line : ℕ → Bool
in_line x = not (eqb x 10)

-- space, tab, LF
unfoldable pub is_space : ℕ → Bool
is_space x = eqb x 32 || eqb x 9 || eqb x 10

-- what a comment or CR LF begins with: `/`, CR
unfoldable pub begins_part : ℕ → Bool
begins_part x = eqb x 47 || eqb x 13

-- what the scan of a block comment looks at: what a mark begins with, `/` and `*`, and LF
unfoldable pub mark_or_line_feed : ℕ → Bool
mark_or_line_feed x = eqb x 47 || eqb x 42 || eqb x 10

-- space, tab
unfoldable pub space_or_tab : ℕ → Bool
space_or_tab x = eqb x 32 || eqb x 9

-- a byte that a line can hold: 32 to 126
unfoldable pub shows : ℕ → Bool
shows x = in_range 32 126 x

-- a digit or `_`, a hex digit or `_`
unfoldable pub is_digit_or_underscore : ℕ → Bool
is_digit_or_underscore x = is_digit x || eqb x 95

unfoldable pub is_hex_or_underscore : ℕ → Bool
is_hex_or_underscore x = is_hex x || eqb x 95

-- no byte
unfoldable pub is_none : ℕ → Bool
is_none x = false

-- the class of each number; any other number is the class of no byte
unfoldable pub in_class : ℕ → ℕ → Bool
in_class k x =
    cond (eqb k 0) (is_name x)
    (cond (eqb k 1) (is_digit x)
    (cond (eqb k 2) (is_hex x)
    (cond (eqb k 3) (is_ascii x)
    (cond (eqb k 4) (in_line x)
    (cond (eqb k 5) (shows x)
    (cond (eqb k 6) (is_digit_or_underscore x)
    (cond (eqb k 7) (is_hex_or_underscore x) (is_none x))))))))
