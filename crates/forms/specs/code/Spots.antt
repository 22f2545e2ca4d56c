-- Places in a lent buffer, and what a function leaves there that writes from a place on.
use Rattle.std.specs.Prelude.{ℕ, ◌+◌, ◌-◌, ◌%◌, min, ◌≡◌, List, length, take, drop}
use Rattle.std.proofs.lemmas.List.Edits.{sets}
use Rattle.tokens.specs.declared.Token.{Token}
use Rattle.forms.specs.Forms.{head_size, head}
use Rattle.forms.specs.declared.Spot.{Spot}

-- the largest position; a buffer is no longer than this, so that what is written there or behind it is written nowhere
abbrev pub last : ℕ
last = 18446744073709551615

-- a position, or the largest one where it would be larger
abbrev pub cap : ℕ → ℕ
cap n = min n last

-- the numbers of four bytes
abbrev pub wide : ℕ
wide = 4294967296

-- the place n bytes behind another
abbrev pub moved_by : Spot → ℕ → Spot
moved_by s n = record { pos = cap (s.pos + n); low = (s.low + n) % wide }

-- the bytes between two places, counted in four bytes
abbrev pub size_between : Spot → Spot → ℕ
size_between a b = (b.low % wide + wide - a.low % wide) % wide

-- from the place s on the buffer holds `bytes`, as far as it reaches, and is otherwise as it was; they end at the place r
pub record Placed (entry : List ℕ) (s : Spot) (bytes : List ℕ) (r : Spot) (exit : List ℕ) : Type 0 where
  pub ends : r ≡ moved_by s (length bytes)
  pub holds : exit ≡ sets entry s.pos bytes

-- the place behind the head of a record that starts at s
abbrev pub inside : ℕ → Spot → Spot
inside f s = moved_by s (head_size f)

-- the buffer with the head of a record that starts at s, whose children end at b
abbrev pub sealed : ℕ → ℕ → ℕ → ℕ → Spot → Spot → List ℕ → List ℕ
sealed f k start end s b l = sets l s.pos (head f (size_between (inside f s) b) k start end)

-- the word of a token
abbrev pub word_of : List ℕ → Token → List ℕ
word_of text t = take (t.end - t.start) (drop t.start text)
