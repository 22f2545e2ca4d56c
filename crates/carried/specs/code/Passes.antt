-- What the passes over the notes answer. They go through the entries in rising order of their offsets.
use Rattle.std.specs.Prelude.{ℕ, min, ◌<◌, ◌≤◌, ◌≡◌, Bool, true, false, cond, List, map, eqb, leb, ltb, length, get_or, Result, Ok, Err}
use Rattle.tokens.specs.Walk.{Listed, tokens_at}
use Rattle.carried.specs.Carry.{is_start}
use Rattle.carried.specs.Promised.{ToEOF}
use Rattle.tokens.specs.declared.Token.{Token}
use Rattle.tokens.specs.declared.Refusal.{Refusal}

-- what the walk met starts at x; and where it starts
unfoldable pub begins_at : Result Token Refusal → ℕ → Bool
begins_at (Ok t) x = eqb t.start x
begins_at (Err r) x = false

unfoldable pub start_of : Result Token Refusal → ℕ
start_of (Ok t) = t.start
start_of (Err r) = 0

-- of two indices that of the least entry that is at least p: k, unless it is the list's length, and i
unfoldable pub lesser : ℕ → List ℕ → (k i : ℕ) → ℕ
lesser p notes k i = cond (ltb (get_or notes i 0) p) k (cond (leb (length notes) k) i (cond (ltb (get_or notes i 0) (get_or notes k 0)) i k))

-- k is the lowest index of the least entry that is at least p, among the first n; the list's length where there is none
pub record LeastOf (p : ℕ) (notes : List ℕ) (n k : ℕ) : Type 0 where
  pub within : k ≤ length notes
  pub found : (k < length notes → (k < n) × (p ≤ get_or notes k 0))
  pub least : ((i : ℕ) → i < n → p ≤ get_or notes i 0 → (k < length notes) × (get_or notes k 0 ≤ get_or notes i 0))
  pub lowest : ((i : ℕ) → i < k → k < length notes → get_or notes i 0 ≡ get_or notes k 0 → ⊥)

-- the lower of two indices, the second only where it is bad
unfoldable pub lower : (bad k : ℕ) → Bool → ℕ
lower bad k true = bad
lower bad k false = min bad k

-- the lowest index whose entry starts no token of the list; the notes' length where there is none
pub record LowestBad (old : Listed) (notes : List ℕ) (bad : ℕ) : Type 0 where
  pub within : bad ≤ length notes
  pub good : ((i : ℕ) → i < bad → is_start old (get_or notes i 0) ≡ true)
  pub none : (bad < length notes → is_start old (get_or notes bad 0) ≡ false)

-- both editions read the whole text, and every entry starts a token of edition 1
pub record Movable (text notes : List ℕ) : Type 0 where
  pub first : ToEOF (tokens_at 1 text 0)
  pub second : ToEOF (tokens_at 2 text 0)
  pub started : ((i : ℕ) → i < length notes → is_start (tokens_at 1 text 0) (get_or notes i 0) ≡ true)

-- every x of the list exchanged for v
unfoldable pub exchanged : (x v : ℕ) → ℕ → ℕ
exchanged x v y = cond (eqb y x) v y

abbrev pub replaced : (x v : ℕ) → List ℕ → List ℕ
replaced x v notes = map (exchanged x v) notes
