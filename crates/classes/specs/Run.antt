-- A run of bytes of a class: to the first byte outside it, or to the end. And whether all bytes are of a class.
use Rattle.std.specs.Prelude.{ℕ, suc, ◌+◌, Bool, true, cond, ◌&&◌, List, [], ◌∷◌, drop}

-- how many bytes at the front are of the class f
unfoldable pub run_len : (ℕ → Bool) → List ℕ → ℕ
run_len f [] = 0
run_len f (a ∷ s) = cond (f a) (suc (run_len f s)) 0

-- where the run from `at` on ends
unfoldable pub run_end : (ℕ → Bool) → List ℕ → ℕ → ℕ
run_end f text at = at + run_len f (drop at text)

-- every byte is of the class f
unfoldable pub all_of : (ℕ → Bool) → List ℕ → Bool
all_of f [] = true
all_of f (a ∷ s) = f a && all_of f s
