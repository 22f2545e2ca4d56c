-- What a call that writes bytes into a lent buffer leaves there.
use Rattle.std.specs.Prelude.{ℕ, ◌+◌, ◌≡◌, List, length}
use Rattle.std.proofs.lemmas.List.Edits.{sets}

-- from `pos` on the buffer holds `bytes`, as far as it reaches, and is otherwise as it was; they end at `end`
pub record Written (entry : List ℕ) (pos : ℕ) (bytes : List ℕ) (end : ℕ) (exit : List ℕ) : Type 0 where
  pub ends : end ≡ pos + length bytes
  pub holds : exit ≡ sets entry pos bytes
