-- Answers of readers with all places raised by k.
use Rattle.std.specs.Prelude.{ℕ}
use Rattle.tokens.specs.Raise.{raise_refusal}
use Rattle.sources.specs.Raise.{raise_source}
use Rattle.answers.specs.Reading.{Ans, ok, no}

-- `up` raises what was read
unfoldable pub raise_ans : {A : Type 0} → (ℕ → A → A) → ℕ → Ans A → Ans A
raise_ans up k (ok x u) = ok (up k x) (raise_source k u)
raise_ans up k (no r) = no (raise_refusal k r)
