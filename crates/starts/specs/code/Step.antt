-- One step of a walk over the tokens: where it began, which is the end of the token before, and what it met.
use Rattle.std.specs.Prelude.{ℕ, cond, List, ltb, Result, Ok, Err}
use Rattle.tokens.specs.Walk.{Listed, eof, refused, next, tokens_at}
use Rattle.starts.specs.declared.Step.{Step}
use Rattle.tokens.specs.declared.Token.{Token}
use Rattle.tokens.specs.declared.Refusal.{Refusal}

abbrev pub step : ℕ → Result Token Refusal → Step
step from met = record { from = from; met = met }

-- of a walk that goes on from p: the step that meets the first token that ends behind the limit, EOF or a refusal
unfoldable pub reached : (limit p : ℕ) → Listed → Step
reached limit p (eof t) = step p (Ok t)
reached limit p (refused r) = step p (Err r)
reached limit p (next t l) = cond (ltb limit t.end) (step p (Ok t)) (reached limit t.end l)

unfoldable pub step_to : (ed : ℕ) (text : List ℕ) (p limit : ℕ) → Step
step_to ed text p limit = reached limit p (tokens_at ed text p)
