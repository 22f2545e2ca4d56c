-- Answers with all places raised by k.
use Rattle.std.specs.Prelude.{ℕ, ◌+◌, Result, Ok, Err, Option, Some, None}
use Rattle.gap.specs.Raise.{raise_comment}
use Rattle.tokens.specs.Answers.{place, token}
use Rattle.tokens.specs.Token.{Scanned, tok, bad}
use Rattle.tokens.specs.declared.Place.{Place}
use Rattle.tokens.specs.declared.Refusal.{Refusal}
use Rattle.tokens.specs.declared.Token.{Token}
use Rattle.gap.specs.declared.Comment.{Comment}

abbrev pub raise_place : ℕ → Place → Place
raise_place k p = place (k + p.start) (k + p.end)

abbrev pub raise_refusal : ℕ → Refusal → Refusal
raise_refusal k r = record { number = r.number; place = raise_place k r.place; second = raise_place k r.second }

abbrev pub raise_scanned : ℕ → Scanned → Scanned
raise_scanned k (tok d s e w r) = tok d (k + s) (k + e) w r
raise_scanned k (bad r) = bad (raise_refusal k r)

abbrev pub raise_lexed : ℕ → Result Token Refusal → Result Token Refusal
raise_lexed k (Ok t) = Ok (token t.kind (k + t.start) (k + t.end))
raise_lexed k (Err r) = Err (raise_refusal k r)

abbrev pub raise_doc : ℕ → Result (Option Comment) Refusal → Result (Option Comment) Refusal
raise_doc k (Ok (Some c)) = Ok (Some (raise_comment k c))
raise_doc k (Ok None) = Ok None
raise_doc k (Err r) = Err (raise_refusal k r)
