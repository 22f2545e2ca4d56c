-- What the calls answer, by the specification's numbers: for every case of each answer, the result's number, 0 where nothing is
-- refused, and the six values.
use Rattle.std.specs.Prelude.{ℕ, Bool, cond, List, [], ◌∷◌, Result, Ok, Err, Option, Some, None}
use Rattle.tokens.specs.declared.Place.{Place}
use Rattle.tokens.specs.declared.Refusal.{Refusal}
use Rattle.tokens.specs.declared.Token.{Token}
use Rattle.gap.specs.declared.Comment.{Comment}

abbrev pub place : ℕ → ℕ → Place
place s e = record { start = s; end = e }

-- a refusal whose second place is its place
abbrev pub refusal : ℕ → ℕ → ℕ → Refusal
refusal n s e = record { number = n; place = place s e; second = place s e }

abbrev pub token : ℕ → ℕ → ℕ → Token
token k s e = record { kind = k; start = s; end = e }

-- a refusal's six values: its place and its second place
abbrev pub places : Refusal → List ℕ
places r = r.place.start ∷ r.place.end ∷ r.second.start ∷ r.second.end ∷ 0 ∷ 0 ∷ []

unfoldable pub token_number : Result Token Refusal → ℕ
token_number (Ok t) = 0
token_number (Err r) = r.number

-- the fourth says whether LF stands before the token
unfoldable pub token_values : Result Token Refusal → Bool → List ℕ
token_values (Ok t) f = t.kind ∷ t.start ∷ t.end ∷ cond f 1 0 ∷ 0 ∷ 0 ∷ []
token_values (Err r) f = places r

unfoldable pub comment_number : Result (Option Comment) Refusal → ℕ
comment_number (Ok (Some c)) = 0
comment_number (Ok None) = 0
comment_number (Err r) = r.number

unfoldable pub comment_values : Result (Option Comment) Refusal → List ℕ
comment_values (Ok (Some c)) = 1 ∷ c.start ∷ c.end ∷ c.from ∷ c.to ∷ 0 ∷ []
comment_values (Ok None) = 0 ∷ 0 ∷ 0 ∷ 0 ∷ 0 ∷ 0 ∷ []
comment_values (Err r) = places r
