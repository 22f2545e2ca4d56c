-- What a function of the walk answers for what a reader reads, and what it lays down.
use Rattle.std.specs.Prelude.{ℕ, ◌+◌, ◌-◌, ◌≤◌, min, ◌≡◌, List, length, Result, Ok, Err}
use Rattle.tokens.specs.Answers.{refusal}
use Rattle.tokens.specs.Calls.{text_limit, next_token}
use Rattle.tokens.specs.declared.Refusal.{Refusal}
use Rattle.tokens.specs.declared.Token.{Token as Answer}
use Rattle.sources.specs.Source.{opened, Lexeme, bad, lex}
use Rattle.answers.specs.Reading.{Ans, ok, no, Reader}
use Rattle.forms.specs.Forms.{laid}
use Rattle.forms.specs.code.Spots.{Placed}
use Rattle.forms.specs.declared.Spot.{Spot}
use Rattle.parts.specs.declared.Way.{Way}
use Rattle.parts.specs.declared.Part.{Part}

-- a token of the code has a span of a text that is not too long, and takes a byte unless its kind is 0; and the token of the
-- definitions that it stands for
abbrev pub Fits : List ℕ → Answer → Type 0
Fits text a = (length text ≤ text_limit) × (a.start + min 1 a.kind ≤ a.end) × (a.end ≤ length text)

abbrev pub held : ℕ → List ℕ → Answer → Lexeme
held ed text a = record { kind = a.kind; here = opened ed text a.start; len = a.end - a.start }

abbrev pub refused_token : ℕ → Answer → Result Part Refusal
refused_token n t = Err (refusal n t.start t.end)

-- what ends at q, with its bytes up to s, and the token that follows
unfoldable pub followed_by : Spot → ℕ → Result Answer Refusal → Result Part Refusal
followed_by s q (Ok n) = Ok (record { to = s; end = q; next = n })
followed_by s q (Err r) = Err r

-- a reader refuses, or the token behind what it read is refused
unfoldable pub Refuses : {A : Type 0} → Ans A → Refusal → Type 0
Refuses (ok x u) r = lex u ≡ bad r
Refuses (no r₂) r = r₂ ≡ r

-- the reader read `what`, and its bytes, which `lay` gives, were laid down from the place s on in the buffer l, which became m
pub record Had {A : Type 0} (lay : A → List ℕ) (ed : ℕ) (text : List ℕ) (x : Ans A) (s : Spot) (l : List ℕ) (p : Part) (m : List ℕ) : Type 0 where
  pub what : A
  pub is : x ≡ ok what (opened ed text p.end)
  pub bytes : Placed l s (lay what) p.to m

unfoldable pub Meets : {A : Type 0} → (A → List ℕ) → ℕ → List ℕ → Ans A → Spot → List ℕ → Result Part Refusal → List ℕ → Type 0
Meets lay ed text x s l (Ok p) m = Had lay ed text x s l p m
Meets lay ed text x s l (Err r) m = Refuses x r

-- reading goes on at `end`, which is not before `from`, with the token that stands there
unfoldable pub Follows : ℕ → List ℕ → ℕ → Result Part Refusal → Type 0
Follows ed text from (Ok p) = (from ≤ p.end) × (next_token ed text p.end ≡ Ok p.next)
Follows ed text from (Err r) = Unit {0}

-- the contract of every function of the walk that lays down a tree or trees from the place s on in a buffer l, which becomes m: where the
-- tokens that it is given fit, its answer r is what x says; and, whatever they are, reading goes on behind `from`
pub record Contract {A : Type 0} (lay : A → List ℕ) (ed : ℕ) (text : List ℕ) (fits : Type 0) (x : Ans A) (from : ℕ) (s : Spot) (l : List ℕ) (r : Result Part Refusal) (m : List ℕ) : Type 0 where
  pub meets : (fits → Meets lay ed text x s l r m)
  pub goes : Follows ed text from r

-- of one that is given the first token, a, of what the reader reads; and, where this is a tree, on the way w
abbrev pub ReadsBy : {A : Type 0} → (A → List ℕ) → ℕ → List ℕ → (Lexeme → Ans A) → Answer → Spot → List ℕ → Result Part Refusal → List ℕ → Type 0
ReadsBy lay ed text reader a s l r m = Contract lay ed text (Fits text a) (reader (held ed text a)) a.end s l r m

abbrev pub Reads : Way → List ℕ → Reader → Answer → Spot → List ℕ → Result Part Refusal → List ℕ → Type 0
Reads w text reader a s l r m = ReadsBy (laid w.form) w.edition text reader a s l r m
