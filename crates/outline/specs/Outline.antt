-- The outline of a text: for each `struct`, `fun` or `const` with an identifier right behind it an entry, read in portions of so many
-- tokens. A portion walks the list of tokens that `tokens_at` gives.
use Rattle.std.specs.Prelude.{ℕ, zero, suc, ◌+◌, Bool, true, false, cond, ◌&&◌, ◌||◌, List, [], ◌∷◌, ◌++◌, eqb, ltb, length, drop}
use Rattle.words.specs.Kinds.{Identifier, Semicolon, LBrace, RBrace, Struct, Fun, Const}
use Rattle.gap.specs.Gap.{gap}
use Rattle.tokens.specs.Answers.{place}
use Rattle.tokens.specs.Calls.{call_fault, unless, last_span}
use Rattle.tokens.specs.Walk.{Listed, eof, refused, next, tokens_at}
use Rattle.tokens.specs.declared.Place.{Place}
use Rattle.tokens.specs.declared.Refusal.{Refusal}
use Rattle.tokens.specs.declared.Token.{Token}
use Rattle.outline.specs.Entry.{Entry, entry, fitting}
use Rattle.outline.specs.declared.Pending.{Pending}

-- a keyword that declares a name; its kind, and 0 for any other
unfoldable pub declares : ℕ → Bool
declares k = eqb k Struct || (eqb k Fun || eqb k Const)

unfoldable pub keyword_of : ℕ → ℕ
keyword_of k = cond (declares k) k 0

-- a token behind which no doc comment from before it holds: `;`, `{` or `}`
unfoldable pub separates : ℕ → Bool
separates k = eqb k Semicolon || (eqb k LBrace || eqb k RBrace)

-- no comment
abbrev pub no_place : Place
no_place = place 0 0

-- a number in the span passes the text's end
unfoldable pub passes : List ℕ → Place → Bool
passes text c = ltb (length text) c.start || ltb (length text) c.end

-- what is handed in, as it is taken
unfoldable pub handed : List ℕ → Pending → Pending
handed text p = record { keyword = keyword_of p.keyword; comment = cond (passes text p.comment) no_place p.comment }

-- the comment that holds for the token from `at` on: the last doc comment of the gap, c where it has none
unfoldable pub comment_at : List ℕ → ℕ → Place → Place
comment_at text at c = last_span c (gap 0 at (drop at text)).docs

-- what is pending behind a token of the kind for which the comment c holds; and behind the token t, which is reached from `at`, where c
-- was pending
unfoldable pub pending_after : (kind : ℕ) → Place → Pending
pending_after kind c = record { keyword = keyword_of kind; comment = cond (separates kind) no_place c }

abbrev pub pending_behind : List ℕ → ℕ → Place → Token → Pending
pending_behind text at c t = pending_after t.kind (comment_at text at c)

-- what a portion has read: whether an entry came that did not fit, how many tokens, the entries, the end of the last token or the
-- start offset, and what is pending there
pub record Portion : Type 0 where
  pub full : Bool
  pub count : ℕ
  pub entries : List Entry
  pub end : ℕ
  pub pending : Pending

pub data Outlined : Type 0 where
  accepted : Portion → Outlined
  rejected : Refusal → Outlined

-- nothing read
unfoldable pub stopped : Bool → ℕ → Pending → Outlined
stopped full at p = accepted (record { full = full; count = 0; entries = []; end = at; pending = p })

-- what is read behind c tokens with their entries
unfoldable pub joined : ℕ → List Entry → Outlined → Outlined
joined c es (accepted a) = accepted (record { full = a.full; count = c + a.count; entries = es ++ a.entries; end = a.end; pending = a.pending })
joined c es (rejected r) = rejected r

-- behind the keyword, or behind none, a token of the kind is a name that is declared
unfoldable pub names : (keyword kind : ℕ) → Bool
names keyword kind = declares keyword && eqb kind Identifier

-- its entry, where it is reached from `at`
abbrev pub entry_at : List ℕ → ℕ → Pending → Token → Entry
entry_at text at p t = entry p.keyword (place t.start t.end) (comment_at text at p.comment)

-- an entry where k more fit, and what `go` reads behind it; where none does, nothing of the step counts
abbrev pub if_fits : ℕ → Outlined → Entry → (ℕ → Outlined) → Outlined
if_fits zero full e go = full
if_fits (suc k) full e go = joined 1 (e ∷ []) (go k)

-- one step: the token t from `at` on, where p is pending and k more entries fit; `go` is what is read behind it
unfoldable pub stepped : List ℕ → ℕ → Pending → ℕ → Token → (ℕ → Outlined) → Outlined
stepped text at p k t go =
    cond (names p.keyword t.kind)
    (if_fits k (stopped true at p) (entry_at text at p t) go)
    (joined 1 [] (go k))

-- at most `limit` steps; EOF ends them and is none
unfoldable pub portion : List ℕ → ℕ → Pending → ℕ → (limit : ℕ) → Listed → Outlined
portion text at p k zero l = stopped false at p
portion text at p k (suc n) (eof t) = stopped false at p
portion text at p k (suc n) (refused r) = rejected r
portion text at p k (suc n) (next t l) = stepped text at p k t (λ m. portion text t.end (pending_behind text at p.comment t) m n l)

-- the outline call
unfoldable pub outlined : (ed : ℕ) (text : List ℕ) (at limit : ℕ) → Pending → (room : ℕ) → Outlined
outlined ed text at limit p room = unless rejected (call_fault ed text at) (portion text at (handed text p) (fitting text room) limit (tokens_at ed text at))
