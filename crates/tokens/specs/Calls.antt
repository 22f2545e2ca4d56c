-- The token call and the comment call, for every edition, text and offset.
use Rattle.gap.specs.declared.Unclosed.{Unclosed}
use Rattle.std.specs.Prelude.{ℕ, Bool, false, cond, ◌||◌, List, [], ◌∷◌, eqb, ltb, length, drop, Result, Ok, Err, ⊤, Option, Some, None}
use Rattle.tokens.specs.Refusals.{TextTooLong, StartPastEnd, CommentNotClosed, NoSuchEdition}
use Rattle.gap.specs.Gap.{gap, doc_of}
use Rattle.gap.specs.LineFeed.{line_feed}
use Rattle.gap.specs.declared.Comment.{Comment}
use Rattle.tokens.specs.Answers.{place, refusal, token}
use Rattle.tokens.specs.Token.{Scanned, tok, bad, scan}
use Rattle.tokens.specs.declared.Documented.{Documented}
use Rattle.tokens.specs.declared.Place.{Place}
use Rattle.tokens.specs.declared.Refusal.{Refusal}
use Rattle.tokens.specs.declared.Advanced.{Advanced}
use Rattle.tokens.specs.declared.Token.{Token}

-- the longest text
abbrev pub text_limit : ℕ
text_limit = 1048575

-- a number that is no edition
abbrev pub no_edition : ℕ → Bool
no_edition ed = eqb ed 0 || ltb 2 ed

-- the faults of a call are looked for before the text is: a refusal without a place, where b is so
abbrev pub fault_if : Bool → ℕ → Result ⊤ Refusal
fault_if b number = cond b (Err (refusal number 0 0)) (Ok tt)

-- the first of two faults
infixr 5 ◌or_else◌
unfoldable pub ◌or_else◌ : Result ⊤ Refusal → Result ⊤ Refusal → Result ⊤ Refusal
◌or_else◌ (Ok tt) g = g
◌or_else◌ (Err r) g = Err r

-- refusals 1 and 2, in this order
unfoldable pub place_fault : List ℕ → ℕ → Result ⊤ Refusal
place_fault text at = fault_if (ltb text_limit (length text)) TextTooLong or_else fault_if (ltb (length text) at) StartPastEnd

-- refusal 19
abbrev pub edition_fault : ℕ → Result ⊤ Refusal
edition_fault ed = fault_if (no_edition ed) NoSuchEdition

-- of a token call or a comment call
unfoldable pub call_fault : ℕ → List ℕ → ℕ → Result ⊤ Refusal
call_fault ed text at = place_fault text at or_else edition_fault ed

-- the refusal of a fault, and otherwise what the text has
unfoldable pub unless : {A : Type 0} → (Refusal → A) → Result ⊤ Refusal → A → A
unless refuse (Ok tt) a = a
unless refuse (Err r) a = refuse r

unfoldable pub lexed : Scanned → Result Token Refusal
lexed (tok k s e w r) = Ok (token k s e)
lexed (bad r) = Err r

-- the next token in an edition, as the readers ask for it: they have tested the edition
unfoldable pub next_token : ℕ → List ℕ → ℕ → Result Token Refusal
next_token ed text at = unless Err (place_fault text at) (lexed (scan ed at (drop at text)))

-- LF stands between `at` and the token, in comments too; a refusal has none
unfoldable pub line_feed_before : List ℕ → ℕ → Result Token Refusal → Bool
line_feed_before text at (Ok t) = line_feed text at t.start
line_feed_before text at (Err r) = false

-- the next token, and beside it whether LF stands before it
unfoldable pub advanced : ℕ → List ℕ → ℕ → Advanced
advanced ed text at = record { lexed = next_token ed text at; feed = line_feed_before text at (next_token ed text at) }

-- the span of the last doc comment of a list, c where there is none
unfoldable pub last_span : Place → List Comment → Place
last_span c [] = c
last_span c (d ∷ ds) = last_span (place d.start d.end) ds

-- the last doc comment between `at` and the token, (0,0) where there is none; a refusal has none
unfoldable pub doc_before : List ℕ → ℕ → Result Token Refusal → Place
doc_before text at (Ok t) = last_span (place 0 0) (gap 0 at (drop at text)).docs
doc_before text at (Err r) = place 0 0

-- the next token, and beside it the last doc comment before it
unfoldable pub documented : ℕ → List ℕ → ℕ → Documented
documented ed text at = record { lexed = next_token ed text at; doc = doc_before text at (next_token ed text at) }

-- the token call; a refusal has no flag
abbrev pub refused_call : Refusal → Advanced
refused_call r = record { lexed = Err r; feed = false }

unfoldable pub token_call : ℕ → List ℕ → ℕ → Advanced
token_call ed text at = unless refused_call (call_fault ed text at) (advanced ed text at)

unfoldable pub comment_of : Result (Option Comment) Unclosed → Result (Option Comment) Refusal
comment_of (Ok (Some c)) = Ok (Some c)
comment_of (Ok None) = Ok None
comment_of (Err w) = Err (refusal CommentNotClosed w.start w.end)

-- the comment call
unfoldable pub next_comment : ℕ → List ℕ → ℕ → Result (Option Comment) Refusal
next_comment ed text at = unless Err (call_fault ed text at) (comment_of (doc_of (gap 0 at (drop at text))))
