-- The proofs of the statements in specs/Theorems: most are laws of crates below, cited.
use mathlib.Core.Path.{◌≡◌, refl, ap, subst, ◌∙◌}
use mathlib.Core.Bool.{Bool, ◌||◌}
use mathlib.Core.List.{List, [], ◌∷◌}
use Prim.Native.Nat.{ℕ}
use Rattle.gap.specs.LineFeed.{line_feed}
use Rattle.tokens.specs.Calls.{advanced}
use Rattle.tokens.specs.declared.Token.{Token}
use Rattle.gap.proofs.LineFeeds.{line-feed-there as feeds-there}
use Rattle.tokens.proofs.Editions.{editions-same as same-in-both, editions-number as number-in-both, editions-refused as refused-in-both, others-first as first-edition}
use Rattle.tokens.proofs.Shift.{token-from as token-raised, comment-from as comment-raised}
use Rattle.tokens.proofs.TokenLines.{flag-from as flag-raised, tokens-hold-no-line-feed, Walk as WalkOf, last_start as last_of, flags as flags_of, same_line_lem as on-one-line}
use Rattle.tokens.proofs.RefusalSets.{token-refusals as token-meets, comment-refusals as comment-meets}
use Rattle.tokens.proofs.Walks.{tokens-end as list-ends}
use Rattle.starts.proofs.Allowed.{allowed, allowed-only, refused-before, refused-only, nowhere, nowhere-only}
use Rattle.frames.proofs.Held.{Held, item-held}
use Rattle.frames.proofs.Faithful.{item-fitting as numbers_fit}
use Rattle.frames.proofs.Raised.{item_from_lem as item-raised}
use Rattle.frames.proofs.Unbracketed.{rust-item as rust-unbracketed}
use Rattle.calls.proofs.RefusalSets.{read-refusals as read-meets, display-refusals as display-meets}
use Rattle.calls.proofs.Faithful.{room-enough as tree-fits, read-faithful as told-apart}
use Rattle.roundtrip.specs.Theorems.{ReadsBack, AnswersBack, TokenFrom, FlagFrom, CommentFrom, ItemFrom, RustItem, TokenRefusals, CommentRefusals, ReadRefusals, DisplayRefusals, BeginsExactly, EditionsSame, EditionsNumber, EditionsRefused, OthersFirst, LineFeedThere, NoTokenHoldsLineFeed, Walk, last_start, flags, SameLine, TokensEnd, ItemPlaced, ItemFitting, ReadFaithful, RoomEnough}
use Rattle.roundtrip.proofs.Theorem.{reads-back as read_again, answers-back as answered-again}

pub reads-back : ReadsBack
reads-back = read_again

pub answers-back : AnswersBack
answers-back = answered-again

pub token-from : TokenFrom
token-from = token-raised

pub flag-from : FlagFrom
flag-from = flag-raised

pub comment-from : CommentFrom
comment-from = comment-raised

pub item_from_lem : ItemFrom
item_from_lem = item-raised

pub rust-item : RustItem
rust-item = rust-unbracketed

pub token-refusals : TokenRefusals
token-refusals = token-meets

pub comment-refusals : CommentRefusals
comment-refusals = comment-meets

pub read-refusals : ReadRefusals
read-refusals = read-meets

pub display-refusals : DisplayRefusals
display-refusals = display-meets

pub begins-exactly : BeginsExactly
begins-exactly ed text offset = (
  (allowed-only ed text offset, allowed ed text offset),
  λ r. (refused-only ed text offset r, refused-before ed text offset r),
  (nowhere-only ed text offset, λ h. nowhere ed text offset h.0 h.1),
)

pub editions-same : EditionsSame
editions-same = same-in-both

pub editions-number : EditionsNumber
editions-number p s k a b w r e n = let l = number-in-both p s k a b w r e n in (l.kind, l.end, l.word, l.rest, l.is, l.numeral, l.long, l.named)

pub editions-refused : EditionsRefused
editions-refused = refused-in-both

pub others-first : OthersFirst
others-first = first-edition

pub line-feed-there : LineFeedThere
line-feed-there = feeds-there

pub no-token-holds-line-feed : NoTokenHoldsLineFeed
no-token-holds-line-feed = tokens-hold-no-line-feed

-- the same walk, in the words of tokens
module _ (ed : ℕ) (text : List ℕ) where
  last-same : (u : Token) (us : List Token) → last_start u us ≡ last_of u us
  last-same u [] = refl
  last-same u (v ∷ us) = last-same v us

  flags-same : (at : ℕ) (u : Token) (us : List Token) → flags_of ed text at u us ≡ flags ed text at u us
  flags-same at u [] = refl
  flags-same at u (v ∷ us) = ap (λ (b : Bool). (advanced ed text at).feed || b) (flags-same u.end v us)

  walk_same : (at : ℕ) (t : Token) (us : List Token) → Walk ed text at t us → WalkOf ed text at t us
  walk_same at t [] h = h
  walk_same at t (u ∷ us) h = (h.0, walk_same t.end u us h.1)

pub same_line_lem : SameLine
same_line_lem ed text at t u us h = ap (line_feed text t.start) (last-same ed text u us) ∙ on-one-line ed text at t u us (walk_same ed text at t (u ∷ us) h) ∙ flags-same ed text t.end u us

pub tokens-end : TokensEnd
tokens-end = list-ends

pub item-placed : ItemPlaced
item-placed q x n e = let h = subst (Held q.text q.at) e (item-held q) in (h.from, h.some, h.follows, h.within, h.nested)

pub item-fitting : ItemFitting
item-fitting = numbers_fit

pub read-faithful : ReadFaithful
read-faithful = told-apart

pub room-enough : RoomEnough
room-enough = tree-fits
