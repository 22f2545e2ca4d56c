-- What is shown of the outline call, for every edition number, text, offset, limit, room and whatever is handed in. Each statement is a
-- type; its proof has the same name in small letters and stands in proofs/.
use Rattle.std.specs.Prelude.{ℕ, zero, suc, ◌+◌, ◌-◌, ◌^◌, ◌<◌, ◌≤◌, min, ◌≡◌, true, false, cond, ◌↔◌, length, drop, Ok}
use mathlib.Core.List.{List, [], ◌∷◌, ◌++◌, Memᴰ, map}
use Rattle.words.specs.Kinds.{Identifier, Struct, Fun, Const}
use Rattle.gap.specs.Gap.{gap}
use Rattle.gap.specs.declared.Comment.{Comment}
use Rattle.tokens.specs.Answers.{place, token}
use Rattle.tokens.specs.RefusalSets.{among, token_refusals}
use Rattle.tokens.specs.Calls.{call_fault}
use Rattle.tokens.specs.Walk.{Listed, eof, refused, next, tokens_at, entries}
use Rattle.tokens.specs.declared.Place.{Place}
use Rattle.tokens.specs.declared.Refusal.{Refusal}
use Rattle.tokens.specs.declared.Token.{Token}
use Rattle.outline.specs.Entry.{Entry, width_in, size_of, records_of, fitting}
use Rattle.outline.specs.Outline.{declares, no_place, handed, pending_behind, names, entry_at, Portion, accepted, rejected, joined, outlined}
use Rattle.outline.specs.declared.Pending.{Pending}

-- the tokens of a list: its entries before the last, which is EOF or a refusal
unfoldable pub tokens_left : Listed → ℕ
tokens_left l = entries l - 1

-- token number n of a list; the token t stands in for number 0
unfoldable pub numbered : Token → ℕ → Listed → Token
numbered t zero l = t
numbered t (suc n) (next u l) = numbered u n l
numbered t (suc n) (eof u) = t
numbered t (suc n) (refused r) = t

-- the list behind its first n tokens
unfoldable pub behind_first : ℕ → Listed → Listed
behind_first zero l = l
behind_first (suc n) (next u l) = behind_first n l
behind_first (suc n) (eof u) = eof u
behind_first (suc n) (refused r) = refused r

-- the list's last entry is EOF; it is this refusal
unfoldable pub ReachesEOF : Listed → Type 0
ReachesEOF (eof t) = Unit {0}
ReachesEOF (refused r) = ⊥
ReachesEOF (next t l) = ReachesEOF l

unfoldable pub EndsRefused : Refusal → Listed → Type 0
EndsRefused r (eof t) = ⊥
EndsRefused r (refused q) = q ≡ r
EndsRefused r (next t l) = EndsRefused r l

-- all entries of a list of tokens, whatever the room; and all doc comments of the gaps before its entries
unfoldable pub entries_from : List ℕ → ℕ → Pending → Listed → List Entry
entries_from text at p (eof t) = []
entries_from text at p (refused r) = []
entries_from text at p (next t l) = cond (names p.keyword t.kind) (entry_at text at p t ∷ []) [] ++ entries_from text t.end (pending_behind text at p.comment t) l

unfoldable pub docs_from : List ℕ → ℕ → Listed → List Comment
docs_from text at (eof t) = (gap 0 at (drop at text)).docs
docs_from text at (refused r) = (gap 0 at (drop at text)).docs
docs_from text at (next t l) = (gap 0 at (drop at text)).docs ++ docs_from text t.end l

-- what stands in for token number 0, where p is pending: the keyword's kind, which ends at the start offset
abbrev pub start_token : ℕ → Pending → Token
start_token at p = token p.keyword at at

-- the bytes that a portion writes
abbrev pub written : List ℕ → Portion → List ℕ
written text a = records_of text a.entries

-- 1. Count. The count is that of tokens consumed in the walk's definition: the smaller of the limit and the tokens left, EOF not counted;
-- where it says full, the tokens before a name that stands right behind one of the three keywords and within the limit, and for whose
-- record there is no room. The end is that of token number `count`, the start offset where that is 0.
-- Of a portion of the list l from `at` on, where p is pending and k entries fit:
pub record Counts (at : ℕ) (p : Pending) (k limit : ℕ) (l : Listed) (a : Portion) : Type 0 where
  pub done : (a.full ≡ false → a.count ≡ min limit (tokens_left l))
  pub ends : a.end ≡ (numbered (start_token at p) a.count l).end
  pub within : (a.full ≡ true → a.count < limit)
  pub name : (a.full ≡ true → (t : Token) × (m : Listed) × (behind_first a.count l ≡ next t m) × (t.kind ≡ Identifier))
  pub keyword : (a.full ≡ true → declares (numbered (start_token at p) a.count l).kind ≡ true)
  pub no_room : (a.full ≡ true → length a.entries ≡ k)

abbrev pub Count : Type 0
Count =
    (ed : ℕ) (text : List ℕ) (at limit : ℕ) (p : Pending) (room : ℕ) (a : Portion)
    → outlined ed text at limit p room ≡ accepted a → Counts at (handed text p) (fitting text room) limit (tokens_at ed text at) a

-- a call is refused, text, offset and edition being fine, exactly if the list of tokens ends with that refusal, within the limit, and no
-- entry before it lacks room
abbrev pub RefusedExactly : Type 0
RefusedExactly =
    (ed : ℕ) (text : List ℕ) (at limit : ℕ) (p : Pending) (room : ℕ) (r : Refusal) → call_fault ed text at ≡ Ok tt
    → (outlined ed text at limit p room ≡ rejected r)
    ↔ (EndsRefused r (tokens_at ed text at) × (tokens_left (tokens_at ed text at) < limit) × (length (entries_from text at (handed text p) (tokens_at ed text at)) ≤ fitting text room))

-- a call is refused with 1, 2, 19 or 5 to 9
abbrev pub OutlineRefusals : Type 0
OutlineRefusals =
    (ed : ℕ) (text : List ℕ) (at limit : ℕ) (p : Pending) (room : ℕ) (r : Refusal)
    → outlined ed text at limit p room ≡ rejected r → among token_refusals r.number ≡ true

-- 2. Going on loses nothing. A call that was accepted, full or not, and one that goes on where it ended, are together one call with the
-- counts and the room added: refused as the second is, or with the first's entries before the second's, the counts added, and the
-- second's end, pending and full. And so it is with the bytes
abbrev pub GoingOn : Type 0
GoingOn =
    (ed : ℕ) (text : List ℕ) (at limit : ℕ) (p : Pending) (room : ℕ) (a : Portion) → outlined ed text at limit p room ≡ accepted a
    → (more more_room : ℕ)
    → outlined ed text at (a.count + more) p (length (written text a) + more_room) ≡ joined a.count a.entries (outlined ed text a.end more a.pending more_room)

abbrev pub JoinedBytes : Type 0
JoinedBytes = (text : List ℕ) (es fs : List Entry) → records_of text (es ++ fs) ≡ records_of text es ++ records_of text fs

-- 3. However it is divided. What each call of a division is given
pub record Share : Type 0 where
  pub limit : ℕ
  pub room : ℕ

abbrev pub limits : List Share → ℕ
limits [] = 0
limits (s ∷ ss) = s.limit + limits ss

-- the calls one after the other, each from the end and with the pending state of the one before, are all accepted and none is full;
-- they read `count` tokens, and `bytes` are their records joined
pub data Divided (ed : ℕ) (text : List ℕ) : (at : ℕ) → Pending → List Share → (count : ℕ) → (bytes : List ℕ) → Type 0 where
  over : {at : ℕ} {p : Pending} → Divided ed text at p [] 0 []
  call : {at : ℕ} {p : Pending} {s : Share} {ss : List Share} {count : ℕ} {bytes : List ℕ} (a : Portion) → outlined ed text at s.limit p s.room ≡ accepted a
      → a.full ≡ false → Divided ed text a.end a.pending ss count bytes → Divided ed text at p (s ∷ ss) (a.count + count) (written text a ++ bytes)

-- one call, accepted and not full, has these records
abbrev pub OneCall : (ed : ℕ) (text : List ℕ) (at limit : ℕ) → Pending → (room : ℕ) → List ℕ → Type 0
OneCall ed text at limit p room bytes = (a : Portion) × (outlined ed text at limit p room ≡ accepted a) × (a.full ≡ false) × (written text a ≡ bytes)

-- the records joined are those of one call with the sum of the counts as limit and room for them or more. Where there is no call at all,
-- and there alone, nothing says that text, offset and edition are fine
abbrev pub DividedAnyhow : Type 0
DividedAnyhow =
    (ed : ℕ) (text : List ℕ) (at : ℕ) (p : Pending) (ss : List Share) (count : ℕ) (bytes : List ℕ) → (ss ≡ [] → call_fault ed text at ≡ (Ok tt))
    → Divided ed text at p ss count bytes → (room : ℕ) → length bytes ≤ room → OneCall ed text at count p room bytes

-- and where the text from `at` on is readable to EOF and the limits add up to the tokens left or more, of one call with any such limit
abbrev pub DividedToEOF : Type 0
DividedToEOF =
    (ed : ℕ) (text : List ℕ) (at : ℕ) (p : Pending) (ss : List Share) (count : ℕ) (bytes : List ℕ) → (ss ≡ [] → call_fault ed text at ≡ (Ok tt))
    → ReachesEOF (tokens_at ed text at) → Divided ed text at p ss count bytes → tokens_left (tokens_at ed text at) ≤ limits ss
    → (limit room : ℕ) → tokens_left (tokens_at ed text at) ≤ limit → length bytes ≤ room → OneCall ed text at limit p room bytes

-- 4. What is pending in an answer is taken as it is when it is handed in: its keyword is 0 or one of the three, and its comment's numbers
-- are inside the text
pub record Kept (text : List ℕ) (p : Pending) : Type 0 where
  pub taken : handed text p ≡ p
  pub keyword : Memᴰ p.keyword (0 ∷ Struct ∷ Fun ∷ Const ∷ [])
  pub start : p.comment.start ≤ length text
  pub end : p.comment.end ≤ length text

abbrev pub PendingKept : Type 0
PendingKept =
    (ed : ℕ) (text : List ℕ) (at limit : ℕ) (p : Pending) (room : ℕ) (a : Portion)
    → outlined ed text at limit p room ≡ accepted a → Kept text a.pending

-- 5. Every entry's comment is (0,0), the handed-in one or a doc comment of the text from `at` on; its numbers fit their bytes; and names
-- are in order, from the start offset to the end of the last token read
abbrev pub span_of : Comment → Place
span_of c = place c.start c.end

unfoldable pub Every : (Entry → Type 0) → List Entry → Type 0
Every P [] = Unit {0}
Every P (e ∷ es) = P e × Every P es

pub record Fits (w : ℕ) (e : Entry) : Type 0 where
  pub size : size_of w < 256 ^ w
  pub keyword : e.keyword < 256 ^ 2
  pub start : e.name.start < 256 ^ w
  pub end : e.name.end < 256 ^ w
  pub from : e.comment.start < 256 ^ w
  pub to : e.comment.end < 256 ^ w

unfoldable pub InOrder : (from to : ℕ) → List Entry → Type 0
InOrder from to [] = from ≤ to
InOrder from to (e ∷ es) = (from ≤ e.name.start) × (e.name.start < e.name.end) × InOrder e.name.end to es

pub record Sound (ed : ℕ) (text : List ℕ) (at : ℕ) (p : Pending) (a : Portion) : Type 0 where
  pub comments : Every (λ e. Memᴰ e.comment (no_place ∷ (handed text p).comment ∷ map span_of (docs_from text at (tokens_at ed text at)))) a.entries
  pub fits : Every (Fits (width_in text)) a.entries
  pub keywords : Every (λ e. declares e.keyword ≡ true) a.entries
  pub in_order : InOrder at a.end a.entries
  pub in_text : a.end ≤ length text

abbrev pub EntriesSound : Type 0
EntriesSound =
    (ed : ℕ) (text : List ℕ) (at limit : ℕ) (p : Pending) (room : ℕ) (a : Portion)
    → outlined ed text at limit p room ≡ accepted a → Sound ed text at p a
