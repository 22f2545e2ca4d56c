-- Which refusals the token call and the comment call can meet.
use Rattle.gap.specs.declared.Unclosed.{Unclosed}
use mathlib.Core.Path.{◌≡◌, refl, sym, ◌∙◌, subst}
use mathlib.Core.Bool.{Bool, true, false, cond, ◌&&◌, ◌||◌}
use mathlib.Core.List.{List, [], ◌∷◌}
use Prim.Native.Nat.{ℕ, ◌+◌, ◌≤◌}
use borrow.Author.Tests.{eqb-true}
use lib.Dec.{eqb, ltb}
use lib.ListN.{length, drop, get_or}
use Rattle.classes.specs.Bytes.{bytes, begins}
use Rattle.classes.specs.Class.{is_digit, is_letter, is_ascii}
use Rattle.classes.specs.Run.{run_len}
use Rattle.classes.proofs.Bools.{false-true, and_left, and_right}
use Rattle.gap.specs.Gap.{End, clear, broken, gap, doc_of}
use Rattle.words.specs.Search.{mark_of, suffix_len}
use Rattle.words.specs.Quote.{Quote, quote_from}
use Rattle.std.proofs.Common.{Ok as Closing, Err as Missing}
use Rattle.tokens.specs.Refusals.{NoToken, HexStringNotClosed, ByteStringNotClosed, StringNotAscii}
use Rattle.tokens.specs.RefusalSets.{among, lex_refusals, token_refusals, comment_refusals}
use Rattle.tokens.specs.Token.{Front, sized, fault, typed, decimal, hex_typed, hex_len, hex_number, number_token, string_by, string, opens_string, string_refusal, name, word_token, mark, find_token, Scanned, tok, bad, placed, behind_gap, scan}
use Rattle.tokens.specs.Calls.{text_limit, place_fault, call_fault, lexed, next_token, advanced, refused_call, token_call, comment_of, next_comment}
use Rattle.tokens.specs.declared.Refusal.{Refusal}
use Rattle.tokens.specs.declared.Advanced.{Advanced}
use Rattle.tokens.proofs.Faults.{place-each, call-each, unless-sure, admits}
use Rattle.tokens.specs.declared.Token.{Token}
use Rattle.std.specs.Prelude.{Result, Ok, Err, Option, Some, None}
use Rattle.gap.specs.declared.Comment.{Comment}

-- every number of one set is one of another: of two sets that are written out, `refl` says so
unfoldable pub subset : List ℕ → List ℕ → Bool
subset [] ys = true
subset (x ∷ xs) ys = among ys x && subset xs ys

pub among-subset : (xs ys : List ℕ) → subset xs ys ≡ true → (n : ℕ) → among xs n ≡ true → among ys n ≡ true
unfolding subset among
among-subset [] ys h n g = false-true _ g
among-subset (x ∷ xs) ys h n g = go (eqb x n) refl g (among-subset xs ys (and_right (among ys x) (subset xs ys) h) n)
  where
    go : (b : Bool) → eqb x n ≡ b → b || among xs n ≡ true → (among xs n ≡ true → among ys n ≡ true) → among ys n ≡ true
    go true e f later = subst (λ (m : ℕ). among ys m ≡ true) (eqb-true x n e) (and_left (among ys x) (subset xs ys) h)
    go false e f later = later f

-- what the bytes of a text refuse where a token is looked for, behind the gap: 6 is a comment's
abbrev pub front_refusals : List ℕ
front_refusals = NoToken ∷ HexStringNotClosed ∷ ByteStringNotClosed ∷ StringNotAscii ∷ []

abbrev pub Met : Front → Type 0
Met (sized k n) = Unit {0}
Met (fault m i j) = among front_refusals m ≡ true

abbrev pub LexMet : Scanned → Type 0
LexMet (tok k s e w r) = Unit {0}
LexMet (bad r) = among lex_refusals r.number ≡ true

met-cond : (b : Bool) (x y : Front) → Met x → Met y → Met (cond b x y)
met-cond true x y f g = f
met-cond false x y f g = g

number-met : (ed : ℕ) (s : List ℕ) → Met (number_token ed s)
unfolding number_token hex_number hex_typed decimal typed
number-met ed s = met-cond (begins (bytes "0x") s) _ _ (met-cond (eqb (hex_len ed s + suffix_len ed (drop (hex_len ed s) s)) 2) (sized 1 1) _ tt tt) tt

string-met : (m h : ℕ) (q : Quote) → among front_refusals m ≡ true → Met (string_by m h q)
unfolding string_by among
string-met m h (Missing e) p = p
string-met m h (Closing q) p = met-cond (ltb h q) (fault StringNotAscii h (h + 1)) (sized 3 (q + 1)) refl tt

string-refusal-met : (a : ℕ) → among front_refusals (string_refusal a) ≡ true
unfolding string_refusal among
string-refusal-met a = go (eqb a 120)
  where
    go : (b : Bool) → among front_refusals (cond b 7 8) ≡ true
    go true = refl
    go false = refl

word-met : (s : List ℕ) → Met (word_token s)
unfolding word_token string name
word-met s =
    met-cond (opens_string (get_or s 0 0) (get_or s 1 0)) _ _
    (string-met (string_refusal (get_or s 0 0)) (2 + run_len is_ascii (drop 2 s)) (quote_from false 2 (drop 2 s)) (string-refusal-met (get_or s 0 0))) tt

pub find-met : (ed : ℕ) (s : List ℕ) → Met (find_token ed s)
unfolding find_token mark among
find-met ed [] = tt
find-met ed (a ∷ s) =
    met-cond (is_digit a) _ _ (number-met ed (a ∷ s))
    (met-cond (is_letter a) _ _ (word-met (a ∷ s)) (met-cond (eqb (mark_of (a ∷ s)).len 0) (fault NoToken 0 0) (sized (mark_of (a ∷ s)).kind (mark_of (a ∷ s)).len) refl tt))

placed-met : (p : ℕ) (s : List ℕ) (x : Front) → Met x → LexMet (placed p s x)
unfolding placed subset among
placed-met p s (sized k n) h = tt
placed-met p s (fault m i j) h = among-subset front_refusals lex_refusals refl m h

module _ (ed : ℕ) where
  gap-met : (e : End) → LexMet (behind_gap ed e)
  unfolding behind_gap among
  gap-met (clear p s) = placed-met p s (find_token ed s) (find-met ed s)
  gap-met (broken o q) = refl

  -- the bytes of a text say one of 5 to 9
  pub lex-met : (p : ℕ) (s : List ℕ) → LexMet (scan ed p s)
  unfolding scan
  lex-met p s = gap-met (gap 0 p s).last

abbrev TokenMet : List ℕ → Result Token Refusal → Type 0
TokenMet set (Ok t) = Unit {0}
TokenMet set (Err r) = among set r.number ≡ true

abbrev CommentMet : Result (Option Comment) Refusal → Type 0
CommentMet (Ok (Some c)) = Unit {0}
CommentMet (Ok None) = Unit {0}
CommentMet (Err r) = among comment_refusals r.number ≡ true

lexed-met : (set : List ℕ) → subset lex_refusals set ≡ true → (l : Scanned) → LexMet l → TokenMet set (lexed l)
unfolding lexed
lexed-met set i (tok k s e w r) h = tt
lexed-met set i (bad r) h = among-subset lex_refusals set i r.number h

comment-met : (d : Result (Option Comment) Unclosed) → CommentMet (comment_of d)
unfolding comment_of among
comment-met (Ok (Some c)) = tt
comment-met (Ok None) = tt
comment-met (Err w) = refl

next-met : (ed : ℕ) (text : List ℕ) (at : ℕ) → TokenMet token_refusals (next_token ed text at)
unfolding next_token subset among
next-met ed text at =
    unless-sure Err (TokenMet token_refusals) (place_fault text at) _ (place-each _ text at refl refl) (λ _. lexed-met token_refusals refl (scan ed at (drop at text)) (lex-met ed at (drop at text)))

-- a token call is refused with 1, 2, 19 or 5 to 9
pub token-refusals : (ed : ℕ) (text : List ℕ) (at : ℕ) (r : Refusal) → (token_call ed text at).lexed ≡ Err r → among token_refusals r.number ≡ true
unfolding token_call advanced among
token-refusals ed text at r e =
    subst (TokenMet token_refusals) e (unless-sure refused_call (λ (a : Advanced). TokenMet token_refusals a.lexed) (call_fault ed text at) _ (call-each _ ed text at refl refl refl) (λ _. next-met ed text at))

-- and with 5 to 9 where the caller is not to blame
pub token-text-refusals : (ed : ℕ) (text : List ℕ) (at : ℕ) → length text ≤ text_limit → at ≤ length text → (r : Refusal) → next_token ed text at ≡ Err r → among lex_refusals r.number ≡ true
unfolding next_token subset among
token-text-refusals ed text at h g r e =
    subst (TokenMet lex_refusals) (sym (admits text at Err (lexed (scan ed at (drop at text))) h g) ∙ e) (lexed-met lex_refusals refl (scan ed at (drop at text)) (lex-met ed at (drop at text)))

-- a comment call is refused with 1, 2, 19 or 6
pub comment-refusals : (ed : ℕ) (text : List ℕ) (at : ℕ) (r : Refusal) → next_comment ed text at ≡ Err r → among comment_refusals r.number ≡ true
unfolding next_comment among
comment-refusals ed text at r e = subst CommentMet e (unless-sure Err CommentMet (call_fault ed text at) _ (call-each _ ed text at refl refl refl) (λ _. comment-met (doc_of (gap 0 at (drop at text)))))
