-- What is pending: as it is handed in, behind each token, and in an answer. Theorem 4; and what holds of each comment.
use mathlib.Core.Path.{◌≡◌, refl, sym}
use mathlib.Core.Bool.{Bool, true, false, cond, ◌||◌}
use mathlib.Core.List.{List, [], ◌∷◌, Memᴰ}
use Prim.Native.Nat.{ℕ, ◌≤◌}
use native.Mathlib.Omega.{arith}
use borrow.Author.Tests.{eqb-true, le-ltb, ltb-false}
use lib.Dec.{eqb, ltb}
use lib.ListN.{length, drop}
use Rattle.classes.proofs.Bools.{false-true, and_left, or_left, or_right}
use Rattle.words.specs.Kinds.{Struct, Fun, Const}
use Rattle.gap.specs.Gap.{gap}
use Rattle.gap.specs.declared.Comment.{Comment}
use Rattle.tokens.specs.Calls.{last_span}
use Rattle.tokens.specs.Walk.{Listed, eof, refused, next, tokens_at}
use Rattle.tokens.specs.declared.Place.{Place}
use Rattle.tokens.specs.declared.Token.{Token}
use Rattle.outline.specs.Outline.{declares, keyword_of, separates, no_place, passes, handed, comment_at, pending_after, pending_behind, Portion, names}
use Rattle.outline.specs.Theorems.{span_of, Every, docs_from, PendingKept}
use Rattle.outline.specs.declared.Pending.{Pending}
use Rattle.outline.proofs.Steps.{Claim, Closed}
use Rattle.outline.proofs.Asked.{outlined-each}
use Rattle.outline.proofs.Docs.{EachDoc, docs-both, docs-append, docs-each, DocInText, docs-in-text}

-- keywords
pub keyword-kept : (k : ℕ) → keyword_of (keyword_of k) ≡ keyword_of k
unfolding keyword_of declares
keyword-kept k = go (declares k) refl
  where
    go : (b : Bool) → declares k ≡ b → keyword_of (cond b k 0) ≡ cond b k 0
    go true e = rw e
    go false e = refl

pub keyword-declares : (k : ℕ) → declares (keyword_of k) ≡ true → declares k ≡ true
unfolding keyword_of declares
keyword-declares k h = go (declares k) refl h
  where
    go : (b : Bool) → declares k ≡ b → declares (cond b k 0) ≡ true → declares k ≡ true
    go true e h = e
    go false e h = false-true _ h

-- a place in the text
abbrev pub InText : List ℕ → Place → Type 0
InText text c = (c.start ≤ length text) × (c.end ≤ length text)

pub text-none : (text : List ℕ) → InText text no_place
text-none text = (omega arith, omega arith)

passes-not : (text : List ℕ) (c : Place) → InText text c → passes text c ≡ false
unfolding passes
passes-not text c h = rw (le-ltb (length text) c.start h.0, le-ltb (length text) c.end h.1)

not-passes : (text : List ℕ) (c : Place) → passes text c ≡ false → InText text c
unfolding passes
not-passes text c e = (
  ltb-false (length text) c.start (or_left (ltb (length text) c.start) (ltb (length text) c.end) e),
  ltb-false (length text) c.end (or_right (ltb (length text) c.start) (ltb (length text) c.end) e),
)

pub handed-in-text : (text : List ℕ) (p : Pending) → InText text (handed text p).comment
unfolding handed
handed-in-text text p = go (passes text p.comment) refl
  where
    go : (b : Bool) → passes text p.comment ≡ b → InText text (cond b no_place p.comment)
    go true e = text-none text
    go false e = not-passes text p.comment e

pub handed-keyword : (text : List ℕ) (p : Pending) → keyword_of (handed text p).keyword ≡ (handed text p).keyword
unfolding handed
handed-keyword text p = keyword-kept p.keyword

pub handed-same : (text : List ℕ) (p : Pending) → keyword_of p.keyword ≡ p.keyword → InText text p.comment → handed text p ≡ p
unfolding handed
handed-same text p e h = rw (e, passes-not text p.comment h)

-- each comment: the one that holds for a token is one of its gap, or was pending
pub last-each : (Q : Place → Type 0) (c : Place) (ds : List Comment) → Q c → EachDoc (λ d. Q (span_of d)) ds → Q (last_span c ds)
unfolding last_span
last-each Q c [] h g = h
last-each Q c (d ∷ ds) h g = last-each Q (span_of d) ds g.0 g.1

pub behind-each : (Q : Place → Type 0) (text : List ℕ) (at : ℕ) (c : Place) (t : Token) → Q no_place → Q (comment_at text at c) → Q (pending_behind text at c t).comment
unfolding pending_after
behind-each Q text at c t h g = go (separates t.kind)
  where
    go : (b : Bool) → Q (cond b no_place (comment_at text at c))
    go true = h
    go false = g

module _ (Q : Place → Type 0) (z : Q no_place) (ed : ℕ) (text : List ℕ) where
  abbrev DocsEach : List Comment → Type 0
  DocsEach ds = EachDoc (λ d. Q (span_of d)) ds

  pub comment-each : (at : ℕ) (c : Place) → Q c → DocsEach (gap 0 at (drop at text)).docs → Q (comment_at text at c)
  unfolding comment_at
  comment-each at c h g = last-each Q c (gap 0 at (drop at text)).docs h g

  abbrev pub Commented : Claim
  Commented at p k n l a = Q p.comment → DocsEach (docs_from text at l) → Every (λ e. Q e.comment) a.entries × Q a.pending.comment

  -- the step's comment, and what comes behind it
  one-step : (at : ℕ) (p : Pending) (k n : ℕ) (t : Token) (l : Listed) (b : Portion) → Commented t.end (pending_behind text at p.comment t) k n l b
      → Q p.comment → DocsEach (docs_from text at (next t l)) → Q (comment_at text at p.comment) × Every (λ e. Q e.comment) b.entries × Q b.pending.comment
  unfolding docs_from
  one-step at p k n t l b ih h g =
      let d = docs-both (λ d. Q (span_of d)) (gap 0 at (drop at text)).docs (docs_from text t.end l) g in
      let c = comment-each at p.comment h d.0 in
      let r = ih (behind-each Q text at p.comment t z c) d.1 in
      (c, r.0, r.1)

  pub commented : Closed ed text Commented
  unfolding Every
  commented =
      record {
        none = λ at p k l w h g. (tt, h);
        over = λ at p k n t w h g. (tt, h);
        full = λ at p n t l w e h g. (tt, h);
        pass = λ at p k n t l b w e ih h g. let r = one-step at p k n t l b ih h g in (r.1, r.2);
        entry = λ at p k n t l b w e ih h g. let r = one-step at p k n t l b ih h g in ((r.0, r.1), r.2);
      }

-- keywords of entries, and the pending one
abbrev pub Keyworded : Claim
Keyworded at p k n l a = keyword_of p.keyword ≡ p.keyword → Every (λ e. declares e.keyword ≡ true) a.entries × (keyword_of a.pending.keyword ≡ a.pending.keyword)

module _ (ed : ℕ) (text : List ℕ) where
  behind-keyword : (at : ℕ) (c : Place) (t : Token) → keyword_of (pending_behind text at c t).keyword ≡ (pending_behind text at c t).keyword
  unfolding pending_after
  behind-keyword at c t = keyword-kept t.kind

  names-keyword : (p : Pending) (t : Token) → names p.keyword t.kind ≡ true → declares p.keyword ≡ true
  unfolding names
  names-keyword p t e = and_left (declares p.keyword) _ e

  pub keyworded : Closed ed text Keyworded
  unfolding Every
  keyworded =
      record {
        none = λ at p k l w h. (tt, h);
        over = λ at p k n t w h. (tt, h);
        full = λ at p n t l w e h. (tt, h);
        pass = λ at p k n t l b w e ih h. ih (behind-keyword at p.comment t);
        entry = λ at p k n t l b w e ih h. let r = ih (behind-keyword at p.comment t) in ((names-keyword p t e, r.0), r.1);
      }

  -- every doc comment of a list stands in the text
  gap-inside : (at : ℕ) → EachDoc (λ d. InText text (span_of d)) (gap 0 at (drop at text)).docs
  gap-inside at = docs-each (DocInText text) _ (λ c h. (omega (arith, h.0, h.1), h.1)) (gap 0 at (drop at text)).docs (docs-in-text text at)

  pub docs-inside : (at : ℕ) (l : Listed) → EachDoc (λ d. InText text (span_of d)) (docs_from text at l)
  unfolding docs_from
  docs-inside at (eof t) = gap-inside at
  docs-inside at (refused r) = gap-inside at
  docs-inside at (next t l) = docs-append (λ d. InText text (span_of d)) (gap 0 at (drop at text)).docs (docs_from text t.end l) (gap-inside at) (docs-inside t.end l)

-- a keyword that is taken as it is
declared : (k : ℕ) → declares k ≡ true → Memᴰ k (0 ∷ Struct ∷ Fun ∷ Const ∷ [])
unfolding declares
declared k h = go (eqb k Struct) refl (eqb k Fun) refl h
  where
    go : (a : Bool) → eqb k Struct ≡ a → (b : Bool) → eqb k Fun ≡ b → (a || (b || eqb k Const)) ≡ true → Memᴰ k (0 ∷ Struct ∷ Fun ∷ Const ∷ [])
    go true e b f h = Memᴰ.tail (Memᴰ.head (eqb-true k Struct e))
    go false e true f h = Memᴰ.tail (Memᴰ.tail (Memᴰ.head (eqb-true k Fun f)))
    go false e false f h = Memᴰ.tail (Memᴰ.tail (Memᴰ.tail (Memᴰ.head (eqb-true k Const h))))

taken-keyword : (k : ℕ) → keyword_of k ≡ k → Memᴰ k (0 ∷ Struct ∷ Fun ∷ Const ∷ [])
unfolding keyword_of
taken-keyword k h = go (declares k) refl h
  where
    go : (b : Bool) → declares k ≡ b → cond b k 0 ≡ k → Memᴰ k (0 ∷ Struct ∷ Fun ∷ Const ∷ [])
    go true e h = declared k e
    go false e h = Memᴰ.head (sym h)

pub pending-kept : PendingKept
pending-kept ed text at limit p room a e =
    let k = (outlined-each ed text at limit p room Keyworded (keyworded ed text) a e (handed-keyword text p)).1 in
    let c =
    (outlined-each ed text at limit p room (Commented (InText text) (text-none text) ed text) (commented (InText text) (text-none text) ed text) a e
    (handed-in-text text p) (docs-inside ed text at (tokens_at ed text at))).1 in
    record { taken = handed-same text a.pending k c; keyword = taken-keyword a.pending.keyword k; start = c.0; end = c.1 }
