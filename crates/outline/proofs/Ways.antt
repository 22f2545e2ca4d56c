-- One law for each way through a step, and for each way out of a portion.
use mathlib.Core.Path.{◌≡◌, refl, ap, sym, ◌∙◌, subst}
use mathlib.Core.Bool.{Bool, true, false, cond}
use mathlib.Core.List.{List, [], ◌∷◌, ◌++◌, append-nil}
use Prim.Native.Nat.{ℕ, suc, ◌+◌, ◌-◌, ◌/◌, ◌<◌, ◌≤◌}
use native.Mathlib.Omega.{arith}
use native.Mathlib.Nat.{add_assoc, add-zero}
use borrow.Author.Tests.{ne_eqb}
use lib.Dec.{ltb}
use lib.ListN.{length, drop, length-append}
use lib.Seq.{sets, length-sets}
use Rattle.buffer.proofs.Sets.{sets-append}
use Rattle.gap.specs.Gap.{gap}
use Rattle.gap.specs.declared.Comment.{Comment}
use Rattle.tokens.specs.Answers.{place}
use Rattle.tokens.specs.Calls.{next_token, last_span, doc_before, documented}
use Rattle.tokens.specs.Walk.{tokens_at}
use Rattle.tokens.specs.declared.Place.{Place}
use Rattle.tokens.specs.declared.Refusal.{Refusal}
use Rattle.tokens.specs.declared.Token.{Token}
use Rattle.tokens.specs.declared.Documented.{Documented}
use Rattle.tokens.proofs.Walks.{at_next, at-eof, at-refused}
use Rattle.outline.specs.Entry.{Entry, entry, narrow_text, width_in, size_of, entry_bytes, all_bytes, records_of, fitting}
use Rattle.outline.specs.Outline.{no_place, comment_at, pending_after, Outlined, rejected, stopped, joined, names, stepped, portion}
use Rattle.outline.specs.code.Steps.{asked, comment_or, behind, summary, Named, Filled, ahead, Standing, Went, Stepped}
use Rattle.outline.specs.Calls.{answered}
use Rattle.outline.specs.Theorems.{span_of}
use Rattle.outline.specs.declared.Pending.{Pending}
use Rattle.outline.specs.declared.State.{State}
use Rattle.outline.specs.declared.Step.{Step}
use Rattle.outline.specs.declared.Step.TheVariants.{GoOn, End, Full}
use Rattle.outline.proofs.Steps.{joined-none, joined-both, step-pass, step-full, step-entry}
use Rattle.outline.proofs.Docs.{EachDoc, docs-each, DocInText, docs-in-text}
use Rattle.outline.proofs.Kept.{last-each}
use Rattle.outline.proofs.Sizes.{width-cases, joined_bytes, records-long}
use Rattle.outline.specs.declared.Summary.{Summary}
use Rattle.std.specs.Prelude.{Result, Ok, Err}

-- the last doc comment of a gap, or the pending one: a doc comment has a byte
last_or : (text : List ℕ) (ds : List Comment) (c : Place) → EachDoc (DocInText text) ds → comment_or (last_span no_place ds) c ≡ last_span c ds
unfolding comment_or last_span
last_or text [] c h = refl
last_or text (d ∷ ds) c h =
    let z : 0 < (last_span (span_of d) ds).end = last-each (λ p. 0 < p.end) (span_of d) ds (omega (arith, h.0.0)) (docs-each (DocInText text) _ (λ e g. omega (arith, g.0)) ds h.1) in
    rw (ne_eqb (last_span (span_of d) ds).end 0 (λ e. omega (arith, z, e)))

pub comment-same : (text : List ℕ) (at : ℕ) (c : Place) → comment_or (last_span no_place (gap 0 at (drop at text)).docs) c ≡ comment_at text at c
unfolding comment_at
comment-same text at c = last_or text (gap 0 at (drop at text)).docs c (docs-in-text text at)

-- the token and the comment of the step
module _ (ed : ℕ) (text : List ℕ) (at : ℕ) (d : Documented) (e : d ≡ documented ed text at) where
  pub token-of : (x : Result Token Refusal) → d.lexed ≡ x → next_token ed text at ≡ x
  unfolding documented
  token-of x f = sym (ap (λ (z : Documented). z.lexed) e) ∙ f

  pub comment-of : (t : Token) (c k : Place) → d.lexed ≡ Ok t → k ≡ comment_or d.doc c → k ≡ comment_at text at c
  unfolding documented doc_before
  comment-of t c k f g =
      g ∙ ap (λ (z : Documented). comment_or z.doc c) e ∙ ap (λ (x : Result Token Refusal). comment_or (doc_before text at x) c) (token-of (Ok t) f) ∙ comment-same text at c

-- the step of a name, by the layout
module _ (text : List ℕ) (room : ℕ) (s : State) (t : Token) (c : Place) (l : List ℕ) (b : Bool) (n : ℕ) (e : b ≡ ltb narrow_text (length text)) (f : n ≡ size_of (cond b 4 2)) where
  width-by : cond b 4 2 ≡ width_in text
  unfolding width_in
  width-by = rw e

  size-by : n ≡ size_of (width_in text)
  size-by = f ∙ ap size_of width-by

  pub full-way : room - s.length < n → Named text room s t c l Full l
  unfolding Named
  full-way h = (omega (arith, size-by), refl)

  pub on-way : (m : List ℕ) (u : State) → s.length ≤ room → n ≤ room - s.length → m ≡ sets l s.length (entry_bytes (cond b 4 2) (entry s.pending.keyword (place t.start t.end) c))
      → u ≡ behind t c (s.length + n) → Named text room s t c l (GoOn u) m
  unfolding Named
  on-way m u h g q v = (
    omega (arith, size-by),
    v ∙ ap (λ (z : ℕ). behind t c (s.length + z)) size-by,
    q ∙ ap (λ (w : ℕ). sets l s.length (entry_bytes w (entry s.pending.keyword (place t.start t.end) c))) width-by,
  )

-- room for one record more, or for none
module _ (text : List ℕ) (room n : ℕ) where
  one-fits : n + size_of (width_in text) ≤ room → fitting text (room - n) ≡ suc (fitting text (room - (n + size_of (width_in text))))
  unfolding fitting
  one-fits = width-cases text (λ w. n + size_of w ≤ room → (room - n) / size_of w ≡ suc ((room - (n + size_of w)) / size_of w)) (λ _ h. omega arith) (λ h. omega arith)

  none-fits : room - n < size_of (width_in text) → fitting text (room - n) ≡ 0
  unfolding fitting
  none-fits = width-cases text (λ w. room - n < size_of w → (room - n) / size_of w ≡ 0) (λ _ h. omega arith) (λ h. omega arith)

one-long : (text : List ℕ) (e : Entry) → length (records_of text (e ∷ [])) ≡ size_of (width_in text)
one-long text e = records-long text (e ∷ []) ∙ omega arith

one-record : (text : List ℕ) (e : Entry) → records_of text (e ∷ []) ≡ entry_bytes (width_in text) e
unfolding records_of all_bytes
one-record text e = append-nil (entry_bytes (width_in text) e)

module _ (ed : ℕ) (text : List ℕ) (room : ℕ) (s : State) (h : Standing ed text room s) where
  -- a token that is none, EOF
  pub unread-way : (l m : List ℕ) (r : Refusal) → next_token ed text s.at ≡ Err r → Stepped ed text room s l (Err r) m
  unfolding Stepped portion
  unread-way l m r e n = let z : 1 + n ≡ suc n = omega arith in rw (at-refused ed text s.at h.0 r e, z)

  pub eof-way : (l : List ℕ) (t : Token) → next_token ed text s.at ≡ Ok t → t.kind ≡ 0 → Stepped ed text room s l (Ok End) l
  unfolding Stepped portion
  eof-way l t e k = (refl, λ n. let z : 1 + n ≡ suc n = omega arith in rw (at-eof ed text s.at h.0 t e k, z))

  module _ (t : Token) (e : next_token ed text s.at ≡ Ok t) (k : t.kind ≡ 0 → ⊥) (c : Place) (q : c ≡ comment_at text s.at s.pending.comment) where
    -- what comes behind the token
    abbrev later : ℕ → ℕ → Outlined
    later n m = portion text t.end (pending_after t.kind c) m n (tokens_at ed text t.end)

    found : (n : ℕ) → ahead ed text room s (1 + n) ≡ stepped text s.at s.pending (fitting text (room - s.length)) t (later n)
    unfolding portion
    found n = let z : 1 + n ≡ suc n = omega arith in rw ((at_next ed text s.at h.0 t e k).0, z, q)

    stands : (n : ℕ) → n ≤ room → Standing ed text room (behind t c n)
    stands n g = ((at_next ed text s.at h.0 t e k).2, g)

    pub pass-way : (l : List ℕ) (u : State) → names s.pending.keyword t.kind ≡ false → u ≡ behind t c s.length → Stepped ed text room s l (Ok (GoOn u)) l
    unfolding Stepped records_of all_bytes
    pass-way l u f g =
        rw g (
          [],
          record {
            standing = stands s.length h.1;
            long = sym (add-zero s.length);
            holds = refl;
            goes = λ n. found n ∙ step-pass text s.at s.pending t (later n) (fitting text (room - s.length)) f;
          },
        )

    entered : (n : ℕ) → names s.pending.keyword t.kind ≡ true → s.length + size_of (width_in text) ≤ room
        → ahead ed text room s (1 + n) ≡ joined 1 (entry s.pending.keyword (place t.start t.end) c ∷ []) (ahead ed text room (behind t c (s.length + size_of (width_in text))) n)
    entered n f g =
        found n ∙ ap (λ (j : ℕ). stepped text s.at s.pending j t (later n)) (one-fits text room s.length g)
        ∙ step-entry text s.at s.pending t (later n) (fitting text (room - (s.length + size_of (width_in text)))) f
        ∙ ap (λ (x : Place). joined 1 (entry s.pending.keyword (place t.start t.end) x ∷ []) (later n (fitting text (room - (s.length + size_of (width_in text)))))) (sym q)

    pub name-way : (l m : List ℕ) (r : Step) → names s.pending.keyword t.kind ≡ true → Named text room s t c l r m → Stepped ed text room s l (Ok r) m
    unfolding Stepped Named
    name-way l m (GoOn u) f w =
        let x = entry s.pending.keyword (place t.start t.end) c in
        rw w.1 (
          x ∷ [],
          record {
            standing = stands (s.length + size_of (width_in text)) w.0;
            long = omega (arith, one-long text x);
            holds = w.2 ∙ ap (sets l s.length) (sym (one-record text x));
            goes = λ n. entered n f w.0;
          },
        )
    name-way l m Full f w =
        (w.1, λ n. found n ∙ ap (λ (j : ℕ). stepped text s.at s.pending j t (later n)) (none-fits text room s.length w.0) ∙ step-full text s.at s.pending t (later n) f)
    name-way l m End f w = absurd w

-- one way behind another
module _ (ed : ℕ) (text : List ℕ) (room : ℕ) where
  pub went-none : (s : State) (l : List ℕ) → Standing ed text room s → Went ed text room s s 0 [] l l
  unfolding records_of all_bytes joined
  went-none s l h =
      record {
        standing = h;
        long = sym (add-zero s.length);
        holds = refl;
        goes = λ n. let z : 0 + n ≡ n = omega arith in rw z (sym (joined-none (ahead ed text room s n)));
      }

  pub went-both : (s t u : State) (c d : ℕ) (es fs : List Entry) (l m n : List ℕ) → Went ed text room s t c es l m → Went ed text room t u d fs m n → Went ed text room s u (c + d) (es ++ fs) l n
  went-both s t u c d es fs l m n f g =
      record {
        standing = g.standing;
        long = omega (arith, f.long, g.long, ap length (joined_bytes text es fs), length-append (records_of text es) (records_of text fs));
        holds = g.holds ∙ rw (f.holds, f.long, joined_bytes text es fs) (sym (sets-append (records_of text es) (records_of text fs) l s.length));
        goes = λ n.
            ap (ahead ed text room s) (add_assoc c d n) ∙ f.goes (d + n) ∙ ap (joined c es) (g.goes n) ∙ joined-both c d es fs (ahead ed text room u n);
      }

-- a portion on its way: from its start, where nothing was written, to the state s behind c tokens
module _ (ed : ℕ) (text : List ℕ) (room limit at : ℕ) (p : Pending) where
  abbrev start : State
  start = record { at = at; length = 0; pending = p }

  abbrev pub Going : State → ℕ → List ℕ → List ℕ → Type 0
  Going s c l m = (c ≤ limit) × ((es : List Entry) × Went ed text room start s c es l m)

  pub sets_out : (l : List ℕ) → at ≤ length text → Going start 0 l l
  sets_out l h = (omega arith, ([], went-none ed text room start l (h, omega arith)))

  -- what the portion answers, and the records that it writes
  abbrev Ends : List ℕ → Result Summary Refusal → List ℕ → Type 0
  Ends l a n = (a ≡ answered text (asked ed text at limit p room)) × Filled text room l (asked ed text at limit p room) n

  module _ (s : State) (c : ℕ) (l m : List ℕ) (g : Going s c l m) where
    pub goes_on : (n : List ℕ) (t : State) → Stepped ed text room s m (Ok (GoOn t)) n → c < limit → Going t (c + 1) l n
    unfolding Stepped
    goes_on n t h i = (omega arith, (g.1.0 ++ h.0, went-both ed text room start s t c 1 g.1.0 h.0 l m n g.1.1 h.1))

    -- the buffer keeps its length
    pub going-long : length m ≡ length l
    going-long = ap length g.1.1.holds ∙ length-sets l 0 (records_of text g.1.0)

    -- the whole, by what is ahead
    whole : (n : ℕ) → c + n ≡ limit → asked ed text at limit p room ≡ joined c g.1.0 (ahead ed text room s n)
    whole n e =
        let z : room - 0 ≡ room = omega arith in
        ap (asked ed text at limit p) (sym z) ∙ ap (ahead ed text room start) (sym e) ∙ g.1.1.goes n

    -- where one step more is within the limit
    next_step : c < limit → (x : Outlined) → ((n : ℕ) → ahead ed text room s (1 + n) ≡ x) → asked ed text at limit p room ≡ joined c g.1.0 x
    next_step i x h =
        let j : c + (1 + (limit - c - 1)) ≡ limit = omega arith in
        whole (1 + (limit - c - 1)) j ∙ ap (joined c g.1.0) (h (limit - c - 1))

    ends_by : (b : Bool) (x : Outlined) → x ≡ joined c g.1.0 (stopped b s.at s.pending) → (Ok (summary s c b) ≡ answered text x) × Filled text room l x m
    unfolding joined stopped answered Filled
    ends_by b x e =
        let w = g.1.1 in
        let y : s.length ≡ length (records_of text g.1.0) = omega (arith, w.long) in
        rw (e, add-zero c, append-nil g.1.0) (
          ap (λ (k : ℕ). Ok (record { full = b; count = c; length = k; end = s.at; pending = s.pending })) y,
          (w.holds, omega (arith, w.standing.1, y)),
        )

    stops : (b : Bool) → asked ed text at limit p room ≡ joined c g.1.0 (stopped b s.at s.pending) → (n : List ℕ) → n ≡ m → (v : Summary) → v ≡ summary s c b → Ends l (Ok v) n
    stops b e n f v q =
        let o = ends_by b (asked ed text at limit p room) e in
        (ap Ok q ∙ o.0, subst (Filled text room l (asked ed text at limit p room)) (sym f) o.1)

    refused-by : (r : Refusal) (n : List ℕ) (x : Outlined) → x ≡ joined c g.1.0 (rejected r) → (Err r ≡ answered text x) × Filled text room l x n
    unfolding joined answered Filled
    refused-by r n x e = rw e (refl, tt)

    -- EOF, or no room
    pub ends-way : (n : List ℕ) → Stepped ed text room s m (Ok End) n → c < limit → (v : Summary) → v ≡ summary s c false → Ends l (Ok v) n
    unfolding Stepped
    ends-way n h i v q = stops false (next_step i (stopped false s.at s.pending) h.1) n h.0 v q

    pub fills-way : (n : List ℕ) → Stepped ed text room s m (Ok Full) n → c < limit → (v : Summary) → v ≡ summary s c true → Ends l (Ok v) n
    unfolding Stepped
    fills-way n h i v q = stops true (next_step i (stopped true s.at s.pending) h.1) n h.0 v q

    pub refused-way : (n : List ℕ) (r : Refusal) → Stepped ed text room s m (Err r) n → c < limit → Ends l (Err r) n
    unfolding Stepped
    refused-way n r h i = refused-by r n (asked ed text at limit p room) (next_step i (rejected r) h)

    -- the limit
    pub limit-way : limit ≤ c → (v : Summary) → v ≡ summary s limit false → Ends l (Ok v) m
    unfolding portion
    limit-way i v q =
        let z : c ≡ limit = omega (arith, g.0) in
        stops false (whole 0 (omega (arith, z))) m refl v (q ∙ ap (λ (k : ℕ). summary s k false) (sym z))
