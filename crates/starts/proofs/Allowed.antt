-- Where reading may begin is the request's list, both ways; and the start and the end of every token of the walk are in it.
use mathlib.Core.Path.{◌≡◌, refl, sym, ◌∙◌}
use mathlib.Core.Bool.{Bool, true, false, cond, ◌&&◌, not}
use mathlib.Core.List.{List}
use Prim.Native.Nat.{ℕ, ◌<◌, ◌≤◌}
use native.Mathlib.Omega.{arith}
use borrow.Author.Tests.{eqb-true, eqb-false, le-ltb, ltb-true}
use lib.Dec.{eqb, ltb}
use lib.ListN.{drop}
use Rattle.gap.specs.PartsEnd.{parts_end}
use Rattle.gap.proofs.PartsEnd.{parts-later}
use Rattle.tokens.specs.Refusals.{CommentNotClosed}
use Rattle.tokens.specs.Walk.{Listed, eof, refused, next, tokens_at}
use Rattle.tokens.specs.declared.Refusal.{Refusal}
use Rattle.tokens.specs.declared.Token.{Token}
use Rattle.starts.specs.Beginning.{bounds, by_refusal, by_tokens, beginning}
use Rattle.starts.specs.Allowed.{TokenOf, last, first, in_rest, RefusedBehind, here, behind_token, MayBegin, at_zero, at_start, at_end, in_middle, at_refused, RefusedBefore}
use Rattle.starts.proofs.Ordered.{Ordered, tokens-ordered}
use Rattle.starts.proofs.Bounds.{refusal-before, refusal-at}
use Rattle.starts.proofs.Beginnings.{none-behind, which, bound-inside, bounds-start, bounds-end, bounds-middle, begins-zero, behind-zero}
use Rattle.std.specs.Prelude.{Bool, true, false, Result, Ok, Err}

-- the tokens of a list, and its refusal, stand behind p
module _ (t : Token) where
  token-behind : {l : Listed} (p : ℕ) → Ordered p l → TokenOf t l → (p ≤ t.start) × (t.start ≤ t.end)
  token-behind p o last = o
  token-behind p o first = (o.0, omega (arith, o.1))
  token-behind p o (in_rest {u = u} m) = let r = token-behind u.end o.2 m in (omega (arith, o.0, o.1, r.0), r.1)

refused-later : (m : ℕ) (r : Refusal) (p : ℕ) (l : Listed) → Ordered p l → RefusedBehind m r p l → p ≤ m
refused-later m r p l o here = omega arith
refused-later m r p (next t l) o (behind_token d) = omega (arith, o.0, o.1, refused-later m r t.end l o.2 d)

not-allowed : (A : Type 0) → ◌≡◌ {A = Result Bool Refusal} (Ok false) (Ok true) → A
not-allowed A e = let z : ◌≡◌ {A = ℕ} 0 1 = cc in absurd (omega arith)

module _ (text : List ℕ) (offset : ℕ) where
  -- at a token that ends at the offset or before it
  passes : (t : Token) (l : Listed) (p : ℕ) → t.end ≤ offset → by_tokens text offset t.end l ≡ Ok true → by_tokens text offset p (next t l) ≡ Ok true
  unfolding by_tokens
  passes t l p h e = rw (le-ltb offset t.end h) (go (bounds t offset))
    where
      go : (b : Bool) → cond b (Ok true) (by_tokens text offset t.end l) ≡ Ok true
      go true = refl
      go false = e

  token-allowed : (t : Token) {l : Listed} (p : ℕ) → Ordered p l → TokenOf t l → bounds t offset ≡ true → by_tokens text offset p l ≡ Ok true
  unfolding by_tokens
  token-allowed t p o last b = rw b
  token-allowed t p o first b = rw b
  token-allowed t p o (in_rest {u = u} {l = l} m) b =
      let r = token-behind t u.end o.2 m in
      passes u l p (omega (arith, r.0, bound-inside t offset r.1 b)) (token-allowed t u.end o.2 m b)

  refused-allowed : (m : ℕ) (r : Refusal) (p : ℕ) (l : Listed) → Ordered p l → RefusedBehind m r p l → (r.number ≡ CommentNotClosed → ⊥)
      → offset ≡ parts_end 0 m (drop m text) → by_tokens text offset p l ≡ Ok true
  unfolding by_tokens
  refused-allowed m r p l o here n e = sym (refusal-at r (parts_end 0 m (drop m text)) offset (omega arith) e n)
  refused-allowed m r p (next t l) o (behind_token d) n e =
      passes t l p (omega (arith, refused-later m r t.end l o.2 d, parts-later (drop m text) 0 m)) (refused-allowed m r t.end l o.2 d n e)

  refused-told : (m : ℕ) (r : Refusal) (p : ℕ) (l : Listed) → Ordered p l → RefusedBehind m r p l → parts_end 0 m (drop m text) < offset → by_tokens text offset p l ≡ Err r
  unfolding by_tokens
  refused-told m r p l o here h = sym (refusal-before r (parts_end 0 m (drop m text)) offset h)
  refused-told m r p (next t l) o (behind_token d) h =
      let g : t.end < offset = omega (arith, refused-later m r t.end l o.2 d, parts-later (drop m text) 0 m) in
      rw (none-behind t offset o.1 g, le-ltb offset t.end (omega arith)) (refused-told m r t.end l o.2 d h)

  -- why an offset is allowed by a list, and why it is refused
  data Why (p : ℕ) (l : Listed) : Type 0 where
    by_token : (t : Token) → TokenOf t l → bounds t offset ≡ true → Why p l
    by_start : (m : ℕ) (r : Refusal) → RefusedBehind m r p l → (r.number ≡ CommentNotClosed → ⊥) → offset ≡ parts_end 0 m (drop m text) → Why p l

  why-later : (p : ℕ) (t : Token) (l : Listed) → Why t.end l → Why p (next t l)
  why-later p t l (by_token u m b) = by_token u (in_rest m) b
  why-later p t l (by_start m r d n e) = by_start m r (behind_token d) n e

  why-refusal : (r : Refusal) (q : ℕ) → by_refusal r q offset ≡ Ok true → (offset ≡ q) × (r.number ≡ CommentNotClosed → ⊥)
  unfolding by_refusal
  why-refusal r q e = go (ltb q offset) (eqb offset q) (eqb r.number CommentNotClosed) refl refl e
    where
      go : (a b c : Bool) → eqb offset q ≡ b → eqb r.number CommentNotClosed ≡ c → cond a (Err r) (cond (b && not c) (Ok true) (Ok false)) ≡ Ok true
          → (offset ≡ q) × (r.number ≡ CommentNotClosed → ⊥)
      go true b c x y e = let z : ◌≡◌ {A = ℕ} 0 1 = cc in absurd (omega arith)
      go false true true x y e = not-allowed _ e
      go false true false x y e = (eqb-true offset q x, eqb-false r.number CommentNotClosed y)
      go false false c x y e = not-allowed _ e

  why : (l : Listed) (p : ℕ) → by_tokens text offset p l ≡ Ok true → Why p l
  unfolding by_tokens
  why (eof t) p e = go (bounds t offset) refl e
    where
      go : (b : Bool) → bounds t offset ≡ b → ◌≡◌ {A = Result Bool Refusal} (cond b (Ok true) (Ok false)) (Ok true) → Why p (eof t)
      go true q e = by_token t last q
      go false q e = not-allowed _ e
  why (refused r) p e = let w = why-refusal r (parts_end 0 p (drop p text)) e in by_start p r here w.1 w.0
  why (next t l) p e = go (bounds t offset) (ltb offset t.end) refl e (why l t.end)
    where
      go : (b c : Bool) → bounds t offset ≡ b → cond b (Ok true) (cond c (Ok false) (by_tokens text offset t.end l)) ≡ Ok true
          → (by_tokens text offset t.end l ≡ Ok true → Why t.end l) → Why p (next t l)
      go true c q e ih = by_token t first q
      go false true q e ih = not-allowed _ e
      go false false q e ih = why-later p t l (ih e)

  -- the list ends in the refusal, and what is refused starts before the offset
  record Told (r : Refusal) (p : ℕ) (l : Listed) : Type 0 where
    behind_what : ℕ
    met : RefusedBehind behind_what r p l
    before : parts_end 0 behind_what (drop behind_what text) < offset

  neither : (A : Type 0) (s : Refusal) (b : Bool) → ◌≡◌ {A = Result Bool Refusal} (cond b (Ok true) (Ok false)) (Err s) → A
  neither A s true e = let z : ◌≡◌ {A = ℕ} 0 1 = cc in absurd (omega arith)
  neither A s false e = let z : ◌≡◌ {A = ℕ} 0 1 = cc in absurd (omega arith)

  told-refusal : (r s : Refusal) (q : ℕ) → by_refusal r q offset ≡ Err s → (r ≡ s) × (q < offset)
  unfolding by_refusal
  told-refusal r s q e = go (ltb q offset) refl e
    where
      go : (b : Bool) → ltb q offset ≡ b → cond b (Err r) (cond (eqb offset q && not (eqb r.number CommentNotClosed)) (Ok true) (Ok false)) ≡ Err s → (r ≡ s) × (q < offset)
      go true x e = let z : r ≡ s = cc in (z, ltb-true q offset x)
      go false x e = neither _ s (eqb offset q && not (eqb r.number CommentNotClosed)) e

  told : (s : Refusal) (l : Listed) (p : ℕ) → by_tokens text offset p l ≡ Err s → Told s p l
  unfolding by_tokens
  told s (eof t) p e = neither _ s (bounds t offset) e
  told s (refused r) p e = let w = told-refusal r s (parts_end 0 p (drop p text)) e in rw (← w.0) (record { behind_what = p; met = here; before = w.1 })
  told s (next t l) p e = go (bounds t offset) (ltb offset t.end) e (told s l t.end)
    where
      go : (b c : Bool) → cond b (Ok true) (cond c (Ok false) (by_tokens text offset t.end l)) ≡ Err s → (by_tokens text offset t.end l ≡ Err s → Told s t.end l) → Told s p (next t l)
      go true c e ih = neither _ s true e
      go false true e ih = neither _ s false e
      go false false e ih = let w = ih e in record { behind_what = w.behind_what; met = behind_token w.met; before = w.before }

-- for every edition, text and offset
module _ (ed : ℕ) (text : List ℕ) (offset : ℕ) where
  by-list : (x : Result Bool Refusal) → (offset ≡ 0 → (Ok true) ≡ x) → by_tokens text offset 0 (tokens_at ed text 0) ≡ x → beginning ed text offset ≡ x
  by-list x z e = go (eqb offset 0) refl
    where
      go : (b : Bool) → eqb offset 0 ≡ b → beginning ed text offset ≡ x
      go true q = let n : offset ≡ 0 = eqb-true offset 0 q in sym (begins-zero ed text offset n) ∙ z n
      go false q = behind-zero ed text offset (eqb-false offset 0 q) ∙ e

  ordered : Ordered 0 (tokens_at ed text 0)
  ordered = tokens-ordered ed text 0

  pub token_begins : (t : Token) → TokenOf t (tokens_at ed text 0) → bounds t offset ≡ true → beginning ed text offset ≡ Ok true
  token_begins t m b = by-list (Ok true) (λ _. refl) (token-allowed text offset t 0 ordered m b)

  pub allowed : MayBegin ed text offset → beginning ed text offset ≡ Ok true
  allowed (at_zero e) = sym (begins-zero ed text offset e)
  allowed (at_start t m e) = token_begins t m (bounds-start t offset e)
  allowed (at_end t m e) = token_begins t m (bounds-end t offset e)
  allowed (in_middle t m k e) = token_begins t m (bounds-middle t offset k e)
  allowed (at_refused m r d n e) = by-list (Ok true) (λ _. refl) (refused-allowed text offset m r 0 (tokens_at ed text 0) ordered d n e)

  because : Why text offset 0 (tokens_at ed text 0) → MayBegin ed text offset
  because (by_token t m b) = which t offset (MayBegin ed text offset) (λ e. at_start t m e) (λ e. at_end t m e) (λ k e. in_middle t m k e) b
  because (by_start m r d n e) = at_refused m r d n e

  pub allowed-only : beginning ed text offset ≡ Ok true → MayBegin ed text offset
  allowed-only e = go (eqb offset 0) refl
    where
      go : (b : Bool) → eqb offset 0 ≡ b → MayBegin ed text offset
      go true q = at_zero (eqb-true offset 0 q)
      go false q = because (why text offset (tokens_at ed text 0) 0 (sym (behind-zero ed text offset (eqb-false offset 0 q)) ∙ e))

  pub refused-before : (r : Refusal) → RefusedBefore ed text offset r → beginning ed text offset ≡ Err r
  refused-before r d = by-list (Err r) (λ z. absurd (omega (arith, d.before))) (refused-told text offset d.behind r 0 (tokens_at ed text 0) ordered d.met d.before)

  pub refused-only : (r : Refusal) → beginning ed text offset ≡ Err r → RefusedBefore ed text offset r
  refused-only r e = go (eqb offset 0) refl
    where
      go : (b : Bool) → eqb offset 0 ≡ b → RefusedBefore ed text offset r
      go true q = neither text offset _ r true (begins-zero ed text offset (eqb-true offset 0 q) ∙ e)
      go false q =
          let w = told text offset r (tokens_at ed text 0) 0 (sym (behind-zero ed text offset (eqb-false offset 0 q)) ∙ e) in
          record { behind = w.behind_what; met = w.met; before = w.before }

  -- nothing starts there exactly where neither holds
  pub nowhere-only : beginning ed text offset ≡ Ok false → (MayBegin ed text offset → ⊥) × ((r : Refusal) → RefusedBefore ed text offset r → ⊥)
  nowhere-only e = (λ m. not-allowed ⊥ (sym e ∙ allowed m), λ r d. neither text offset ⊥ r false (sym e ∙ refused-before r d))

  pub nowhere : (MayBegin ed text offset → ⊥) → ((r : Refusal) → RefusedBefore ed text offset r → ⊥) → beginning ed text offset ≡ Ok false
  nowhere a b = go (beginning ed text offset) refl
    where
      go : (x : Result Bool Refusal) → beginning ed text offset ≡ x → x ≡ Ok false
      go (Ok true) e = absurd (a (allowed-only e))
      go (Ok false) e = refl
      go (Err r) e = absurd (b r (refused-only r e))

-- offset 0, and who goes on from token to token
module _ (ed : ℕ) (text : List ℕ) where
  pub zero-begins : beginning ed text 0 ≡ Ok true
  zero-begins = sym (begins-zero ed text 0 refl)

  module _ (t : Token) (m : TokenOf t (tokens_at ed text 0)) where
    pub start-begins : beginning ed text t.start ≡ Ok true
    start-begins = allowed ed text t.start (at_start t m refl)

    pub end-begins : beginning ed text t.end ≡ Ok true
    end-begins = allowed ed text t.end (at_end t m refl)
