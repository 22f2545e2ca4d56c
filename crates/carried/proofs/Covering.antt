-- The start of the token that covers an offset: what it is for an offset that a token covers, or at the text's end.
use mathlib.Core.Path.{◌≡◌, refl, ap, sym, ◌∙◌}
use mathlib.Core.Bool.{Bool, true, false, cond, ◌||◌}
use mathlib.Core.List.{List}
use mathlib.Core.Logic.{◌⊎◌, inl, inr}
use Prim.Native.Nat.{ℕ, ◌≤◌}
use native.Mathlib.Omega.{arith}
use borrow.Author.Tests.{eqb-true, eqb-false, eq-eqb}
use lib.Dec.{eqb}
use lib.ListN.{length}
use Rattle.classes.proofs.Bools.{false-true}
use Rattle.words.specs.Kinds.{EOF}
use Rattle.tokens.specs.Walk.{Listed, eof, refused, next, tokens_at}
use Rattle.tokens.specs.declared.Token.{Token}
use Rattle.starts.specs.Allowed.{TokenOf, last, first, in_rest}
use Rattle.carried.specs.Carry.{refusal_of, is_start, covers, covering_start}
use Rattle.carried.specs.Promised.{ToEOF}
use Rattle.carried.proofs.Walked.{Walked, over, stopped, going, walked}
use Rattle.carried.proofs.Together.{covers-in, no-refusal, Pair}

-- a start is that of a token of the list
pub start-token : (l : Listed) (x : ℕ) → is_start l x ≡ true → (t : Token) × TokenOf t l × (t.start ≡ x)
unfolding is_start
start-token (eof t) x h = (t, last, eqb-true t.start x h)
start-token (refused r) x h = false-true _ h
start-token (next t l) x h = go (eqb t.start x) refl h (start-token l x)
  where
    go : (b : Bool) → eqb t.start x ≡ b → b || is_start l x ≡ true → (is_start l x ≡ true → (t : Token) × TokenOf t l × (t.start ≡ x)) → (u : Token) × TokenOf u (next t l) × (u.start ≡ x)
    go true q k ih = (t, first, eqb-true t.start x q)
    go false q k ih = let u = ih k in (u.0, in_rest u.1, u.2)

pub or-either : (a b : Bool) → b ≡ true → a || b ≡ true
or-either true b h = refl
or-either false b h = h

-- the covering start is a start, where the list ends at EOF
pub covering-starts : (l : Listed) (x : ℕ) → ToEOF l → is_start l (covering_start l x) ≡ true
unfolding is_start covering_start refusal_of
covering-starts (eof t) x e = eq-eqb t.start t.start refl
covering-starts (refused r) x e = absurd (no-refusal (refused r) r refl e)
covering-starts (next t l) x e = go (covers t x) (covering-starts l x e)
  where
    go : (b : Bool) → is_start l (covering_start l x) ≡ true → eqb t.start (cond b t.start (covering_start l x)) || is_start l (cond b t.start (covering_start l x)) ≡ true
    go true ih = rw (eq-eqb t.start t.start refl)
    go false ih = or-either (eqb t.start (covering_start l x)) (is_start l (covering_start l x)) ih

-- x is a byte of a token of the list, or the text's end
abbrev pub Settled : List ℕ → Listed → ℕ → Type 0
Settled text l x = ((u : Token) × TokenOf u l × (covers u x ≡ true)) ⊎ (x ≡ length text)

module _ (text : List ℕ) where
  -- what is settled, and not by the first token, is so by the rest
  pub settled-rest : (t : Token) (l : Listed) (x : ℕ) → covers t x ≡ false → Settled text (next t l) x → Settled text l x
  settled-rest t l x q (inl (u, first, h)) = false-true _ (sym q ∙ h)
  settled-rest t l x q (inl (u, in_rest m, h)) = inl (u, m, h)
  settled-rest t l x q (inr e) = inr e

  -- EOF covers nothing
  settled-eof : (t : Token) (x : ℕ) → t.start ≡ length text → t.end ≡ length text → Settled text (eof t) x → x ≡ length text
  settled-eof t x a b (inl (u, last, h)) = absurd (omega (arith, covers-in u x h))
  settled-eof t x a b (inr e) = e

module _ {ed : ℕ} {text : List ℕ} where
  -- every token of a list from `at` on starts there or behind, and what is of EOF's kind stands at the text's end
  pub from : {at : ℕ} {l : Listed} → Walked ed text at l → (u : Token) → TokenOf u l → at ≤ u.start
  from (over a b c d) u last = a
  from (stopped {at = at} {r = r} _ _) u x6 = elim x6 [ ]
  from (going e a b c d w) u first = a
  from (going e a b c d w) u (in_rest m) = omega (arith, from w u m)

  pub eof-end : {at : ℕ} {l : Listed} → Walked ed text at l → (u : Token) → TokenOf u l → u.kind ≡ EOF → u.start ≡ length text
  eof-end (over a b c d) u last z = b
  eof-end (stopped {at = at} {r = r} _ _) u x7 z = elim x7 [ ]
  eof-end (going e a b c d w) u first z = absurd (d z)
  eof-end (going e a b c d w) u (in_rest m) z = eof-end w u m z

  -- what is settled by a list from `at` on is not before it
  settled-from : {at : ℕ} {l : Listed} → Walked ed text at l → at ≤ length text → (x : ℕ) → Settled text l x → at ≤ x
  settled-from w h x (inl (u, m, c)) = omega (arith, from w u m, covers-in u x c)
  settled-from w h x (inr e) = omega arith

  -- and it is in the text
  pub within : {at : ℕ} {l : Listed} → Walked ed text at l → (u : Token) → TokenOf u l → u.end ≤ length text
  within (over a b c d) u last = omega arith
  within (stopped {at = at} {r = r} _ _) u x6 = elim x6 [ ]
  within (going e a b c d w) u first = c
  within (going e a b c d w) u (in_rest m) = within w u m

  pub settled-within : {at : ℕ} {l : Listed} → Walked ed text at l → (x : ℕ) → Settled text l x → x ≤ length text
  settled-within w x (inl (u, m, c)) = omega (arith, within w u m, covers-in u x c)
  settled-within w x (inr e) = omega arith

  -- it is not before the list's first offset
  covering-from : {at : ℕ} {l : Listed} → Walked ed text at l → (x : ℕ) → ToEOF l → at ≤ covering_start l x
  covering-from {l = l} w x e = let t = start-token l (covering_start l x) (covering-starts l x e) in omega (arith, from w t.0 t.1, t.2)

  -- it is not behind x
  pub covering-back : {at : ℕ} {l : Listed} → Walked ed text at l → (x : ℕ) → Settled text l x → covering_start l x ≤ x
  unfolding covering_start
  covering-back (over {t = t} a b c d) x h = omega (arith, settled-eof text t x b c h)
  covering-back (stopped i q) x h = omega arith
  covering-back (going {t = t} {l = l} e a b c d w) x h = go (covers t x) refl (λ g. covering-back w x g)
    where
      go : (v : Bool) → covers t x ≡ v → (Settled text l x → covering_start l x ≤ x) → cond v t.start (covering_start l x) ≤ x
      go true q ih = (covers-in t x q).0
      go false q ih = ih (settled-rest text t l x q h)

  -- it is the text's end where x is
  pub covering-end : {at : ℕ} {l : Listed} → Walked ed text at l → (x : ℕ) → x ≡ length text → covering_start l x ≡ length text
  unfolding covering_start
  covering-end (over {t = t} a b c d) x h = b
  covering-end (stopped i q) x h = h
  covering-end (going {t = t} {l = l} e a b c d w) x h = go (covers t x) refl (covering-end w x h)
    where
      go : (v : Bool) → covers t x ≡ v → covering_start l x ≡ length text → cond v t.start (covering_start l x) ≡ length text
      go true q ih = absurd (omega (arith, covers-in t x q))
      go false q ih = ih

  -- and only there
  pub covering-end-only : {at : ℕ} {l : Listed} → Walked ed text at l → (x : ℕ) → Settled text l x → covering_start l x ≡ length text → x ≡ length text
  unfolding covering_start
  covering-end-only (over {t = t} a b c d) x h g = settled-eof text t x b c h
  covering-end-only (stopped i q) x h g = g
  covering-end-only (going {t = t} {l = l} e a b c d w) x h g = go (covers t x) refl g (λ i. covering-end-only w x i)
    where
      go : (v : Bool) → covers t x ≡ v → cond v t.start (covering_start l x) ≡ length text → (Settled text l x → covering_start l x ≡ length text → x ≡ length text) → x ≡ length text
      go true q k ih = absurd (omega arith)
      go false q k ih = ih (settled-rest text t l x q h) k

  -- in order
  pub covering-ordered : {at : ℕ} {l : Listed} → Walked ed text at l → ToEOF l → (x y : ℕ) → Settled text l x → x ≤ y → covering_start l x ≤ covering_start l y
  unfolding covering_start refusal_of
  covering-ordered (over {t = t} a b c d) o x y h g = omega arith
  covering-ordered (stopped {r = r} i q) o x y h g = absurd (no-refusal (refused r) r refl o)
  covering-ordered (going {t = t} {l = l} e a b c d w) o x y h g = go (covers t x) (covers t y) refl refl (λ i. covering-ordered w o x y i g)
    where
      go : (u v : Bool) → covers t x ≡ u → covers t y ≡ v → (Settled text l x → covering_start l x ≤ covering_start l y) → cond u t.start (covering_start l x) ≤ cond v t.start (covering_start l y)
      go true true p q ih = omega arith
      go true false p q ih = omega (arith, covering-from w y o)
      go false true p q ih = absurd (omega (arith, settled-from w c x (settled-rest text t l x p h), covers-in t y q))
      go false false p q ih = ih (settled-rest text t l x p h)

-- a start of edition 1 is settled in edition 2
pub start-settled : (text : List ℕ) (x : ℕ) → Pair (tokens_at 1 text 0) (tokens_at 2 text 0) → is_start (tokens_at 1 text 0) x ≡ true → Settled text (tokens_at 2 text 0) x
start-settled text x p h =
    let t = start-token (tokens_at 1 text 0) x h in
    go t.0 t.1 t.2 (eqb t.0.kind 0) refl
  where
    go : (t : Token) → TokenOf t (tokens_at 1 text 0) → t.start ≡ x → (b : Bool) → eqb t.kind 0 ≡ b → Settled text (tokens_at 2 text 0) x
    go t m e true z = inr (sym e ∙ eof-end (walked 1 text 0 (omega arith)) t m (eqb-true t.kind 0 z))
    go t m e false z = let c = p.covered t m (eqb-false t.kind 0 z) in inl (c.0, c.1, ap (covers c.0) (sym e) ∙ c.2)
