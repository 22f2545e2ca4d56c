-- Where reading may begin, by the step of the walk that reaches the offset.
use mathlib.Core.Path.{◌≡◌, refl, ap, sym, ◌∙◌}
use mathlib.Core.Bool.{Bool, true, false, cond, ◌&&◌, ◌||◌}
use mathlib.Core.List.{List}
use Prim.Native.Nat.{ℕ, ◌+◌, ◌-◌, ◌<◌, ◌≤◌}
use native.Mathlib.Omega.{arith}
use borrow.Author.Tests.{eq-eqb, ne_eqb, eqb-true, eqb-false, lt-ltb, le-ltb, ltb-true, ltb-false}
use lib.Dec.{eqb, ltb}
use lib.ListN.{drop}
use Rattle.classes.proofs.Bools.{and_left, and_right, and-false, or_left, or_right}
use Rattle.gap.specs.PartsEnd.{parts_end}
use Rattle.words.specs.Kinds.{GreaterGreater}
use Rattle.tokens.specs.Walk.{Listed, eof, refused, next, tokens_at}
use Rattle.tokens.specs.declared.Refusal.{Refusal}
use Rattle.tokens.specs.declared.Token.{Token}
use Rattle.starts.specs.Beginning.{bounds, by_refusal, by_tokens, beginning}
use Rattle.starts.specs.code.Step.{step, reached, step_to}
use Rattle.starts.specs.declared.Step.{Step}
use Rattle.starts.proofs.Ordered.{Ordered, tokens-ordered}
use Rattle.std.specs.Prelude.{Bool, true, false, Result, Ok, Err}

-- a token has no bound behind its end, none before its start, and one at its end
module _ (t : Token) (offset : ℕ) where
  pub none-behind : t.start < t.end → t.end < offset → bounds t offset ≡ false
  unfolding bounds
  none-behind h g =
      rw (ne_eqb offset t.start (λ e. absurd (omega arith)), ne_eqb offset t.end (λ e. absurd (omega arith)), ne_eqb offset (t.start + 1) (λ e. absurd (omega arith)))
      (and-false (eqb t.kind GreaterGreater))

  end-not : bounds t offset ≡ false → offset ≡ t.end → ⊥
  unfolding bounds
  end-not h = eqb-false offset t.end (or_left (eqb offset t.end) _ (or_right (eqb offset t.start) _ h))

  -- which of the three it is
  module _ (A : Type 0) (s : offset ≡ t.start → A) (e : offset ≡ t.end → A) (m : t.kind ≡ GreaterGreater → offset ≡ t.start + 1 → A) where
    pub which : bounds t offset ≡ true → A
    unfolding bounds
    which h = one (eqb offset t.start) refl h
      where
        third : eqb t.kind GreaterGreater && eqb offset (t.start + 1) ≡ true → A
        third h =
            m (eqb-true t.kind GreaterGreater (and_left (eqb t.kind GreaterGreater) _ h))
            (eqb-true offset (t.start + 1) (and_right (eqb t.kind GreaterGreater) (eqb offset (t.start + 1)) h))

        two : (b : Bool) → eqb offset t.end ≡ b → b || (eqb t.kind GreaterGreater && eqb offset (t.start + 1)) ≡ true → A
        two true q h = e (eqb-true offset t.end q)
        two false q h = third h

        one : (b : Bool) → eqb offset t.start ≡ b → b || (eqb offset t.end || (eqb t.kind GreaterGreater && eqb offset (t.start + 1))) ≡ true → A
        one true q h = s (eqb-true offset t.start q)
        one false q h = two (eqb offset t.end) refl h

  pub bound-inside : t.start ≤ t.end → bounds t offset ≡ true → t.start ≤ offset
  bound-inside h b = which (t.start ≤ offset) (λ e. omega arith) (λ e. omega arith) (λ k e. omega arith) b

  pub bounds-start : offset ≡ t.start → bounds t offset ≡ true
  unfolding bounds
  bounds-start e = rw (eq-eqb offset t.start e)

  pub bounds-end : offset ≡ t.end → bounds t offset ≡ true
  unfolding bounds
  bounds-end e = rw (eq-eqb offset t.end e) (any (eqb offset t.start))
    where
      any : (b : Bool) → b || true ≡ true
      any true = refl
      any false = refl

  pub bounds-middle : t.kind ≡ GreaterGreater → offset ≡ t.start + 1 → bounds t offset ≡ true
  unfolding bounds
  bounds-middle k e = rw (eq-eqb t.kind GreaterGreater k, eq-eqb offset (t.start + 1) e) (any (eqb offset t.start) (eqb offset t.end))
    where
      any : (b c : Bool) → b || (c || true) ≡ true
      any true c = refl
      any false true = refl
      any false false = refl

-- by the step that meets the first token that ends at the offset or behind it
module _ (text : List ℕ) (offset : ℕ) where
  abbrev told : ℕ → Result Token Refusal → Result Bool Refusal
  told p (Ok t) = cond (bounds t offset) (Ok true) (Ok false)
  told p (Err r) = by_refusal r (parts_end 0 p (drop p text)) offset

  module _ (h : 0 < offset) where
    by-step : (l : Listed) (p : ℕ) → Ordered p l → by_tokens text offset p l ≡ told (reached (offset - 1) p l).from (reached (offset - 1) p l).met
    unfolding by_tokens reached
    by-step (eof t) p o = refl
    by-step (refused r) p o = refl
    by-step (next t l) p o = go (ltb (offset - 1) t.end) refl (by-step l t.end o.2)
      where
        inside : (b : Bool) → bounds t offset ≡ b → offset ≤ t.end
            → cond b (Ok true) (cond (ltb offset t.end) (Ok false) (by_tokens text offset t.end l)) ≡ cond b (Ok true) (Ok false)
        inside true q g = refl
        inside false q g =
            let n : offset ≡ t.end → ⊥ = end-not t offset q in
            rw (lt-ltb offset t.end (omega arith))

        go : (b : Bool) → ltb (offset - 1) t.end ≡ b
            → by_tokens text offset t.end l ≡ told (reached (offset - 1) t.end l).from (reached (offset - 1) t.end l).met
            → cond (bounds t offset) (Ok true) (cond (ltb offset t.end) (Ok false) (by_tokens text offset t.end l))
            ≡ told (cond b (step p (Ok t)) (reached (offset - 1) t.end l)).from (cond b (step p (Ok t)) (reached (offset - 1) t.end l)).met
        go true q ih = inside (bounds t offset) refl (omega (arith, ltb-true (offset - 1) t.end q))
        go false q ih =
            let g : t.end ≤ offset - 1 = ltb-false (offset - 1) t.end q in
            rw (none-behind t offset o.1 (omega arith), le-ltb offset t.end (omega arith)) ih

module _ (ed : ℕ) (text : List ℕ) (offset : ℕ) where
  pub begins-zero : offset ≡ 0 → (Ok true) ≡ beginning ed text offset
  unfolding beginning
  begins-zero e = rw (eq-eqb offset 0 e)

  module _ (n : offset ≡ 0 → ⊥) where
    pub behind-zero : beginning ed text offset ≡ by_tokens text offset 0 (tokens_at ed text 0)
    unfolding beginning
    behind-zero = rw (ne_eqb offset 0 n)

    module _ (s : Step) (e : s ≡ step_to ed text 0 (offset - 1)) where
      by-reached : told text offset s.from s.met ≡ beginning ed text offset
      unfolding step_to
      by-reached =
          ap (λ (x : Step). told text offset x.from x.met) e
          ∙ sym (behind-zero ∙ by-step text offset (omega arith) (tokens_at ed text 0) 0 (tokens-ordered ed text 0))

      pub begins-refused : (r : Refusal) → s.met ≡ Err r → (q : ℕ) → q ≡ parts_end 0 s.from (drop s.from text) → by_refusal r q offset ≡ beginning ed text offset
      begins-refused r m q g = ap (λ (n : ℕ). by_refusal r n offset) g ∙ ap (told text offset s.from) (sym m) ∙ by-reached

      module _ (t : Token) (q : s.met ≡ Ok t) where
        found : cond (bounds t offset) (Ok true) (Ok false) ≡ beginning ed text offset
        found = ap (told text offset s.from) (sym q) ∙ by-reached

        pub begins-found : Ok (bounds t offset) ≡ beginning ed text offset
        begins-found = sym (either (bounds t offset)) ∙ found
          where
            either : (b : Bool) → ◌≡◌ {A = Result Bool Refusal} (cond b (Ok true) (Ok false)) (Ok b)
            either true = refl
            either false = refl
