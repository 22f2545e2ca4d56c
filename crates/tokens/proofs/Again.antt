-- A token read again from its own first byte is the same token, since no gap stands before it there.
use mathlib.Core.Path.{◌≡◌, refl, ap, sym, ◌∙◌, subst}
use mathlib.Core.List.{List, [], ◌∷◌}
use Prim.Native.Nat.{ℕ, ◌≤◌}
use native.Mathlib.Omega.{arith}
use lib.ListN.{length, drop}
use Rattle.gap.specs.Gap.{End, clear, broken, gap}
use Rattle.gap.proofs.Gaps.{Ended, gap-ended}
use Rattle.gap.proofs.Stops.{gap-stops}
use Rattle.tokens.specs.Token.{Front, sized, fault, find_token, Scanned, tok, bad, placed, behind_gap, scan}
use Rattle.tokens.specs.Calls.{text_limit, place_fault, unless, lexed, next_token}
use Rattle.tokens.specs.declared.Token.{Token}
use Rattle.tokens.proofs.Lexing.{Sound, lex-sound}
use Rattle.tokens.proofs.Faults.{in_place_lem, admits}
use Rattle.tokens.specs.declared.Refusal.{Refusal}
use Rattle.std.specs.Prelude.{Result, Ok, Err, ⊤}

-- where a gap ends, no further gap begins
pub gap-again : (p q : ℕ) (s u : List ℕ) → (gap 0 p s).last ≡ clear q u → (gap 0 q u).last ≡ clear q u
unfolding gap
gap-again p q s [] h = refl
gap-again p q s (a ∷ u) h = rw (gap-stops q a u s 0 p h)

-- what stands at a place starts there
placed-start : (q : ℕ) (u : List ℕ) (x : Front) (k s e : ℕ) (w r : List ℕ) → placed q u x ≡ tok k s e w r → q ≡ s
unfolding placed
placed-start q u (sized c n) k s e w r h = cc
placed-start q u (fault m i j) k s e w r h = let z : ◌≡◌ {A = ℕ} 0 1 = cc in absurd (omega arith)

module _ (ed : ℕ) where
  behind-again : (text : List ℕ) (at k s e : ℕ) (w r : List ℕ) (x : End) → (gap 0 at (drop at text)).last ≡ x → Ended text at x → behind_gap ed x ≡ tok k s e w r → scan ed s (drop s text) ≡ tok k s e w r
  unfolding behind_gap scan
  behind-again text at k s e w r (clear q u) g d h =
      subst (λ (i : ℕ). behind_gap ed (gap 0 i (drop i text)).last ≡ behind_gap ed (clear q u)) (placed-start q u (find_token ed u) k s e w r h)
      (rw (← d.2, gap-again at q (drop at text) u g)) ∙ h
  behind-again text at k s e w r (broken o q) g d h = let z : ◌≡◌ {A = ℕ} 0 1 = cc in absurd (omega arith)

  pub lex-again : (text : List ℕ) (at k s e : ℕ) (w r : List ℕ) → at ≤ length text → scan ed at (drop at text) ≡ tok k s e w r → scan ed s (drop s text) ≡ tok k s e w r
  unfolding scan
  lex-again text at k s e w r h g = behind-again text at k s e w r (gap 0 at (drop at text)).last refl (gap-ended text (drop at text) 0 at refl) g

module _ (ed : ℕ) where
  -- a token is found in a text and at a place that the limits admit
  pub found-fits : (text : List ℕ) (at : ℕ) (t : Token) → next_token ed text at ≡ Ok t → (length text ≤ text_limit) × (at ≤ length text)
  unfolding next_token unless
  found-fits text at t h = in_place_lem text at (go (place_fault text at) h)
    where
      go : (f : Result ⊤ Refusal) → unless Err f (lexed (scan ed at (drop at text))) ≡ Ok t → f ≡ Ok tt
      go (Ok tt) h = refl
      go (Err r) h = let z : ◌≡◌ {A = ℕ} 0 1 = cc in absurd (omega arith)

  -- the token call, of a token that starts in the text
  start-found : (text : List ℕ) (at : ℕ) (t : Token) (l : Scanned) → length text ≤ text_limit → at ≤ length text → scan ed at (drop at text) ≡ l → lexed l ≡ Ok t → next_token ed text t.start ≡ Ok t
  unfolding next_token lexed
  start-found text at t (tok k s e w r) f i g h =
      let d : Sound text at (tok k s e w r) = subst (Sound text at) g (lex-sound ed text at i) in
      let x : Ok (record { kind = k; start = s; end = e }) ≡ Ok t = h in
      let y : record { kind = k; start = s; end = e } ≡ t = cc in
      subst (λ (u : Token). next_token ed text u.start ≡ Ok u) y
      (admits text s Err (lexed (scan ed s (drop s text))) f (omega (arith, d.ordered, d.within)) ∙ ap lexed (lex-again ed text at k s e w r i g))
  start-found text at t (bad r) f i g h = let z : ◌≡◌ {A = ℕ} 0 1 = cc in absurd (omega arith)

  pub found-again : (text : List ℕ) (at : ℕ) (t : Token) → next_token ed text at ≡ Ok t → next_token ed text t.start ≡ Ok t
  unfolding next_token
  found-again text at t h =
      let f = found-fits text at t h in
      start-found text at t (scan ed at (drop at text)) f.0 f.1 refl (sym (admits text at Err (lexed (scan ed at (drop at text))) f.0 f.1) ∙ h)
