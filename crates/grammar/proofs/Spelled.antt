-- The sources and tokens that are met in reading a text are of that text: a token's word, which a leaf is spelled with, is the bytes
-- of its span.
use mathlib.Core.Path.{◌≡◌, ap, sym, ◌∙◌, subst}
use mathlib.Core.List.{List}
use Prim.Native.Nat.{ℕ, ◌+◌, ◌-◌}
use native.Mathlib.Omega.{arith}
use lib.ListN.{take, drop}
use lib.Seq.{drop-drop}
use Rattle.sources.specs.Source.{Source, opened, moved, past, Lexeme, start, end, word, after, split, tok, lex}
use Rattle.sources.proofs.Standing.{Standing, Sound, lex-sound}

module _ (ed : ℕ) (text : List ℕ) where
  past-opened : (n p : ℕ) → past n (opened ed text p) ≡ opened ed text (p + n)
  past-opened n p = ap (λ (r : List ℕ). moved (opened ed text p) (p + n) r) (drop-drop n p text)

  pub record OfText (t : Lexeme) : Type 0 where
    pub here : t.here ≡ opened ed text (start t)
    pub behind : after t ≡ opened ed text (end t)
    pub inside : split t ≡ opened ed text (start t + 1)
    pub spelled : word t ≡ take (end t - start t) (drop (start t) text)

  of-text : (t : Lexeme) (p : ℕ) → t.here ≡ opened ed text p → OfText t
  of-text t p h =
      let q : start t ≡ p = ap (λ (u : Source). u.at) h in
      let i : t.here ≡ opened ed text (start t) = h ∙ ap (opened ed text) (sym q) in
      let n : end t - start t ≡ t.len = omega arith in
      record {
        here = i;
        behind = ap (past t.len) i ∙ past-opened t.len (start t);
        inside = ap (past 1) i ∙ past-opened 1 (start t);
        spelled = ap (λ (u : Source). take t.len u.rest) i ∙ ap (λ (m : ℕ). take m (drop (start t) text)) (sym n);
      }

  -- the next token from an offset on; reading goes on behind it, or one byte into it, in the same text
  pub token-of-text : (p : ℕ) (t : Lexeme) → lex (opened ed text p) ≡ tok t → OfText t
  token-of-text p t l =
      let d : Standing (opened ed text p) t = subst (Sound (opened ed text p)) l (lex-sound (opened ed text p)) in
      of-text t (p + d.gap) (d.here ∙ past-opened d.gap p)
