-- What the bytes from a place of a text on begin with: the byte there, those behind it, and what is left.
use mathlib.Core.Path.{◌≡◌, ap, sym, ◌∙◌}
use mathlib.Core.List.{List, ◌∷◌}
use Prim.Native.Nat.{ℕ, suc, ◌+◌, ◌<◌}
use native.Mathlib.Omega.{arith}
use native.Mathlib.Nat.{add-zero}
use native.Mathlib.Numerals.{add-one, add-two}
use lib.ListN.{length, get_or, drop, length-drop}
use lib.Seq.{get_or-drop, drop-drop}

module _ (text : List ℕ) (i : ℕ) where
  pub front : get_or (drop i text) 0 0 ≡ get_or text i 0
  front = get_or-drop i text 0 0 ∙ ap (λ (k : ℕ). get_or text k 0) (add-zero i)

  pub behind : get_or (drop (suc i) text) 0 0 ≡ get_or text (i + 1) 0
  behind = get_or-drop (suc i) text 0 0 ∙ ap (λ (k : ℕ). get_or text k 0) (add-zero (suc i) ∙ sym (add-one i))

  pub behind-two : drop 1 (drop (suc i) text) ≡ drop (i + 2) text
  behind-two = drop-drop 1 (suc i) text ∙ ap (λ (k : ℕ). drop k text) (add-one (suc i) ∙ sym (add-two i))

  pub tail_at : (a : ℕ) (s : List ℕ) → a ∷ s ≡ drop i text → s ≡ drop (suc i) text
  tail_at a s e = ap (drop 1) e ∙ drop-drop 1 i text ∙ ap (λ (k : ℕ). drop k text) (add-one i)

  pub in-text : (a : ℕ) (s : List ℕ) → a ∷ s ≡ drop i text → i < length text
  in-text a s e = omega (arith, ap length e, length-drop i text)
