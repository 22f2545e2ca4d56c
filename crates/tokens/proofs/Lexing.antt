-- What the next token of a text is made of: its places are in order and in the text, its word is the bytes of its span, the
-- rest is the text from its end on, and every token but EOF takes a byte. A refusal's places are in the text too.
use mathlib.Core.Path.{◌≡◌, refl, ap, sym, ◌∙◌, subst}
use mathlib.Core.List.{List, [], ◌∷◌}
use Prim.Native.Nat.{ℕ, suc, ◌+◌, ◌-◌, ◌<◌, ◌≤◌}
use native.Mathlib.Omega.{arith}
use native.Mathlib.Nat.{add-zero}
use lib.ListN.{length, take, drop, length-drop}
use lib.Seq.{drop-drop}
use Rattle.gap.specs.Gap.{End, clear, broken, gap}
use Rattle.gap.proofs.Gaps.{Ended, gap-ended}
use Rattle.tokens.specs.Token.{Front, sized, fault, find_token, Scanned, tok, bad, placed, behind_gap, scan}
use Rattle.tokens.specs.declared.Place.{Place}
use Rattle.tokens.proofs.Fronts.{Takes, find-takes}

-- EOF, kind 0, stands at the text's end; any other token takes a byte
pub record Good (text : List ℕ) (at kind start end : ℕ) (word rest : List ℕ) : Type 0 where
  pub from : at ≤ start
  pub within : end ≤ length text
  pub takes : (0 < kind → start < end)
  pub ordered : start ≤ end
  pub last : (kind ≡ 0 → (start ≡ length text) × (end ≡ length text))
  pub spelled : word ≡ take (end - start) (drop start text)
  pub behind : rest ≡ drop end text

-- a place in the text
abbrev pub Inside : List ℕ → Place → Type 0
Inside text p = (p.start ≤ p.end) × (p.end ≤ length text)

abbrev pub Sound : List ℕ → ℕ → Scanned → Type 0
Sound text at (tok k s e w r) = Good text at k s e w r
Sound text at (bad r) = Inside text r.place × Inside text r.second

module _ (ed : ℕ) (text : List ℕ) (at : ℕ) where
  placed-sound : (q : ℕ) (f : Front) → at ≤ q → q < length text → Takes (length (drop q text)) f → Sound text at (placed q (drop q text) f)
  unfolding placed
  placed-sound q (sized k n) h g t =
      let l = length-drop q text in
      let d : q + n - q ≡ n = omega arith in
      record {
        from = h;
        within = omega arith;
        takes = λ _. omega arith;
        ordered = omega arith;
        last = λ e. absurd (omega arith);
        spelled = rw d;
        behind = drop-drop n q text;
      }
  placed-sound q (fault m i j) h g t = let l = length-drop q text in ((omega arith, omega arith), (omega arith, omega arith))

  over-sound : (q : ℕ) → at ≤ q → q ≡ length text → drop q text ≡ [] → Sound text at (placed q [] (find_token ed []))
  unfolding placed find_token
  over-sound q h e d =
      let z : q + 0 ≡ q = add-zero q in
      record {
        from = h;
        within = omega arith;
        takes = λ k. absurd (omega arith);
        ordered = omega arith;
        last = λ _. (e, omega arith);
        spelled = let s : q + 0 - q ≡ 0 = omega arith in rw s;
        behind = rw (z, d);
      }

  behind-sound : (e : End) → at ≤ length text → Ended text at e → Sound text at (behind_gap ed e)
  unfolding behind_gap
  behind-sound (clear q []) h g =
      let n : length (drop q text) ≡ 0 = ap length (sym g.2) in
      over-sound q g.0 (omega (arith, g.1 h, n, length-drop q text)) (sym g.2)
  behind-sound (clear q (a ∷ s)) h g =
      let n : suc (length s) ≡ length text - q = ap length g.2 ∙ length-drop q text in
      subst (λ (l : List ℕ). Sound text at (placed q l (find_token ed (a ∷ s)))) (sym g.2)
      (placed-sound q (find_token ed (a ∷ s)) g.0 (omega arith) (subst (λ (l : List ℕ). Takes (length l) (find_token ed (a ∷ s))) g.2 (find-takes ed a s)))
  behind-sound (broken o q) h g = ((omega (arith, g.0), g.1), (omega (arith, g.0), g.1))

  pub lex-sound : at ≤ length text → Sound text at (scan ed at (drop at text))
  unfolding scan
  lex-sound h = behind-sound (gap 0 at (drop at text)).last h (gap-ended text (drop at text) 0 at refl)
