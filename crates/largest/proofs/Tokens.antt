-- Tokens that have two bytes or more; and a token `&` in a text: the byte behind it is not `&`, since the two are one token.
use mathlib.Core.Path.{◌≡◌, refl, ap, sym, ◌∙◌}
use mathlib.Core.Bool.{Bool, true, false, cond, ◌||◌}
use mathlib.Core.List.{List, [], ◌∷◌}
use Prim.Native.Nat.{ℕ, ◌+◌, ◌<◌, ◌≤◌}
use native.Mathlib.Omega.{arith}
use borrow.Author.Tests.{eqb-true}
use lib.Dec.{eqb}
use lib.ListN.{length, get_or, take, drop, length-take}
use lib.Seq.{drop-drop, get_or-drop, get_or-take}
use Rattle.words.specs.Kinds.{Amp, AmpAmp, AmpMut, ColonColon}
use Rattle.words.specs.Tables.{long_marks, double_marks, single_marks, marks}
use Rattle.tokens.specs.Token.{scan}
use Rattle.tokens.proofs.Spelled.{mark_kind, spelling}
use Rattle.sources.specs.Source.{Source, Lexeme, start, end, after, split, LexResult, tok, bad, scanned, lex}
use Rattle.sources.proofs.Standing.{Standing}
use Rattle.answers.proofs.Further.{here-left}
use Rattle.largest.proofs.Fronts.{two-amps}

unfoldable spelt : Unit {0}
unfolding mark_kind spelling marks long_marks double_marks single_marks
spelt = tt

-- the least bytes of a token but EOF: `::` and `&mut ` have two or more
abbrev pub size : ℕ → ℕ
size k = cond (eqb k ColonColon || eqb k AmpMut) 2 1

abbrev kind_in : LexResult → ℕ
kind_in (tok t) = t.kind
kind_in (bad r) = 0

two-kind : (u : Source) (z : List ℕ) → u.rest ≡ 38 ∷ 38 ∷ z → kind_in (lex u) ≡ AmpAmp
unfolding lex scanned
two-kind u z h = ap (λ (s : List ℕ). kind_in (scanned u (scan u.edition u.at s))) h ∙ ap (λ l. kind_in (scanned u l)) (two-amps u.edition u.at z)

two-front : (r : List ℕ) → get_or r 0 0 ≡ 38 → get_or r 1 0 ≡ 38 → (z : List ℕ) × (r ≡ 38 ∷ 38 ∷ z)
two-front [] h g = absurd (omega arith)
two-front (x ∷ []) h g = absurd (omega arith)
two-front (x ∷ y ∷ z) h g = (z, rw (h, g))

module _ (u : Source) (t : Lexeme) (d : Standing u t) where
  -- so many bytes as its mark has
  marked-long : mark_kind t.kind ≡ true → length (spelling t.kind) ≤ t.len
  marked-long h = omega (arith, ap length (d.marked h), length-take t.len t.here.rest)

  pub sized : 0 < t.kind → size t.kind ≤ t.len
  unfolding spelt
  sized h = go (eqb t.kind ColonColon) refl (eqb t.kind AmpMut) refl
    where
      go : (a : Bool) → eqb t.kind ColonColon ≡ a → (b : Bool) → eqb t.kind AmpMut ≡ b → cond (a || b) 2 1 ≤ t.len
      go true i b j = let k = eqb-true t.kind ColonColon i in omega (arith, rw k at (marked-long (rw k)))
      go false i true j = let k = eqb-true t.kind AmpMut j in omega (arith, rw k at (marked-long (rw k)))
      go false i false j = omega (arith, d.takes h)

-- a source of the text
abbrev pub InText : List ℕ → Source → Type 0
InText text u = u.rest ≡ drop u.at text

module _ (text : List ℕ) (u : Source) (t : Lexeme) (d : Standing u t) (h : InText text u) where
  here_in : InText text t.here
  here_in =
      ap (λ (v : Source). v.rest) d.here ∙ ap (drop d.gap) h ∙ drop-drop d.gap u.at text
      ∙ ap (λ (p : ℕ). drop p text) (sym (ap (λ (v : Source). v.at) d.here))

  pub after-in : InText text (after t)
  after-in = ap (drop t.len) here_in ∙ drop-drop t.len (start t) text

  pub split-in : InText text (split t)
  split-in = ap (drop 1) here_in ∙ drop-drop 1 (start t) text

  byte-is : (i : ℕ) → get_or t.here.rest i 0 ≡ get_or text (start t + i) 0
  byte-is i = ap (λ (l : List ℕ). get_or l i 0) here_in ∙ get_or-drop (start t) text i 0

  module _ (k : t.kind ≡ Amp) where
    word-is : take t.len t.here.rest ≡ 38 ∷ []
    unfolding spelt
    word-is = d.marked (rw k) ∙ rw k

    one_byte : t.len ≡ 1
    one_byte = omega (arith, ap length word-is, length-take t.len t.here.rest, d.within, here-left u t d)

    front-is : get_or t.here.rest 0 0 ≡ 38
    front-is = sym (get_or-take t.len t.here.rest 0 0 (omega (arith, one_byte))) ∙ ap (λ (l : List ℕ). get_or l 0 0) word-is

    pub amp-first : get_or text (start t) 0 ≡ 38
    amp-first = let z : start t ≡ start t + 0 = omega arith in ap (λ (p : ℕ). get_or text p 0) z ∙ sym (byte-is 0) ∙ front-is

    pub amp-alone : get_or text (end t) 0 ≡ 38 → ⊥
    amp-alone e =
        let z : start t + 1 ≡ end t = omega (arith, one_byte) in
        let f = two-front t.here.rest front-is (byte-is 1 ∙ ap (λ (p : ℕ). get_or text p 0) z ∙ e) in
        omega (arith, sym (two-kind t.here f.0 f.1) ∙ ap kind_in d.again, k)
