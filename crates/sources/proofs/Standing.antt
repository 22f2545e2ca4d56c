-- What the next token of a source is made of.
use mathlib.Core.Path.{◌≡◌, refl, ap, sym, ◌∙◌, subst}
use mathlib.Core.Bool.{true}
use mathlib.Core.List.{List, ◌∷◌}
use Prim.Native.Nat.{ℕ, zero, suc, ◌+◌, ◌-◌, ◌<◌, ◌≤◌}
use native.Mathlib.Omega.{arith}
use lib.ListN.{length, take, drop}
use lib.Seq.{drop-drop}
use Rattle.words.specs.Kinds.{EOF, GreaterGreater}
use Rattle.tokens.specs.Token.{Scanned, tok as found, bad as faulty, scan}
use Rattle.tokens.specs.declared.Place.{Place}
use Rattle.tokens.specs.Calls.{place_fault, unless, lexed, next_token}
use Rattle.tokens.proofs.Lexing as lexing
use Rattle.tokens.proofs.Spelled.{mark_kind, spelling, SpeltToken, lex-spelt, shift_split}
use Rattle.tokens.proofs.Legible.{legible, LegibleToken, lex-legible}
use Rattle.tokens.proofs.Again.{lex-again}
use Rattle.sources.specs.Source.{Source, opened, past, Lexeme, word, after, split, LexResult, tok, bad, scanned, lex}
use Rattle.sources.specs.code.Answered.{answer_of}
use Rattle.std.specs.Prelude.{Err}

-- every source is the end of some text
pad : ℕ → List ℕ → List ℕ
pad zero r = r
pad (suc n) r = 0 ∷ pad n r

pad-drop : (n : ℕ) (r : List ℕ) → drop n (pad n r) ≡ r
unfolding pad
pad-drop zero r = refl
pad-drop (suc n) r = pad-drop n r

pad-length : (n : ℕ) (r : List ℕ) → length (pad n r) ≡ n + length r
unfolding pad
pad-length zero r = omega arith
pad-length (suc n) r = omega (arith, pad-length n r)

-- a token of a source: it stands behind a gap; every token but EOF takes a byte, and EOF stands at the end; a mark is spelled as its
-- kind says, behind the first byte of `>>` stands its second; its bytes show, or it is a string below 128; and read again from its
-- first byte it is the same token
pub record Standing (u : Source) (t : Lexeme) : Type 0 where
  pub gap : ℕ
  pub here : t.here ≡ past gap u
  pub within : gap + t.len ≤ length u.rest
  pub takes : (0 < t.kind → 0 < t.len)
  pub last : (t.kind ≡ EOF → (t.len ≡ 0) × (gap ≡ length u.rest))
  pub marked : (mark_kind t.kind ≡ true → word t ≡ spelling t.kind)
  pub halves : (t.kind ≡ GreaterGreater → (t.len ≡ 2) × ((split t).rest ≡ 62 ∷ (after t).rest))
  pub readable : legible t.kind (word t) ≡ true
  pub again : lex t.here ≡ tok t

-- a place that ends in the source
abbrev pub Inside : Source → Place → Type 0
Inside u p = (p.start ≤ p.end) × (p.end ≤ u.at + length u.rest)

abbrev pub Sound : Source → LexResult → Type 0
Sound u (tok t) = Standing u t
Sound u (bad r) = Inside u r.place × Inside u r.second

-- the laws of a text's tokens, for the text that the source is the end of
module _ (u : Source) where
  text : List ℕ
  text = pad u.at u.rest

  long : length text ≡ u.at + length u.rest
  unfolding text
  long = pad-length u.at u.rest

  ends : drop u.at text ≡ u.rest
  unfolding text
  ends = pad-drop u.at u.rest

  -- the bytes n behind the source's first
  further : (n p : ℕ) → u.at + n ≡ p → drop n u.rest ≡ drop p text
  further n p h = ap (drop n) (sym ends) ∙ drop-drop n u.at text ∙ ap (λ (q : ℕ). drop q text) h

  -- a token that starts where the source does
  at_once : (v : Source) (k s e : ℕ) (w r : List ℕ) → v.at ≡ s → scan v.edition v.at v.rest ≡ found k s e w r → lex v ≡ tok (record { kind = k; here = v; len = e - s })
  unfolding lex scanned
  at_once v k s e w r h l =
      let z : s - v.at ≡ 0 = omega arith in
      let y : v.at + 0 ≡ v.at = omega arith in
      rw (l, z, y)

  module _ (k s e : ℕ) (w r : List ℕ) (l : scan u.edition u.at u.rest ≡ found k s e w r) where
    from-text : scan u.edition u.at (drop u.at text) ≡ found k s e w r
    from-text = ap (scan u.edition u.at) ends ∙ l

    good : lexing.Good text u.at k s e w r
    good = subst (lexing.Sound text u.at) from-text (lexing.lex-sound u.edition text u.at (omega (arith, long)))

    here-at : u.at + (s - u.at) ≡ s
    here-at = omega (arith, good.from)

    from-here : drop (s - u.at) u.rest ≡ drop s text
    from-here = further (s - u.at) s here-at

    spelt : take (e - s) (drop (s - u.at) u.rest) ≡ w
    spelt = ap (take (e - s)) from-here ∙ sym good.spelled

    halved : k ≡ GreaterGreater → (e - s ≡ 2) × (drop 1 (drop (s - u.at) u.rest) ≡ 62 ∷ drop (e - s) (drop (s - u.at) u.rest))
    halved h =
        let d = shift_split u.edition text u.at s e w r (omega (arith, long)) (from-text ∙ ap (λ (j : ℕ). found j s e w r) h) in
        let z : s + 1 ≡ suc s = omega arith in
        let y : s + (e - s) ≡ e = omega (arith, good.ordered) in
        (omega (arith, d.0), ap (drop 1) from-here ∙ drop-drop 1 s text ∙ ap (λ (q : ℕ). drop q text) z ∙ sym d.1 ∙ ap (◌∷◌ 62) (good.behind ∙ ap (λ (q : ℕ). drop q text) (sym y) ∙ sym (drop-drop (e - s) s text) ∙ ap (drop (e - s)) (sym from-here)))

    token-standing : Standing u (record { kind = k; here = past (s - u.at) u; len = e - s })
    token-standing =
        record {
          gap = s - u.at;
          here = refl;
          within = omega (arith, good.from, good.ordered, good.within, long);
          takes = λ h. omega (arith, good.takes h);
          last = λ h. let z = good.last h in (omega (arith, z.0, z.1), omega (arith, z.0, long));
          marked = λ h. spelt ∙ subst SpeltToken l (lex-spelt u.edition u.at u.rest) h;
          halves = halved;
          readable = subst (λ (v : List ℕ). legible k v ≡ true) (sym spelt) (subst LegibleToken l (lex-legible u.edition u.at u.rest));
          again = at_once (past (s - u.at) u) k s e w r here-at (ap (scan u.edition (u.at + (s - u.at))) from-here ∙ ap (λ (q : ℕ). scan u.edition q (drop s text)) here-at ∙ lex-again u.edition text u.at k s e w r (omega (arith, long)) from-text);
        }

  scanned-sound : (l : Scanned) → scan u.edition u.at u.rest ≡ l → Sound u (scanned u l)
  unfolding scanned
  scanned-sound (found k s e w r) h = token-standing k s e w r h
  scanned-sound (faulty r) h =
      let d : lexing.Sound text u.at (faulty r) = subst (lexing.Sound text u.at) (ap (scan u.edition u.at) ends ∙ h) (lexing.lex-sound u.edition text u.at (omega (arith, long))) in
      ((d.0.0, omega (arith, d.0.1, long)), (d.1.0, omega (arith, d.1.1, long)))

  pub lex-sound : Sound u (lex u)
  unfolding lex
  lex-sound = scanned-sound (scan u.edition u.at u.rest) refl

  -- what the lexer finds, as the calls answer it
  pub answer-same : answer_of (lex u) ≡ lexed (scan u.edition u.at u.rest)
  unfolding lex scanned lexed answer_of
  answer-same = go (scan u.edition u.at u.rest) refl
    where
      go : (l : Scanned) → scan u.edition u.at u.rest ≡ l → answer_of (scanned u l) ≡ lexed l
      go (found k s e w r) h =
          let d = good k s e w r h in
          let z = here-at k s e w r h in
          let y : s + (e - s) ≡ e = omega (arith, d.ordered) in
          rw (z, y)
      go (faulty r) h = refl

-- the next token, over the source
pub next-token-same : (ed : ℕ) (text : List ℕ) (at : ℕ) → next_token ed text at ≡ unless Err (place_fault text at) (answer_of (lex (opened ed text at)))
unfolding next_token
next-token-same ed text at = ap (unless Err (place_fault text at)) (sym (answer-same (opened ed text at)))
