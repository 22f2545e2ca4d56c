-- The next token of a source in a display line, whatever the place: it is told by the bytes of the source alone.
use mathlib.Core.Path.{◌≡◌, refl, ap, sym, ◌∙◌, subst}
use mathlib.Core.Bool.{true}
use mathlib.Core.List.{List, ◌∷◌, ◌++◌}
use Prim.Native.Nat.{ℕ, ◌+◌, ◌-◌, ◌≤◌}
use native.Mathlib.Omega.{arith}
use native.Mathlib.Nat.{add-zero}
use lib.ListN.{length, take, drop}
use lib.Seq.{take-append_seam, drop-append_seam, drop-drop}
use Rattle.gap.specs.Marks.{is_space, is_blank}
use Rattle.gap.specs.Comments.{part_at}
use Rattle.gap.specs.Gap.{gap}
use Rattle.tokens.specs.Token.{Scanned, tok as found, bad as faulty, scan}
use Rattle.tokens.specs.Raise.{raise_refusal, raise_scanned}
use Rattle.tokens.proofs.Lexing as lexing
use Rattle.tokens.proofs.Shift.{lex-up}
use Rattle.sources.specs.Source.{Source, past, Lexeme, word, after, LexResult, tok, bad, scanned, lex}
use Rattle.roundtrip.proofs.Words.{Stops, extends, Headed, wordy, Good as GoodFrom, good-own, good-later}

-- what the lexer finds in the bytes of a source, as they stand there
abbrev standing : Source → Scanned → LexResult
standing u (found k s e w r) = tok (record { kind = k; here = past s u; len = e - s })
standing u (faulty r) = bad (raise_refusal u.at r)

raised-standing : (u : Source) (l : Scanned) → scanned u (raise_scanned u.at l) ≡ standing u l
unfolding scanned
raised-standing u (found k s e w r) =
    let z : u.at + s - u.at ≡ s = omega arith in
    let y : u.at + e - (u.at + s) ≡ e - s = omega arith in
    rw (z, y)
raised-standing u (faulty r) = refl

lex-standing : (u : Source) → lex u ≡ standing u (scan u.edition 0 u.rest)
unfolding lex
lex-standing u =
    ap (λ (p : ℕ). scanned u (scan u.edition p u.rest)) (sym (add-zero u.at))
    ∙ ap (scanned u) (lex-up u.edition u.at 0 u.rest) ∙ raised-standing u (scan u.edition 0 u.rest)

-- a token is there, and P holds of it
pub data Met (P : Lexeme → Type 0) : LexResult → Type 0 where
  met : {t : Lexeme} → P t → Met P (tok t)

pub met-map : {P Q : Lexeme → Type 0} {l : LexResult} → ((t : Lexeme) → P t → Q t) → Met P l → Met Q l
met-map f (met {t} h) = met (f t h)

abbrev pub Each : (Lexeme → Type 0) → LexResult → Type 0
Each P (tok t) = P t
Each P (bad r) = Unit {0}

-- the editions in which an item is read and its line is read back: every word of the first is that token in the second
pub record Editions : Type 0 where
  pub read : ℕ
  pub back : ℕ
  pub words : (s : List ℕ) → GoodFrom back (scan read 0 s)

-- both the same; or the first of the two read back in the second
abbrev pub own : ℕ → Editions
own ed = record { read = ed; back = ed; words = good-own ed }

abbrev pub later : Editions
later = record { read = 1; back = 2; words = good-later }

-- a source that is read back, with the bytes s from there on
abbrev pub Rest : Editions → Source → List ℕ → Type 0
Rest es u s = (u.edition ≡ es.back) × (u.rest ≡ s)

-- the bytes s stand in a source, at once or behind a blank
pub data Near (es : Editions) (u : Source) (s : List ℕ) : Type 0 where
  at_once : Rest es u s → Near es u s
  blank : Rest es u (32 ∷ s) → Near es u s

pub near-long : {es : Editions} {u : Source} {s : List ℕ} → Near es u s → length s ≤ length u.rest
near-long (at_once e) = omega (arith, ap length e.1)
near-long (blank e) = omega (arith, ap length e.1)

blank-from : (ed : ℕ) (s : List ℕ) → scan ed 0 (32 ∷ s) ≡ raise_scanned 1 (scan ed 0 s)
unfolding gap part_at is_blank is_space scan
blank-from ed s = lex-up ed 1 0 s

past-again : (n : ℕ) (u : Source) → past n (past 1 u) ≡ past (1 + n) u
past-again n u = let z : u.at + 1 + n ≡ u.at + (1 + n) = omega arith in rw (drop-drop n 1 u.rest, z)

blank-met : (P : Lexeme → Type 0) (u : Source) (l : Scanned) → Met P (standing (past 1 u) l) → Met P (standing u (raise_scanned 1 l))
blank-met P u (found k s e w r) h = let z : 1 + e - (1 + s) ≡ e - s = omega arith in rw (z, ← past-again s u) h
blank-met P u (faulty _) h = elim h [ ]

-- a token of kind k, spelled w, before the bytes z
pub record Word (es : Editions) (k : ℕ) (w z : List ℕ) (t : Lexeme) : Type 0 where
  pub kind : t.kind ≡ k
  pub here : Rest es t.here (w ++ z)
  pub spelt : word t ≡ w
  pub goes : Rest es (after t) z

module _ (es : Editions) where
  near : (P : Lexeme → Type 0) (u : Source) (s : List ℕ) → Near es u s → ((v : Source) → Rest es v s → Met P (lex v)) → Met P (lex u)
  near P u s (at_once e) f = f u e
  near P u s (blank e) f =
      let ed : ℕ = u.edition in
      subst (Met P) (sym (lex-standing u ∙ ap (λ (x : List ℕ). standing u (scan ed 0 x)) e.1 ∙ ap (standing u) (blank-from ed s)))
      (blank-met P u (scan ed 0 s)
      (subst (Met P) (lex-standing (past 1 u) ∙ ap (λ (x : List ℕ). standing (past 1 u) (scan ed 0 x)) (ap (drop 1) e.1)) (f (past 1 u) (e.0, ap (drop 1) e.1))))

  found_word : (u : Source) (k : ℕ) (w z : List ℕ) → scan es.back 0 (w ++ z) ≡ found k 0 (0 + length w) w z → Rest es u (w ++ z) → Met (Word es k w z) (lex u)
  found_word u k w z h e =
      let n : 0 + length w - 0 ≡ length w = omega arith in
      subst (Met (Word es k w z)) (sym (lex-standing u ∙ ap (λ (x : List ℕ). standing u (scan u.edition 0 x)) e.1 ∙ ap (λ (i : ℕ). standing u (scan i 0 (w ++ z))) e.0 ∙ ap (standing u) h ∙ rw n))
      (met {t = record { kind = k; here = past 0 u; len = length w }}
      (record { kind = refl; here = e; spelt = ap (take (length w)) e.1 ∙ take-append_seam w z; goes = (e.0, ap (drop (length w)) e.1 ∙ drop-append_seam w z) }))

  -- w is a token of kind k wherever it stands before such bytes
  abbrev pub Stands : (List ℕ → Type 0) → ℕ → List ℕ → Type 0
  Stands S k w = (u : Source) (z : List ℕ) → Near es u (w ++ z) → S z → Met (Word es k w z) (lex u)

  pub stands : (S : List ℕ → Type 0) (k : ℕ) (w : List ℕ) → ((z : List ℕ) → S z → scan es.back 0 (w ++ z) ≡ found k 0 (0 + length w) w z) → Stands S k w
  stands S k w h u z n s = near (Word es k w z) u (w ++ z) n λ v. found_word v k w z (h z s)

  -- a word: it begins with a byte of a name, and is the same token wherever nothing goes on with it
  abbrev pub Spelled : ℕ → List ℕ → Type 0
  Spelled k w = Headed w × Stands (Stops extends) k w

  -- every token that is found in the item, and, if it is a word, what it is in the line
  abbrev pub Good : Lexeme → Type 0
  Good t = (t.here.edition ≡ es.read) × (wordy t.kind ≡ true → Spelled t.kind (word t))

  standing-good : (u : Source) (l : Scanned) → u.edition ≡ es.read → lexing.Sound u.rest 0 l → GoodFrom es.back l → Each Good (standing u l)
  standing-good u (found k s e w r) q d g = (q, λ h. subst (Spelled k) d.spelled ((g h).0, stands (Stops extends) k w (g h).1))
  standing-good u (faulty r) q d g = tt

  pub lex-good : (u : Source) → u.edition ≡ es.read → Each Good (lex u)
  lex-good u q =
      subst (Each Good) (sym (lex-standing u))
      (standing-good u (scan u.edition 0 u.rest) q (lexing.lex-sound u.edition u.rest 0 (omega arith)) (subst (λ (i : ℕ). GoodFrom es.back (scan i 0 u.rest)) (sym q) (es.words u.rest)))
