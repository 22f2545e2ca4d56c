-- What a call is refused with where reading may not begin: 21 at the offset, or a refusal of the text, 5 to 9, whose places are in it.
use Rattle.gap.specs.Marks.{unclosed}
use mathlib.Core.Path.{◌≡◌, refl, ap, sym, ◌∙◌, subst}
use mathlib.Core.Bool.{Bool, true, false, cond}
use mathlib.Core.List.{List}
use Prim.Native.Nat.{ℕ, zero, suc, ◌≤◌}
use native.Mathlib.Omega.{arith}
use lib.Dec.{eqb}
use lib.ListN.{length, drop}
use Rattle.classes.proofs.Bools.{false-true}
use Rattle.gap.specs.Comments.{part_at}
use Rattle.gap.specs.Gap.{End, clear, broken, gap}
use Rattle.gap.specs.PartsEnd.{parts_end}
use Rattle.gap.proofs.Gaps.{Ended, gap-ended}
use Rattle.gap.proofs.PartsEnd.{parts-clear, parts-broken}
use Rattle.words.specs.Kinds.{EOF}
use Rattle.tokens.specs.Refusals.{CommentNotClosed, NothingStarts}
use Rattle.tokens.specs.RefusalSets.{among, lex_refusals}
use Rattle.tokens.specs.Answers.{refusal, token}
use Rattle.tokens.specs.Token.{Front, sized, fault, find_token, Scanned, tok, bad, placed, behind_gap, scan}
use Rattle.tokens.specs.Calls.{text_limit}
use Rattle.tokens.specs.Walk.{Listed, eof, refused, next, listed, walk, tokens_at, tokens_from}
use Rattle.tokens.specs.declared.Refusal.{Refusal}
use Rattle.tokens.proofs.Lexing.{Inside, Sound, lex-sound}
use Rattle.tokens.proofs.Faults.{Each, admits}
use Rattle.tokens.proofs.RefusalSets.{front_refusals, Met, find-met, LexMet, lex-met}
use Rattle.tokens.proofs.Walks.{walk_ends}
use Rattle.starts.specs.Beginning.{beginning, beginning_fault, start_fault}
use Rattle.starts.specs.Allowed.{RefusedBehind, here, behind_token}
use Rattle.starts.proofs.Allowed.{refused-only, zero-begins}
use Rattle.std.specs.Prelude.{Bool, true, false, Result, Ok, Err}

-- a refusal of the bytes of a text
pub record OfText (text : List ℕ) (r : Refusal) : Type 0 where
  pub place : Inside text r.place
  pub second : Inside text r.second
  pub number : among lex_refusals r.number ≡ true

module _ (ed : ℕ) (text : List ℕ) where
  -- a list behind p ends in what the scan gives there
  abbrev Ends : ℕ → Listed → Type 0
  Ends p (eof t) = Unit {0}
  Ends p (refused r) = (p ≤ length text) × (scan ed p (drop p text) ≡ bad r)
  Ends p (next t l) = Ends t.end l

  listed-ends : (at : ℕ) (l : Scanned) (f : ℕ → List ℕ → Listed) → at ≤ length text → scan ed at (drop at text) ≡ l → Sound text at l
      → ((e : ℕ) → e ≤ length text → Ends e (f e (drop e text))) → Ends at (listed l f)
  listed-ends at (bad r) f g s h k = (g, s)
  listed-ends at (tok d s e w r) f g q h k = go (eqb d EOF)
    where
      go : (b : Bool) → Ends at (cond b (eof (token d s e)) (next (token d s e) (f e r)))
      go true = tt
      go false = rw h.behind (k e h.within)

  walk-ends-in : (n at : ℕ) → at ≤ length text → Ends at (walk ed n (scan ed at (drop at text)))
  unfolding walk
  walk-ends-in zero at h = listed-ends at (scan ed at (drop at text)) (λ e r. eof (token EOF e e)) h refl (lex-sound ed text at h) (λ e g. tt)
  walk-ends-in (suc n) at h = listed-ends at (scan ed at (drop at text)) (λ e r. walk ed n (scan ed e r)) h refl (lex-sound ed text at h) (λ e g. walk-ends-in n e g)

  tokens-end-in : (at : ℕ) → length text ≤ text_limit → at ≤ length text → Ends at (tokens_at ed text at)
  unfolding tokens_at
  tokens-end-in at g h =
      subst (Ends at) (walk_ends ed text (length text) at h (omega arith) ∙ sym (admits text at refused (tokens_from ed at (drop at text)) g h)) (walk-ends-in (length text) at h)

  ends-in : (m : ℕ) (r : Refusal) (p : ℕ) (l : Listed) → Ends p l → RefusedBehind m r p l → (m ≤ length text) × (scan ed m (drop m text) ≡ bad r)
  ends-in m r p l h here = h
  ends-in m r p (next t l) h (behind_token d) = ends-in m r t.end l h d

  module _ (short : length text ≤ text_limit) (m : ℕ) (r : Refusal) (d : RefusedBehind m r 0 (tokens_at ed text 0)) where
    scanned : (m ≤ length text) × (scan ed m (drop m text) ≡ bad r)
    scanned = ends-in m r 0 (tokens_at ed text 0) (tokens-end-in 0 short (omega arith)) d

    pub refused-of-text : OfText text r
    refused-of-text =
        let g = scanned in
        let s = subst (Sound text m) g.1 (lex-sound ed text m g.0) in
        record { place = s.0; second = s.1; number = subst LexMet g.1 (lex-met ed m (drop m text)) }

    -- what is refused there: with 6 a comment that is not closed starts where the closed parts of the gap end; otherwise the gap
    -- ends there, and a token is refused
    front-no-comment : (q : ℕ) (u : List ℕ) (x : Front) → Met x → placed q u x ≡ bad r → r.number ≡ CommentNotClosed → ⊥
    unfolding placed among
    front-no-comment q u (sized k n) h e z = let y : ◌≡◌ {A = ℕ} 0 1 = cc in absurd (omega arith)
    front-no-comment q u (fault n i j) h e z =
        let y : n ≡ r.number = ap number (injective e) in
        false-true ⊥ (subst (λ (k : ℕ). among front_refusals k ≡ true) (y ∙ z) h)
      where
        injective : {a b : Refusal} → bad a ≡ bad b → a ≡ b
        injective e = cc

        number : Refusal → ℕ
        number a = a.number

    abbrev at : ℕ
    at = parts_end 0 m (drop m text)

    pub refused-comment : r.number ≡ CommentNotClosed → part_at at (drop at text) ≡ Err (unclosed r.place.start r.place.end)
    unfolding scan behind_gap
    refused-comment z = go (gap 0 m (drop m text)).last refl scanned.1
      where
        go : (x : End) → (gap 0 m (drop m text)).last ≡ x → behind_gap ed x ≡ bad r → part_at at (drop at text) ≡ Err (unclosed r.place.start r.place.end)
        go (clear q u) g e = absurd (front-no-comment q u (find_token ed u) (find-met ed u) e z)
        go (broken o q) g e =
            let y : refusal CommentNotClosed o q ≡ r = cc in
            parts-broken text o q (drop m text) 0 m refl g ∙ ap (λ (s : Refusal). Err (unclosed s.place.start s.place.end)) y

    pub refused-token : (r.number ≡ CommentNotClosed → ⊥) → (gap 0 m (drop m text)).last ≡ clear at (drop at text)
    unfolding scan behind_gap
    refused-token n = go (gap 0 m (drop m text)).last refl scanned.1 (gap-ended text (drop m text) 0 m refl)
      where
        go : (x : End) → (gap 0 m (drop m text)).last ≡ x → behind_gap ed x ≡ bad r → Ended text m x → x ≡ clear at (drop at text)
        go (clear q u) g e h = let y : at ≡ q = parts-clear q u (drop m text) 0 m g in rw (y, h.2)
        go (broken o q) g e h =
            let y : refusal CommentNotClosed o q ≡ r = cc in
            absurd (n (sym (ap (λ (s : Refusal). s.number) y)))

module _ (ed : ℕ) (text : List ℕ) (offset : ℕ) where
  -- what holds of 21 and of each refusal of the text holds of the fault
  pub start-each : (P : Refusal → Type 0) → length text ≤ text_limit → P (refusal NothingStarts offset offset) → ((r : Refusal) → OfText text r → P r) → Each P (start_fault ed text offset)
  unfolding start_fault beginning_fault
  start-each P h nothing walked = go (beginning ed text offset) refl
    where
      go : (b : Result Bool Refusal) → beginning ed text offset ≡ b → Each P (beginning_fault offset b)
      go (Ok true) e = tt
      go (Ok false) e = nothing
      go (Err r) e =
          let d = refused-only ed text offset r e in
          walked r (refused-of-text ed text h d.behind r d.met)

  pub may-begin : start_fault ed text offset ≡ Ok tt → beginning ed text offset ≡ Ok true
  unfolding start_fault beginning_fault
  may-begin e = go (beginning ed text offset) e
    where
      go : (b : Result Bool Refusal) → beginning_fault offset b ≡ Ok tt → b ≡ Ok true
      go (Ok true) e = refl
      go (Ok false) e = let z : ◌≡◌ {A = ℕ} 0 1 = cc in absurd (omega arith)
      go (Err r) e = let z : ◌≡◌ {A = ℕ} 0 1 = cc in absurd (omega arith)

  pub no-start-fault : beginning ed text offset ≡ Ok true → start_fault ed text offset ≡ Ok tt
  unfolding start_fault beginning_fault
  no-start-fault e = ap (beginning_fault offset) e

-- offset 0
pub zero-faultless : (ed : ℕ) (text : List ℕ) → start_fault ed text 0 ≡ Ok tt
zero-faultless ed text = no-start-fault ed text 0 (zero-begins ed text)
