-- Reading from an offset is reading the text from there on, with all places raised by the offset.
use mathlib.Core.Path.{◌≡◌, refl, ap, sym, ◌∙◌}
use mathlib.Core.Bool.{false}
use mathlib.Core.List.{List, [], ◌∷◌, map}
use Prim.Native.Nat.{ℕ, ◌+◌, ◌≤◌}
use native.Mathlib.Omega.{arith}
use native.Mathlib.Nat.{add-zero, add_assoc}
use lib.ListN.{length, drop, length-drop}
use Rattle.gap.specs.Gap.{End, clear, broken, Gap, gap, first_doc, doc_of}
use Rattle.gap.specs.Raise.{raise_comment, raise_end}
use Rattle.gap.specs.declared.Comment.{Comment}
use Rattle.gap.proofs.Shift.{gap_up}
use Rattle.tokens.specs.Token.{Front, sized, fault, find_token, Scanned, tok, bad, placed, behind_gap, scan}
use Rattle.tokens.specs.Calls.{text_limit, lexed, next_token, no_edition, comment_of, next_comment}
use Rattle.tokens.specs.Raise.{raise_scanned, raise_lexed, raise_doc}
use Rattle.tokens.proofs.Faults.{admits, admits-in}
use Rattle.std.specs.Prelude.{Err}

module _ (ed k : ℕ) where
  placed-up : (p : ℕ) (s : List ℕ) (f : Front) → placed (k + p) s f ≡ raise_scanned k (placed p s f)
  unfolding placed
  placed-up p s (sized d n) = rw (add_assoc k p n)
  placed-up p s (fault m i j) = rw (add_assoc k p i, add_assoc k p j)

  behind-up : (e : End) → behind_gap ed (raise_end k e) ≡ raise_scanned k (behind_gap ed e)
  unfolding behind_gap
  behind-up (clear p s) = placed-up p s (find_token ed s)
  behind-up (broken o q) = refl

  pub lex-up : (p : ℕ) (s : List ℕ) → scan ed (k + p) s ≡ raise_scanned k (scan ed p s)
  unfolding scan
  lex-up p s = ap (λ (g : Gap). behind_gap ed g.last) (gap_up k s 0 p) ∙ behind-up (gap 0 p s).last

  lexed-up : (l : Scanned) → lexed (raise_scanned k l) ≡ raise_lexed k (lexed l)
  unfolding lexed
  lexed-up (tok d s e w r) = refl
  lexed-up (bad r) = refl

  doc-up : (cs : List Comment) (e : End) → comment_of (first_doc (map (raise_comment k) cs) (raise_end k e)) ≡ raise_doc k (comment_of (first_doc cs e))
  unfolding first_doc comment_of
  doc-up (c ∷ cs) e = refl
  doc-up [] (clear p s) = refl
  doc-up [] (broken o q) = refl

module _ (ed : ℕ) (text : List ℕ) (at : ℕ) (h : length text ≤ text_limit) (g : at ≤ length text) where
  from_zero : length (drop at text) ≤ text_limit
  from_zero = omega (arith, length-drop at text)

  pub token-from : next_token ed text at ≡ raise_lexed at (next_token ed (drop at text) 0)
  unfolding next_token
  token-from =
      admits text at Err (lexed (scan ed at (drop at text))) h g
      ∙ ap (λ (n : ℕ). lexed (scan ed n (drop at text))) (sym (add-zero at))
      ∙ ap lexed (lex-up ed at 0 (drop at text)) ∙ lexed-up ed at (scan ed 0 (drop at text))
      ∙ ap (raise_lexed at) (sym (admits (drop at text) 0 Err (lexed (scan ed 0 (drop at text))) from_zero (omega arith)))

  pub comment-from : no_edition ed ≡ false → next_comment ed text at ≡ raise_doc at (next_comment ed (drop at text) 0)
  unfolding next_comment doc_of
  comment-from q =
      admits-in text at Err ed (comment_of (doc_of (gap 0 at (drop at text)))) h g q
      ∙ ap (λ (n : ℕ). comment_of (doc_of (gap 0 n (drop at text)))) (sym (add-zero at))
      ∙ ap (λ (x : Gap). comment_of (doc_of x)) (gap_up at (drop at text) 0 0)
      ∙ doc-up ed at (gap 0 0 (drop at text)).docs (gap 0 0 (drop at text)).last
      ∙ ap (raise_doc at) (sym (admits-in (drop at text) 0 Err ed (comment_of (doc_of (gap 0 0 (drop at text)))) from_zero (omega arith) q))
