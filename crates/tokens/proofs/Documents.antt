-- The token behind a gap, with the gap's last doc comment.
use Rattle.gap.specs.declared.Unclosed.{Unclosed}
use Rattle.gap.specs.Marks.{unclosed}
use mathlib.Core.Path.{◌≡◌, refl, ap, sym, ◌∙◌, subst}
use mathlib.Core.Bool.{Bool, true, false}
use mathlib.Core.List.{List, [], ◌∷◌}
use Prim.Native.Nat.{ℕ, ◌<◌, ◌≤◌}
use native.Mathlib.Omega.{arith}
use borrow.Author.Tests.{le-ltb, ltb-true, ltb-false}
use lib.Dec.{ltb}
use lib.ListN.{length, drop}
use Rattle.gap.specs.Gap.{End, clear, broken, Gap, gap, gap_end_of}
use Rattle.gap.specs.code.Ends.{last_doc, doc_scan}
use Rattle.gap.specs.declared.Comment.{Comment}
use Rattle.gap.specs.declared.DocScan.{DocScan}
use Rattle.gap.proofs.Gaps.{Ended, gap-over, gap-ended}
use Rattle.tokens.specs.Answers.{place}
use Rattle.tokens.specs.Token.{behind_gap, scan}
use Rattle.tokens.specs.Calls.{place_fault, unless, lexed, next_token, last_span, doc_before, documented}
use Rattle.tokens.specs.code.Found.{with_doc}
use Rattle.tokens.specs.declared.Documented.{Documented}
use Rattle.tokens.proofs.Again.{gap-again}
use Rattle.tokens.specs.declared.Token.{Token}
use Rattle.tokens.specs.declared.Place.{Place}
use Rattle.tokens.specs.declared.Refusal.{Refusal}
use Rattle.std.specs.Prelude.{Result, Ok, Err, ⊤}

-- the end of a scan, and its comment
end_of_lem : (s e : ℕ) (l : End) (ds : List Comment) → (last_doc s e l ds).end ≡ gap_end_of l
unfolding last_doc
end_of_lem s e l [] = refl
end_of_lem s e l (d ∷ ds) = end_of_lem d.start d.end l ds

span_of : (s e : ℕ) (l : End) (ds : List Comment) → place (last_doc s e l ds).from (last_doc s e l ds).to ≡ last_span (place s e) ds
unfolding last_doc last_span
span_of s e l [] = refl
span_of s e l (d ∷ ds) = span_of d.start d.end l ds

cleared : (l : End) (k : ℕ) → gap_end_of l ≡ Ok k → (u : List ℕ) × (l ≡ clear k u)
unfolding gap_end_of
cleared (clear p s) k e = (s, let z : p ≡ k = cc in ap (λ (x : ℕ). clear x s) z)
cleared (broken o q) k e = let z : ◌≡◌ {A = ℕ} 0 1 = cc in absurd (omega arith)

module _ (ed : ℕ) (text : List ℕ) (at : ℕ) where
  -- where the gap ends the token is the same
  same_place : (k : ℕ) → (at ≤ length text → k ≤ length text) → (length text < at → k ≡ at) → place_fault text k ≡ place_fault text at
  unfolding place_fault
  same_place k f g = go (ltb (length text) at) refl
    where
      go : (b : Bool) → ltb (length text) at ≡ b → place_fault text k ≡ place_fault text at
      go true e = ap (place_fault text) (g (ltb-true (length text) at e))
      go false e =
          let h = ltb-false (length text) at e in
          rw (le-ltb (length text) k (f h), e)

  same-scan : (k : ℕ) (u : List ℕ) → (gap 0 at (drop at text)).last ≡ clear k u → u ≡ drop k text → scan ed k (drop k text) ≡ scan ed at (drop at text)
  unfolding scan
  same-scan k u e f = ap (behind_gap ed) (rw (← f) (gap-again at k (drop at text) u e) ∙ sym e)

  pub next-same : (k : ℕ) → gap_end_of (gap 0 at (drop at text)).last ≡ Ok k → next_token ed text k ≡ next_token ed text at
  unfolding next_token
  next-same k h =
      let c = cleared (gap 0 at (drop at text)).last k h in
      let d : Ended text at (clear k c.0) = subst (Ended text at) c.1 (gap-ended text (drop at text) 0 at refl) in
      let over : length text < at → k ≡ at = λ g. let q : clear k c.0 ≡ clear at [] = sym c.1 ∙ ap (λ (x : Gap). x.last) (gap-over text at (omega arith)) in cc in
      rw (same_place k d.1 over, same-scan k c.0 c.1 d.2)

  -- the answer
  with-doc : (x : Result Token Refusal) (p : Place) → p ≡ last_span (place 0 0) (gap 0 at (drop at text)).docs → with_doc x p ≡ record { lexed = x; doc = doc_before text at x }
  unfolding with_doc doc_before
  with-doc (Ok t) p h = rw h
  with-doc (Err r) p h = refl

  module _ (g : DocScan) (f : g ≡ doc_scan 0 0 (gap 0 at (drop at text))) where
    ended : (e : Result ℕ Unclosed) → g.end ≡ e → gap_end_of (gap 0 at (drop at text)).last ≡ e
    unfolding doc_scan
    ended e h = sym (ap (λ (x : DocScan). x.end) f ∙ end_of_lem 0 0 (gap 0 at (drop at text)).last (gap 0 at (drop at text)).docs) ∙ h

    pub clear-way : (k : ℕ) (l : Result Token Refusal) (r : Documented) → g.end ≡ Ok k → l ≡ next_token ed text k → r ≡ with_doc l (place g.from g.to) → r ≡ documented ed text at
    unfolding documented doc_scan
    clear-way k l r h i j =
        j ∙ with-doc l (place g.from g.to) (ap (λ (x : DocScan). place x.from x.to) f ∙ span_of 0 0 (gap 0 at (drop at text)).last (gap 0 at (drop at text)).docs)
        ∙ ap (λ (x : Result Token Refusal). record { lexed = x; doc = doc_before text at x }) (i ∙ next-same k (ended (Ok k) h))

    -- of a gap that does not end no token is found
    broken-by : (l : End) (o q : ℕ) (x : Result Token Refusal) → l ≡ (gap 0 at (drop at text)).last → gap_end_of l ≡ Err (unclosed o q) → x ≡ next_token ed text at → with_doc x (place 0 0) ≡ record { lexed = x; doc = doc_before text at x }
    unfolding with_doc doc_before next_token unless scan behind_gap lexed gap_end_of
    broken-by l o q (Err r) h i j = refl
    broken-by (clear p s) o q (Ok t) h i j = let z : ◌≡◌ {A = ℕ} 0 1 = cc in absurd (omega arith)
    broken-by (broken a b) o q (Ok t) h i j = absurd (none (place_fault text at) (rw (← h) at j))
      where
        none : (f : Result ⊤ Refusal) → Ok t ≡ unless Err f (lexed (behind_gap ed (broken a b))) → ⊥
        none (Ok tt) e = let z : ◌≡◌ {A = ℕ} 0 1 = cc in omega arith
        none (Err r) e = let z : ◌≡◌ {A = ℕ} 0 1 = cc in omega arith

    pub broken-way : (o q : ℕ) (l : Result Token Refusal) (r : Documented) → g.end ≡ Err (unclosed o q) → l ≡ next_token ed text at → r ≡ with_doc l (place 0 0) → r ≡ documented ed text at
    unfolding documented
    broken-way o q l r h i j =
        j ∙ broken-by (gap 0 at (drop at text)).last o q l refl (ended (Err (unclosed o q)) h) i ∙ ap (λ (x : Result Token Refusal). record { lexed = x; doc = doc_before text at x }) i
