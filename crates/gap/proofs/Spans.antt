-- The parts of a gap by their spans, whatever the text of a doc comment.
use Rattle.gap.specs.declared.GapPart.{GapPart}
use Rattle.gap.specs.declared.Unclosed.{Unclosed}
use Rattle.gap.specs.Marks.{unclosed}
use Rattle.gap.specs.declared.GapPart.TheVariants.{Pass, Doc}
use Rattle.std.specs.Prelude.{Result, Ok, Err, Option, Some, None}
use mathlib.Core.Path.{◌≡◌, refl, ap, sym, ◌∙◌}
use Prim.Native.Nat.{ℕ, ◌+◌, ◌<◌}
use mathlib.Core.Bool.{true, false}
use mathlib.Core.List.{List, []}
use native.Mathlib.Omega.{arith}
use borrow.Author.Tests.{eqb-true}
use lib.Dec.{eqb}
use lib.ListN.{length, get_or, drop}
use Rattle.classes.specs.Class.{in_line}
use Rattle.classes.specs.Run.{run_end}
use Rattle.classes.proofs.Bools.{and_left}
use Rattle.gap.specs.Marks.{is_space, is_blank, slashes, doc_line}
use Rattle.gap.specs.Comments.{line_text, line_comment, part_at}
use Rattle.gap.specs.Gap.{Gap, clear, broken, gap}
use Rattle.gap.specs.code.Ends.{textless, last_doc, doc_scan}
use Rattle.gap.specs.declared.Comment.{Comment}
use Rattle.gap.proofs.Parts.{line-doc, line_plain, part-line}
use Rattle.gap.proofs.Gaps.{gap-pass, gap-doc, gap-broken, gap-clear}

-- the line comment at i
module _ (text : List ℕ) (i e a b : ℕ) (ee : e ≡ run_end in_line text i) (ea : a ≡ get_or text (i + 2) 0) (eb : b ≡ get_or text (i + 3) 0) where
  pub span-doc : doc_line a b ≡ true → textless (Ok (Some (Doc (record { start = i; end = e; from = i; to = i })))) ≡ textless (line_comment i (drop i text))
  unfolding textless
  span-doc d = ap textless (line-doc text i e a b ee ea eb d (line_text i i (drop i text)) refl)

  pub span-plain : doc_line a b ≡ false → textless (Ok (Some (Pass e))) ≡ textless (line_comment i (drop i text))
  span-plain d = ap textless (line_plain text i e a b ee ea eb d)

-- it is the part at i
pub span-line : (text : List ℕ) (i b : ℕ) → b ≡ get_or text (i + 1) 0 → slashes (get_or text i 0) b ≡ true → textless (line_comment i (drop i text)) ≡ textless (part_at i (drop i text))
unfolding is_blank slashes is_space
span-line text i b eb f =
    let q : get_or text i 0 ≡ 47 = eqb-true _ 47 (and_left (eqb (get_or text i 0) 47) (eqb b 47) f) in
    ap textless (part-line text i b eb (rw q) f)

-- a part that is so but for its text
starts : Result (Option GapPart) Unclosed → ℕ
starts (Ok (Some (Pass e))) = 0
starts (Ok (Some (Doc c))) = c.start
starts (Err w) = 0
starts (Ok None) = 0

ends : Result (Option GapPart) Unclosed → ℕ
ends (Ok (Some (Pass e))) = 0
ends (Ok (Some (Doc c))) = c.end
ends (Err w) = 0
ends (Ok None) = 0

like-pass : (p : Result (Option GapPart) Unclosed) (e : ℕ) → textless (Ok (Some (Pass e))) ≡ textless p → p ≡ Ok (Some (Pass e))
unfolding textless
like-pass (Ok (Some (Pass f))) e q = sym q
like-pass (Ok (Some (Doc c))) e q = let z : ◌≡◌ {A = ℕ} 0 1 = cc in absurd (omega arith)
like-pass (Err w) e q = let z : ◌≡◌ {A = ℕ} 0 1 = cc in absurd (omega arith)
like-pass (Ok None) e q = let z : ◌≡◌ {A = ℕ} 0 1 = cc in absurd (omega arith)

like-doc : (p : Result (Option GapPart) Unclosed) (c : Comment) → textless (Ok (Some (Doc c))) ≡ textless p → (d : Comment) × (p ≡ Ok (Some (Doc d))) × (d.start ≡ c.start) × (d.end ≡ c.end)
unfolding textless starts ends
like-doc (Ok (Some (Pass f))) c q = let z : ◌≡◌ {A = ℕ} 0 1 = cc in absurd (omega arith)
like-doc (Ok (Some (Doc d))) c q = (d, refl, sym (ap starts q), sym (ap ends q))
like-doc (Err w) c q = let z : ◌≡◌ {A = ℕ} 0 1 = cc in absurd (omega arith)
like-doc (Ok None) c q = let z : ◌≡◌ {A = ℕ} 0 1 = cc in absurd (omega arith)

like-unclosed : (p : Result (Option GapPart) Unclosed) (o e : ℕ) → textless (Err (unclosed o e)) ≡ textless p → p ≡ Err (unclosed o e)
unfolding textless
like-unclosed (Ok (Some (Pass f))) o e q = let z : ◌≡◌ {A = ℕ} 0 1 = cc in absurd (omega arith)
like-unclosed (Ok (Some (Doc c))) o e q = let z : ◌≡◌ {A = ℕ} 0 1 = cc in absurd (omega arith)
like-unclosed (Err w) o e q = sym q
like-unclosed (Ok None) o e q = let z : ◌≡◌ {A = ℕ} 0 1 = cc in absurd (omega arith)

like-other : (p : Result (Option GapPart) Unclosed) → textless (Ok None) ≡ textless p → p ≡ Ok None
unfolding textless
like-other (Ok (Some (Pass f))) q = let z : ◌≡◌ {A = ℕ} 0 1 = cc in absurd (omega arith)
like-other (Ok (Some (Doc c))) q = let z : ◌≡◌ {A = ℕ} 0 1 = cc in absurd (omega arith)
like-other (Err w) q = let z : ◌≡◌ {A = ℕ} 0 1 = cc in absurd (omega arith)
like-other (Ok None) q = refl

-- the gap behind such a part
module _ (text : List ℕ) (i : ℕ) (h : i < length text) (p : Result (Option GapPart) Unclosed) (t : textless p ≡ textless (part_at i (drop i text))) where
  abbrev here : Gap
  here = gap 0 i (drop i text)

  pub behind-plain : (e : ℕ) → p ≡ Ok (Some (Pass e)) → (here ≡ gap 0 e (drop e text)) × (i < e)
  behind-plain e q = gap-pass text i h e (like-pass (part_at i (drop i text)) e (ap textless (sym q) ∙ t))

  same : (a b x y : ℕ) → a ≡ x → b ≡ y → doc_scan a b (gap 0 b (drop b text)) ≡ doc_scan x y (gap 0 y (drop y text))
  same a b x y e f = rw (e, f)

  pub behind-doc : (c : Comment) → p ≡ Ok (Some (Doc c)) → (s e : ℕ) → (doc_scan s e here ≡ doc_scan c.start c.end (gap 0 c.end (drop c.end text))) × (i < c.end)
  unfolding doc_scan last_doc
  behind-doc c q s e =
      let d = like-doc (part_at i (drop i text)) c (ap textless (sym q) ∙ t) in
      let r = gap-doc text i h d.0 d.1 in
      (ap (doc_scan s e) r.0 ∙ same d.0.start d.0.end c.start c.end d.2 d.3, omega (arith, r.1, d.3))

  pub behind-open : (o e : ℕ) → p ≡ Err (unclosed o e) → here ≡ record { docs = []; last = broken o e }
  behind-open o e q = gap-broken text i h o e (like-unclosed (part_at i (drop i text)) o e (ap textless (sym q) ∙ t))

  pub behind-none : p ≡ Ok None → here ≡ record { docs = []; last = clear i (drop i text) }
  behind-none q = gap-clear text i h (like-other (part_at i (drop i text)) (ap textless (sym q) ∙ t))
