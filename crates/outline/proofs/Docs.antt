-- The doc comments of a gap stand in the text.
use Rattle.gap.specs.declared.GapPart.{GapPart}
use Rattle.gap.specs.declared.Unclosed.{Unclosed}
use Rattle.gap.specs.declared.GapPart.TheVariants.{Pass, Doc}
use mathlib.Core.Path.{◌≡◌, refl, ap, subst}
use mathlib.Core.Bool.{Bool, true, false, cond}
use mathlib.Core.List.{List, [], ◌∷◌, ◌++◌}
use Prim.Native.Nat.{ℕ, zero, suc, ◌+◌, ◌-◌, ◌<◌, ◌≤◌}
use native.Mathlib.Omega.{arith}
use lib.ListN.{length, get_or, drop, length-drop}
use Rattle.gap.specs.Marks.{is_blank, slashes, opens, doc_line, doc_block}
use Rattle.gap.specs.Comments.{inside, line_comment, block_comment, part_at}
use Rattle.gap.specs.Gap.{Gap, gap_from, gap}
use Rattle.gap.specs.declared.Comment.{Comment}
use Rattle.gap.proofs.Gaps.{Held, part_held}
use Rattle.gap.proofs.Places.{tail_at, in-text}
use Rattle.std.specs.Prelude.{Result, Ok, Err, ℕ, Option, Some, None}

-- what holds of each
abbrev pub EachDoc : (Comment → Type 0) → List Comment → Type 0
EachDoc P [] = Unit {0}
EachDoc P (c ∷ cs) = P c × EachDoc P cs

pub docs-both : (P : Comment → Type 0) (cs ds : List Comment) → EachDoc P (cs ++ ds) → EachDoc P cs × EachDoc P ds
docs-both P [] ds h = (tt, h)
docs-both P (c ∷ cs) ds h = let q = docs-both P cs ds h.1 in ((h.0, q.0), q.1)

pub docs-append : (P : Comment → Type 0) (cs ds : List Comment) → EachDoc P cs → EachDoc P ds → EachDoc P (cs ++ ds)
docs-append P [] ds h g = g
docs-append P (c ∷ cs) ds h g = (h.0, docs-append P cs ds h.1 g)

pub docs-each : (P Q : Comment → Type 0) → ((c : Comment) → P c → Q c) → (cs : List Comment) → EachDoc P cs → EachDoc Q cs
docs-each P Q f [] h = tt
docs-each P Q f (c ∷ cs) h = (f c h.0, docs-each P Q f cs h.1)

-- a doc comment starts where its part of the gap does
abbrev Starts : ℕ → Result (Option GapPart) Unclosed → Type 0
Starts p (Ok (Some (Pass e))) = Unit {0}
Starts p (Ok (Some (Doc c))) = c.start ≡ p
Starts p (Err w) = Unit {0}
Starts p (Ok None) = Unit {0}

starts-cond : (p : ℕ) (b : Bool) (x y : Result (Option GapPart) Unclosed) → Starts p x → Starts p y → Starts p (cond b x y)
starts-cond p true x y h g = h
starts-cond p false x y h g = g

line-starts : (p : ℕ) (s : List ℕ) → Starts p (line_comment p s)
unfolding line_comment
line-starts p s = starts-cond p (doc_line (get_or s 2 0) (get_or s 3 0)) _ _ refl tt

block-starts : (p : ℕ) (d : Bool) (k : Result ℕ ℕ) → Starts p (block_comment d p k)
unfolding block_comment
block-starts p true (Ok e) = refl
block-starts p false (Ok e) = tt
block-starts p true (Err o) = tt
block-starts p false (Err o) = tt

part-starts : (p : ℕ) (s : List ℕ) → Starts p (part_at p s)
unfolding part_at
part-starts p s =
    starts-cond p (is_blank (get_or s 0 0) (get_or s 1 0)) _ _ tt
    (starts-cond p (slashes (get_or s 0 0) (get_or s 1 0)) _ _ (line-starts p s)
    (starts-cond p (opens (get_or s 0 0) (get_or s 1 0)) _ _ (block-starts p (doc_block (get_or s 2 0) (get_or s 3 0)) (inside false (p ∷ []) (p + 2) (drop 2 s))) tt))

abbrev pub DocInText : List ℕ → Comment → Type 0
DocInText text c = (c.start < c.end) × (c.end ≤ length text)

module _ (text : List ℕ) where
  from-docs : (p : ℕ) (s : List ℕ) (x : Result (Option GapPart) Unclosed) (go : ℕ → Gap) → p < length text → Held p (length text) x → Starts p x
      → ((k : ℕ) → EachDoc (DocInText text) (go k).docs) → EachDoc (DocInText text) (gap_from x p s go).docs
  from-docs p s (Ok (Some (Pass e))) go g h q ih = ih (e - suc p)
  from-docs p s (Ok (Some (Doc c))) go g h q ih = ((omega (arith, q), h.1), ih (c.end - suc p))
  from-docs p s (Err w) go g h q ih = tt
  from-docs p s (Ok None) go g h q ih = tt

  docs-from : (s : List ℕ) (k p : ℕ) → s ≡ drop p text → EachDoc (DocInText text) (gap k p s).docs
  unfolding gap
  docs-from [] k p e = tt
  docs-from (a ∷ s) (suc k) p e = docs-from s k (suc p) (tail_at text p a s e)
  docs-from (a ∷ s) zero p e =
      let n : p + length (a ∷ s) ≡ length text = omega (arith, ap length e, length-drop p text, in-text text p a s e) in
      from-docs p (a ∷ s) (part_at p (a ∷ s)) (λ k. gap k (suc p) s) (in-text text p a s e)
      (subst (λ (m : ℕ). Held p m (part_at p (a ∷ s))) n (part_held p a s)) (part-starts p (a ∷ s))
      (λ k. docs-from s k (suc p) (tail_at text p a s e))

  pub docs-in-text : (at : ℕ) → EachDoc (DocInText text) (gap 0 at (drop at text)).docs
  docs-in-text at = docs-from (drop at text) 0 at refl
