-- The gap, one part after the other, at a place of a text; and where its parts end.
use Rattle.gap.specs.declared.GapPart.{GapPart}
use Rattle.gap.specs.declared.Unclosed.{Unclosed}
use Rattle.gap.specs.Marks.{unclosed}
use Rattle.gap.specs.declared.GapPart.TheVariants.{Pass, Doc}
use mathlib.Core.Path.{◌≡◌, refl, ap, sym, ◌∙◌, subst}
use mathlib.Core.Bool.{Bool, true, false, cond}
use mathlib.Core.List.{List, [], ◌∷◌}
use Prim.Native.Nat.{ℕ, zero, suc, ◌+◌, ◌-◌, ◌<◌, ◌≤◌}
use native.Mathlib.Omega.{arith}
use native.Mathlib.Nat.{add-zero, not-suc-le-zero, le_of_suc-le-suc}
use borrow.Author.Tests.{eqb-true}
use lib.Dec.{eqb}
use lib.ListN.{length, get_or, drop, drop_of_length-le, length-drop}
use lib.Seq.{drop-cons, drop-drop}
use Rattle.classes.specs.Class.{in_line, begins_part}
use Rattle.classes.specs.Run.{run_len, run_end}
use Rattle.classes.proofs.Bools.{false-true, and_left, and_right, or_left, or_right}
use Rattle.classes.proofs.Runs.{run_short}
use Rattle.gap.specs.Marks.{is_space, is_blank, slashes, opens, doc_line, doc_block}
use Rattle.gap.specs.Comments.{inside, line_text, line_comment, block_comment, part_at}
use Rattle.gap.specs.code.Ends.{end_of_part}
use Rattle.gap.specs.Gap.{End, clear, broken, Gap, noted, gap_from, gap}
use Rattle.gap.specs.declared.Comment.{Comment}
use Rattle.gap.proofs.Inside.{Within, inside-within}
use Rattle.gap.proofs.Parts.{part-blank, part-other}
use Rattle.gap.proofs.Places.{tail_at, in-text}
use Rattle.std.specs.Prelude.{Result, Ok, Err, ℕ, Option, Some, None}

-- a part that begins at p takes a byte at least and ends in the text, whose end is `last`; so does a blamed opener
abbrev pub Held : ℕ → ℕ → Result (Option GapPart) Unclosed → Type 0
Held p last (Ok (Some (Pass e))) = (p < e) × (e ≤ last)
Held p last (Ok (Some (Doc c))) = (p < c.end) × (c.end ≤ last)
Held p last (Err w) = (w.start < w.end) × (w.end ≤ last)
Held p last (Ok None) = Unit {0}

held-cond : (p last : ℕ) (b : Bool) (x y : Result (Option GapPart) Unclosed) → Held p last x → Held p last y → Held p last (cond b x y)
held-cond p last true x y f g = f
held-cond p last false x y f g = g

held-if : (p last : ℕ) (b : Bool) (x y : Result (Option GapPart) Unclosed) → (b ≡ true → Held p last x) → Held p last y → Held p last (cond b x y)
held-if p last true x y f g = f refl
held-if p last false x y f g = g

line-takes : (a : ℕ) (s : List ℕ) → a ≡ 47 → 0 < run_len in_line (a ∷ s)
unfolding run_len in_line
line-takes a s e = rw e (omega arith)

line-held : (p a : ℕ) (s : List ℕ) → slashes a (get_or s 0 0) ≡ true → Held p (p + length (a ∷ s)) (line_comment p (a ∷ s))
unfolding line_comment slashes
line-held p a s h =
    let t = line-takes a s (eqb-true a 47 (and_left (eqb a 47) (eqb (get_or s 0 0) 47) h)) in
    let r = run_short in_line (a ∷ s) in
    held-cond p (p + length (a ∷ s)) (doc_line (get_or (a ∷ s) 2 0) (get_or (a ∷ s) 3 0))
    (Ok (Some (Doc (record { start = p; end = p + run_len in_line (a ∷ s); from = p + 3; to = line_text p p (a ∷ s) })))) (Ok (Some (Pass (p + run_len in_line (a ∷ s)))))
    (omega arith, omega arith) (omega arith, omega arith)

-- a doc opener has three bytes
opener-held : (p last o : ℕ) (b : Bool) → eqb o p ≡ b → p + 3 ≤ last → o + 2 ≤ last → (o < o + cond b 3 2) × (o + cond b 3 2 ≤ last)
opener-held p last o true e g h = (omega arith, omega (arith, eqb-true o p e))
opener-held p last o false e g h = (omega arith, omega arith)

block_held : (p last : ℕ) (d : Bool) (k : Result ℕ ℕ) → (d ≡ true → p + 3 ≤ last) → Within last (p + 2) k → Held p last (block_comment d p k)
unfolding block_comment
block_held p last true (Ok e) g h = (omega arith, h.1)
block_held p last false (Ok e) g h = (omega arith, h.1)
block_held p last true (Err o) g h = opener-held p last o (eqb o p) refl (g refl) h
block_held p last false (Err o) g h = (omega arith, h)

third : (p a b : ℕ) (s : List ℕ) → doc_block (get_or s 0 0) (get_or s 1 0) ≡ true → p + 3 ≤ p + length (a ∷ b ∷ s)
unfolding doc_block
third p a b [] e = false-true _ e
third p a b (x ∷ s) e = omega arith

opened-held : (p a : ℕ) (s : List ℕ) → opens a (get_or s 0 0) ≡ true
    → Held p (p + length (a ∷ s)) (block_comment (doc_block (get_or (a ∷ s) 2 0) (get_or (a ∷ s) 3 0)) p (inside false (p ∷ []) (p + 2) (drop 2 (a ∷ s))))
unfolding opens
opened-held p a [] h = false-true _ (and_right (eqb a 47) false h)
opened-held p a (b ∷ s) h =
    block_held p (p + length (a ∷ b ∷ s)) (doc_block (get_or s 0 0) (get_or s 1 0)) (inside false (p ∷ []) (p + 2) s) (third p a b s)
    (inside-within s false (p ∷ []) (p + 2) (p + length (a ∷ b ∷ s)) (omega arith) (omega arith) (omega arith, tt))

pub part_held : (p a : ℕ) (s : List ℕ) → Held p (p + length (a ∷ s)) (part_at p (a ∷ s))
unfolding part_at
part_held p a s =
    held-cond p (p + length (a ∷ s)) (is_blank a (get_or s 0 0)) _ _ (omega arith, omega arith)
    (held-if p (p + length (a ∷ s)) (slashes a (get_or s 0 0)) _ _ (line-held p a s)
    (held-if p (p + length (a ∷ s)) (opens a (get_or s 0 0)) _ _ (opened-held p a s) tt))

-- bytes passed over
pub skip : (k p : ℕ) (s : List ℕ) → k ≤ length s → gap k p s ≡ gap 0 (p + k) (drop k s)
unfolding gap
skip zero p [] h = rw add-zero
skip (suc k) p [] h = absurd (not-suc-le-zero h)
skip zero p (a ∷ s) h = rw add-zero
skip (suc k) p (a ∷ s) h = skip k (suc p) s (le_of_suc-le-suc h) ∙ ap (λ (n : ℕ). gap 0 n (drop k s)) (omega arith)

-- at a place of a text
pub gap-over : (text : List ℕ) (i : ℕ) → length text ≤ i → gap 0 i (drop i text) ≡ record { docs = []; last = clear i [] }
unfolding gap
gap-over text i h = rw (drop_of_length-le text h)

module _ (text : List ℕ) (i : ℕ) (h : i < length text) where
  pub held : Held i (length text) (part_at i (drop i text))
  held =
      let e : drop i text ≡ get_or text i 0 ∷ drop (suc i) text = drop-cons text i 0 h in
      let n : i + length (drop i text) ≡ length text = omega (arith, length-drop i text) in
      subst (λ (l : List ℕ). i + length l ≡ length text → Held i (length text) (part_at i l)) (sym e)
      (λ q. subst (λ (m : ℕ). Held i m (part_at i (get_or text i 0 ∷ drop (suc i) text))) q (part_held i (get_or text i 0) (drop (suc i) text))) n

  step : gap 0 i (drop i text) ≡ gap_from (part_at i (drop i text)) i (drop i text) (λ k. gap k (suc i) (drop (suc i) text))
  unfolding gap
  step = rw (drop-cons text i 0 h)

  on : (e : ℕ) → i < e → e ≤ length text → gap (e - suc i) (suc i) (drop (suc i) text) ≡ gap 0 e (drop e text)
  on e f g =
      let q : suc i + (e - suc i) ≡ e = omega arith in
      skip (e - suc i) (suc i) (drop (suc i) text) (omega (arith, length-drop (suc i) text)) ∙ rw (drop-drop (e - suc i) (suc i) text, q)

  pub gap-pass : (e : ℕ) → part_at i (drop i text) ≡ Ok (Some (Pass e)) → (gap 0 i (drop i text) ≡ gap 0 e (drop e text)) × (i < e)
  gap-pass e q = let r = subst (Held i (length text)) q held in (step ∙ rw q (on e r.0 r.1), r.0)

  pub gap-doc : (c : Comment) → part_at i (drop i text) ≡ Ok (Some (Doc c)) → (gap 0 i (drop i text) ≡ noted c (gap 0 c.end (drop c.end text))) × (i < c.end)
  gap-doc c q = let r = subst (Held i (length text)) q held in (step ∙ rw q (ap (noted c) (on c.end r.0 r.1)), r.0)

  pub gap-clear : part_at i (drop i text) ≡ Ok None → gap 0 i (drop i text) ≡ record { docs = []; last = clear i (drop i text) }
  gap-clear q = step ∙ rw q

  -- a blank, whatever follows it; and a byte that begins no part
  pub gap-space : is_space (get_or text i 0) ≡ true → gap 0 i (drop i text) ≡ gap 0 (i + 1) (drop (i + 1) text)
  unfolding is_blank
  gap-space e = (gap-pass (i + 1) (sym (part-blank text i (get_or text (i + 1) 0) refl (rw e)))).0

  pub gap-plain : is_space (get_or text i 0) ≡ false → begins_part (get_or text i 0) ≡ false
      → gap 0 i (drop i text) ≡ record { docs = []; last = clear i (drop i text) }
  unfolding is_blank slashes opens begins_part
  gap-plain e f =
      let g : eqb (get_or text i 0) 47 ≡ false = or_left (eqb (get_or text i 0) 47) (eqb (get_or text i 0) 13) f in
      let h : eqb (get_or text i 0) 13 ≡ false = or_right (eqb (get_or text i 0) 47) (eqb (get_or text i 0) 13) f in
      gap-clear (sym (part-other text i (get_or text (i + 1) 0) refl (rw (e, h)) (rw g) (rw g)))

  pub gap-broken : (o e : ℕ) → part_at i (drop i text) ≡ Err (unclosed o e) → gap 0 i (drop i text) ≡ record { docs = []; last = broken o e }
  gap-broken o e q = step ∙ rw q

  -- by its end alone
  past_by : (x : Result (Option GapPart) Unclosed) (e : ℕ) → part_at i (drop i text) ≡ x → end_of_part x ≡ Ok (Some e) → ((gap 0 i (drop i text)).last ≡ (gap 0 e (drop e text)).last) × (i < e)
  unfolding end_of_part
  past_by (Ok (Some (Pass d))) e q h = let k : d ≡ e = cc in let r = gap-pass d q in (ap (λ (g : Gap). g.last) r.0 ∙ ap (λ (n : ℕ). (gap 0 n (drop n text)).last) k, omega (arith, r.1))
  past_by (Ok (Some (Doc c))) e q h = let k : c.end ≡ e = cc in let r = gap-doc c q in (ap (λ (g : Gap). g.last) r.0 ∙ ap (λ (n : ℕ). (gap 0 n (drop n text)).last) k, omega (arith, r.1))
  past_by (Err w) e q h = let z : ◌≡◌ {A = ℕ} 0 1 = cc in absurd (omega arith)
  past_by (Ok None) e q h = let z : ◌≡◌ {A = ℕ} 0 1 = cc in absurd (omega arith)

  pub gap-past : (e : ℕ) → end_of_part (part_at i (drop i text)) ≡ Ok (Some e) → ((gap 0 i (drop i text)).last ≡ (gap 0 e (drop e text)).last) × (i < e)
  gap-past e h = past_by (part_at i (drop i text)) e refl h

  unended-by : (x : Result (Option GapPart) Unclosed) (o e : ℕ) → part_at i (drop i text) ≡ x → end_of_part x ≡ Err (unclosed o e) → (gap 0 i (drop i text)).last ≡ broken o e
  unfolding end_of_part
  unended-by (Ok (Some (Pass d))) o e q h = let z : ◌≡◌ {A = ℕ} 0 1 = cc in absurd (omega arith)
  unended-by (Ok (Some (Doc c))) o e q h = let z : ◌≡◌ {A = ℕ} 0 1 = cc in absurd (omega arith)
  unended-by (Err w) o e q h = let k : w.start ≡ o = cc in let l : w.end ≡ e = cc in ap (λ (g : Gap). g.last) (gap-broken w.start w.end q) ∙ rw (k, l)
  unended-by (Ok None) o e q h = let z : ◌≡◌ {A = ℕ} 0 1 = cc in absurd (omega arith)

  pub gap-unended : (o e : ℕ) → end_of_part (part_at i (drop i text)) ≡ Err (unclosed o e) → (gap 0 i (drop i text)).last ≡ broken o e
  gap-unended o e h = unended-by (part_at i (drop i text)) o e refl h

  none-by : (x : Result (Option GapPart) Unclosed) → part_at i (drop i text) ≡ x → end_of_part x ≡ Ok None → (gap 0 i (drop i text)).last ≡ clear i (drop i text)
  unfolding end_of_part
  none-by (Ok (Some (Pass d))) q h = let z : ◌≡◌ {A = ℕ} 0 1 = cc in absurd (omega arith)
  none-by (Ok (Some (Doc c))) q h = let z : ◌≡◌ {A = ℕ} 0 1 = cc in absurd (omega arith)
  none-by (Err w) q h = let z : ◌≡◌ {A = ℕ} 0 1 = cc in absurd (omega arith)
  none-by (Ok None) q h = ap (λ (g : Gap). g.last) (gap-clear q)

  pub gap-none-at : end_of_part (part_at i (drop i text)) ≡ Ok None → (gap 0 i (drop i text)).last ≡ clear i (drop i text)
  gap-none-at h = none-by (part_at i (drop i text)) refl h

-- a run of blanks
space-on : (a : ℕ) (s : List ℕ) (p : ℕ) → is_space a ≡ true → gap 0 p (a ∷ s) ≡ gap 0 (suc p) s
unfolding gap part_at is_blank
space-on a s p e = let q : p + 1 - suc p ≡ 0 = omega arith in rw (e, q)

blanks-step : (a : ℕ) (s : List ℕ) (p : ℕ) (v : Bool) → is_space a ≡ v → gap 0 (suc p) s ≡ gap 0 (suc p + run_len is_space s) (drop (run_len is_space s) s)
    → gap 0 p (a ∷ s) ≡ gap 0 (p + cond v (suc (run_len is_space s)) 0) (drop (cond v (suc (run_len is_space s)) 0) (a ∷ s))
blanks-step a s p true e ih = space-on a s p e ∙ ih ∙ ap (λ (n : ℕ). gap 0 n (drop (run_len is_space s) s)) (omega arith)
blanks-step a s p false e ih = rw add-zero

blanks : (s : List ℕ) (p : ℕ) → gap 0 p s ≡ gap 0 (p + run_len is_space s) (drop (run_len is_space s) s)
unfolding run_len
blanks [] p = rw add-zero
blanks (a ∷ s) p = blanks-step a s p (is_space a) refl (blanks s (suc p))

pub gap-blanks : (text : List ℕ) (at : ℕ) → gap 0 at (drop at text) ≡ gap 0 (run_end is_space text at) (drop (run_end is_space text at) text)
unfolding run_end
gap-blanks text at = blanks (drop at text) at ∙ rw (drop-drop (run_len is_space (drop at text)) at text)

-- where a gap ends in a text, and with which bytes; a blamed opener is in the text too
abbrev pub Ended : List ℕ → ℕ → End → Type 0
Ended text p (clear q u) = (p ≤ q) × (p ≤ length text → q ≤ length text) × (u ≡ drop q text)
Ended text p (broken o e) = (o < e) × (e ≤ length text)

module _ (text : List ℕ) where
  earlier : (p : ℕ) (e : End) → p < length text → Ended text (suc p) e → Ended text p e
  earlier p (clear q u) g h = (omega arith, λ k. h.1 (omega arith), h.2)
  earlier p (broken o e) g h = h

  from-ended : (p : ℕ) (s : List ℕ) (x : Result (Option GapPart) Unclosed) (go : ℕ → Gap) → p < length text → s ≡ drop p text → Held p (length text) x
      → ((k : ℕ) → Ended text (suc p) (go k).last) → Ended text p (gap_from x p s go).last
  from-ended p s (Ok (Some (Pass e))) go g q h ih = earlier p (go (e - suc p)).last g (ih (e - suc p))
  from-ended p s (Ok (Some (Doc c))) go g q h ih = earlier p (go (c.end - suc p)).last g (ih (c.end - suc p))
  from-ended p s (Err w) go g q h ih = h
  from-ended p s (Ok None) go g q h ih = (omega arith, λ k. k, q)

  pub gap-ended : (s : List ℕ) (k p : ℕ) → s ≡ drop p text → Ended text p (gap k p s).last
  unfolding gap
  gap-ended [] k p e = (omega arith, λ h. h, e)
  gap-ended (a ∷ s) (suc k) p e = earlier p (gap k (suc p) s).last (in-text text p a s e) (gap-ended s k (suc p) (tail_at text p a s e))
  gap-ended (a ∷ s) zero p e =
      let n : p + length (a ∷ s) ≡ length text = omega (arith, ap length e, length-drop p text, in-text text p a s e) in
      from-ended p (a ∷ s) (part_at p (a ∷ s)) (λ k. gap k (suc p) s) (in-text text p a s e) e
      (subst (λ (m : ℕ). Held p m (part_at p (a ∷ s))) n (part_held p a s))
      (λ k. gap-ended s k (suc p) (tail_at text p a s e))
