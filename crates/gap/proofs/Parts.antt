-- The parts of a gap at a place of a text, by the tests that lead to each; and where they end.
use Rattle.gap.specs.Marks.{unclosed}
use Rattle.gap.specs.declared.GapPart.TheVariants.{Pass, Doc}
use mathlib.Core.Path.{◌≡◌, refl, ap, sym, ◌∙◌, subst}
use mathlib.Core.Bool.{Bool, true, false, cond, ◌&&◌}
use mathlib.Core.List.{List, [], ◌∷◌}
use Prim.Native.Nat.{ℕ, ◌+◌, ◌-◌, ◌<◌, ◌≤◌}
use native.Mathlib.Omega.{arith}
use borrow.Author.Tests.{eqb-true}
use lib.Dec.{eqb}
use lib.ListN.{length, get_or, drop, length-drop}
use lib.Seq.{get_or-drop, drop-drop}
use Rattle.classes.specs.Class.{in_line}
use Rattle.classes.specs.Run.{run_len, run_end}
use Rattle.classes.proofs.Bools.{and_left}
use Rattle.gap.specs.Marks.{is_space, is_blank, slashes, opens, doc_line, doc_block}
use Rattle.gap.specs.Comments.{inside, line_text, line_comment, block_comment, part_at}
use Rattle.gap.specs.code.Blocks.{block_part}
use Rattle.gap.specs.code.Ends.{end_of_part}
use Rattle.gap.proofs.Places.{front}
use Rattle.gap.proofs.Inside.{Within, inside-within}
use Rattle.std.specs.Prelude.{Result, Ok, Err, ℕ, Some, None}

-- the line comment at i
module _ (text : List ℕ) (i e a b : ℕ) (ee : e ≡ run_end in_line text i) (ea : a ≡ get_or text (i + 2) 0) (eb : b ≡ get_or text (i + 3) 0) where
  pub line-doc : doc_line a b ≡ true → (t : ℕ) → t ≡ line_text i i (drop i text)
      → Ok (Some (Doc (record { start = i; end = e; from = i + 3; to = t }))) ≡ line_comment i (drop i text)
  unfolding line_comment run_end
  line-doc d t et = rw (get_or-drop i text 2 0, get_or-drop i text 3 0, ← ea, ← eb, d, ← et, ← ee)

  pub line_plain : doc_line a b ≡ false → Ok (Some (Pass e)) ≡ line_comment i (drop i text)
  unfolding line_comment run_end
  line_plain d = rw (get_or-drop i text 2 0, get_or-drop i text 3 0, ← ea, ← eb, d, ← ee)

small : (d : Bool) → cond d 3 2 ≤ 3
small true = omega arith
small false = omega arith

-- the block comment at i
module _ (text : List ℕ) (i a b : ℕ) (ea : a ≡ get_or text (i + 2) 0) (eb : b ≡ get_or text (i + 3) 0) (k : Result ℕ ℕ) (ek : k ≡ inside false (i ∷ []) (i + 2) (drop (i + 2) text)) where
  module _ (e : ℕ) (h : k ≡ Ok e) where
    pub block-doc : doc_block a b ≡ true → Ok (Some (Doc (record { start = i; end = e; from = i + 3; to = e - 2 }))) ≡ block_part text i
    unfolding block_part block_comment
    block-doc d = rw (← ea, ← eb, d, ← ek, h)

    pub block-plain : doc_block a b ≡ false → Ok (Some (Pass e)) ≡ block_part text i
    unfolding block_part block_comment
    block-plain d = rw (← ea, ← eb, d, ← ek, h)

    pub closed_after : 2 ≤ e
    closed_after = let r = subst (Within _ (i + 2)) (sym ek ∙ h) (inside-within (drop (i + 2) text) false (i ∷ []) (i + 2) _ refl (omega arith) (omega arith, tt)) in omega arith

  module _ (o : ℕ) (h : k ≡ Err o) where
    pub block-broken : (d : Bool) → d ≡ doc_block a b → (n : ℕ) → n ≡ cond (d && eqb o i) 3 2 → Err (unclosed o (o + n)) ≡ block_part text i
    unfolding block_part block_comment
    block-broken d ed n en = rw (en, ed, ← ea, ← eb, ← ek, h) (go (doc_block a b))
      where
        go : (v : Bool) → Err (unclosed o (o + cond (v && eqb o i) 3 2)) ≡ block_comment v i (Err o)
        go true = refl
        go false = refl

    pub open-within : i < length text → (d : Bool) (n : ℕ) → n ≡ cond d 3 2 → o + n ≤ length text + 4
    open-within g d n en =
        let r = subst (Within _ (i + 2)) (sym ek ∙ h) (inside-within (drop (i + 2) text) false (i ∷ []) (i + 2) _ refl (omega arith) (omega arith, tt)) in
        omega (arith, length-drop (i + 2) text, small d)

-- the part at i
module _ (text : List ℕ) (i b : ℕ) (eb : b ≡ get_or text (i + 1) 0) where
  pub part-blank : is_blank (get_or text i 0) b ≡ true → Ok (Some (Pass (i + 1))) ≡ part_at i (drop i text)
  unfolding part_at
  part-blank e = rw (front text i, get_or-drop i text 1 0, ← eb, e)

  module _ (e : is_blank (get_or text i 0) b ≡ false) where
    pub part-line : slashes (get_or text i 0) b ≡ true → line_comment i (drop i text) ≡ part_at i (drop i text)
    unfolding part_at
    part-line f = rw (front text i, get_or-drop i text 1 0, ← eb, e, f)

    module _ (f : slashes (get_or text i 0) b ≡ false) where
      pub part-block : opens (get_or text i 0) b ≡ true → block_part text i ≡ part_at i (drop i text)
      unfolding part_at block_part
      part-block g = rw (front text i, get_or-drop i text 1 0, ← eb, e, f, g, get_or-drop i text 2 0, get_or-drop i text 3 0, drop-drop 2 i text)

      pub part-other : opens (get_or text i 0) b ≡ false → (Ok None) ≡ part_at i (drop i text)
      unfolding part_at
      part-other g = rw (front text i, get_or-drop i text 1 0, ← eb, e, f, g)

  -- a line comment by its end alone
  line-by : (s : List ℕ) (v : Bool) → end_of_part (cond v (Ok (Some (Doc (record { start = i; end = i + run_len in_line s; from = i + 3; to = line_text i i s })))) (Ok (Some (Pass (i + run_len in_line s))))) ≡ Ok (Some (i + run_len in_line s))
  unfolding end_of_part
  line-by s true = refl
  line-by s false = refl

  pub line-end : slashes (get_or text i 0) b ≡ true → Ok (Some (run_end in_line text i)) ≡ end_of_part (part_at i (drop i text))
  unfolding run_end line_comment is_blank slashes is_space
  line-end f =
      let q : get_or text i 0 ≡ 47 = eqb-true _ 47 (and_left (eqb (get_or text i 0) 47) (eqb b 47) f) in
      sym (line-by (drop i text) (doc_line (get_or (drop i text) 2 0) (get_or (drop i text) 3 0))) ∙ ap end_of_part (part-line (rw q) f)
