-- What the calls answer, by what the code found.
use mathlib.Core.Path.{◌≡◌, refl, ap, sym, ◌∙◌, subst}
use mathlib.Core.Bool.{Bool, true, false, ◌||◌}
use mathlib.Core.List.{List}
use Prim.Native.Nat.{ℕ, zero, suc, ◌+◌, ◌-◌, ◌<◌, ◌≤◌}
use native.Mathlib.Omega.{arith}
use borrow.Author.Tests.{lt-ltb, le-ltb, ltb-false}
use lib.Dec.{ltb}
use lib.ListN.{length}
use Rattle.tokens.specs.Calls.{text_limit}
use Rattle.tokens.specs.Refusals.{TextTooLong}
use Rattle.tokens.specs.declared.Refusal.{Refusal}
use Rattle.classes.proofs.Bools.{or_right}
use Rattle.records.specs.Tree.{Tree, node}
use Rattle.forms.specs.Forms.{head_size}
use Rattle.saved.specs.Heads.{form_told, head_at}
use Rattle.saved.specs.Open.{Opened, whole, damaged, onward, tested, unfit, parent, children_at, head_fault, outermost_fault, outermost_at, first_at, open_tree}
use Rattle.saved.specs.Child.{Handed, can_start, child_from, child_over, child_in}
use Rattle.saved.specs.Answers.{with_record, outermost, open_call, if_opened}
use Rattle.saved.specs.Theorems.{TextFirst}
use Rattle.saved.specs.code.Scan.{head_unless, outermost_read, OpensOver}
use Rattle.saved.specs.declared.Head.{Head}
use Rattle.std.specs.Prelude.{Some, None, Result, Ok, Err}
use Rattle.tokens.specs.Answers.{refusal}
use Rattle.saved.specs.declared.SavedRecord.{SavedRecord}
use Rattle.saved.proofs.Heads.{size_least, Told, starts-before}
use Rattle.saved.proofs.Equals.{opens_as}

-- no test fails where there is no fault
fails-none : (a b : Bool) (from to : ℕ) (h : Head) → head_fault a b from to h ≡ 0 → a ≡ false
unfolding head_fault
fails-none true b from to h e = let z : ◌≡◌ {A = ℕ} 15 0 = e in absurd (omega arith)
fails-none false b from to h e = refl

pub text-first : TextFirst
unfolding open_tree tested
text-first bytes text h = rw (lt-ltb text_limit (length text) h)

pub open-long : (bytes text : List ℕ) → text_limit < length text → Err (refusal TextTooLong 0 0) ≡ open_call bytes text
unfolding open_call outermost
open-long bytes text h = ap (outermost (form_told bytes)) (sym (text-first bytes text h))

-- the tests of the outermost record, as they were made
head-none : (n : ℕ) (h k : Head) (r : Result Head ℕ) → r ≡ head_unless n h → r ≡ Ok k → (n ≡ 0) × (k ≡ h)
head-none zero h k r e s = let w : Ok h ≡ Ok k = sym e ∙ s in (refl, cc)
head-none (suc n) h k r e s = let w : ◌≡◌ {A = ℕ} 0 1 = cc in absurd (omega arith)

head-some : (n m : ℕ) (h : Head) (r : Result Head ℕ) → r ≡ head_unless n h → r ≡ Err m → (n ≡ m) × (0 < n)
head-some zero m h r e s = let w : ◌≡◌ {A = ℕ} 0 1 = cc in absurd (omega arith)
head-some (suc n) m h r e s = let w : Err (suc n) ≡ Err m = sym e ∙ s in (cc, omega arith)

module _ (bytes : List ℕ) where
  abbrev f : ℕ
  f = form_told bytes

  -- a child of the record at p
  module _ (p index : ℕ) where
    pub child-nowhere : (v : Bool) → v ≡ can_start f bytes p → v ≡ false → Ok None ≡ child_in bytes p index
    unfolding child_over
    child-nowhere v e n = rw (sym e ∙ n)

    module _ (v : Bool) (e : v ≡ can_start f bytes p) (y : v ≡ true) where
      pub starts-inside : (first_at f ≤ p) × (p < length bytes)
      starts-inside = let w = starts-before f (length bytes) p (sym e ∙ y) in (w.0, w.1)

      pub child-cut : unfit f (length bytes - p) (head_at f bytes p) ≡ true → Ok None ≡ child_in bytes p index
      unfolding child_over
      child-cut u = rw (sym e ∙ y, u)

      pub child-found : (k : Head) → Told f bytes p (length bytes - p) k → (size : ℕ) → size ≡ head_size f → (r : Handed) → r ≡ child_from f bytes index (p + size) (k.len - size) → r ≡ child_in bytes p index
      unfolding child_over
      child-found k t size z r g =
          g ∙ ap (λ (h : Head). child_from f bytes index (p + size) (h.len - size)) t.is
          ∙ ap (λ (s : ℕ). child_from f bytes index (p + s) ((head_at f bytes p).len - s)) z
          ∙ rw (sym e ∙ y, t.fit)

  -- opening over a text
  module _ (text : List ℕ) (short : length text ≤ text_limit) (first : ℕ) (at : first ≡ first_at f) (q : Result Head ℕ) (e : q ≡ outermost_read bytes (length text)) where
    opened-at : open_call bytes text ≡ outermost f (outermost_at f bytes text first)
    unfolding open_call open_tree tested
    opened-at = rw (le-ltb text_limit (length text) short, at)

    abbrev room : ℕ
    room = length bytes - first

    abbrev top : Head
    top = head_at f bytes first

    -- the outermost record's own tests
    e-at : q ≡ head_unless (outermost_fault f room text top) top
    unfolding outermost_fault
    e-at = rw at e

    pub open-refused : (n : ℕ) → q ≡ Err n → with_record (Err (refusal n first first)) ≡ open_call bytes text
    unfolding outermost_at tested outermost
    open-refused n d = let w = head-some (outermost_fault f room text top) n top q e-at d in go (outermost_fault f room text top) refl w.0 w.1 ∙ sym opened-at
      where
        go : (j : ℕ) → j ≡ outermost_fault f room text top → j ≡ n → 0 < j → Err (refusal n first first) ≡ outermost f (outermost_at f bytes text first)
        go zero x z y = absurd (omega arith)
        go (suc j) x z y = rw (sym x, sym z)

    pub open-whole : (k : Head) → q ≡ Ok k → (r : Result SavedRecord Refusal) → OpensOver f bytes first k r → with_record r ≡ open_call bytes text
    unfolding outermost_at tested outermost_fault
    open-whole k d r o =
        let w = head-none (outermost_fault f room text top) top k q e-at d in
        let fails = fails-none _ true 0 (length text) top (outer-fault w.0) in
        let all : room ≤ top.len = ltb-false top.len room (or_right (unfit f room top) _ fails) in
        let o₂ = subst (λ (j : Head). OpensOver f bytes first j r) w.1 o in
        ap with_record o₂.answers ∙ opens_as f bytes (omega (arith, size_least bytes)) first (or-left (unfit f room top) _ fails) all o₂.found o₂.walks (sym at) ∙ step w.0 ∙ sym opened-at
      where
        or-left : (a b : Bool) → (a || b) ≡ false → a ≡ false
        or-left true b h = h
        or-left false b h = refl

        step : outermost_fault f room text top ≡ 0
            → outermost f (onward (children_at f bytes (length bytes) (parent first top 1) 0 false (first + head_size f) (top.len - head_size f)) λ ts. whole (node top.kind top.start top.end ts))
            ≡ outermost f (outermost_at f bytes text first)
        step x = rw x

        outer-fault : outermost_fault f room text top ≡ 0 → head_fault (unfit f room top || ltb top.len room) true 0 (length text) top ≡ 0
        outer-fault x = x

-- a child, where the bytes open
module _ (f : ℕ) (X : Opened Tree) (a : Result SavedRecord Refusal) (b : Handed) (e : with_record a ≡ outermost f X) where
  pub opened-refused : (x : Refusal) → a ≡ Err x → Err x ≡ if_opened X b
  unfolding outermost if_opened
  opened-refused x h = go X (ap with_record (sym h) ∙ e)
    where
      go : (Y : Opened Tree) → Err x ≡ outermost f Y → Err x ≡ if_opened Y b
      go (whole t) z = let y : ◌≡◌ {A = ℕ} 0 1 = cc in absurd (omega arith)
      go (damaged r) z = z

  pub opened-record : (x : SavedRecord) → a ≡ Ok x → b ≡ if_opened X b
  unfolding outermost if_opened
  opened-record x h = go X (ap with_record (sym h) ∙ e)
    where
      go : (Y : Opened Tree) → Ok (Some x) ≡ outermost f Y → b ≡ if_opened Y b
      go (whole t) z = refl
      go (damaged r) z = let y : ◌≡◌ {A = ℕ} 0 1 = cc in absurd (omega arith)
