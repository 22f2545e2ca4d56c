-- Where a line feed stands in a text: one byte after the other, and part after part.
use mathlib.Core.Path.{◌≡◌, refl, ap, sym, ◌∙◌, subst}
use mathlib.Core.Bool.{Bool, true, false, cond, not, ◌||◌, ◌&&◌}
use mathlib.Core.List.{List, [], ◌∷◌}
use Prim.Native.Nat.{ℕ, zero, suc, ◌+◌, ◌-◌, ◌<◌, ◌≤◌}
use native.Mathlib.Omega.{arith}
use native.Mathlib.Nat.{not-suc-le-zero, le_of_suc-le-suc}
use borrow.Author.Tests.{eq-eqb, ne_eqb, eqb-true}
use lib.Dec.{eqb}
use lib.ListN.{get_or, take, drop}
use lib.Seq.{take-nil, drop-drop, get_or-drop}
use Rattle.classes.specs.Class.{in_line, mark_or_line_feed, space_or_tab}
use Rattle.classes.specs.Run.{run_len, run_end}
use Rattle.classes.proofs.Bools.{false-true, and_left, and_right, or_right}
use Rattle.gap.specs.Marks.{is_space, is_blank, slashes, opens, doc_block}
use Rattle.gap.specs.Comments.{inside, block_comment}
use Rattle.gap.specs.LineFeed.{holds_line_feed, line_feed}
use Rattle.gap.specs.code.Blocks.{block_part, depth_at, opener_at}
use Rattle.gap.specs.code.Ends.{end_of_part}
use Rattle.gap.proofs.Inside.{Within, inside-within, block_closed, block-open}
use Rattle.gap.proofs.Places.{front}
use Rattle.gap.specs.declared.Unclosed.{Unclosed}
use Rattle.std.specs.Prelude.{Result, Ok, Err, ℕ, Option, Some, None}

or_assoc : (a b c : Bool) → a || (b || c) ≡ (a || b) || c
or_assoc true b c = refl
or_assoc false b c = refl

or-false : (a : Bool) → a || false ≡ a
or-false true = refl
or-false false = refl

or-true : (a : Bool) → a || true ≡ true
or-true true = refl
or-true false = refl

cut-join : (n m : ℕ) (s : List ℕ) → holds_line_feed (take (n + m) s) ≡ holds_line_feed (take n s) || holds_line_feed (take m (drop n s))
unfolding holds_line_feed
cut-join zero m s = let e : 0 + m ≡ m = omega arith in rw e
cut-join (suc n) m [] = rw (take-nil (suc n + m), take-nil m)
cut-join (suc n) m (a ∷ s) =
    let e : suc n + m ≡ suc (n + m) = omega arith in
    rw e (ap (λ (v : Bool). eqb a 10 || v) (cut-join n m s) ∙ or_assoc (eqb a 10) (holds_line_feed (take n s)) (holds_line_feed (take m (drop n s))))

one_byte : (s : List ℕ) → holds_line_feed (take 1 s) ≡ eqb (get_or s 0 0) 10
unfolding holds_line_feed
one_byte [] = refl
one_byte (a ∷ s) = or-false (eqb a 10)

module _ (text : List ℕ) where
  pub line-feed-none : (i : ℕ) → line_feed text i i ≡ false
  unfolding line_feed holds_line_feed
  line-feed-none i = let e : i - i ≡ 0 = omega arith in rw e

  pub line-feed-one : (i : ℕ) → line_feed text i (i + 1) ≡ eqb (get_or text i 0) 10
  unfolding line_feed
  line-feed-one i = let e : i + 1 - i ≡ 1 = omega arith in rw e (one_byte (drop i text) ∙ rw (front text i))

  -- two parts of a text, one behind the other
  pub line-feed-join : (at i s : ℕ) → at ≤ i → i ≤ s → line_feed text at s ≡ line_feed text at i || line_feed text i s
  unfolding line_feed
  line-feed-join at i s h g =
      let e : s - at ≡ (i - at) + (s - i) = omega arith in
      let f : at + (i - at) ≡ i = omega arith in
      rw e (cut-join (i - at) (s - i) (drop at text) ∙ rw (drop-drop (i - at) at text, f))

  -- one byte more, where v tells of those before it
  module _ (at i : ℕ) (v : Bool) (e : v ≡ line_feed text at i) (h : at ≤ i) where
    pub feed-step : v || eqb (get_or text i 0) 10 ≡ line_feed text at (i + 1)
    feed-step = sym (line-feed-join at i (i + 1) h (omega arith) ∙ rw (line-feed-one i, ← e))

    pub feed-here : get_or text i 0 ≡ 10 → true ≡ line_feed text at (i + 1)
    feed-here g = sym (or-true v) ∙ ap (λ (w : Bool). v || w) (sym (eq-eqb (get_or text i 0) 10 g)) ∙ feed-step

    pub feed-not-here : eqb (get_or text i 0) 10 ≡ false → v ≡ line_feed text at (i + 1)
    feed-not-here g = sym (or-false v) ∙ ap (λ (w : Bool). v || w) (sym g) ∙ feed-step

    pub feed-past : (s : ℕ) (w : Bool) → w ≡ line_feed text i s → i ≤ s → v || w ≡ line_feed text at s
    feed-past s w f g = rw (e, f) (sym (line-feed-join at i s h g))

  -- a mark of two bytes m and n, of which neither is LF
  pub feed-mark : (at i : ℕ) (v : Bool) → v ≡ line_feed text at i → at ≤ i → (m n b : ℕ) → b ≡ get_or text (i + 1) 0 → eqb m 10 ≡ false → eqb n 10 ≡ false
      → eqb (get_or text i 0) m && eqb b n ≡ true → v ≡ line_feed text at (i + 2)
  feed-mark at i v e h m n b eb f g k =
      let x : get_or text i 0 ≡ m = eqb-true _ m (and_left (eqb (get_or text i 0) m) (eqb b n) k) in
      let y : get_or text (i + 1) 0 ≡ n = sym eb ∙ eqb-true b n (and_right (eqb (get_or text i 0) m) (eqb b n) k) in
      let z : i + 1 + 1 ≡ i + 2 = omega arith in
      feed-not-here at (i + 1) v (feed-not-here at i v e h (rw x f)) (omega arith) (rw y g) ∙ ap (λ (s : ℕ). line_feed text at s) z

-- a byte at which the scan of a block comment does not look
pub plain-no-feed : (a : ℕ) → mark_or_line_feed a ≡ false → eqb a 10 ≡ false
unfolding mark_or_line_feed
plain-no-feed a h = or_right (eqb a 47 || eqb a 42) (eqb a 10) h

-- blanks that are no LF, and what is no blank
pub space-no-feed : (a : ℕ) → space_or_tab a ≡ true → (is_space a ≡ true) × (eqb a 10 ≡ false)
unfolding space_or_tab is_space
space-no-feed a h = (rw h, go (eqb a 10) refl)
  where
    go : (v : Bool) → eqb a 10 ≡ v → v ≡ false
    go true e = sym h ∙ rw (eqb-true a 10 e)
    go false e = refl

pub feed-space : (a : ℕ) → a ≡ 10 → is_space a ≡ true
unfolding is_space
feed-space a h = rw h

pub no-space : (a : ℕ) → space_or_tab a ≡ false → (a ≡ 10 → ⊥) → is_space a ≡ false
unfolding space_or_tab is_space
no-space a h g = rw (h, ne_eqb a 10 g)

-- what opens a block comment is no blank and opens no line comment
pub opens-only : (a b : ℕ) → opens a b ≡ true → (is_blank a b ≡ false) × (slashes a b ≡ false)
unfolding opens is_blank is_space slashes
opens-only a b h =
    let x : a ≡ 47 = eqb-true a 47 (and_left (eqb a 47) (eqb b 42) h) in
    let y : b ≡ 42 = eqb-true b 42 (and_right (eqb a 47) (eqb b 42) h) in
    (rw x, rw (x, y))

-- a line comment ends before LF
line-holds : (s : List ℕ) → holds_line_feed (take (run_len in_line s) s) ≡ false
unfolding holds_line_feed run_len in_line
line-holds [] = refl
line-holds (a ∷ s) = go (eqb a 10) refl (line-holds s)
  where
    go : (v : Bool) → eqb a 10 ≡ v → holds_line_feed (take (run_len in_line s) s) ≡ false → holds_line_feed (take (cond (not v) (suc (run_len in_line s)) 0) (a ∷ s)) ≡ false
    go true e ih = refl
    go false e ih = rw e ih

-- in the words of the code: where a part ends, if it ends
module _ (text : List ℕ) (i : ℕ) where
  pub line-feed-in-line : line_feed text i (run_end in_line text i) ≡ false
  unfolding line_feed run_end
  line-feed-in-line = let e : i + run_len in_line (drop i text) - i ≡ run_len in_line (drop i text) = omega arith in rw e (line-holds (drop i text))

  pub feed-closed : (v : Bool) (s : ℕ) → v ≡ line_feed text i s → (e : ℕ) → ◌≡◌ {A = Result ℕ ℕ} (Ok s) (Ok e) → v ≡ line_feed text i e
  feed-closed v s h e q = let k : s ≡ e = cc in h ∙ rw k

  pub feed-missing : (v : Bool) (n : ℕ) (e : ℕ) → ◌≡◌ {A = Result ℕ ℕ} (Err n) (Ok e) → v ≡ line_feed text i e
  feed-missing v n e q = let z : ◌≡◌ {A = ℕ} 0 1 = cc in absurd (omega arith)

  pub feed-ends : (v : Bool) (s : ℕ) → v ≡ line_feed text i s → (e : ℕ) → ◌≡◌ {A = Result (Option ℕ) Unclosed} (Ok (Some s)) (Ok (Some e)) → v ≡ line_feed text i e
  feed-ends v s h e q = let k : s ≡ e = cc in h ∙ rw k

  pub feed-line : (s : ℕ) → s ≡ run_end in_line text i → (e : ℕ) → ◌≡◌ {A = Result (Option ℕ) Unclosed} (Ok (Some s)) (Ok (Some e)) → false ≡ line_feed text i e
  feed-line s h = feed-ends false s (sym line-feed-in-line ∙ rw h)

  pub feed-no-part : (v : Bool) (e : ℕ) → ◌≡◌ {A = Result (Option ℕ) Unclosed} (Ok None) (Ok (Some e)) → v ≡ line_feed text i e
  feed-no-part v e q = let z : ◌≡◌ {A = ℕ} 0 1 = cc in absurd (omega arith)

-- where the part ends that a block comment is, the comment closes
part-closed : (d : Bool) (p s e : ℕ) → end_of_part (block_comment d p (Ok s)) ≡ Ok (Some e) → s ≡ e
unfolding end_of_part block_comment
part-closed true p s e h = cc
part-closed false p s e h = cc

part-open : (A : Type 0) (d : Bool) (p o e : ℕ) → end_of_part (block_comment d p (Err o)) ≡ Ok (Some e) → A
unfolding end_of_part block_comment
part-open A true p o e h = let z : ◌≡◌ {A = ℕ} 0 1 = cc in absurd (omega arith)
part-open A false p o e h = let z : ◌≡◌ {A = ℕ} 0 1 = cc in absurd (omega arith)

module _ (text : List ℕ) (i e : ℕ) where
  closes_by : (k : Result ℕ ℕ) → depth_at text (i + 2) 1 ≡ k → end_of_part (block_part text i) ≡ Ok (Some e) → (depth_at text (i + 2) 1 ≡ Ok e) × (i + 2 ≤ e)
  unfolding block_part
  closes_by (Ok s) q h =
      let c : inside false (i ∷ []) (i + 2) (drop (i + 2) text) ≡ Ok s = block_closed text i s q in
      let k : s ≡ e = part-closed (doc_block (get_or text (i + 2) 0) (get_or text (i + 3) 0)) i s e (rw c at h) in
      let r = subst (Within _ (i + 2)) c (inside-within (drop (i + 2) text) false (i ∷ []) (i + 2) _ refl (omega arith) (omega arith, tt)) in
      (q ∙ ap Ok k, omega arith)
  closes_by (Err d) q h = part-open _ (doc_block (get_or text (i + 2) 0) (get_or text (i + 3) 0)) i (opener_at d text (i + 2) 1 i) e (rw (block-open text i d q) at h)

  pub feed-in-block : (b : ℕ) → b ≡ get_or text (i + 1) 0 → opens (get_or text i 0) b ≡ true → (k : Result ℕ ℕ) → k ≡ depth_at text (i + 2) 1
      → (v : Bool) → ((s : ℕ) → k ≡ Ok s → v ≡ line_feed text (i + 2) s) → end_of_part (block_part text i) ≡ Ok (Some e) → v ≡ line_feed text i e
  unfolding opens
  feed-in-block b eb o k ek v f h =
      let r = closes_by (depth_at text (i + 2) 1) refl h in
      let m : false ≡ line_feed text i (i + 2) = feed-mark text i i false (sym (line-feed-none text i)) (omega arith) 47 42 b eb refl refl o in
      f e (ek ∙ r.0) ∙ sym (line-feed-join text i (i + 2) e (omega arith) r.1 ∙ rw (← m))

-- a line feed stands between two places of a text where one of the bytes from the one to the other is 10, and nowhere else
there-in : (n : ℕ) (s : List ℕ) → holds_line_feed (take n s) ≡ true → (k : ℕ) × (k < n) × (get_or s k 0 ≡ 10)
unfolding holds_line_feed
there-in zero s h = false-true _ h
there-in (suc n) [] h = false-true _ h
there-in (suc n) (a ∷ s) h = go (eqb a 10) refl h (λ g. there-in n s g)
  where
    go : (v : Bool) → eqb a 10 ≡ v → v || holds_line_feed (take n s) ≡ true → (holds_line_feed (take n s) ≡ true → (k : ℕ) × (k < n) × (get_or s k 0 ≡ 10))
        → (k : ℕ) × (k < suc n) × (get_or (a ∷ s) k 0 ≡ 10)
    go true e g ih = (0, omega arith, eqb-true a 10 e)
    go false e g ih = let r = ih g in (suc r.0, omega (arith, r.1), r.2)

in-there : (n k : ℕ) (s : List ℕ) → k < n → get_or s k 0 ≡ 10 → holds_line_feed (take n s) ≡ true
unfolding holds_line_feed
in-there zero k s h e = absurd (not-suc-le-zero h)
in-there (suc n) zero [] h e = absurd (omega arith)
in-there (suc n) (suc k) [] h e = absurd (omega arith)
in-there (suc n) zero (a ∷ s) h e = rw (eq-eqb a 10 e)
in-there (suc n) (suc k) (a ∷ s) h e = rw (in-there n k s (le_of_suc-le-suc h) e) (or-true (eqb a 10))

pub line-feed-there : (text : List ℕ) (at s : ℕ)
    → (line_feed text at s ≡ true → (i : ℕ) × (at ≤ i) × (i < s) × (get_or text i 0 ≡ 10)) × ((i : ℕ) → at ≤ i → i < s → get_or text i 0 ≡ 10 → line_feed text at s ≡ true)
unfolding line_feed
line-feed-there text at s = (there, here)
  where
    there : holds_line_feed (take (s - at) (drop at text)) ≡ true → (i : ℕ) × (at ≤ i) × (i < s) × (get_or text i 0 ≡ 10)
    there h = let r = there-in (s - at) (drop at text) h in (at + r.0, omega arith, omega (arith, r.1), sym (get_or-drop at text r.0 0) ∙ r.2)

    here : (i : ℕ) → at ≤ i → i < s → get_or text i 0 ≡ 10 → holds_line_feed (take (s - at) (drop at text)) ≡ true
    here i h g e =
        let k : at + (i - at) ≡ i = omega arith in
        in-there (s - at) (i - at) (drop at text) (omega arith) (get_or-drop at text (i - at) 0 ∙ rw k e)

-- from a place on, it is that of the text from there on
pub line-feed-from : (text : List ℕ) (at s : ℕ) → line_feed text at (at + s) ≡ line_feed (drop at text) 0 s
unfolding line_feed
line-feed-from text at s =
    let e : at + s - at ≡ s = omega arith in
    let f : s - 0 ≡ s = omega arith in
    rw (e, f)
