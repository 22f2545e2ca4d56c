-- A text that begins with blanks: from its start on the same is read as from behind them.
use mathlib.Core.Path.{◌≡◌, refl, ap, sym, ◌∙◌}
use mathlib.Core.Bool.{false}
use mathlib.Core.List.{List, [], ◌∷◌, ◌++◌}
use Prim.Native.Nat.{ℕ, zero, suc, ◌+◌, ◌-◌, ◌≤◌}
use native.Mathlib.Omega.{arith}
use lib.ListN.{length, drop, length-append}
use Rattle.gap.specs.Marks.{is_space, is_blank}
use Rattle.gap.specs.Comments.{part_at}
use Rattle.gap.specs.Gap.{Gap, gap, gap_end_of}
use Rattle.tokens.specs.Calls.{call_fault, next_token}
use Rattle.tokens.specs.Walk.{Listed, next, tokens_at}
use Rattle.tokens.specs.declared.Place.{Place}
use Rattle.tokens.specs.declared.Token.{Token}
use Rattle.tokens.proofs.Documents.{next-same}
use Rattle.tokens.proofs.Walks.{at_next}
use Rattle.outline.specs.Entry.{fitting}
use Rattle.outline.specs.Outline.{handed, comment_at, pending_after, joined, names, portion, outlined}
use Rattle.outline.specs.Examples.{repeated}
use Rattle.outline.specs.declared.Pending.{Pending}
use Rattle.outline.proofs.Steps.{step-pass}
use Rattle.outline.proofs.Asked.{fault-from, asks}
use Rattle.std.specs.Prelude.{Ok}

-- a gap from its first blank on, and from behind n of them
one-blank : (p : ℕ) (s : List ℕ) → gap 0 p (32 ∷ s) ≡ gap 0 (suc p) s
unfolding gap part_at is_space is_blank
one-blank p s =
    let z : p + 1 - suc p ≡ 0 = omega arith in
    rw z

gap-blanks : (n p : ℕ) (s : List ℕ) → gap 0 p (repeated n 32 ++ s) ≡ gap 0 (p + n) s
unfolding repeated
gap-blanks zero p s = let z : p ≡ p + 0 = omega arith in ap (λ (q : ℕ). gap 0 q s) z
gap-blanks (suc n) p s =
    let z : suc p + n ≡ p + suc n = omega arith in
    one-blank p (repeated n 32 ++ s) ∙ gap-blanks n (suc p) s ∙ ap (λ (q : ℕ). gap 0 q s) z

drop-blanks : (n : ℕ) (s : List ℕ) → drop n (repeated n 32 ++ s) ≡ s
unfolding repeated
drop-blanks zero s = refl
drop-blanks (suc n) s = drop-blanks n s

length-blanks : (n : ℕ) → length (repeated n 32) ≡ n
unfolding repeated
length-blanks zero = refl
length-blanks (suc n) = ap suc (length-blanks n)

-- a first token that is no name, wherever the gap before it is read from
module _ (text : List ℕ) where
  same-portion : (at n : ℕ) (p : Pending) (k m : ℕ) (t : Token) (l : Listed) → comment_at text at p.comment ≡ comment_at text n p.comment → names p.keyword t.kind ≡ false
      → portion text at p k (suc m) (next t l) ≡ portion text n p k (suc m) (next t l)
  unfolding portion
  same-portion at n p k m t l g e =
      step-pass text at p t _ k e ∙ ap (λ (c : Place). joined 1 [] (portion text t.end (pending_after t.kind c) k m l)) g ∙ sym (step-pass text n p t _ k e)

  same-comment : (at n : ℕ) (c : Place) → gap 0 at (drop at text) ≡ gap 0 n (drop n text) → comment_at text at c ≡ comment_at text n c
  unfolding comment_at
  same-comment at n c g = rw g

module _ (ed n : ℕ) (s : List ℕ) where
  abbrev text : List ℕ
  text = repeated n 32 ++ s

  same_gap : gap 0 0 text ≡ gap 0 n (drop n text)
  same_gap = let z : 0 + n ≡ n = omega arith in gap-blanks n 0 s ∙ ap (λ (q : ℕ). gap 0 q s) z ∙ ap (gap 0 n) (sym (drop-blanks n s))

  pub behind-blanks : call_fault ed text 0 ≡ Ok tt → gap_end_of (gap 0 n (drop n text)).last ≡ Ok n → (t : Token) → next_token ed text n ≡ Ok t → (t.kind ≡ 0 → ⊥)
      → (p : Pending) → names (handed text p).keyword t.kind ≡ false → (m room : ℕ) → outlined ed text 0 (suc m) p room ≡ outlined ed text n (suc m) p room
  behind-blanks f g t e z p h m room =
      let i : n ≤ length text = omega (arith, length-append (repeated n 32) s, length-blanks n) in
      let a = (at_next ed text 0 (omega arith) t (sym (next-same ed text 0 n (ap (λ (x : Gap). gap_end_of x.last) same_gap ∙ g)) ∙ e) z).0 in
      let b = (at_next ed text n i t e z).0 in
      let q = handed text p in
      let k = fitting text room in
      asks ed text 0 (suc m) p room f ∙ ap (portion text 0 q k (suc m)) a
      ∙ same-portion text 0 n q k m t (tokens_at ed text t.end) (same-comment text 0 n q.comment same_gap) h
      ∙ sym (asks ed text n (suc m) p room (fault-from ed text 0 n f i) ∙ ap (portion text n q k (suc m)) b)
