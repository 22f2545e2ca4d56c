-- What is promised of the carried notes (specs/Promised).
use mathlib.Core.Path.{◌≡◌, refl, sym, ◌∙◌}
use mathlib.Core.Bool.{true}
use mathlib.Core.List.{List, map}
use Prim.Native.Nat.{ℕ, ◌<◌, ◌≤◌}
use native.Mathlib.Omega.{arith}
use lib.ListN.{length, get_or, length-map}
use Rattle.tokens.specs.Calls.{◌or_else◌}
use Rattle.tokens.specs.Walk.{Listed, tokens_at}
use Rattle.tokens.specs.declared.Token.{Token}
use Rattle.tokens.proofs.Faults.{no-two, unless_not}
use Rattle.starts.specs.Allowed.{TokenOf, last, first, in_rest}
use Rattle.carried.specs.Carry.{refusal_of, is_start, covers, covering_start, bad_note, rejected, moved, carry_fault, carry, notes_after}
use Rattle.carried.specs.Promised.{ToEOF, OldStartsLieInOneNewToken, MovedAs, StartsAreMoved, RefusedMovesNone, ReadInBoth}
use Rattle.carried.proofs.Walked.{Walked, over, stopped, going, walked}
use Rattle.carried.proofs.Together.{covers-in, read-pair}
use Rattle.carried.specs.code.Passes.{Movable}
use Rattle.carried.proofs.Passes.{no-bad-note, get_d_map, settled, back}
use Rattle.carried.proofs.Covering.{from, covering-starts, covering-end, covering-end-only, covering-ordered}

module _ {ed : ℕ} {text : List ℕ} where
  -- two tokens that cover the same byte are one
  only_one : {at : ℕ} {l : Listed} → Walked ed text at l → (x : ℕ) (u v : Token) → TokenOf u l → TokenOf v l → covers u x ≡ true → covers v x ≡ true → v ≡ u
  only_one (over a b c d) x u v last last i j = refl
  only_one (stopped {at = at} {r = r} _ _) x u v x15 _ i j = elim x15 [ ]
  only_one (going {t = t} e a b c d w) x u v first first i j = refl
  only_one (going {t = t} e a b c d w) x u v first (in_rest q) i j =
      absurd (omega (arith, covers-in u x i, covers-in v x j, from w v q))
  only_one (going {t = t} e a b c d w) x u v (in_rest p) first i j =
      absurd (omega (arith, covers-in u x i, covers-in v x j, from w u p))
  only_one (going {t = t} e a b c d w) x u v (in_rest p) (in_rest q) i j = only_one w x u v p q i j

-- 1
pub old-starts-lie-in-one-new-token : OldStartsLieInOneNewToken
old-starts-lie-in-one-new-token text e f t m n =
    let c = (read-pair text e).covered t m n in
    record { token = c.0; listed = c.1; covering = c.2; only = λ v k h. only_one (walked 2 text 0 (omega arith)) t.start c.0 v c.1 k c.2 h }

-- 2
module _ (text notes : List ℕ) (e : ToEOF (tokens_at 1 text 0)) (f : ToEOF (tokens_at 2 text 0)) (n : length notes ≤ 256)
    (s : (i : ℕ) → i < length notes → is_start (tokens_at 1 text 0) (get_or notes i 0) ≡ true) where
  abbrev moves : ℕ → ℕ
  moves x = covering_start (tokens_at 2 text 0) x

  accepted : carry text notes ≡ moved (map moves notes)
  unfolding carry carry_fault
  accepted =
      unless_not rejected (refusal_of (tokens_at 1 text 0) or_else refusal_of (tokens_at 2 text 0) or_else bad_note (tokens_at 1 text 0) 0 notes) _
      (no-two (refusal_of (tokens_at 1 text 0)) (refusal_of (tokens_at 2 text 0) or_else bad_note (tokens_at 1 text 0) 0 notes) e
      (no-two (refusal_of (tokens_at 2 text 0)) (bad_note (tokens_at 1 text 0) 0 notes) f (no-bad-note (tokens_at 1 text 0) 0 notes (omega arith) s)))

  movable : Movable text notes
  movable = record { first = e; second = f; started = s }

  w : Walked 2 text 0 (tokens_at 2 text 0)
  w = walked 2 text 0 (omega arith)

  moved_as : MovedAs text notes (map moves notes)
  moved_as = record {
    call = accepted;
    count = length-map notes moves;
    started = λ i h. rw (get_d_map moves notes i h) (covering-starts (tokens_at 2 text 0) (get_or notes i 0) f);
    back = λ i h. rw (get_d_map moves notes i h) (back text notes movable i h);
    ended = λ i h g. get_d_map moves notes i h ∙ covering-end w (get_or notes i 0) g;
    ended_only = λ i h g. covering-end-only w (get_or notes i 0) (settled text notes movable i h) (sym (get_d_map moves notes i h) ∙ g);
    ordered = λ i j h g k. rw (get_d_map moves notes i h, get_d_map moves notes j g) (covering-ordered w f (get_or notes i 0) (get_or notes j 0) (settled text notes movable i h) k);
  }

pub starts-are-moved : StartsAreMoved
starts-are-moved text notes e f n s = (map (moves text notes e f n s) notes, moved_as text notes e f n s)

-- 3
pub refused-moves-none : RefusedMovesNone
unfolding notes_after
refused-moves-none text notes r e = rw e

-- 4
pub read-in-both : ReadInBoth
read-in-both text e = (read-pair text e).whole
