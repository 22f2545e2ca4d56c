-- What holds of every answer of a reader: a tree that was read starts where its first token does and ends
-- where reading goes on, in the text, its spans are nested, and its stored form is no longer than 24 bytes a byte read, with some bytes
-- to spare; a refusal's places are in the text. `e` is the end of the text.
use mathlib.Core.Path.{◌≡◌, refl, ap}
use mathlib.Core.Bool.{Bool, true, false}
use Prim.Native.Nat.{ℕ, ◌+◌, ◌*◌, ◌<◌, ◌≤◌}
use native.Mathlib.Omega.{arith}
use lib.ListN.{length, length-drop}
use Rattle.tokens.specs.declared.Place.{Place}
use Rattle.tokens.specs.declared.Refusal.{Refusal}
use Rattle.records.specs.Tree.{Tree}
use Rattle.records.specs.Spans.{start_of, end_of, Nested}
use Rattle.records.specs.code.Narrow.{stored}
use Rattle.sources.specs.Source.{Source, Lexeme, start, end, after, split, LexResult, tok, bad, lex}
use Rattle.sources.proofs.Standing.{Standing, Sound, lex-sound}
use Rattle.answers.specs.Reading.{Ans, ok, no, look, when, refused_at, Reader}
use Rattle.answers.proofs.Further.{left, Further, Frugal, here-left}

-- where the text ends that a source is the end of
abbrev pub stop : Source → ℕ
stop u = u.at + left u

abbrev pub In : ℕ → Place → Type 0
In e p = (p.start ≤ p.end) × (p.end ≤ e)

abbrev pub Blamed : ℕ → Refusal → Type 0
Blamed e r = In e r.place × In e r.second

-- a token of the text
pub record Tok (e : ℕ) (t : Lexeme) : Type 0 where
  pub stops : stop t.here ≡ e
  pub within : end t ≤ e
  pub takes : (0 < t.kind → start t < end t)

-- reading goes on at v, behind p
pub record On (e p : ℕ) (v : Source) : Type 0 where
  pub stops : stop v ≡ e
  pub further : p < v.at

-- a tree read from s on, with `spare` bytes left for the record that it may stand in
pub record Read (e spare s : ℕ) (x : Tree) (v : Source) : Type 0 where
  pub on : On e s v
  pub from : start_of x ≡ s
  pub to : end_of x ≡ v.at
  pub nested : Nested x
  pub small : length (stored x) + spare + 24 * s ≤ 24 * v.at

abbrev pub Sure : (e spare s : ℕ) → Ans Tree → Type 0
Sure e spare s (ok x v) = Read e spare s x v
Sure e spare s (no r) = Blamed e r

-- an item reader, from any token of the text on
abbrev pub SureReader : ℕ → Reader → Type 0
SureReader e item = (t : Lexeme) → Tok e t → Sure e 0 (start t) (item t)

-- a token that stands in a source
module _ (u : Source) (t : Lexeme) (d : Standing u t) where
  here-at : start t ≡ u.at + d.gap
  here-at = ap (λ (v : Source). v.at) d.here

  pub standing-from : u.at ≤ start t
  standing-from = omega (arith, here-at)

  pub standing-tok : (e : ℕ) → stop u ≡ e → Tok e t
  standing-tok e h = record { stops = omega (arith, here-at, here-left u t d, d.within); within = omega (arith, here-at, here-left u t d, d.within); takes = λ k. let z = d.takes k in omega arith }

-- behind it
module _ (e : ℕ) (t : Lexeme) (d : Tok e t) where
  pub after_stop : stop (after t) ≡ e
  after_stop = omega (arith, length-drop t.len t.here.rest, d.stops, d.within)

  pub split-stop : 0 < t.len → stop (split t) ≡ e
  split-stop h = omega (arith, length-drop 1 t.here.rest, d.stops, d.within)

  pub token-blamed : (n : ℕ) → Blamed e (refused_at n t)
  token-blamed n = ((omega arith, d.within), (omega arith, d.within))

-- the token at a source, and a test
pub look-sure : {B : Type 0} (e : ℕ) (P : Ans B → Type 0) (v : Source) (f : Lexeme → Ans B) → stop v ≡ e → ((r : Refusal) → Blamed e r → P (no r)) → ((t : Lexeme) → Tok e t → v.at ≤ start t → P (f t)) → P (look (lex v) f)
unfolding look
look-sure e P v f h n g = go (lex v) (lex-sound v)
  where
    go : (l : LexResult) → Sound v l → P (look l f)
    go (tok t) d = g t (standing-tok v t d e h) (standing-from v t d)
    go (bad r) d = n r ((d.0.0, omega (arith, d.0.1)), (d.1.0, omega (arith, d.1.1)))

pub when-sure : {A : Type 0} (P : A → Type 0) (b : Bool) (f g : Unit {0} → A) → (b ≡ true → P (f tt)) → (b ≡ false → P (g tt)) → P (when b f g)
unfolding when
when-sure P true f g h k = h refl
when-sure P false f g h k = k refl

-- so a reader goes on further
pub frugal : (item : Reader) → ((e : ℕ) → SureReader e item) → Frugal item
frugal item sure u t d = go (item t) (sure (stop u) t (standing-tok u t d (stop u) refl))
  where
    go : (a : Ans Tree) → Sure (stop u) 0 (start t) a → Further u a
    go (ok x v) r = omega (arith, r.on.stops, r.on.further, standing-from u t d)
    go (no r) q = tt
