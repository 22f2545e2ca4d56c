-- What holds of every item that is read, for every kind, text and offset.
use mathlib.Core.List.{List}
use Prim.Native.Nat.{ℕ, ◌+◌, ◌*◌, ◌<◌, ◌≤◌}
use native.Mathlib.Omega.{arith}
use lib.ListN.{length, length-drop}
use Rattle.tokens.specs.Answers.{refusal}
use Rattle.tokens.proofs.Faults.{Each, unless-sure}
use Rattle.records.specs.Tree.{Tree}
use Rattle.records.specs.Spans.{start_of, end_of, Nested}
use Rattle.records.specs.code.Narrow.{stored}
use Rattle.sources.specs.Source.{Source, opened, Lexeme, start, end, LexResult, tok, bad, lex}
use Rattle.sources.proofs.Standing.{Sound, lex-sound}
use Rattle.answers.specs.Reading.{Ans, ok, no}
use Rattle.answers.proofs.Sure.{Blamed, Read, Sure, standing-from, standing-tok, look-sure}
use Rattle.grammar.specs.Items.{Item, item, refused, read_kind, followed, finished, Asked, fault_of, read_item}
use Rattle.grammar.proofs.Asked.{fault-each, in_order_lem}
use Rattle.frames.proofs.Sure.{kind-sure}

module _ (text : List ℕ) where
  -- an accepted item: its tree lies in the text from `at` on, its spans are nested, the token that follows stands behind it, and its
  -- stored form is no longer than 24 bytes a byte that was read; a refusal's places are in the text
  pub record HeldItem (at : ℕ) (x : Tree) (n : Lexeme) : Type 0 where
    pub from : at ≤ start_of x
    pub some : start_of x < end_of x
    pub follows : end_of x ≤ start n
    pub within : end n ≤ length text
    pub nested : Nested x
    pub small : length (stored x) + 24 * start_of x ≤ 24 * end_of x

  abbrev pub Held : ℕ → Item → Type 0
  Held at (item x n) = HeldItem at x n
  Held at (refused r) = Blamed (length text) r

  module _ (at : ℕ) where
    read_held : (s : ℕ) (x : Tree) (v : Source) → at ≤ s → Read (length text) 0 s x v → Held at (finished (ok x v))
    unfolding finished followed
    read_held s x v h d = go (lex v) (lex-sound v)
      where
        go : (l : LexResult) → Sound v l → Held at (followed x l)
        go (tok t) g =
            let k = standing-tok v t g (length text) d.on.stops in
            let f = standing-from v t g in
            record {
              from = omega (arith, d.from);
              some = omega (arith, d.from, d.to, d.on.further);
              follows = omega (arith, d.to);
              within = k.within;
              nested = d.nested;
              small = omega (arith, d.small, d.from, d.to);
            }
        go (bad r) g = ((g.0.0, omega (arith, g.0.1, d.on.stops)), (g.1.0, omega (arith, g.1.1, d.on.stops)))

    answer-held : (s : ℕ) (a : Ans Tree) → at ≤ s → Sure (length text) 0 s a → Held at (finished a)
    unfolding finished
    answer-held s (ok x v) h d = read_held s x v h d
    answer-held s (no r) h d = d

  nowhere : (n : ℕ) → Blamed (length text) (refusal n 0 0)
  nowhere n = ((omega arith, omega arith), (omega arith, omega arith))

faults-held : (q : Asked) → Each (Blamed (length q.text)) (fault_of q)
faults-held q =
    let text : List ℕ = q.text in
    fault-each q (Blamed (length text)) (nowhere text 1) (nowhere text 2) (nowhere text 3) (nowhere text 19)
    (λ h. ((omega arith, h), (omega arith, h))) (λ r d. (d.place, d.second))

pub item-held : (q : Asked) → Held q.text q.at (read_item q)
unfolding read_item
item-held q =
    let n : ℕ = length q.text in
    unless-sure refused (Held q.text q.at) (fault_of q) _ (faults-held q) λ e.
    look-sure n (λ a. Held q.text q.at (finished a)) (opened q.edition q.text q.at) (read_kind q.kind) (omega (arith, length-drop q.at q.text, (in_order_lem q e).inside))
    (λ r h. answer-held q.text q.at q.at (no r) (omega arith) h) λ t d i. answer-held q.text q.at (start t) (read_kind q.kind t) i (kind-sure n q.kind t d)
