-- A line holds bytes from 32 to 126 only, and an item is refused a line exactly where its line would hold another.
use mathlib.Core.Path.{◌≡◌, refl, sym, ap, ◌∙◌, subst}
use mathlib.Core.Bool.{Bool, true, false}
use mathlib.Core.List.{[]}
use Rattle.forms.specs.Unprintable.{FirstByte, clean, found_at, unprintable}
use Prim.Native.Nat.{ℕ, ◌+◌, ◌-◌, min}
use native.Mathlib.Omega.{arith}
use borrow.Author.Tests.{ltb-true, ltb-false}
use lib.Dec.{ltb}
use lib.ListN.{length, get_or, drop, get_or-append}
use lib.Seq.{get_or-append-add, get_or-drop}
use Rattle.classes.specs.Class.{shows}
use Rattle.classes.specs.Run.{all_of}
use Rattle.classes.proofs.Bools.{false-true}
use Rattle.classes.proofs.All.{all-at}
use Rattle.tokens.specs.Refusals.{LineUnprintable}
use Rattle.tokens.specs.RefusalSets.{among}
use Rattle.tokens.specs.Answers.{refusal}
use Rattle.tokens.specs.declared.Refusal.{Refusal}
use Rattle.records.specs.Tree.{Tree}
use Rattle.sources.specs.Source.{opened, Lexeme}
use Rattle.answers.specs.Reading.{Ans, when}
use Rattle.grammar.specs.Items.{Item, item, refused, Asked, reading, read_item}
use Rattle.grammar.specs.Raise.{of_text}
use Rattle.forms.specs.Line.{shown}
use Rattle.forms.specs.Forms.{FormLine, front, laid, written}
use Rattle.forms.proofs.Unprintables.{line-shows, words-clean, build-unprintable}
use Rattle.frames.proofs.Faithful.{read_refusals, item-refusals}
use Rattle.frames.proofs.Words.{item-readable, clean-words, shown-words}
use Rattle.calls.specs.Calls.{line_limit, roomed, filled, unless_unprintable, if_printable, as_line, display, display_buffer}
use Rattle.calls.proofs.Room.{roomed-fits}
use Rattle.roundtrip.specs.Theorems.{LineBytes, Exactly, UnprintableAt, UnprintableExactly}
use Rattle.roundtrip.proofs.Tokens.{own}
use Rattle.roundtrip.proofs.Answers.{Gives, gives}
use Rattle.roundtrip.proofs.Lists.{Same}
use Rattle.roundtrip.proofs.Round.{item-alone}

-- an item is no refusal
abbrev IsItem : Item → Type 0
IsItem (item x t) = Unit {0}
IsItem (refused r) = ⊥

-- an item that is not refused for its line was read, and is clean
if-printable-item : (i : Item) (t : Tree) (n : Lexeme) → if_printable i ≡ item t n → (i ≡ item t n) × (unprintable t ≡ clean)
unfolding if_printable unless_unprintable
if-printable-item (item x u) t n e = go (unprintable x) refl e
  where
    tree : Item → Tree
    tree (item y v) = y
    tree (refused r) = x

    go : (o : FirstByte) → unprintable x ≡ o → unless_unprintable o (item x u) ≡ item t n → (item x u ≡ item t n) × (unprintable t ≡ clean)
    go clean c h = (h, ap (λ (j : Item). unprintable (tree j)) (sym h) ∙ c)
    go (found_at b) c h = absurd (subst IsItem (sym h) tt)
if-printable-item (refused r) t n e = absurd (subst IsItem (sym e) tt)

-- where an item is clean, its line shows
item-shows : (q : Asked) (t : Tree) (n : Lexeme) → read_item q ≡ item t n → unprintable t ≡ clean → all_of shows (shown t) ≡ true
item-shows q t n e c = line-shows t (clean-words t (item-readable q t n e) c)

-- every byte of an accepted display is from 32 to 126
pub clean_line : (q : Asked) (room : ℕ) (t : Tree) (n : Lexeme) → display q room ≡ item t n → all_of shows (shown t) ≡ true
unfolding display
clean_line q room t n e =
    let d = if-printable-item (read_item q) t n (roomed-fits as_line (min room line_limit) (if_printable (read_item q)) t n e).0 in
    item-shows q t n d.0 d.1

-- so are all bytes that a display changes
pub line-bytes : LineBytes
unfolding display_buffer filled written front laid
line-bytes q out k h = go (display q (length out)) refl h
  where
    go : (i : Item) → display q (length out) ≡ i → (get_or (filled as_line i out) k 0 ≡ get_or out k 0 → ⊥) → shows (get_or (filled as_line i out) k 0) ≡ true
    go (refused r) e g = absurd (g refl)
    go (item t n) e g = at_byte (ltb k (length (shown t))) refl
      where
        at_byte : (b : Bool) → ltb k (length (shown t)) ≡ b → shows (get_or (filled as_line (item t n) out) k 0) ≡ true
        at_byte true l =
            let m = ltb-true k (length (shown t)) l in
            rw (get_or-append (shown t) (drop (length (shown t)) out) 0 k m) (all-at shows (shown t) k (clean_line q (length out) t n e) m)
        at_byte false l =
            let m = ltb-false k (length (shown t)) l in
            let z : length (shown t) + (k - length (shown t)) ≡ k = omega arith in
            absurd (g (ap (λ (j : ℕ). get_or (filled as_line (item t n) out) j 0) (sym z) ∙ get_or-append-add (shown t) (drop (length (shown t)) out) (k - length (shown t)) 0 ∙ get_or-drop (length (shown t)) out (k - length (shown t)) 0 ∙ ap (λ (j : ℕ). get_or out j 0) z))

-- of all that a read gives, what is clean and nothing else has a line of such bytes: 18 refuses no line that could be shown
shows-again : (q : Asked) (t : Tree) (a : Ans Tree) → reading (of_text (shown t) q) ≡ a → Gives (own q.edition) (Same t) [] a → all_of shows (shown t) ≡ true → unprintable t ≡ clean
shows-again q t a e (gives y u b g) h = (build-unprintable y t b).0 (words-clean y (shown-words q.kind (opened q.edition (shown t) 0) u y h e))

pub exactly : Exactly
exactly q t n e = (item-shows q t n e, shows-again q t (reading (of_text (shown t) q)) refl (item-alone (own q.edition) q refl t n e).1)

module _ (q : Asked) (room : ℕ) where
  abbrev Refused : ℕ → Type 0
  Refused b = (r : Refusal) × (display q room ≡ refused r) × (r.number ≡ LineUnprintable) × (r.place.start ≡ b)

  same-refusal : (r r₂ : Refusal) → refused r ≡ refused r₂ → r ≡ r₂
  same-refusal r r₂ e = ap of e
    where
      of : Item → Refusal
      of (item x t) = r
      of (refused s) = s

  told : (b : ℕ) → Refused b → UnprintableAt q b
  unfolding display if_printable unless_unprintable roomed when among
  told b d = go (read_item q) refl d.1
    where
      room-only : (c : Bool) (t : Tree) (n : Lexeme) → when c (λ _. refused (refusal 4 0 0)) (λ _. item t n) ≡ refused d.0 → UnprintableAt q b
      room-only true t n h = let z : ◌≡◌ {A = ℕ} 4 18 = ap (λ (r : Refusal). r.number) (same-refusal (refusal 4 0 0) d.0 h) ∙ d.2 in absurd (omega arith)
      room-only false t n h = absurd (subst IsItem h tt)

      of-item : (t : Tree) (n : Lexeme) → read_item q ≡ item t n → (o : FirstByte) → unprintable t ≡ o → roomed as_line (min room line_limit) (unless_unprintable o (item t n)) ≡ refused d.0 → UnprintableAt q b
      of-item t n e clean c h = room-only (ltb (min room line_limit) (length (written FormLine t))) t n h
      of-item t n e (found_at p) c h =
          let z : p ≡ b = ap (λ (r : Refusal). r.place.start) (same-refusal (refusal LineUnprintable p (p + 1)) d.0 h) ∙ d.3 in
          record { tree = t; next = n; is_item = e; has_unprintable = c ∙ ap found_at z }

      go : (i : Item) → read_item q ≡ i → roomed as_line (min room line_limit) (if_printable i) ≡ refused d.0 → UnprintableAt q b
      go (item t n) e h = of-item t n e (unprintable t) refl h
      go (refused s) e h =
          let z : s.number ≡ 18 = ap (λ (r : Refusal). r.number) (same-refusal s d.0 h) ∙ d.2 in
          false-true _ (subst (λ (m : ℕ). among read_refusals m ≡ true) z (item-refusals q s e))

  -- its places are (b,b+1) twice
  unprintable-places : (b : ℕ) → UnprintableAt q b → display q room ≡ refused (refusal LineUnprintable b (b + 1))
  unfolding display if_printable unless_unprintable roomed
  unprintable-places b d = ap (λ (i : Item). roomed as_line (min room line_limit) (if_printable i)) d.is_item ∙ ap (λ (o : FirstByte). roomed as_line (min room line_limit) (unless_unprintable o (item d.tree d.next))) d.has_unprintable

-- a display is refused with 18 exactly there
pub unprintable-exactly : UnprintableExactly
unprintable-exactly q room = (unprintable-places q room, λ r e n. told q room r.place.start (r, e, n, refl))
