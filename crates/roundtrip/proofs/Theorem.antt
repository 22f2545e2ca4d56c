-- Demand 3, about the definitions that the contracts of the read and the display call cite. Its words are in specs/Demand.
use mathlib.Core.Path.{◌≡◌, refl, subst, sym, ap, ◌∙◌}
use mathlib.Core.Bool.{Bool, true, false}
use mathlib.Core.List.{List, [], ◌∷◌, ◌++◌}
use Rattle.forms.specs.Unprintable.{FirstByte, clean, found_at, unprintable}
use Prim.Native.Nat.{ℕ, ◌*◌, ◌≤◌, min}
use native.Mathlib.Omega.{arith}
use lib.Dec.{ltb}
use lib.ListN.{length, drop}
use lib.Seq.{take-append_seam}
use Rattle.classes.proofs.Bools.{false-true}
use Rattle.tokens.specs.RefusalSets.{among}
use Rattle.tokens.specs.Answers.{refusal}
use Rattle.tokens.specs.declared.Refusal.{Refusal}
use Rattle.tokens.specs.declared.Token.{Token as Answer}
use Rattle.records.specs.Tree.{Tree}
use Rattle.records.specs.Stored.{records}
use Rattle.sources.specs.Source.{Lexeme, token_of}
use Rattle.answers.specs.Reading.{when}
use Rattle.grammar.specs.Items.{Item, item, refused, Asked, read_item}
use Rattle.forms.specs.Line.{shown}
use Rattle.forms.specs.Forms.{FormNarrow, FormWide, written, narrow_limit, form_of}
use Rattle.forms.proofs.Constructs.{written-stored, written-line}
use Rattle.forms.proofs.Sizes.{narrow_size, wide-size}
use Rattle.forms.proofs.Unprintables.{build-unprintable}
use Rattle.forms.proofs.Apart.{form-narrow, form-cases}
use Rattle.calls.specs.Calls.{line_limit, roomed, filled, unless_unprintable, if_printable, answered_in, read, read_buffer, answered, read_number, read_values, as_line, display, display_buffer, displayed, display_number, display_values}
use Rattle.calls.specs.RefusalSets.{item_refusals, display_refusals}
use Rattle.calls.proofs.Room.{roomed-fits, room_for}
use Rattle.calls.proofs.Faithful.{read-written}
use Rattle.calls.proofs.RefusalSets.{read-refusals, display-refusals}
use Rattle.roundtrip.specs.Demand.{Lent, read_of, display_of, NotRefused, Accepted, tree_length, line_length, line_of, line_back, eof_at, ReadBack, AnsweredBack}
use Rattle.roundtrip.specs.Theorems.{LinesBuilds, AcceptedByNumbers}
use Rattle.roundtrip.proofs.Round.{again, same_lines}

-- an item that is not refused for its room is the item; and one that is shown is clean
module _ (form : Tree → ℕ) (room : ℕ) (t : Tree) (n : Lexeme) where
  not-refused : NotRefused (roomed form room (item t n)) → roomed form room (item t n) ≡ item t n
  unfolding roomed when
  not-refused = go (ltb room (length (written (form t) t)))
    where
      go : (b : Bool) → NotRefused (when b (λ _. refused (refusal 4 0 0)) λ _. item t n) → when b (λ _. refused (refusal 4 0 0)) (λ _. item t n) ≡ item t n
      go true h = absurd h
      go false h = refl

  clean-shown : (o : FirstByte) → NotRefused (roomed form room (unless_unprintable o (item t n))) → o ≡ clean
  unfolding roomed unless_unprintable
  clean-shown clean h = refl
  clean-shown (found_at b) h = absurd h

-- the tree of a line that has no more than 65,535 bytes has at most the bytes of every tree with as many records
no_longer : (text line : List ℕ) (t u : Tree) → records u ≡ records t → length line ≤ narrow_limit → length (written (form_of line u) u) ≤ length (written (form_of text t) t)
no_longer text line t u e h =
    form-cases line u (λ (f : ℕ). length (written f u) ≤ length (written (form_of text t) t))
    (λ _. form-cases text t (λ (g : ℕ). length (written FormNarrow u) ≤ length (written g t)) (λ _. omega (arith, narrow u, narrow t, e)) (λ _. omega (arith, narrow u, wide-size t, e)))
    (λ w. form-cases text t (λ (g : ℕ). length (written FormWide u) ≤ length (written g t)) (λ v. absurd (both w v)) (λ _. omega (arith, wide-size u, wide-size t, e)))
  where
    narrow : (x : Tree) → length (written FormNarrow x) ≡ 8 * records x
    narrow x = ap length (written-stored x) ∙ narrow_size x

    both : form_of line u ≡ FormWide → form_of text t ≡ FormNarrow → ⊥
    both w v =
        let g = (form-narrow text t).0 v in
        let z = (form-narrow line u).1 (h, omega (arith, e, g.1)) in
        omega (arith, sym w ∙ z)

-- a length and a token, as the read call answers them
abbrev six : ℕ → Answer → List ℕ
six k e = k ∷ e.kind ∷ e.start ∷ e.end ∷ 0 ∷ 0 ∷ []

-- what the answers of an accepted item say
module _ (i : Lent) (t : Tree) (n : Lexeme) where
  abbrev tree : List ℕ
  tree = written (form_of i.asks.text t) t

  tree-length : read_of i ≡ item t n → tree_length i ≡ length tree
  unfolding answered answered_in read_values
  tree-length e = rw e

  read-values : read_of i ≡ item t n → read_values (answered i.asks.text (read_of i)) ≡ six (tree_length i) (token_of n)
  unfolding answered answered_in read_values
  read-values e = rw e

  tree-written : read_of i ≡ item t n → read_buffer i.asks i.for_tree ≡ tree ++ drop (length tree) i.for_tree
  tree-written e = read-written i.asks t n i.for_tree e

  line-length : display_of i ≡ item t n → line_length i ≡ length (shown t)
  unfolding displayed display_values
  line-length e = rw (e, written-line t)

  display-values : display_of i ≡ item t n → display_values (displayed (display_of i)) ≡ length (shown t) ∷ 0 ∷ 0 ∷ 0 ∷ 0 ∷ 0 ∷ []
  unfolding displayed display_values
  display-values e = rw (e, written-line t)

  line-written : display_of i ≡ item t n → display_buffer i.asks i.for_line ≡ shown t ++ drop (length (shown t)) i.for_line
  unfolding display_buffer filled
  line-written e = rw (e, written-line t)

  line-is : display_of i ≡ item t n → line_of i ≡ shown t
  line-is e = rw (line-length e, line-written e) (take-append_seam (shown t) (drop (length (shown t)) i.for_line))

-- the item, its two answers, and that both fit
record Known (i : Lent) (t : Tree) (n : Lexeme) : Type 0 where
  is_item : read_item i.asks ≡ item t n
  is_clean : unprintable t ≡ clean
  is_shown : display_of i ≡ item t n
  tree_fits : length (tree i t n) ≤ length i.for_tree
  line_fits : length (shown t) ≤ min (length i.for_line) line_limit

-- the display of a clean item looks at its room alone
shown-clean : (room : ℕ) (q : Asked) (t : Tree) (n : Lexeme) → read_item q ≡ item t n → unprintable t ≡ clean → display q room ≡ roomed as_line (min room line_limit) (item t n)
unfolding display if_printable unless_unprintable
shown-clean room q t n e c =
    let m : ℕ = min room line_limit in
    ap (λ (j : Item). roomed as_line m (if_printable j)) e ∙ ap (λ (o : FirstByte). roomed as_line m (unless_unprintable o (item t n))) c

known : (i : Lent) (t : Tree) (n : Lexeme) → Accepted i t n → Known i t n
unfolding read display if_printable unless_unprintable
known i t n a =
    let r = roomed-fits (form_of i.asks.text) (length i.for_tree) (read_item i.asks) t n a.is_read in
    let m : ℕ = min (length i.for_line) line_limit in
    let h : NotRefused (roomed as_line m (unless_unprintable (unprintable t) (item t n))) = subst (λ (j : Item). NotRefused (roomed as_line m (if_printable j))) r.0 a.is_shown in
    let c : unprintable t ≡ clean = clean-shown as_line m t n (unprintable t) h in
    let g : NotRefused (roomed as_line m (item t n)) = subst (λ (o : FirstByte). NotRefused (roomed as_line m (unless_unprintable o (item t n)))) c h in
    let d : display_of i ≡ item t n = shown-clean (length i.for_line) i.asks t n r.0 c ∙ not-refused as_line m t n g in
    let l = roomed-fits as_line m (if_printable (read_item i.asks)) t n d in
    record { is_item = r.0; is_clean = c; is_shown = d; tree_fits = r.1; line_fits = rw (written-line t) at l.1 }

-- a clean item with room for its tree and its line
accept : (i : Lent) (t : Tree) (n : Lexeme) → read_item i.asks ≡ item t n → unprintable t ≡ clean → length (tree i t n) ≤ length i.for_tree → length (shown t) ≤ min (length i.for_line) line_limit
    → (read_of i ≡ item t n) × (display_of i ≡ item t n)
unfolding read
accept i t n e c g h = (
  ap (roomed (form_of i.asks.text) (length i.for_tree)) e ∙ room_for (form_of i.asks.text) (length i.for_tree) t n g,
  shown-clean (length i.for_line) i.asks t n e c ∙ room_for as_line (min (length i.for_line) line_limit) t n (rw (written-line t) h),
)

-- two accepted items of one kind, whatever the edition of each, have the same line exactly when their builds are equal
pub lines-builds : LinesBuilds
lines-builds i j t u n m k a b =
    let x = known i t n a in
    let y = known j u m b in
    let l = line-is i t n x.is_shown in
    let r = line-is j u m y.is_shown in
    let s = same_lines i.asks j.asks t u n m k x.is_item y.is_item in
    (λ e. s.0 (sym l ∙ e ∙ r), λ e. l ∙ s.1 e ∙ sym r)

-- the length that the display answers is the line's; the item's own buffers have room for its tree and its line
pub line-counted : (i : Lent) (t : Tree) (n : Lexeme) → Accepted i t n → length (line_of i) ≡ line_length i
line-counted i t n a = let d = (known i t n a).is_shown in ap length (line-is i t n d) ∙ sym (line-length i t n d)

pub own_room : (i : Lent) (t : Tree) (n : Lexeme) → Accepted i t n → (tree_length i ≤ length i.for_tree) × (line_length i ≤ length i.for_line)
own_room i t n a =
    let k = known i t n a in
    (rw (tree-length i t n a.is_read) k.tree_fits, rw (line-length i t n k.is_shown) (omega (arith, k.line_fits)))

-- every accepted item's line, read back from 0 as that kind in its edition, is accepted to its last byte, with the same build and the
-- same line, in any buffers that are as long as the item's tree and line
module _ (i : Lent) (t : Tree) (n : Lexeme) (a : Accepted i t n) (out line_out : List ℕ) (g : tree_length i ≤ length out) (h : line_length i ≤ length line_out) where
  pub reads-back : ReadBack i t (line_back i out line_out)
  reads-back =
      let j : Lent = line_back i out line_out in
      let k = known i t n a in
      let l = line-is i t n k.is_shown in
      let b = again i.asks t n k.is_item (omega (arith, k.line_fits)) in
      let s : length (written (form_of (line_of i) b.tree) b.tree) ≤ tree_length i = omega (arith, no_longer i.asks.text (line_of i) t b.tree b.same_records (omega (arith, ap length l, k.line_fits)), tree-length i t n a.is_read) in
      let m : shown b.tree ≡ line_of i = b.same_line ∙ sym l in
      let v : length (shown b.tree) ≡ line_length i = ap length m ∙ line-counted i t n a in
      let c = accept j b.tree b.next (rw l b.is_item) ((build-unprintable t b.tree (sym b.same_build)).0 k.is_clean) (omega (arith, s, g)) (omega (arith, v, h, k.line_fits, line-length i t n k.is_shown)) in
      let w = tree-length j b.tree b.next c.0 in
      record {
        tree = b.tree;
        next = b.next;
        accepted = record { is_read = c.0; is_shown = subst NotRefused (sym c.1) tt };
        at_end = rw l b.at_end;
        same_build = b.same_build;
        tree_written = tree-written j b.tree b.next c.0 ∙ rw w;
        same_line = line-is j b.tree b.next c.1 ∙ m;
        no_longer_tree = omega (arith, w, s);
        same_line_length = line-length j b.tree b.next c.1 ∙ v;
      }

  -- the same in the calls' own numbers, and the bytes that the display writes
  pub answers-back : AnsweredBack i (line_back i out line_out)
  unfolding answered answered_in read_number displayed display_number
  answers-back =
      let j : Lent = line_back i out line_out in
      let b = reads-back in
      let r = b.accepted.is_read in
      let d = (known j b.tree b.next b.accepted).is_shown in
      let m : shown b.tree ≡ line_of i = sym (line-is j b.tree b.next d) ∙ b.same_line in
      let v : length (shown b.tree) ≡ line_length i = ap length m ∙ line-counted i t n a in
      record {
        read_number_is = ap (λ (x : Item). read_number (answered j.asks.text x)) r;
        read_values_are = read-values j b.tree b.next r ∙ ap (six (tree_length j)) (b.at_end ∙ ap eof_at (line-counted i t n a));
        no_longer_tree = b.no_longer_tree;
        display_number_is = ap (λ (x : Item). display_number (displayed x)) d;
        display_values_are = display-values j b.tree b.next d ∙ rw v;
        display_writes = line-written j b.tree b.next d ∙ rw (v, m);
      }

-- no refusal has the number 0: an item is accepted where both numbers are 0
abbrev Numbered : List ℕ → Item → Type 0
Numbered set x = (r : Refusal) → x ≡ refused r → among set r.number ≡ true

never-0 : (A : Type 0) (set : List ℕ) (n : ℕ) → among set 0 ≡ false → n ≡ 0 → among set n ≡ true → A
never-0 A set n z e h = false-true A (sym z ∙ subst (λ (m : ℕ). among set m ≡ true) e h)

read-item : (text : List ℕ) (x : Item) → Numbered item_refusals x → read_number (answered text x) ≡ 0 → (t : Tree) × (n : Lexeme) × (x ≡ item t n)
unfolding answered answered_in read_number among
read-item text (item t n) h e = (t, n, refl)
read-item text (refused r) h e = never-0 _ item_refusals r.number refl e (h r refl)

shown-item : (x : Item) → Numbered display_refusals x → display_number (displayed x) ≡ 0 → NotRefused x
unfolding displayed display_number among
shown-item (item t n) h e = tt
shown-item (refused r) h e = never-0 ⊥ display_refusals r.number refl e (h r refl)

pub accepted-by-numbers : AcceptedByNumbers
accepted-by-numbers i g h =
    let r = read-item i.asks.text (read_of i) (read-refusals i.asks (length i.for_tree)) g in
    (r.0, r.1, record { is_read = r.2; is_shown = shown-item (display_of i) (display-refusals i.asks (length i.for_line)) h })
