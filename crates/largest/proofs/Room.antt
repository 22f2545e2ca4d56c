-- The room for the tree of a type: `type_room` is always enough, and the construction takes all of it.
use mathlib.Core.Path.{◌≡◌, refl, ap, ap₂, sym, ◌∙◌, subst}
use mathlib.Core.Bool.{Bool, true, false, cond, ◌||◌}
use mathlib.Core.List.{List, [], ◌∷◌}
use Prim.Native.Nat.{ℕ, ◌+◌, ◌-◌, ◌*◌, ◌≤◌}
use native.Mathlib.Omega.{arith}
use borrow.Author.Tests.{ltb-true, ltb-false}
use lib.Dec.{ltb}
use lib.ListN.{length}
use Rattle.tokens.specs.declared.Token.{Token}
use Rattle.records.specs.Tree.{Tree}
use Rattle.records.specs.Stored.{records}
use Rattle.sources.specs.Source.{Lexeme, token_of}
use Rattle.grammar.specs.Items.{item, Asked, asked, read_item}
use Rattle.forms.specs.Forms.{FormNarrow, FormWide, written, narrow_limit, form_of}
use Rattle.forms.proofs.Constructs.{written-stored}
use Rattle.forms.proofs.Sizes.{narrow_size, wide-size}
use Rattle.forms.proofs.Apart.{form-narrow, form-cases}
use Rattle.frames.proofs.Held.{HeldItem, Held, item-held}
use Rattle.calls.specs.Calls.{roomed, answered_in, read, answered, read_number, read_values}
use Rattle.calls.proofs.Room.{room_for}
use Rattle.calls.proofs.Faithful.{read-item}
use Rattle.largest.specs.Largest.{bytes_of, largest, narrow_bytes, type_room}
use Rattle.largest.specs.Statements.{CallReaches, LengthInRoom, RoomGrows, RoomSuffices, RestSuffices}
use Rattle.largest.proofs.Never.{never-more}
use Rattle.largest.proofs.Largest.{reached}

-- what `type_room` is, by its two cases
room-cases : (len n : ℕ) (P : ℕ → Type 0) → (len ≤ narrow_limit → n ≤ narrow_bytes → P (8 * (n + 1))) → ((len ≤ narrow_limit → n ≤ narrow_bytes → ⊥) → P (4 + 14 * (n + 1))) → P (type_room len n)
unfolding type_room
room-cases len n P f g = go (ltb narrow_limit len) refl (ltb narrow_bytes n) refl
  where
    go : (a : Bool) → ltb narrow_limit len ≡ a → (b : Bool) → ltb narrow_bytes n ≡ b → P (cond (a || b) (4 + 14 * (n + 1)) (8 * (n + 1)))
    go true i b j = g (λ k l. omega (arith, ltb-true narrow_limit len i))
    go false i true j = g (λ k l. omega (arith, ltb-true narrow_bytes n j))
    go false i false j = f (ltb-false narrow_limit len i) (ltb-false narrow_bytes n j)

-- it does not fall as n grows
pub room-grows : RoomGrows
room-grows len n m h =
    room-cases len m (λ (r : ℕ). type_room len n ≤ r)
    (λ i j. room-cases len n (λ (r : ℕ). r ≤ 8 * (m + 1)) (λ k l. omega arith) (λ k. absurd (k i (omega arith))))
    (λ i. room-cases len n (λ (r : ℕ). r ≤ 4 + 14 * (m + 1)) (λ k l. omega arith) (λ k. omega arith))

-- a tree of at most n + 1 records
written-room : (text : List ℕ) (t : Tree) (n : ℕ) → records t ≤ n + 1 → length (written (form_of text t) t) ≤ type_room (length text) n
written-room text t n h =
    form-cases text t (λ (f : ℕ). length (written f t) ≤ type_room (length text) n)
    (λ _. let c = ap length (written-stored t) ∙ narrow_size t in room-cases (length text) n (λ (r : ℕ). length (written FormNarrow t) ≤ r) (λ i j. omega arith) (λ i. omega arith))
    (λ e. room-cases (length text) n (λ (r : ℕ). length (written FormWide t) ≤ r) (λ i j. absurd (omega (arith, sym e ∙ (form-narrow text t).1 (i, omega arith)))) (λ i. omega (arith, wide-size t)))

item_room : (q : Asked) (t : Tree) (next : Lexeme) → q.kind ≡ 3 → read_item q ≡ item t next → length (written (form_of q.text t) t) ≤ type_room (length q.text) (bytes_of t)
item_room q t next k e = written-room q.text t (bytes_of t) (never-more q t next k e)

-- an accepted read answers its stored length and the token that follows
abbrev six : ℕ → Token → List ℕ
six n t = n ∷ t.kind ∷ t.start ∷ t.end ∷ 0 ∷ 0 ∷ []

module _ (q : Asked) (room : ℕ) (t : Tree) (next : Lexeme) (e : read q room ≡ item t next) where
  read_number_lem : read_number (answered q.text (read q room)) ≡ 0
  unfolding answered answered_in read_number
  read_number_lem = rw e

  read-values : read_values (answered q.text (read q room)) ≡ six (length (written (form_of q.text t) t)) (token_of next)
  unfolding answered answered_in read_values
  read-values = rw e

pub length-in-room : LengthInRoom
length-in-room q room t next k e = rw (read-values q room t next e) (item_room q t next k (read-item q t next room e))

-- so that much room is enough
pub room-suffices : RoomSuffices
unfolding read
room-suffices q room t next k e h = ap (roomed (form_of q.text) room) e ∙ room_for (form_of q.text) room t next (omega (arith, item_room q t next k e))

pub rest-suffices : RestSuffices
unfolding bytes_of
rest-suffices q room t next k e h =
    let d : HeldItem q.text q.at t next = subst (Held q.text q.at) e (item-held q) in
    room-suffices q room t next k e (omega (arith, room-grows (length q.text) (bytes_of t) (length q.text - q.at) (omega (arith, d.from, d.follows, d.within))))

-- the construction takes 8(n + 1) bytes
pub call-reaches : CallReaches
unfolding read
call-reaches ed e n h g out l =
    let d = reached ed e n h g in
    let q : Asked = asked 3 ed (largest n) 0 in
    let t : Tree = d.tree in
    let w : length (written (form_of (largest n) t) t) ≡ 8 * (n + 1) = ap (λ (f : ℕ). length (written f t)) ((form-narrow (largest n) t).1 (omega (arith, d.long), omega (arith, d.counts))) ∙ ap length (written-stored t) ∙ narrow_size t ∙ omega (arith, d.counts) in
    let r : read q (length out) ≡ item t d.next = ap (roomed (form_of (largest n)) (length out)) d.is_item ∙ room_for (form_of (largest n)) (length out) t d.next (omega arith) in
    record { number = read_number_lem q (length out) t d.next r; values = read-values q (length out) t d.next r ∙ ap₂ six w d.at_end }
