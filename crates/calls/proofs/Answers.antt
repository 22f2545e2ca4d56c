-- What each return of the calls' code gives.
use mathlib.Core.Path.{◌≡◌, refl, ap, sym, ◌∙◌, subst}
use mathlib.Core.Bool.{Bool, true, false, cond, ◌&&◌, ◌||◌}
use mathlib.Core.List.{List, [], ◌∷◌, ◌++◌}
use Prim.Native.Nat.{ℕ, zero, suc, ◌+◌, ◌*◌, ◌<◌, ◌≤◌, min}
use native.Mathlib.Omega.{arith}
use native.Mathlib.Nat.{not-suc-le-zero, le_of_suc-le-suc, zero-min, min-zero, suc-min-suc}
use borrow.Author.Tests.{lt-ltb, le-ltb, ltb-true, ltb-false, eqb-true}
use lib.Dec.{eqb, ltb}
use lib.ListN.{length, take, drop}
use lib.Seq.{sets, take-append-le, take_all}
use Rattle.classes.proofs.Bools.{false-true, and_left}
use Rattle.tokens.specs.Refusals.{NoRoom, LineUnprintable}
use Rattle.tokens.specs.RefusalSets.{among}
use Rattle.tokens.specs.Answers.{refusal, token}
use Rattle.tokens.specs.declared.Refusal.{Refusal}
use Rattle.tokens.proofs.Faults.{unless_not, unless-faulty}
use Rattle.tokens.specs.declared.Token.{Token as First}
use Rattle.records.specs.Tree.{Tree}
use Rattle.records.specs.Stored.{records}
use Rattle.records.proofs.Runs.{sets-front}
use Rattle.sources.specs.Source.{Lexeme, LexResult, token_of}
use Rattle.answers.specs.Reading.{Ans, ok, no, look, when}
use Rattle.grammar.specs.Names.{chain}
use Rattle.grammar.specs.Values.{value}
use Rattle.grammar.specs.Types.{levels, read_type}
use Rattle.grammar.specs.Binds.{read_bind_list, read_lambda_list}
use Rattle.grammar.specs.Items.{Item, item, refused, read_kind, followed, finished, Asked, asked, no_kind, fault_of, reading, read_item}
use Rattle.grammar.proofs.Asked.{in_order_lem}
use Rattle.forms.specs.Forms.{FormNarrow, FormLine, FormWide, is_line, front, laid, written, narrow_limit, form_of}
use Rattle.frames.proofs.Faithful.{read_refusals, item-refusals}
use Rattle.forms.specs.code.Spots.{last, cap, Placed}
use Rattle.forms.specs.declared.Spot.{Spot}
use Rattle.forms.proofs.Placing.{placed-both}
use Rattle.forms.proofs.Constructs.{written-stored}
use Rattle.forms.proofs.Sizes.{narrow_size, wide-size}
use Rattle.parts.specs.declared.Part.{Part}
use Rattle.parts.specs.code.Meets.{Fits, held, Refuses, Had, Meets, Follows, ReadsBy}
use Rattle.parts.proofs.Contracts.{handed-on}
use Rattle.parts.proofs.Held.{held-end, next-found, next-refused}
use Rattle.calls.specs.declared.ItemKind.{ItemKind}
use Rattle.calls.specs.declared.ItemKind.TheVariants.{Name, Value, «Type», BindList, LambdaBindList}
use Rattle.calls.specs.code.Kind.{number}
use Rattle.calls.specs.Calls.{line_limit, accepted, roomed, filled, if_printable, answered_in, read, read_buffer, answered, as_line, display, display_buffer, displayed}
use Rattle.calls.specs.code.Given.{Admits, at_start, read_from, item_from, first_of, outgrown, first_form, last_form, room_in, widened, unprintable_at, replaced_by, in_place, UnprintableFrom, LaidDown, Gives, Widens, Longer, Lays, answer_of, buffer_of, Calls, Displays}
use Rattle.calls.specs.declared.Accepted.{Accepted}
use Rattle.calls.specs.declared.Made.{Made}
use Rattle.calls.proofs.Unprintables.{item-only, not-item, read-clean, read-unprintable}
use Rattle.std.specs.Prelude.{Some, None, Result, Ok, Err, ⊤, ℕ, IsErr, IsErrAnd}

-- an item by its kind: which reader reads it
module _ (kind : ItemKind) (a : Lexeme) where
  pub kind-name : kind ≡ Name → read_kind (number kind) a ≡ chain a
  unfolding read_kind when
  kind-name k = rw k

  pub kind-value : kind ≡ Value → read_kind (number kind) a ≡ value a
  unfolding read_kind when
  kind-value k = rw k

  pub kind-type : kind ≡ «Type» → read_kind (number kind) a ≡ read_type levels a
  unfolding read_kind when
  kind-type k = rw k

  pub kind-bind : kind ≡ BindList → read_kind (number kind) a ≡ read_bind_list a
  unfolding read_kind when
  kind-bind k = rw k

  pub kind-lambda : kind ≡ LambdaBindList → read_kind (number kind) a ≡ read_lambda_list a
  unfolding read_kind when
  kind-lambda k = rw k

-- a kind has a number that is one
pub kind-numbered : (kind : ItemKind) (n : ℕ) → number kind ≡ n → no_kind n ≡ false
kind-numbered kind n e = rw (sym e) (go kind)
  where
    go : (k : ItemKind) → no_kind (number k) ≡ false
    go Name = refl
    go Value = refl
    go «Type» = refl
    go BindList = refl
    go LambdaBindList = refl

-- a fault that `?` hands on
pub admits-no : (n : ℕ) (fault : Result ⊤ Refusal) (y : Result ItemKind Refusal) (r : Refusal) → IsErr y × IsErrAnd y (λ q. q ≡ r) → fault ≡ Err r → Admits n fault y
admits-no n fault y r h e = rw (handed-on y r h) e

-- an item behind what stands in front
pub laid-down : (form : ℕ) (ask : Asked) (a : First) (l k m : List ℕ) (s q : Spot) (r : Result Part Refusal) → length l ≤ last → s ≡ at_start → Placed l s (front form) q k
    → ReadsBy (laid form) ask.edition ask.text (read_kind ask.kind) a q k r m → LaidDown form ask a l r m
laid-down form ask a l k m s q r h e d w = record { from = q; fronted = k; short = h; in_front = subst (λ (z : Spot). Placed l z (front form) q k) e d; reads = w }

-- the item by what the walk answers
module _ (form : ℕ) (ask : Asked) (a : First) (l m : List ℕ) (f : Fits ask.text a) where
  item_refused : (r : Refusal) → LaidDown form ask a l (Err r) m → item_from ask a ≡ refused r
  unfolding Meets Refuses finished followed
  item_refused r d = go (read_from ask a) (d.reads.meets f)
    where
      go : (y : Ans Tree) → Refuses y r → finished y ≡ refused r
      go (ok z u) e = ap (followed z) e
      go (no r₂) e = ap refused e

  -- what the walk read, and the item that this is
  record Laid (p : Part) : Type 0 where
    what : Tree
    is : item_from ask a ≡ item what (held ask.edition ask.text p.next)
    bytes : Placed l at_start (written form what) p.to m
    next : token_of (held ask.edition ask.text p.next) ≡ p.next

  item-laid : (p : Part) → LaidDown form ask a l (Ok p) m → Laid p
  unfolding Meets Follows finished followed written
  item-laid p d =
      let h : Had (laid form) ask.edition ask.text (read_from ask a) d.from d.fronted p m = d.reads.meets f in
      let n = next-found ask.edition ask.text p.end p.next d.reads.goes.1 in
      let e = held-end ask.edition ask.text p.next n.fits in
      record {
        what = h.what;
        is = ap finished h.is ∙ ap (followed h.what) n.is;
        bytes = placed-both l d.fronted m (front form) (laid form h.what) at_start d.from p.to d.short d.in_front h.bytes;
        next = ap (token p.next.kind p.next.start) e;
      }

-- a run of bytes at the front of a buffer that has room for it
sets-whole : (xs l : List ℕ) → length xs ≤ length l → sets l 0 xs ≡ xs ++ drop (length xs) l
sets-whole [] l h = refl
sets-whole (x ∷ xs) [] h = absurd (not-suc-le-zero h)
sets-whole (x ∷ xs) (a ∷ l) h = sets-front xs x l 0 ∙ ap (λ (y : List ℕ). x ∷ y) (sets-whole xs l (le_of_suc-le-suc h))

-- what was laid down in a buffer of its own
made_in : (xs z made : List ℕ) (n : ℕ) → made ≡ sets z 0 xs → n ≡ length xs → length made ≡ length z → n ≤ length made → take n made ≡ xs
made_in xs z made n w e f h =
    rw (w, e, sets-whole xs z (omega arith)) (take-append-le (length xs) xs (drop (length xs) z) (omega arith) ∙ take_all (length xs) xs (omega arith))

-- writing an item that is accepted
module _ (form : ℕ) (ask : Asked) (a : First) (l m : List ℕ) where
  again : (r : Result Part Refusal) → LaidDown form ask a l r m → Fits ask.text a → (x : Tree) (t : Lexeme) → item_from ask a ≡ item x t → m ≡ sets l 0 (written form x)
  again (Ok p) d f x t i =
      let v = item-laid form ask a l m f p d in
      v.bytes.holds ∙ ap (λ (z : Tree). sets l 0 (written form z)) (item-only v.what x (held ask.edition ask.text p.next) t (sym v.is ∙ i))
  again (Err r) d f x t i = absurd (not-item x t r (sym (item_refused form ask a l m f r d) ∙ i))

-- the answers
module _ (form : Tree → ℕ) (room : ℕ) (i : Item) (l : List ℕ) where
  gives-by : (j : Item) (a : Result Accepted Refusal) (m : List ℕ) → roomed form room i ≡ j → a ≡ answered_in form j → m ≡ filled form j l → Gives form room i l a m
  gives-by j a m e f g = record { answer = f ∙ ap (answered_in form) (sym e); buffer = g ∙ ap (λ (k : Item). filled form k l) (sym e) }

  gives-refused : (a : Result Accepted Refusal) (r : Refusal) → i ≡ refused r → a ≡ Err r → Gives form room i l a l
  unfolding roomed filled answered_in
  gives-refused a r e f = gives-by (refused r) a l (ap (roomed form room) e) f refl

  module _ (x : Tree) (t : Lexeme) (e : i ≡ item x t) where
    gives-long : (a : Result Accepted Refusal) → room < length (written (form x) x) → a ≡ Err (refusal 4 0 0) → Gives form room i l a l
    unfolding roomed filled answered_in when
    gives-long a h f = gives-by (refused (refusal 4 0 0)) a l (ap (roomed form room) e ∙ rw (lt-ltb room (length (written (form x) x)) h)) f refl

    gives-item : (a : Result Accepted Refusal) (m : List ℕ) → room ≤ length l → length (written (form x) x) ≤ room → a ≡ accepted (length (written (form x) x)) (token_of t) → m ≡ sets l 0 (written (form x) x) → Gives form room i l a m
    unfolding roomed filled answered_in when
    gives-item a m q h f g =
        gives-by (item x t) a m (ap (roomed form room) e ∙ rw (le-ltb room (length (written (form x) x)) h)) f (g ∙ sets-whole (written (form x) x) l (omega arith))

-- two forms that are one for the item at hand
module _ (form form₂ : Tree → ℕ) (room : ℕ) (l : List ℕ) where
  abbrev Alike : Item → Type 0
  Alike i = (answered_in form (roomed form room i) ≡ answered_in form₂ (roomed form₂ room i)) × (filled form (roomed form room i) l ≡ filled form₂ (roomed form₂ room i) l)

  alike : (x : Tree) (t : Lexeme) → form x ≡ form₂ x → Alike (item x t)
  unfolding roomed filled answered_in when
  alike x t e = rw e (go (ltb room (length (written (form₂ x) x))))
    where
      go : (b : Bool) → (answered_in form (when b (λ _. refused (refusal 4 0 0)) λ _. item x t) ≡ answered_in form₂ (when b (λ _. refused (refusal 4 0 0)) λ _. item x t))
          × (filled form (when b (λ _. refused (refusal 4 0 0)) λ _. item x t) l ≡ filled form₂ (when b (λ _. refused (refusal 4 0 0)) λ _. item x t) l)
      go true = (refl, refl)
      go false = rw e (refl, refl)

  gives_as : (i : Item) (r : Result Accepted Refusal) (m : List ℕ) → ((x : Tree) (t : Lexeme) → i ≡ item x t → form x ≡ form₂ x) → Gives form room i l r m → Gives form₂ room i l r m
  unfolding roomed filled answered_in
  gives_as (item x t) r m h w = let q = alike x t (h x t refl) in record { answer = w.answer ∙ q.0; buffer = w.buffer ∙ q.1 }
  gives_as (refused q) r m h w = record { answer = w.answer; buffer = w.buffer }

-- a position that stopped at the largest is past every number before it, as what it would be is
long-capped : (room n len : ℕ) → room < last → n ≡ cap len → ltb room n ≡ ltb room len
long-capped room n len h e = go (ltb last len) refl
  where
    go : (b : Bool) → ltb last len ≡ b → ltb room n ≡ ltb room len
    go false f = let g = ltb-false last len f in let z : n ≡ len = omega arith in rw z
    go true f = let g = ltb-true last len f in lt-ltb room n (omega arith) ∙ sym (lt-ltb room len (omega arith))

-- a tree that is laid down in n bytes has outgrown its form exactly where its records say so
module _ (form n : ℕ) (x : Tree) (e : n ≡ cap (length (written form x))) where
  narrow-long : form ≡ FormNarrow → n ≡ cap (8 * records x)
  narrow-long k = e ∙ ap cap (ap (λ (f : ℕ). length (written f x)) k ∙ ap length (written-stored x) ∙ narrow_size x)

  grown : outgrown form n ≡ outgrown form (8 * records x)
  grown = go (eqb form FormNarrow) refl
    where
      go : (b : Bool) → eqb form FormNarrow ≡ b → outgrown form n ≡ outgrown form (8 * records x)
      go true k = rw k (long-capped narrow_limit n (8 * records x) (omega arith) (narrow-long (eqb-true form FormNarrow k)))
      go false k = rw k refl

room-least : (form n : ℕ) → room_in form n ≤ n
room-least form n = go (is_line form)
  where
    go : (b : Bool) → cond b (min n line_limit) n ≤ n
    go true = omega arith
    go false = omega arith

-- an item that is written wide, by its n bytes in the narrow form
module _ (ask : Asked) (a : First) (n : ℕ) (next : First) (l : List ℕ) (short : length l < last) (w : ℕ) (y : w ≡ widened n) where
  pub widened-long : (r : Result Accepted Refusal) → length l < w → r ≡ Err (refusal 4 0 0) → Widens ask a n next l r l
  widened-long r h u f x t i o e = gives-long (λ _. FormWide) (length l) (item x t) l x t refl r (omega (arith, wide-size x, y, h, e)) u

  pub widened-done : (d : Result Part Refusal) (m : List ℕ) → w ≤ length l → LaidDown FormWide ask a l d m → Widens ask a n next l (accepted w next) m
  widened-done d m h v f x t i o e =
      let z : w ≡ length (written FormWide x) = omega (arith, wide-size x, y, h, e, short) in
      gives-item (λ _. FormWide) (length l) (item x t) l x t refl (accepted w next) m (omega arith) (omega (arith, z, h))
      (ap (λ (k : ℕ). accepted k next) z ∙ ap (accepted (length (written FormWide x))) (sym o))
      (again FormWide ask a l m d v f x t i)

-- an item that is laid down once more, by its n bytes in the form
module _ (form : ℕ) (ask : Asked) (a : First) (n : ℕ) (next : First) (l : List ℕ) (short : length l < last) (g : Bool) (y : g ≡ outgrown form n) where
  pub longer-wide : (r : Result Accepted Refusal) (m : List ℕ) → g ≡ true → Widens ask a n next l r m → Longer form ask a n next l r m
  longer-wide r m c v f x t i o e =
      let k : form ≡ FormNarrow = eqb-true form FormNarrow (and_left (eqb form FormNarrow) _ (sym y ∙ c)) in
      let q : room_in form (length l) ≡ length l = ap (λ (z : ℕ). room_in z (length l)) k in
      let u : outgrown form (8 * records x) ≡ true = sym (grown form n x e) ∙ sym y ∙ c in
      rw q (gives_as (λ _. FormWide) (last_form form) (length l) l (item x t) r m (λ z v₂ j. rw (ap (λ (w : Tree). outgrown form (8 * records w)) (sym (item-only x z t v₂ j)) ∙ u) refl)
      (v f x t i o (narrow-long form n x e k)))

  module _ (room : ℕ) (q : room ≡ room_in form (length l)) (c : g ≡ false) where
    stays : (x : Tree) → n ≡ cap (length (written form x)) → last_form form x ≡ form
    stays x e = rw (sym (grown form n x e) ∙ sym y ∙ c) refl

    pub longer-long : (r : Result Accepted Refusal) → room < n → r ≡ Err (refusal 4 0 0) → Longer form ask a n next l r l
    longer-long r h u f x t i o e = gives-long (last_form form) (room_in form (length l)) (item x t) l x t refl r (rw (stays x e) (omega (arith, e, q, h))) u

    pub longer-done : (d : Result Part Refusal) (m : List ℕ) → n ≤ room → LaidDown form ask a l d m → Longer form ask a n next l (accepted n next) m
    longer-done d m h v f x t i o e =
        let z : n ≡ length (written form x) = omega (arith, e, q, h, short, room-least form (length l)) in
        gives-item (last_form form) (room_in form (length l)) (item x t) l x t refl (accepted n next) m (room-least form (length l))
        (rw (stays x e) (omega (arith, z, q, h)))
        (rw (stays x e) (ap (λ (k : ℕ). accepted k next) z ∙ ap (accepted (length (written form x))) (sym o)))
        (rw (stays x e) (again form ask a l m d v f x t i))

-- what fits two bytes stays in its form, and fits a line
module _ (form n : ℕ) (h : n ≤ narrow_limit) where
  not-grown : outgrown form n ≡ false
  not-grown = rw (le-ltb narrow_limit n h) (go (eqb form FormNarrow))
    where
      go : (b : Bool) → (b && false) ≡ false
      go true = refl
      go false = refl

  room-left : (k : ℕ) → n ≤ k → n ≤ room_in form k
  room-left k i = go (is_line form)
    where
      go : (b : Bool) → n ≤ cond b (min k line_limit) k
      go true = omega arith
      go false = i

-- a refusal that `?` hands on
pub lays-handed : (form : ℕ) (ask : Asked) (a : First) (l m : List ℕ) (y : Result Made Refusal) (r : Refusal) (made : List ℕ) → IsErr y × IsErrAnd y (λ q. q ≡ r)
    → Lays form ask a l (Err r) m → Lays form ask a l (answer_of y) (buffer_of y made m)
unfolding answer_of buffer_of
lays-handed form ask a l m y r made h d = rw (handed-on y r h) d

pub calls-handed : (form : ℕ) (ask : Asked) (first : Result First Refusal) (l m : List ℕ) (y : Result Accepted Refusal) (r : Refusal) → IsErr y × IsErrAnd y (λ q. q ≡ r)
    → Calls form ask first l (Err r) m → Calls form ask first l y m
calls-handed form ask first l m y r h d = rw (handed-on y r h) d

-- the item of a first token: z is the buffer that it is laid down in first, and becomes made
module _ (form : ℕ) (ask : Asked) (a : First) (z made l : List ℕ) where
  pub lay-refused : (d : Result Part Refusal) (r : Refusal) → LaidDown form ask a z d made → d ≡ Err r → Lays form ask a l (Err r) l
  lay-refused d r w e f =
      gives-refused (last_form form) (room_in form (length l)) (item_from ask a) l (Err r) r
      (item_refused form ask a z made f r (subst (λ (q : Result Part Refusal). LaidDown form ask a z q made) e w)) refl

  module _ (d : Result Part Refusal) (p : Part) (w : LaidDown form ask a z d made) (e : d ≡ Ok p) where
    view : (f : Fits ask.text a) → Laid form ask a z made f p
    view f = item-laid form ask a z made f p (subst (λ (q : Result Part Refusal). LaidDown form ask a z q made) e w)

    ends : (f : Fits ask.text a) → p.to.pos ≡ cap (length (written form (view f).what))
    ends f = let e = ap (λ (k : Spot). k.pos) (view f).bytes.ends in omega (arith, e)

    pub lay-longer : (r : Result Accepted Refusal) (m : List ℕ) → Longer form ask a p.to.pos p.next l r m → Lays form ask a l r m
    lay-longer r m v f = let h = view f in rw h.is (v f h.what (held ask.edition ask.text p.next) h.is h.next (ends f))

    module _ (small : length z ≤ narrow_limit) (same : length made ≡ length z) (b : p.to.pos ≤ length made) where
      whole : (f : Fits ask.text a) → p.to.pos ≡ length (written form (view f).what)
      whole f = omega (arith, ends f, b, same, small)

      stays-short : (f : Fits ask.text a) → last_form form (view f).what ≡ form
      stays-short f = rw (sym (grown form p.to.pos (view f).what (ends f)) ∙ not-grown form p.to.pos (omega (arith, b, same, small))) refl

      pub lay-long : (r : Result Accepted Refusal) → length l < p.to.pos → r ≡ Err (refusal 4 0 0) → Lays form ask a l r l
      lay-long r c u f =
          let h = view f in
          gives-long (last_form form) (room_in form (length l)) (item_from ask a) l h.what (held ask.edition ask.text p.next) h.is r
          (rw (stays-short f) (omega (arith, whole f, c, room-least form (length l)))) u

      pub lay_done : (m : List ℕ) → p.to.pos ≤ length l → m ≡ sets l 0 (take p.to.pos made) → Lays form ask a l (accepted p.to.pos p.next) m
      lay_done m c v f =
          let h = view f in
          let n = whole f in
          let k = made_in (written form h.what) z made p.to.pos h.bytes.holds n same b in
          gives-item (last_form form) (room_in form (length l)) (item_from ask a) l h.what (held ask.edition ask.text p.next) h.is (accepted p.to.pos p.next) m (room-least form (length l))
          (rw (stays-short f) (omega (arith, n, room-left form p.to.pos (omega (arith, b, same, small)) (length l) c)))
          (rw (stays-short f) (ap (λ (x : ℕ). accepted x p.next) n ∙ ap (accepted (length (written form h.what))) (sym h.next)))
          (rw (stays-short f) (v ∙ ap (sets l 0) k))

-- the item at an offset: the refusal of a fault, or what the text has
module _ (form : ℕ) (ask : Asked) (first : Result First Refusal) (l : List ℕ) where
  pub call-faulty : (r : Refusal) → fault_of ask ≡ Err r → Calls form ask first l (Err r) l
  unfolding read_item
  call-faulty r h f = gives-refused (last_form form) (room_in form (length l)) (read_item ask) l (Err r) r (unless-faulty refused (fault_of ask) _ r h) refl

  module _ (h : fault_of ask ≡ Ok tt) where
    item-goes : read_item ask ≡ finished (reading ask)
    unfolding read_item
    item-goes = unless_not refused (fault_of ask) _ h

    pub call-bad : (r : Refusal) → first ≡ Err r → Calls form ask first l (Err r) l
    unfolding finished look
    call-bad r b f =
        let d = in_order_lem ask h in
        gives-refused (last_form form) (room_in form (length l)) (read_item ask) l (Err r) r
        (item-goes ∙ ap (λ (y : LexResult). finished (look y (read_kind ask.kind))) (next-refused ask.edition ask.text ask.at d.short d.inside r (sym f ∙ b))) refl

    pub call-found : (kind : ItemKind) → number kind ≡ ask.kind → (a : First) (r : Result Accepted Refusal) (m : List ℕ) → first ≡ Ok a → Lays form (asked (number kind) ask.edition ask.text 0) a l r m → Calls form ask first l r m
    unfolding look
    call-found kind k a r m b u f =
        let n = next-found ask.edition ask.text ask.at a (sym f ∙ b) in
        let i : read_item ask ≡ item_from ask a = item-goes ∙ ap (λ (y : LexResult). finished (look y (read_kind ask.kind))) n.is in
        let e : item_from (asked (number kind) ask.edition ask.text 0) a ≡ item_from ask a = ap (λ (j : ℕ). finished (read_kind j (held ask.edition ask.text a))) k in
        subst (λ (j : Item). Gives (last_form form) (room_in form (length l)) j l r m) (e ∙ sym i) (u n.fits)

-- the line's length alone
abbrev pub line_of : Result Accepted Refusal → Result ℕ Refusal
line_of (Ok a) = Ok a.len
line_of (Err r) = Err r

-- the form of a read
first-last : (text : List ℕ) (x : Tree) → last_form (first_form text) x ≡ form_of text x
unfolding form_of
first-last text x = go (ltb narrow_limit (length text))
  where
    go : (b : Bool) → last_form (cond b FormWide FormNarrow) x ≡ cond (b || ltb narrow_limit (8 * records x)) FormWide FormNarrow
    go true = refl
    go false = refl

first-room : (text : List ℕ) (n : ℕ) → room_in (first_form text) n ≡ n
first-room text n = go (ltb narrow_limit (length text))
  where
    go : (b : Bool) → room_in (cond b FormWide FormNarrow) n ≡ n
    go true = refl
    go false = refl

-- the two calls
module _ (ask : Asked) (first : Result First Refusal) (l m : List ℕ) where
  pub read-given : (form : ℕ) (r : Result Accepted Refusal) → first ≡ first_of ask → form ≡ first_form ask.text → Calls form ask first l r m
      → (r ≡ answered ask.text (read ask (length l))) × (m ≡ read_buffer ask l)
  unfolding read read_buffer answered
  read-given form r f e d =
      let w = gives_as (last_form (first_form ask.text)) (form_of ask.text) (length l) l (read_item ask) r m (λ x _ _. first-last ask.text x) (rw (e, first-room ask.text (length l)) at d f) in
      (w.answer, w.buffer)

  line-displayed : (i : Item) → line_of (answered_in as_line i) ≡ displayed i
  unfolding answered_in displayed
  line-displayed (item x t) = refl
  line-displayed (refused r) = refl

  -- where no byte is unprintable, the display is the call
  pub display-given : None ≡ unprintable_at ask.kind ask.text first → (d : Result Accepted Refusal) (r : Result ℕ Refusal) → Calls FormLine ask first l d m → r ≡ line_of d → Displays ask first l r m
  unfolding display display_buffer
  display-given g d r w e =
      let z : first ≡ first_of ask → read_item ask ≡ if_printable (read_item ask) = λ f. sym (read-clean ask first f g) in
      let k : ℕ = min (length l) line_limit in
      record {
        answer = λ f. e ∙ ap line_of (w f).answer ∙ line-displayed (roomed as_line k (read_item ask)) ∙ ap (λ (i : Item). displayed (roomed as_line k i)) (z f);
        buffer = λ f. (w f).buffer ∙ ap (λ (i : Item). filled as_line (roomed as_line k i) l) (z f);
      }

-- what is said of an answer where no room matters, and of an item
abbrev pub said_of : Refusal → Result Accepted Refusal → Refusal
said_of q (Ok a) = q
said_of q (Err r) = replaced_by q r

module _ (ask : Asked) (first : Result First Refusal) (q : Refusal) (l m : List ℕ) where
  said : (i : Item) → read_item ask ≡ i → Err (said_of q (answered_in as_line (roomed as_line (min (length l) line_limit) i))) ≡ displayed (in_place q i)
  unfolding roomed answered_in displayed in_place when among
  said (item x t) e = ap Err (go (ltb (min (length l) line_limit) (length (written FormLine x))))
    where
      go : (b : Bool) → said_of q (answered_in as_line (when b (λ _. refused (refusal NoRoom 0 0)) λ _. item x t)) ≡ q
      go true = refl
      go false = refl
  said (refused r) e = ap Err (go (eqb r.number NoRoom) refl)
    where
      go : (b : Bool) → eqb r.number NoRoom ≡ b → cond b q r ≡ r
      go true h = false-true _ (subst (λ (n : ℕ). among read_refusals n ≡ true) (eqb-true r.number NoRoom h) (item-refusals ask r e))
      go false h = refl

  pub unprintable-given : (d : Result Accepted Refusal) (r : Refusal) → Calls FormLine ask first l d m → r ≡ said_of q d → UnprintableFrom ask first q r
  unprintable-given d r w e f = ap Err (e ∙ ap (said_of q) (w f).answer) ∙ said (read_item ask) refl

-- where a byte is unprintable, it is refused there
pub display-unprintable : (ask : Asked) (first : Result First Refusal) (l : List ℕ) (b : ℕ) → Some b ≡ unprintable_at ask.kind ask.text first
    → (q : Refusal) → q ≡ refusal LineUnprintable b (b + 1) → (r : Refusal) → UnprintableFrom ask first q r → Displays ask first l (Err r) l
unfolding display display_buffer roomed filled in_place
display-unprintable ask first l b g q e r w =
    let z : first ≡ first_of ask → if_printable (read_item ask) ≡ in_place q (read_item ask) = λ f. read-unprintable ask first f b g q e in
    let y : (i : Item) → roomed as_line (min (length l) line_limit) (in_place q i) ≡ in_place q i = roomed-in-place q in
    let x : (i : Item) → filled as_line (in_place q i) l ≡ l = filled-in-place q in
    record {
      answer = λ f. w f ∙ ap displayed (sym (ap (roomed as_line (min (length l) line_limit)) (z f) ∙ y (read_item ask)));
      buffer = λ f. sym (ap (λ (i : Item). filled as_line (roomed as_line (min (length l) line_limit) i) l) (z f) ∙ ap (λ (i : Item). filled as_line i l) (y (read_item ask)) ∙ x (read_item ask));
    }
  where
    roomed-in-place : (q : Refusal) (i : Item) → roomed as_line (min (length l) line_limit) (in_place q i) ≡ in_place q i
    roomed-in-place q (item x t) = refl
    roomed-in-place q (refused r) = refl

    filled-in-place : (q : Refusal) (i : Item) → filled as_line (in_place q i) l ≡ l
    filled-in-place q (item x t) = refl
    filled-in-place q (refused r) = refl

pub take_min : (n : ℕ) (l : List ℕ) → take (min n (length l)) l ≡ take n l
take_min zero l = rw (zero-min (length l)) refl
take_min (suc n) [] = rw (min-zero (suc n)) refl
take_min (suc n) (x ∷ l) = rw (suc-min-suc n (length l)) (ap (λ (r : List ℕ). x ∷ r) (take_min n l))
