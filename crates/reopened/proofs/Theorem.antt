-- What the station writes opens as the tree it was.
use mathlib.Core.Path.{◌≡◌, refl, ap, sym, subst, ◌∙◌}
use mathlib.Core.Bool.{Bool, true, false, cond}
use mathlib.Core.List.{List, [], ◌∷◌, ◌++◌}
use Prim.Native.Nat.{ℕ, zero, suc, ◌+◌, ◌/◌, ◌%◌, ◌<◌, ◌≤◌}
use native.Mathlib.Omega.{arith}
use lib.ListN.{length, get_or, take, drop}
use lib.Seq.{take-append_seam}
use Rattle.classes.specs.Bytes.{begins}
use Rattle.classes.proofs.Bools.{false-true}
use Rattle.tokens.specs.RefusalSets.{among}
use Rattle.records.specs.Tree.{Tree, leaf, node, Trees, none, more}
use Rattle.records.specs.Spans.{end_of}
use Rattle.records.specs.Stored.{little_endian, head_of}
use Rattle.forms.specs.Forms.{FormNarrow, FormWide, is_line, is_narrow, front, width, head_size, head, recorded, recorded_all, laid, written, form_of}
use Rattle.forms.specs.Sizes.{Fitting}
use Rattle.forms.proofs.Sizes.{head-is}
use Rattle.forms.proofs.Apart.{form-cases, form-stored, narrow-begins}
use Rattle.sources.specs.Source.{Lexeme}
use Rattle.grammar.specs.Items.{Item, item, refused, Asked}
use Rattle.frames.proofs.Held.{HeldItem, Held, item-held}
use Rattle.frames.proofs.Faithful.{Told, item-told, item-fitting}
use Rattle.calls.specs.Calls.{answered_in, answered, read_number, read_values, read, read_buffer}
use Rattle.calls.specs.RefusalSets.{item_refusals}
use Rattle.calls.proofs.Faithful.{read-item, read-written}
use Rattle.calls.proofs.RefusalSets.{read-refusals}
use Rattle.saved.specs.Heads.{form_told}
use Rattle.saved.specs.Open.{Opened}
use Rattle.saved.specs.Legal.{Legal}
use Rattle.saved.specs.Answers.{outermost, open_call, handed_number}
use Rattle.saved.specs.Theorems.{Bytes}
use Rattle.saved.proofs.Parts.{begins-take}
use Rattle.saved.proofs.Exact.{opens}
use Rattle.reopened.specs.Reopened.{Reopens, BufferOpens}
use Rattle.reopened.proofs.Read.{item-sorted, item-legal}

-- what is written are bytes
none-small : Bytes []
none-small i = omega arith

one-small : (a : ℕ) (l : List ℕ) → a < 256 → Bytes l → Bytes (a ∷ l)
one-small a l h g zero = h
one-small a l h g (suc i) = g i

both_small : (xs ys : List ℕ) → Bytes xs → Bytes ys → Bytes (xs ++ ys)
both_small [] ys g h = h
both_small (x ∷ xs) ys g h = one-small x (xs ++ ys) (g 0) (both_small xs ys (λ i. g (suc i)) h)

number_small : (w v : ℕ) → Bytes (little_endian w v)
unfolding little_endian
number_small zero v = none-small
number_small (suc w) v = one-small (v % 256) (little_endian w (v / 256)) (omega arith) (number_small w (v / 256))

head_small : (w n k s e : ℕ) → Bytes (head_of w n k s e)
unfolding head_of
head_small w n k s e =
    both_small (little_endian w n) _ (number_small w n) (both_small (little_endian 2 k) _ (number_small 2 k) (both_small (little_endian w s) (little_endian w e) (number_small w s) (number_small w e)))

module _ (f : ℕ) (h : is_line f ≡ false) where
  headed-small : (n k s e : ℕ) → Bytes (head f n k s e)
  headed-small n k s e = subst Bytes (sym (head-is f h n k s e)) (head_small (width f) (n + head_size f) k s e)

  mutual
    unfolding recorded recorded_all

    record-small : (t : Tree) → Bytes (recorded f t)
    record-small (leaf k s e w) = headed-small 0 k s e
    record-small (node k s e ts) = both_small (head f (length (recorded_all f ts)) k s e) (recorded_all f ts) (headed-small (length (recorded_all f ts)) k s e) (records-small ts)

    records-small : (ts : Trees) → Bytes (recorded_all f ts)
    records-small none = none-small
    records-small (more t ts) = both_small (recorded f t) (recorded_all f ts) (record-small t) (records-small ts)

  front-small : Bytes (front f)
  unfolding front
  front-small = go (is_line f) (is_narrow f)
    where
      go : (a b : Bool) → Bytes (cond a [] (cond b [] (4 ∷ 0 ∷ 99 ∷ 0 ∷ [])))
      go true b = none-small
      go false true = none-small
      go false false = one-small 4 (0 ∷ 99 ∷ 0 ∷ []) (omega arith) (one-small 0 (99 ∷ 0 ∷ []) (omega arith) (one-small 99 (0 ∷ []) (omega arith) (one-small 0 [] (omega arith) none-small)))

  written_small : (t : Tree) → Bytes (written f t)
  unfolding written laid
  written_small t = rw h (both_small (front f) (recorded f t) front-small (record-small t))

-- its first bytes tell its form
narrow-told : (x : Tree) (b : Bool) → begins (front FormWide) (written FormNarrow x) ≡ b → form_told (written FormNarrow x) ≡ FormNarrow
unfolding form_told front
narrow-told x true e = absurd (narrow-begins x (begins-take (front FormWide) (written FormNarrow x) e))
narrow-told x false e = rw e

wide-told : (x : Tree) → form_told (written FormWide x) ≡ FormWide
unfolding form_told begins written front
wide-told x = refl

form-told : (text : List ℕ) (x : Tree) → form_told (written (form_of text x) x) ≡ form_of text x
form-told text x = form-cases text x (λ (f : ℕ). form_told (written f x) ≡ f) (λ _. narrow-told x (begins (front FormWide) (written FormNarrow x)) refl) (λ _. wide-told x)

pub reopens : Reopens
unfolding Legal
reopens q room x n e =
    let i = read-item q x n room e in
    let f : ℕ = form_of q.text x in
    let bytes : List ℕ = written f x in
    let held : HeldItem q.text q.at x n = subst (Held q.text q.at) i (item-held q) in
    let told = subst (Told q.text) i (item-told q) in
    let z : form_told bytes ≡ f = form-told q.text x in
    let l = item-legal q.text q.kind x (item-sorted q x n i) held.nested in
    let inside : end_of x ≤ length q.text = omega (arith, held.follows, held.within) in
    (opens bytes q.text (written_small f (form-stored q.text x) x) told.1 x (ap (λ (g : ℕ). written g x) (sym z)) (subst (λ (g : ℕ). Fitting g x) (sym z) (item-fitting q x n i)) (inside, l.0), l.1)

-- what an accepted read wrote opens with number 0
written-opens : (q : Asked) (out : List ℕ) (x : Tree) (n : Lexeme) → read q (length out) ≡ item x n
    → handed_number (open_call (take (length (written (form_of q.text x) x)) (read_buffer q out)) q.text) ≡ 0
unfolding open_call outermost handed_number
written-opens q out x n e =
    let bytes : List ℕ = written (form_of q.text x) x in
    let z : take (length bytes) (read_buffer q out) ≡ bytes = ap (take (length bytes)) (read-written q x n out e) ∙ take-append_seam bytes (drop (length bytes) out) in
    ap (λ (b : List ℕ). handed_number (open_call b q.text)) z ∙ ap (λ (o : Opened Tree). handed_number (outermost (form_told bytes) o)) (reopens q (length out) x n e).0

-- no read is refused with the number 0, and an accepted one says how many bytes it wrote
pub buffer-opens : BufferOpens
unfolding answered answered_in read_number read_values among
buffer-opens q out = go (read q (length out)) refl
  where
    go : (i : Item) → read q (length out) ≡ i → read_number (answered q.text i) ≡ 0
        → handed_number (open_call (take (get_or (read_values (answered q.text i)) 0 0) (read_buffer q out)) q.text) ≡ 0
    go (item x n) e h = written-opens q out x n e
    go (refused r) e h = false-true _ (ap (among item_refusals) (sym h) ∙ read-refusals q (length out) r e)
