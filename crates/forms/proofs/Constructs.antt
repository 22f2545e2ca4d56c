-- What a form makes of each construct; and that the forms are what they are meant to be: the narrow stored form of every tree, and its
-- line.
use mathlib.Core.Path.{◌≡◌, refl, ap, sym, ◌∙◌}
use mathlib.Core.Bool.{Bool, true, false}
use mathlib.Core.List.{List, [], ◌∷◌, ◌++◌, append-nil, append_assoc}
use Prim.Native.Nat.{ℕ, ◌+◌}
use borrow.Author.Tests.{not-true}
use lib.Dec.{eqb}
use lib.ListN.{length}
use Rattle.classes.specs.Bytes.{bytes}
use Rattle.records.specs.Kinds.{RecTwoPart, RecThreePart, RecPair, RecType, RecRef, RecRefMut, RecFunction, RecUnit, RecTuple, RecBrackets, RecStruct, RecStructTyped, RecField, RecBindList, RecLambdaBindList, RecAddressValue}
use Rattle.records.specs.Tree.{Tree, leaf, node, Trees, none, more, build, builds, behind, joined}
use Rattle.records.specs.Stored.{little_endian, head_of}
use Rattle.records.specs.code.Narrow.{two, span, header, stored, stored_all}
use Rattle.forms.specs.Line.{Piece, plain, others, commas, bars, angles, in_brackets, braces, first, later, initial, final, select, is_field, is_type, shape, kind_of_build, line, pieces, shown}
use Rattle.forms.specs.Forms.{FormNarrow, FormLine, is_line, front, head_size, width, head, recorded, recorded_all, laid, written}
use Rattle.forms.specs.code.Constructs.{mark_in, spelt, headed, listed_rest, laid_items, in_bars, in_angles}

-- the narrow form and the line
mutual
  unfolding recorded recorded_all stored stored_all head head_size width head_of little_endian header span two

  recorded-stored : (t : Tree) → recorded FormNarrow t ≡ stored t
  recorded-stored (leaf k s e w) = refl
  recorded-stored (node k s e ts) = ap (λ (x : List ℕ). header (length x + 8) k s e ++ x) (all-stored ts)

  all-stored : (ts : Trees) → recorded_all FormNarrow ts ≡ stored_all ts
  all-stored none = refl
  all-stored (more t ts) = rw (recorded-stored t, all-stored ts)

pub written-stored : (t : Tree) → written FormNarrow t ≡ stored t
unfolding written front laid
written-stored t = recorded-stored t

pub written-line : (t : Tree) → written FormLine t ≡ shown t
unfolding written front laid
written-line t = refl

-- the lines of children
abbrev pub texts : Trees → List (List ℕ)
texts ts = plain (pieces (builds ts))

-- a line has no heads, and records have no marks
module _ (f : ℕ) (h : is_line f ≡ true) where
  is-shown : (t : Tree) → laid f t ≡ shown t
  unfolding laid
  is-shown t = rw h

  head-shown : (n k s e : ℕ) → head f n k s e ≡ []
  unfolding head
  head-shown n k s e = rw h

  mark-shown : (m : List ℕ) → mark_in f m ≡ m
  unfolding mark_in
  mark-shown m = rw h

  rest-shown : (ts : Trees) → listed_rest f ts ≡ others (texts ts)
  unfolding listed_rest others plain pieces builds shown
  rest-shown none = refl
  rest-shown (more t ts) = rw (mark-shown (bytes ", "), is-shown t, rest-shown ts)

  listed-shown : (ts : Trees) → laid_items f ts ≡ commas (texts ts)
  unfolding laid_items commas plain pieces builds shown
  listed-shown none = refl
  listed-shown (more t ts) = rw (is-shown t, rest-shown ts)

  bars-shown : (ts : Trees) → in_bars f ts ≡ bars (texts ts)
  unfolding in_bars bars plain pieces builds
  bars-shown none = rw (mark-shown (bytes "|"), mark-shown (bytes " |"))
  bars-shown (more t ts) = rw (mark-shown (bytes "|"), listed-shown (more t ts))

  angles-shown : (ts : Trees) → in_angles f ts ≡ angles (texts ts)
  unfolding in_angles angles plain pieces builds
  angles-shown none = refl
  angles-shown (more t ts) = rw (mark-shown (bytes "<"), mark-shown (bytes ">"), listed-shown (more t ts))

module _ (f : ℕ) (h : is_line f ≡ false) where
  is-recorded : (t : Tree) → laid f t ≡ recorded f t
  unfolding laid
  is-recorded t = rw h

  mark-none : (m : List ℕ) → mark_in f m ≡ []
  unfolding mark_in
  mark-none m = rw h

  rest-recorded : (ts : Trees) → listed_rest f ts ≡ recorded_all f ts
  unfolding listed_rest recorded_all
  rest-recorded none = refl
  rest-recorded (more t ts) = rw (mark-none (bytes ", "), is-recorded t, rest-recorded ts)

  listed-recorded : (ts : Trees) → laid_items f ts ≡ recorded_all f ts
  unfolding laid_items recorded_all
  listed-recorded none = refl
  listed-recorded (more t ts) = rw (is-recorded t, rest-recorded ts)

  bars-recorded : (ts : Trees) → in_bars f ts ≡ recorded_all f ts
  unfolding in_bars laid_items
  bars-recorded none = rw (mark-none (bytes "|"), mark-none (bytes " |")) (listed-recorded none)
  bars-recorded (more t ts) = rw (mark-none (bytes "|"), append-nil (laid_items f (more t ts))) (listed-recorded (more t ts))

  angles-recorded : (ts : Trees) → in_angles f ts ≡ recorded_all f ts
  unfolding in_angles laid_items
  angles-recorded none = listed-recorded none
  angles-recorded (more t ts) = rw (mark-none (bytes "<"), mark-none (bytes ">"), append-nil (laid_items f (more t ts))) (listed-recorded (more t ts))

-- a record over what its children make
made : (f k s e : ℕ) (ts : Trees) (body : List ℕ) → (is_line f ≡ true → shape k (pieces (builds ts)) ≡ body) → (is_line f ≡ false → recorded_all f ts ≡ body) → laid f (node k s e ts) ≡ headed f k s e body
unfolding shown build line recorded headed
made f k s e ts body h g = go (is_line f) refl
  where
    go : (b : Bool) → is_line f ≡ b → laid f (node k s e ts) ≡ headed f k s e body
    go true x = is-shown f x (node k s e ts) ∙ h x ∙ sym (ap (λ (y : List ℕ). y ++ body) (head-shown f x (length body) k s e))
    go false x = is-recorded f x (node k s e ts) ∙ ap (λ (y : List ℕ). head f (length y) k s e ++ y) (g x)

-- leaves
pub laid_leaf : (f k s e : ℕ) (w : List ℕ) → eqb k RecUnit ≡ false → laid f (leaf k s e w) ≡ spelt f k s e w
unfolding laid shown build line recorded spelt
laid_leaf f k s e w h = rw h

module _ (f k s e : ℕ) (m : List ℕ) where
  -- two parts with a mark between them
  parted : (a b : Tree) → ((p q : Piece) → shape k (p ∷ q ∷ []) ≡ p.text ++ (m ++ q.text)) → laid f (node k s e (more a (more b none))) ≡ headed f k s e (laid f a ++ (mark_in f m ++ laid f b))
  unfolding pieces builds shown recorded_all
  parted a b d =
      made f k s e (more a (more b none)) (laid f a ++ (mark_in f m ++ laid f b)) (λ h. rw (is-shown f h a, is-shown f h b, mark-shown f h m) (d _ _))
      (λ h. rw (is-recorded f h a, is-recorded f h b, mark-none f h m, append-nil (recorded f b)))

  -- one part behind a mark
  marked : (a : Tree) → ((p : Piece) → shape k (p ∷ []) ≡ m ++ p.text) → laid f (node k s e (more a none)) ≡ headed f k s e (mark_in f m ++ laid f a)
  unfolding pieces builds shown recorded_all
  marked a d = made f k s e (more a none) (mark_in f m ++ laid f a) (λ h. rw (is-shown f h a, mark-shown f h m) (d _)) (λ h. rw (is-recorded f h a, mark-none f h m, append-nil (recorded f a)))

-- items in brackets
module _ (f k s e : ℕ) where
  in-brackets : (ts : Trees) → ((ps : List Piece) → shape k ps ≡ in_brackets (plain ps)) → laid f (node k s e ts) ≡ headed f k s e (mark_in f (bytes "(") ++ (laid_items f ts ++ mark_in f (bytes ")")))
  unfolding in_brackets
  in-brackets ts d =
      made f k s e ts (mark_in f (bytes "(") ++ (laid_items f ts ++ mark_in f (bytes ")"))) (λ h. rw (mark-shown f h (bytes "("), mark-shown f h (bytes ")"), listed-shown f h ts) (d (pieces (builds ts))))
      (λ h. rw (mark-none f h (bytes "("), mark-none f h (bytes ")"), append-nil (laid_items f ts)) (sym (listed-recorded f h ts)))

-- the children before the last, and the last
behind-plain : (ts : Trees) (t : Tree) → plain (initial (pieces (builds (behind ts t)))) ≡ texts ts
unfolding behind builds pieces initial plain
behind-plain none t = refl
behind-plain (more u none) t = refl
behind-plain (more u (more v ts)) t = ap (◌∷◌ (line (build u))) (behind-plain (more v ts) t)

behind-final : (ts : Trees) (t : Tree) → final (pieces (builds (behind ts t))) ≡ shown t
unfolding behind builds pieces final shown
behind-final none t = refl
behind-final (more u none) t = refl
behind-final (more u (more v ts)) t = behind-final (more v ts) t

behind-recorded : (f : ℕ) (ts : Trees) (t : Tree) → recorded_all f (behind ts t) ≡ recorded_all f ts ++ recorded f t
unfolding behind recorded_all
behind-recorded f none t = append-nil (recorded f t)
behind-recorded f (more u ts) t = rw (behind-recorded f ts t) (sym (append_assoc (recorded f u) (recorded_all f ts) (recorded f t)))

-- each tree of a list has a kind that the test names
abbrev pub Every : (ℕ → Bool) → Trees → Type 0
Every p none = Unit {0}
Every p (more t ts) = (p (kind_of_build (build t)) ≡ true) × Every p ts

-- types and fields, one list behind the other, and each told by its kind
abbrev piece : Tree → Piece
piece t = record { kind = kind_of_build (build t); text = line (build t) }

no-types : (fs : Trees) → Every is_field fs → select is_type (pieces (builds fs)) ≡ []
unfolding select pieces builds is_type
no-types none d = refl
no-types (more t ts) d = rw d.0 (no-types ts d.1)

all-fields : (fs : Trees) → Every is_field fs → select is_field (pieces (builds fs)) ≡ pieces (builds fs)
unfolding select pieces builds
all-fields none d = refl
all-fields (more t ts) d = rw d.0 (ap (◌∷◌ (piece t)) (all-fields ts d.1))

types_of : (ts fs : Trees) → Every is_type ts → Every is_field fs → select is_type (pieces (builds (joined ts fs))) ≡ pieces (builds ts)
unfolding joined select pieces builds
types_of none fs d g = no-types fs g
types_of (more t ts) fs d g = rw d.0 (ap (◌∷◌ (piece t)) (types_of ts fs d.1 g))

fields-of : (ts fs : Trees) → Every is_type ts → Every is_field fs → select is_field (pieces (builds (joined ts fs))) ≡ pieces (builds fs)
unfolding joined select pieces builds is_type
fields-of none fs d g = all-fields fs g
fields-of (more t ts) fs d g = rw (not-true (is_field (kind_of_build (build t))) d.0) (fields-of ts fs d.1 g)

joined-recorded : (f : ℕ) (ts us : Trees) → recorded_all f (joined ts us) ≡ recorded_all f ts ++ recorded_all f us
unfolding joined recorded_all
joined-recorded f none us = refl
joined-recorded f (more t ts) us = rw (joined-recorded f ts us) (sym (append_assoc (recorded f t) (recorded_all f ts) (recorded_all f us)))

-- one law for each construct
module _ (f s e : ℕ) where
  pub laid-two : (a b : Tree) → laid f (node RecTwoPart s e (more a (more b none))) ≡ headed f RecTwoPart s e (laid f a ++ (mark_in f (bytes "::") ++ laid f b))
  unfolding shape first later
  laid-two a b = parted f RecTwoPart s e (bytes "::") a b (λ p q. refl)

  pub laid-three : (a b : Tree) → laid f (node RecThreePart s e (more a (more b none))) ≡ headed f RecThreePart s e (laid f a ++ (mark_in f (bytes "::") ++ laid f b))
  unfolding shape first later
  laid-three a b = parted f RecThreePart s e (bytes "::") a b (λ p q. refl)

  pub laid-pair : (a b : Tree) → laid f (node RecPair s e (more a (more b none))) ≡ headed f RecPair s e (laid f a ++ (mark_in f (bytes "::") ++ laid f b))
  unfolding shape first later
  laid-pair a b = parted f RecPair s e (bytes "::") a b (λ p q. refl)

  pub laid-field : (a b : Tree) → laid f (node RecField s e (more a (more b none))) ≡ headed f RecField s e (laid f a ++ (mark_in f (bytes ": ") ++ laid f b))
  unfolding shape first later
  laid-field a b = parted f RecField s e (bytes ": ") a b (λ p q. refl)

  pub laid-ref : (a : Tree) → laid f (node RecRef s e (more a none)) ≡ headed f RecRef s e (mark_in f (bytes "& ") ++ laid f a)
  unfolding shape first
  laid-ref a = marked f RecRef s e (bytes "& ") a (λ p. refl)

  pub laid-ref-mut : (a : Tree) → laid f (node RecRefMut s e (more a none)) ≡ headed f RecRefMut s e (mark_in f (bytes "&mut ") ++ laid f a)
  unfolding shape first
  laid-ref-mut a = marked f RecRefMut s e (bytes "&mut ") a (λ p. refl)

  pub laid-address : (a : Tree) → laid f (node RecAddressValue s e (more a none)) ≡ headed f RecAddressValue s e (mark_in f (bytes "@") ++ laid f a)
  unfolding shape first
  laid-address a = marked f RecAddressValue s e (bytes "@") a (λ p. refl)

  pub laid-unit : laid f (leaf RecUnit s e []) ≡ headed f RecUnit s e (mark_in f (bytes "(") ++ (laid_items f none ++ mark_in f (bytes ")")))
  unfolding shown build line recorded headed laid_items
  laid-unit = go (is_line f) refl
    where
      go : (b : Bool) → is_line f ≡ b → laid f (leaf RecUnit s e []) ≡ headed f RecUnit s e (mark_in f (bytes "(") ++ (laid_items f none ++ mark_in f (bytes ")")))
      go true x = rw (is-shown f x (leaf RecUnit s e []), mark-shown f x (bytes "("), mark-shown f x (bytes ")"), head-shown f x)
      go false x = rw (is-recorded f x (leaf RecUnit s e []), mark-none f x (bytes "("), mark-none f x (bytes ")"), append-nil (head f 0 RecUnit s e))

  pub laid-brackets : (ts : Trees) → laid f (node RecBrackets s e ts) ≡ headed f RecBrackets s e (mark_in f (bytes "(") ++ (laid_items f ts ++ mark_in f (bytes ")")))
  unfolding shape
  laid-brackets ts = in-brackets f RecBrackets s e ts (λ ps. refl)

  pub laid-tuple : (ts : Trees) → laid f (node RecTuple s e ts) ≡ headed f RecTuple s e (mark_in f (bytes "(") ++ (laid_items f ts ++ mark_in f (bytes ")")))
  unfolding shape
  laid-tuple ts = in-brackets f RecTuple s e ts (λ ps. refl)

  pub laid-bind-list : (ts : Trees) → laid f (node RecBindList s e ts) ≡ headed f RecBindList s e (mark_in f (bytes "(") ++ (laid_items f ts ++ mark_in f (bytes ")")))
  unfolding shape
  laid-bind-list ts = in-brackets f RecBindList s e ts (λ ps. refl)

  pub laid-lambda-list : (ts : Trees) → laid f (node RecLambdaBindList s e ts) ≡ headed f RecLambdaBindList s e (in_bars f ts)
  unfolding shape
  laid-lambda-list ts = made f RecLambdaBindList s e ts (in_bars f ts) (λ h. sym (bars-shown f h ts)) (λ h. sym (bars-recorded f h ts))

  pub laid-type : (c : Tree) (ts : Trees) → laid f (node RecType s e (more c ts)) ≡ headed f RecType s e (laid f c ++ in_angles f ts)
  unfolding shape first later pieces builds shown recorded_all
  laid-type c ts = made f RecType s e (more c ts) (laid f c ++ in_angles f ts) (λ h. rw (is-shown f h c, angles-shown f h ts)) (λ h. rw (is-recorded f h c, angles-recorded f h ts))

  pub laid-function : (ts : Trees) (t : Tree) → laid f (node RecFunction s e (behind ts t)) ≡ headed f RecFunction s e (in_bars f ts ++ (mark_in f (bytes " ") ++ laid f t))
  unfolding shape
  laid-function ts t =
      made f RecFunction s e (behind ts t) (in_bars f ts ++ (mark_in f (bytes " ") ++ laid f t))
      (λ h. rw (is-shown f h t, mark-shown f h (bytes " "), bars-shown f h ts, behind-plain ts t, behind-final ts t))
      (λ h. rw (is-recorded f h t, mark-none f h (bytes " "), bars-recorded f h ts) (behind-recorded f ts t))

  pub laid-struct : (c : Tree) (fs : Trees) → laid f (node RecStruct s e (more c fs)) ≡ headed f RecStruct s e (laid f c ++ (mark_in f (bytes " {") ++ (laid_items f fs ++ mark_in f (bytes "}"))))
  unfolding shape first later pieces builds shown recorded_all braces
  laid-struct c fs =
      made f RecStruct s e (more c fs) (laid f c ++ (mark_in f (bytes " {") ++ (laid_items f fs ++ mark_in f (bytes "}"))))
      (λ h. rw (is-shown f h c, mark-shown f h (bytes " {"), mark-shown f h (bytes "}"), listed-shown f h fs))
      (λ h. rw (is-recorded f h c, mark-none f h (bytes " {"), mark-none f h (bytes "}"), append-nil (laid_items f fs), listed-recorded f h fs))

  pub laid-struct-typed : (c : Tree) (ts fs : Trees) → Every is_type ts → Every is_field fs
      → laid f (node RecStructTyped s e (more c (joined ts fs))) ≡ headed f RecStructTyped s e (laid f c ++ (mark_in f (bytes "<") ++ (laid_items f ts ++ (mark_in f (bytes ">") ++ (mark_in f (bytes " {") ++ (laid_items f fs ++ mark_in f (bytes "}")))))))
  unfolding shape first later pieces builds shown recorded_all braces
  laid-struct-typed c ts fs d g =
      made f RecStructTyped s e (more c (joined ts fs)) (laid f c ++ (mark_in f (bytes "<") ++ (laid_items f ts ++ (mark_in f (bytes ">") ++ (mark_in f (bytes " {") ++ (laid_items f fs ++ mark_in f (bytes "}")))))))
      (λ h. rw (is-shown f h c, mark-shown f h (bytes "<"), mark-shown f h (bytes ">"), mark-shown f h (bytes " {"), mark-shown f h (bytes "}"), listed-shown f h ts, listed-shown f h fs, types_of ts fs d g, fields-of ts fs d g))
      (λ h. rw (is-recorded f h c, mark-none f h (bytes "<"), mark-none f h (bytes ">"), mark-none f h (bytes " {"), mark-none f h (bytes "}"), append-nil (laid_items f fs), listed-recorded f h ts, listed-recorded f h fs, joined-recorded f ts fs))
