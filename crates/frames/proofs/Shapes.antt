-- The law for shapes: what is read from tokens that are alike is alike.
use mathlib.Core.Path.{◌≡◌, refl, ap, sym, ◌∙◌, subst}
use mathlib.Core.Bool.{Bool, true, false, cond, ◌||◌}
use mathlib.Core.List.{List}
use Prim.Native.Nat.{ℕ, ◌<◌}
use native.Mathlib.Omega.{arith}
use borrow.Author.Tests.{eqb-true}
use lib.Dec.{eqb}
use lib.ListN.{get_or}
use Rattle.classes.proofs.Bools.{false-true}
use Rattle.words.specs.Kinds.{EOF, NumValue, NumTypedValue, ByteStringValue, Identifier, False, True}
use Rattle.records.specs.Kinds.{RecName, RecAddress, RecBrackets}
use Rattle.records.specs.Tree.{Tree, Trees, behind, joined}
use Rattle.sources.specs.Source.{Source, Lexeme, start, word, after}
use Rattle.answers.specs.Reading.{leaf_of, Reader}
use Rattle.grammar.specs.Names.{is_first, first_part}
use Rattle.grammar.specs.Values.{leaf_kind, value_kind}
use Rattle.grammar.specs.Types.{spanned, bracketed}
use Rattle.grammar.specs.Items.{read_kind}
use Rattle.forms.specs.Line.{is_field, is_type}
use Rattle.forms.specs.Unprintable.{is_string}
use Rattle.frames.specs.code.Related.{Sort, a_name, a_pair, a_value, a_type, a_field, a_bind, a_bind_list, a_lambda_list, Part, Rule, pair, two, three, address, shared, mutable, function, plain, applied, struct, typed, field, several, alone, lambda, Role, name, first, one_part, variable, kind_of, Fits, Step, Rel, RelReader, Lawful, Literal, Short, left}
use Rattle.frames.specs.code.Shape.{Shape, Alike, leaves, nodes, AllAlike, nones, mores, framed, Shapely, Strings}
use Rattle.frames.proofs.Ways.{near}
use Rattle.frames.proofs.Readers.{value-is, sort_of, kind-same}

-- what the table of records says of their kinds: each fits a byte, is no string and no brackets round one type, and is a field's exactly
-- where a field is read
abbrev pub due : Sort → ℕ → Bool
due a_name = is_type
due a_pair = is_type
due a_value = is_type
due (a_type n) = is_type
due (a_field n) = is_field
due (a_bind n) = is_type
due a_bind_list = is_type
due a_lambda_list = is_type

abbrev pub Kind : Sort → ℕ → Type 0
Kind s c = (c < 256) × (is_string c ≡ false) × (eqb c RecBrackets ≡ false) × (due s c ≡ true)

pub kind_fits : {s : Sort} {c : ℕ} {r : List Part} → Rule s c r → Kind s c
unfolding is_type is_field
kind_fits pair = (omega arith, refl, refl, refl)
kind_fits two = (omega arith, refl, refl, refl)
kind_fits three = (omega arith, refl, refl, refl)
kind_fits address = (omega arith, refl, refl, refl)
kind_fits shared = (omega arith, refl, refl, refl)
kind_fits mutable = (omega arith, refl, refl, refl)
kind_fits function = (omega arith, refl, refl, refl)
kind_fits plain = (omega arith, refl, refl, refl)
kind_fits applied = (omega arith, refl, refl, refl)
kind_fits struct = (omega arith, refl, refl, refl)
kind_fits typed = (omega arith, refl, refl, refl)
kind_fits field = (omega arith, refl, refl, refl)
kind_fits several = (omega arith, refl, refl, refl)
kind_fits alone = (omega arith, refl, refl, refl)
kind_fits lambda = (omega arith, refl, refl, refl)

-- a token of a kind that a test named, which is no string, gives a leaf that is none
no-string : (c k n : ℕ) → eqb k n ≡ true → eqb n ByteStringValue ≡ false → is_string c ≡ false → is_string c ≡ eqb k ByteStringValue
no-string c k n h g f = f ∙ sym (ap (λ (m : ℕ). eqb m ByteStringValue) (eqb-true k n h) ∙ g)

first_leaf : (t : Lexeme) → is_first t ≡ true → is_string (cond (eqb t.kind Identifier) RecName RecAddress) ≡ eqb t.kind ByteStringValue
first_leaf t h = go (eqb t.kind Identifier) refl (eqb t.kind NumValue) refl h
  where
    go : (a : Bool) → eqb t.kind Identifier ≡ a → (b : Bool) → eqb t.kind NumValue ≡ b → (a || b) ≡ true → is_string (cond a RecName RecAddress) ≡ eqb t.kind ByteStringValue
    go true x b y h = no-string RecName t.kind Identifier x refl refl
    go false x true y h = no-string RecAddress t.kind NumValue y refl refl
    go false x false y h = false-true _ h

pub value-leaf : (k b : ℕ) → is_string (leaf_kind k b) ≡ eqb k ByteStringValue
unfolding leaf_kind
value-leaf k b = go (eqb k True) refl (eqb k False) refl (eqb k NumValue) refl (eqb k NumTypedValue) refl (eqb k ByteStringValue) refl (eqb b 120)
  where
    go : (t : Bool) → eqb k True ≡ t → (f : Bool) → eqb k False ≡ f → (n : Bool) → eqb k NumValue ≡ n → (y : Bool) → eqb k NumTypedValue ≡ y → (s : Bool) → eqb k ByteStringValue ≡ s
        → (x : Bool) → is_string (cond t 32 (cond f 33 (cond (n || y) 31 (cond s (cond x 34 35) 0)))) ≡ eqb k ByteStringValue
    go true a f z n z₂ y z₃ s z₄ x = no-string 32 k True a refl refl
    go false a true z n z₂ y z₃ s z₄ x = no-string 33 k False z refl refl
    go false a false z true z₂ y z₃ s z₄ x = no-string 31 k NumValue z₂ refl refl
    go false a false z false z₂ true z₃ s z₄ x = no-string 31 k NumTypedValue z₃ refl refl
    go false a false z false z₂ false z₃ true z₄ true = sym z₄
    go false a false z false z₂ false z₃ true z₄ false = sym z₄
    go false a false z false z₂ false z₃ false z₄ x = sym z₄

either : (P : ℕ → Type 0) (b : Bool) (m n : ℕ) → P m → P n → P (cond b m n)
either P true m n h g = h
either P false m n h g = g

module _ (S : Shape) (L : Shapely S) where
  leaf-like : (c : ℕ) (t t₂ : Lexeme) → S.kind c → is_string c ≡ eqb t.kind ByteStringValue → Step (framed S) t t₂ → Alike S (leaf_of c t) (leaf_of c t₂)
  leaf-like c t t₂ k s d = leaves k s d.good.good d.spelled d.good.from d.good.to

  name-like : (c : ℕ) (t t₂ : Lexeme) → c < 256 → is_string c ≡ false → eqb t.kind Identifier ≡ true → Step (framed S) t t₂ → Alike S (leaf_of c t) (leaf_of c t₂)
  name-like c t t₂ h s i d = leaf-like c t t₂ (L.kinds c h s) (no-string c t.kind Identifier i refl s) d

  role-like : (l : Role) (t t₂ : Lexeme) → Step (framed S) t t₂ → Fits l t → Alike S (leaf_of (kind_of l t) t) (leaf_of (kind_of l t₂) t₂)
  role-like name t t₂ d f = name-like 1 t t₂ (omega arith) refl f d
  role-like one_part t t₂ d f = name-like 3 t t₂ (omega arith) refl f d
  role-like variable t t₂ d f = name-like 20 t t₂ (omega arith) refl f d
  role-like first t t₂ d f =
      subst (λ (k : ℕ). Alike S (first_part t) (leaf_of (cond (eqb k Identifier) RecName RecAddress) t₂)) d.kind
      (leaf-like (cond (eqb t.kind Identifier) RecName RecAddress) t t₂ (either S.kind (eqb t.kind Identifier) 1 2 (L.kinds 1 (omega arith) refl) (L.kinds 2 (omega arith) refl)) (first_leaf t f) d)

  behind-trees : {ts us : Trees} {t u : Tree} → AllAlike S ts us → Alike S t u → AllAlike S (behind ts t) (behind us u)
  unfolding behind
  behind-trees nones x = mores x nones
  behind-trees (mores y ys) x = mores y (behind-trees ys x)

  joined-trees : {ts us ts₂ us₂ : Trees} → AllAlike S ts us → AllAlike S ts₂ us₂ → AllAlike S (joined ts ts₂) (joined us us₂)
  unfolding joined
  joined-trees nones ys = ys
  joined-trees (mores x xs) ys = mores x (joined-trees xs ys)

  span-like : (c : ℕ) (a a₂ : Lexeme) (u u₂ : Source) {ts us : Trees} → c < 256 → is_string c ≡ false → Step (framed S) a a₂ → S.source u u₂ → AllAlike S ts us → Alike S (spanned c a u ts) (spanned c a₂ u₂ us)
  span-like c a a₂ u u₂ h s x n xs = nodes (L.kinds c h s) x.good.from (L.ended u u₂ n) xs

  bracketed-like : (a a₂ : Lexeme) (u u₂ : Source) {ts us : Trees} → Step (framed S) a a₂ → S.source u u₂ → AllAlike S ts us → Alike S (bracketed a u ts) (bracketed a₂ u₂ us)
  unfolding bracketed
  bracketed-like a a₂ u u₂ x n nones = leaves {k = EOF} (L.kinds 14 (omega arith) refl) refl (L.wordless (start a) (start a₂)) refl x.good.from (L.ended u u₂ n)
  bracketed-like a a₂ u u₂ x n (mores y nones) = span-like 16 a a₂ u u₂ (omega arith) refl x n (mores y nones)
  bracketed-like a a₂ u u₂ x n (mores y (mores z zs)) = span-like 15 a a₂ u u₂ (omega arith) refl x n (mores y (mores z zs))

  pub law : Lawful (framed S)
  law =
      record {
        next = L.next;
        refused_at = λ n t t₂ h g d. record { same = refl; good = L.numbers n h g; from = d.good.from; to = d.good.to; from₂ = d.good.from; to₂ = d.good.to };
        refused_before = λ n t t₂ o o₂ h g d x.
            record { same = refl; good = L.numbers n h g; from = d.good.from; to = L.point (start t) (start t₂) d.good.from; from₂ = x.good.from; to₂ = L.point (start o) (start o₂) x.good.from };
        colons_due = λ t t₂ a a₂ d x. record { same = refl; good = L.numbers 10 (omega arith) (omega arith); from = d.good.from; to = d.good.to; from₂ = x.good.from; to₂ = x.good.to };
        begin = λ x. nones;
        mark = λ k h m. h;
        leaf = λ l h p f. behind-trees h (role-like l _ _ p.step f);
        one = λ s h p x. behind-trees h x;
        many = λ s c h i. joined-trees h i;
        empty = λ s c p o j. nones;
        last = λ s c p n x q o j. mores x nones;
        more = λ s c p n x q xs. mores x xs;
        lone = λ s l i x f o. role-like l _ _ x f;
        made = λ s c r i x z h o. span-like c _ _ _ _ (kind_fits i).0 (kind_fits i).1 x o h;
        brackets = λ n x k h o. bracketed-like _ _ _ _ x o h;
      }

  pub short : Short (framed S)
  short n a a₂ x k o = span-like 24 a a₂ (after a) (after a₂) (omega arith) refl x o (mores (role-like name a a₂ x k) (mores (role-like variable a a₂ x k) nones))

  leaf-kind : Strings S → (k b : ℕ) → S.kind (leaf_kind k b)
  unfolding leaf_kind
  leaf-kind Q k b =
      either S.kind (eqb k True) 32 _ (L.kinds 32 (omega arith) refl)
      (either S.kind (eqb k False) 33 _ (L.kinds 33 (omega arith) refl)
      (either S.kind (eqb k NumValue || eqb k NumTypedValue) 31 _ (L.kinds 31 (omega arith) refl)
      (either S.kind (eqb k ByteStringValue) _ 0 (either S.kind (eqb b 120) 34 35 Q.hex Q.byte) (L.kinds 0 (omega arith) refl))))

  literal : Strings S → Literal (framed S)
  literal Q a a₂ x c o = subst (λ (k : ℕ). Alike S (leaf_of (value_kind a) a) (leaf_of k a₂)) (value-is x) (leaf-like (value_kind a) a a₂ (leaf-kind Q a.kind (get_or (word a) 0 0)) (value-leaf a.kind (get_or (word a) 0 0)) x)

  pub kind-shaped : (kind : ℕ) → (eqb kind 2 ≡ true → Strings S) → RelReader (framed S) (sort_of kind) (read_kind kind) (read_kind kind)
  kind-shaped kind Q = kind-same (framed S) law refl short kind (λ b. literal (Q b))

-- a reader that obeys the law: in every shape, alike first tokens give alike answers
abbrev pub Obeys : Reader → Type 1
Obeys item = (S : Shape) → Shapely S → Strings S → (t t₂ : Lexeme) → Step (framed S) t t₂ → Rel (framed S) (left t.here) (left t₂.here) (λ u u₂ x y. Alike S x y) (item t) (item t₂)

pub kind-obeys : (kind : ℕ) → Obeys (read_kind kind)
kind-obeys kind S L Q t t₂ d = kind-shaped S L kind (λ _. Q) _ _ t t₂ (near d)
