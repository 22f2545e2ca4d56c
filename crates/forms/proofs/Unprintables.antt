-- Lines and unprintable bytes. Where each leaf's word shows, so does the line, whatever the tree; of a string below 128 a byte
-- is unprintable exactly where it does not show; and whether a tree has an unprintable byte is told by its build.
use mathlib.Core.Path.{◌≡◌, refl, ap, sym, ◌∙◌}
use mathlib.Core.Bool.{Bool, true, false, cond, not, ◌&&◌, ◌||◌}
use mathlib.Core.List.{List, [], ◌∷◌, ◌++◌}
use mathlib.Core.Logic.{◌↔◌}
use Rattle.forms.specs.Unprintable.{FirstByte, clean, found_at, is_unprintable, is_string, unprintable_in, first_of, unprintable, unprintable_all}
use Prim.Native.Nat.{ℕ, suc, ◌+◌, ◌<◌, ◌≤◌}
use native.Mathlib.Omega.{arith}
use borrow.Author.Tests.{leb-true, ltb-true, ltb-false, le-ltb, lt-ltb, le-leb, eqb-false, ne_eqb}
use lib.Dec.{leb, ltb, eqb}
use lib.ListN.{length}
use Rattle.classes.specs.Bytes.{bytes}
use Rattle.classes.specs.Class.{in_range, is_ascii, shows}
use Rattle.classes.specs.Run.{run_len, all_of}
use Rattle.classes.proofs.Bools.{false-true, and_left, and_right, or_left, or_right}
use Rattle.classes.proofs.All.{all_join}
use Rattle.records.specs.Kinds.{RecTwoPart, RecThreePart, RecPair, RecType, RecRef, RecRefMut, RecFunction, RecUnit, RecTuple, RecBrackets, RecStruct, RecStructTyped, RecField, RecBindList, RecLambdaBindList, RecAddressValue}
use Rattle.records.specs.Tree.{Tree, leaf, node, Trees, none, more, Build, spelled, made, Builds, bnone, bmore, build, builds}
use Rattle.forms.specs.Line.{Piece, plain, others, commas, bars, angles, in_brackets, braces, first, later, initial, final, select, is_field, is_type, shape, line, pieces, shown}

-- bytes that show; children, and lists of lines, whose bytes do
abbrev Say : List ℕ → Type 0
Say w = all_of shows w ≡ true

abbrev PiecesSay : List Piece → Type 0
PiecesSay [] = Unit {0}
PiecesSay (p ∷ ps) = Say p.text × PiecesSay ps

abbrev LinesSay : List (List ℕ) → Type 0
LinesSay [] = Unit {0}
LinesSay (a ∷ xs) = Say a × LinesSay xs

join : (xs ys : List ℕ) → Say xs → Say ys → Say (xs ++ ys)
join xs ys h g = all_join shows xs ys h g

plain-say : (ps : List Piece) → PiecesSay ps → LinesSay (plain ps)
unfolding plain
plain-say [] h = tt
plain-say (p ∷ ps) h = (h.0, plain-say ps h.1)

others-say : (xs : List (List ℕ)) → LinesSay xs → Say (others xs)
unfolding others all_of shows in_range
others-say [] h = refl
others-say (a ∷ xs) h = join (bytes ", ") (a ++ others xs) refl (join a (others xs) h.0 (others-say xs h.1))

commas-say : (xs : List (List ℕ)) → LinesSay xs → Say (commas xs)
unfolding commas all_of
commas-say [] h = refl
commas-say (a ∷ xs) h = join a (others xs) h.0 (others-say xs h.1)

bars-say : (xs : List (List ℕ)) → LinesSay xs → Say (bars xs)
unfolding bars all_of shows in_range
bars-say [] h = refl
bars-say (a ∷ xs) h = join (bytes "|") (commas (a ∷ xs) ++ bytes "|") refl (join (commas (a ∷ xs)) (bytes "|") (commas-say (a ∷ xs) h) refl)

angles-say : (xs : List (List ℕ)) → LinesSay xs → Say (angles xs)
unfolding angles all_of shows in_range
angles-say [] h = refl
angles-say (a ∷ xs) h = join (bytes "<") (commas (a ∷ xs) ++ bytes ">") refl (join (commas (a ∷ xs)) (bytes ">") (commas-say (a ∷ xs) h) refl)

brackets-say : (xs : List (List ℕ)) → LinesSay xs → Say (in_brackets xs)
unfolding in_brackets all_of shows in_range
brackets-say xs h = join (bytes "(") (commas xs ++ bytes ")") refl (join (commas xs) (bytes ")") (commas-say xs h) refl)

braces-say : (xs : List (List ℕ)) → LinesSay xs → Say (braces xs)
unfolding braces all_of shows in_range
braces-say xs h = join (bytes " {") (commas xs ++ bytes "}") refl (join (commas xs) (bytes "}") (commas-say xs h) refl)

first-say : (ps : List Piece) → PiecesSay ps → Say (first ps)
unfolding first all_of
first-say [] h = refl
first-say (p ∷ ps) h = h.0

later-say : (ps : List Piece) → PiecesSay ps → PiecesSay (later ps)
unfolding later
later-say [] h = tt
later-say (p ∷ ps) h = h.1

initial-say : (ps : List Piece) → PiecesSay ps → PiecesSay (initial ps)
unfolding initial
initial-say [] h = tt
initial-say (p ∷ []) h = tt
initial-say (p ∷ q ∷ ps) h = (h.0, initial-say (q ∷ ps) h.1)

final-say : (ps : List Piece) → PiecesSay ps → Say (final ps)
unfolding final all_of
final-say [] h = refl
final-say (p ∷ []) h = h.0
final-say (p ∷ q ∷ ps) h = final-say (q ∷ ps) h.1

select-say : (f : ℕ → Bool) (ps : List Piece) → PiecesSay ps → PiecesSay (select f ps)
unfolding select
select-say f [] h = tt
select-say f (p ∷ ps) h = go (f p.kind) (select-say f ps h.1)
  where
    go : (b : Bool) → PiecesSay (select f ps) → PiecesSay (cond b (p ∷ select f ps) (select f ps))
    go true i = (h.0, i)
    go false i = i

say-cond : (b : Bool) (x y : List ℕ) → Say x → Say y → Say (cond b x y)
say-cond true x y f g = f
say-cond false x y f g = g

shape-says : (k : ℕ) (ps : List Piece) → PiecesSay ps → Say (shape k ps)
unfolding shape all_of shows in_range
shape-says k ps h =
    let f = first-say ps h in
    let l = later-say ps h in
    let g = first-say (later ps) l in
    say-cond (eqb k RecTwoPart || (eqb k RecThreePart || eqb k RecPair)) _ _ (join (first ps) (bytes "::" ++ first (later ps)) f (join (bytes "::") (first (later ps)) refl g))
    (say-cond (eqb k RecType) _ _ (join (first ps) (angles (plain (later ps))) f (angles-say (plain (later ps)) (plain-say (later ps) l)))
    (say-cond (eqb k RecRef) _ _ (join (bytes "& ") (first ps) refl f)
    (say-cond (eqb k RecRefMut) _ _ (join (bytes "&mut ") (first ps) refl f)
    (say-cond (eqb k RecFunction) _ _ (join (bars (plain (initial ps))) (bytes " " ++ final ps) (bars-say (plain (initial ps)) (plain-say (initial ps) (initial-say ps h))) (join (bytes " ") (final ps) refl (final-say ps h)))
    (say-cond (eqb k RecTuple || (eqb k RecBrackets || eqb k RecBindList)) _ _ (brackets-say (plain ps) (plain-say ps h))
    (say-cond (eqb k RecStruct) _ _ (join (first ps) (braces (plain (later ps))) f (braces-say (plain (later ps)) (plain-say (later ps) l)))
    (say-cond (eqb k RecStructTyped) _ _ (typed f l)
    (say-cond (eqb k RecField) _ _ (join (first ps) (bytes ": " ++ first (later ps)) f (join (bytes ": ") (first (later ps)) refl g))
    (say-cond (eqb k RecLambdaBindList) _ _ (bars-say (plain ps) (plain-say ps h))
    (say-cond (eqb k RecAddressValue) _ _ (join (bytes "@") (first ps) refl f) refl))))))))))
  where
    typed : Say (first ps) → PiecesSay (later ps) → Say (first ps ++ (bytes "<" ++ (commas (plain (select is_type (later ps))) ++ (bytes ">" ++ braces (plain (select is_field (later ps)))))))
    typed f l =
        let t = plain (select is_type (later ps)) in
        let b = braces (plain (select is_field (later ps))) in
        join (first ps) (bytes "<" ++ (commas t ++ (bytes ">" ++ b))) f
        (join (bytes "<") (commas t ++ (bytes ">" ++ b)) refl
        (join (commas t) (bytes ">" ++ b) (commas-say t (plain-say (select is_type (later ps)) (select-say is_type (later ps) l)))
        (join (bytes ">") b refl (braces-say (plain (select is_field (later ps))) (plain-say (select is_field (later ps)) (select-say is_field (later ps) l))))))

-- trees whose leaves' words show
unfoldable mutual
  pub WordsShow : Tree → Type 0
  WordsShow (leaf k s e w) = all_of shows w ≡ true
  WordsShow (node k s e ts) = AllWordsShow ts

  pub AllWordsShow : Trees → Type 0
  AllWordsShow none = Unit {0}
  AllWordsShow (more t ts) = WordsShow t × AllWordsShow ts

leaf-says : (k : ℕ) (w : List ℕ) → Say w → Say (line (spelled k w))
unfolding line all_of shows in_range
leaf-says k w h = say-cond (eqb k RecUnit) (bytes "()") w refl h

mutual
  unfolding WordsShow AllWordsShow build builds line pieces

  line-says : (t : Tree) → WordsShow t → Say (line (build t))
  line-says (leaf k s e w) h = leaf-says k w h
  line-says (node k s e ts) h = shape-says k (pieces (builds ts)) (pieces-say ts h)

  pieces-say : (ts : Trees) → AllWordsShow ts → PiecesSay (pieces (builds ts))
  pieces-say none h = tt
  pieces-say (more t ts) h = (line-says t h.0, pieces-say ts h.1)

pub line-shows : (t : Tree) → WordsShow t → all_of shows (shown t) ≡ true
unfolding shown
line-shows t h = line-says t h

-- a byte below 128 is unprintable exactly where it does not show
pub shows-clean : (a : ℕ) → shows a ≡ true → is_unprintable a ≡ false
unfolding shows in_range is_unprintable
shows-clean a h =
    let l : 32 ≤ a = leb-true 32 a (and_left (leb 32 a) (leb a 126) h) in
    let r : a ≤ 126 = leb-true a 126 (and_right (leb 32 a) (leb a 126) h) in
    rw (le-ltb a 32 l, ne_eqb a 127 (λ e. absurd (omega arith)))

pub clean_shows : (a : ℕ) → is_ascii a ≡ true → is_unprintable a ≡ false → shows a ≡ true
unfolding is_ascii is_unprintable shows in_range
clean_shows a g h =
    let l : 32 ≤ a = ltb-false a 32 (or_left (ltb a 32) (eqb a 127) h) in
    let m : a < 128 = ltb-true a 128 g in
    let n = eqb-false a 127 (or_right (ltb a 32) (eqb a 127) h) in
    let r : a ≤ 126 = omega (arith, n) in
    rw (le-leb 32 a l, le-leb a 126 r)

-- the same of a string's word
pub word-clean : (p : ℕ) (w : List ℕ) → all_of shows w ≡ true → unprintable_in p w ≡ clean
unfolding unprintable_in all_of
word-clean p [] h = refl
word-clean p (a ∷ w) h = rw (shows-clean a (and_left (shows a) (all_of shows w) h)) (word-clean (suc p) w (and_right (shows a) (all_of shows w) h))

some-clean : (A : Type 0) (p : ℕ) → found_at p ≡ clean → A
some-clean A p h = let z : ◌≡◌ {A = ℕ} 0 1 = cc in absurd (omega arith)

pub clean-word : (p : ℕ) (w : List ℕ) → all_of is_ascii w ≡ true → unprintable_in p w ≡ clean → all_of shows w ≡ true
unfolding unprintable_in all_of
clean-word p [] g h = refl
clean-word p (a ∷ w) g h = go (is_unprintable a) refl h (clean-word (suc p) w (and_right (is_ascii a) (all_of is_ascii w) g))
  where
    go : (b : Bool) → is_unprintable a ≡ b → cond b (found_at p) (unprintable_in (suc p) w) ≡ clean → (unprintable_in (suc p) w ≡ clean → all_of shows w ≡ true) → shows a && all_of shows w ≡ true
    go true e i r = some-clean _ p i
    go false e i r = rw (clean_shows a (and_left (is_ascii a) (all_of is_ascii w) g) e) (r i)

-- the run of bytes that show ends at the first unprintable one, or behind the last
pub word-run : (p : ℕ) (w : List ℕ) → all_of is_ascii w ≡ true → unprintable_in p w ≡ cond (ltb (run_len shows w) (length w)) (found_at (p + run_len shows w)) clean
unfolding unprintable_in all_of run_len
word-run p [] g = refl
word-run p (a ∷ w) g = go (shows a) refl (is_unprintable a) refl (word-run (suc p) w (and_right (is_ascii a) (all_of is_ascii w) g))
  where
    go : (b : Bool) → shows a ≡ b → (c : Bool) → is_unprintable a ≡ c → unprintable_in (suc p) w ≡ cond (ltb (run_len shows w) (length w)) (found_at (suc p + run_len shows w)) clean
        → cond c (found_at p) (unprintable_in (suc p) w) ≡ cond (ltb (cond b (suc (run_len shows w)) 0) (suc (length w))) (found_at (p + cond b (suc (run_len shows w)) 0)) clean
    go true e true f i = false-true _ (sym (shows-clean a e) ∙ f)
    go true e false f i = step (ltb (run_len shows w) (length w)) refl i
      where
        step : (d : Bool) → ltb (run_len shows w) (length w) ≡ d → unprintable_in (suc p) w ≡ cond (ltb (run_len shows w) (length w)) (found_at (suc p + run_len shows w)) clean
            → unprintable_in (suc p) w ≡ cond (ltb (suc (run_len shows w)) (suc (length w))) (found_at (p + suc (run_len shows w))) clean
        step true d j =
            let m : suc (run_len shows w) < suc (length w) = let k = ltb-true (run_len shows w) (length w) d in omega arith in
            let n : suc p + run_len shows w ≡ p + suc (run_len shows w) = omega arith in
            j ∙ rw (d, lt-ltb (suc (run_len shows w)) (suc (length w)) m, n)
        step false d j =
            let m : suc (length w) ≤ suc (run_len shows w) = let k = ltb-false (run_len shows w) (length w) d in omega arith in
            j ∙ rw (d, le-ltb (suc (run_len shows w)) (suc (length w)) m)
    go false e true f i = let n : p + 0 ≡ p = omega arith in rw (lt-ltb 0 (suc (length w)) (omega arith), n)
    go false e false f i = false-true _ (sym e ∙ clean_shows a (and_left (is_ascii a) (all_of is_ascii w) g) f)

-- trees whose words show are clean
mutual
  unfolding WordsShow AllWordsShow unprintable unprintable_all first_of

  pub words-clean : (t : Tree) → WordsShow t → unprintable t ≡ clean
  words-clean (leaf k s e w) h = go (is_string k)
    where
      go : (b : Bool) → cond b (unprintable_in s w) clean ≡ clean
      go true = word-clean s w h
      go false = refl
  words-clean (node k s e ts) h = all-clean ts h

  all-clean : (ts : Trees) → AllWordsShow ts → unprintable_all ts ≡ clean
  all-clean none h = refl
  all-clean (more t ts) h = ap (λ (q : FirstByte). first_of q (unprintable_all ts)) (words-clean t h.0) ∙ all-clean ts h.1

-- whether a tree has an unprintable byte, by its build
abbrev keeps : ℕ → Bool
keeps x = not (is_unprintable x)

unfoldable mutual
  clear : Build → Bool
  clear (spelled k w) = cond (is_string k) (all_of keeps w) true
  clear (made k bs) = clear_all bs

  clear_all : Builds → Bool
  clear_all bnone = true
  clear_all (bmore b bs) = clear b && clear_all bs

abbrev is_clean : FirstByte → Bool
is_clean clean = true
is_clean (found_at p) = false

word-clear : (p : ℕ) (w : List ℕ) → is_clean (unprintable_in p w) ≡ all_of keeps w
unfolding unprintable_in all_of
word-clear p [] = refl
word-clear p (a ∷ w) = go (is_unprintable a) (word-clear (suc p) w)
  where
    go : (b : Bool) → is_clean (unprintable_in (suc p) w) ≡ all_of keeps w → is_clean (cond b (found_at p) (unprintable_in (suc p) w)) ≡ not b && all_of keeps w
    go true i = refl
    go false i = i

first-clear : (p q : FirstByte) → is_clean (first_of p q) ≡ is_clean p && is_clean q
unfolding first_of
first-clear clean q = refl
first-clear (found_at p) q = refl

mutual
  unfolding build builds unprintable unprintable_all clear clear_all

  tree-clear : (t : Tree) → is_clean (unprintable t) ≡ clear (build t)
  tree-clear (leaf k s e w) = go (is_string k)
    where
      go : (b : Bool) → is_clean (cond b (unprintable_in s w) clean) ≡ cond b (all_of keeps w) true
      go true = word-clear s w
      go false = refl
  tree-clear (node k s e ts) = trees-clear ts

  trees-clear : (ts : Trees) → is_clean (unprintable_all ts) ≡ clear_all (builds ts)
  trees-clear none = refl
  trees-clear (more t ts) = first-clear (unprintable t) (unprintable_all ts) ∙ rw (tree-clear t, trees-clear ts)

is-clean : (p : FirstByte) → is_clean p ≡ true → p ≡ clean
is-clean clean h = refl
is-clean (found_at p) h = false-true _ h

-- of two trees of one build both have an unprintable byte, or neither has
pub build-unprintable : (t u : Tree) → build t ≡ build u → (unprintable t ≡ clean) ↔ (unprintable u ≡ clean)
build-unprintable t u e = (over t u e, over u t (sym e))
  where
    over : (t u : Tree) → build t ≡ build u → unprintable t ≡ clean → unprintable u ≡ clean
    over t u e h = is-clean (unprintable u) (tree-clear u ∙ ap clear (sym e) ∙ sym (tree-clear t) ∙ ap is_clean h)
