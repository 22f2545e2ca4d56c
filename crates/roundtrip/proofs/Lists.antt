-- A comma list reads back where each of its items does.
use mathlib.Core.Path.{◌≡◌, refl, sym, ap, ap₂, ◌∙◌}
use mathlib.Core.Bool.{Bool, true, false, ◌||◌}
use mathlib.Core.List.{List, ◌∷◌, ◌++◌, append_assoc}
use Prim.Native.Nat.{ℕ, zero, suc, ◌≤◌, ◌<◌}
use native.Mathlib.Omega.{arith}
use lib.Dec.{eqb}
use lib.ListN.{length, drop, length-append}
use Rattle.classes.specs.Class.{in_range, is_digit, is_letter, is_name}
use Rattle.classes.proofs.Bools.{and-false}
use Rattle.words.specs.Kinds.{Comma, Less, Greater, GreaterGreater, LBrace, ColonColon}
use Rattle.tokens.specs.Refusals.{ListNotClosed}
use Rattle.records.specs.Tree.{Tree, Trees, none, more, bmore, build, builds}
use Rattle.sources.specs.Source.{Source, Lexeme, after, split, lex}
use Rattle.answers.specs.Reading.{ok, no, then, look, when, closed, refused_before, Reader, list, list_behind}
use Rattle.forms.specs.Line.{shown}
use Rattle.forms.specs.Forms.{FormLine, laid}
use Rattle.forms.specs.code.Constructs.{mark_in, listed_rest, laid_items}
use Rattle.roundtrip.proofs.Words.{Stops, extends, differs}
use Rattle.roundtrip.proofs.Tokens.{Met, met-map, Editions, Rest, Near, at_once, blank, near-long, Stands}
use Rattle.roundtrip.proofs.Answers.{Gives, gives, Shuts, Stays, gives_then, gives-look, gives-true, gives-false, gives-stays, gives-shuts}
use Rattle.roundtrip.proofs.Marks.{is_equal, comma, greater, Ends, ends, ends-greater}

abbrev pub All : (Tree → Type 0) → Trees → Type 0
All P none = Unit {0}
All P (more t ts) = P t × All P ts

pub all_map : (P Q : Tree → Type 0) → ((t : Tree) → P t → Q t) → (ts : Trees) → All P ts → All Q ts
all_map P Q f none a = tt
all_map P Q f (more t ts) a = (f t a.0, all_map P Q f ts a.1)

-- the lines of trees with commas between them, in front of y
abbrev pub rest : Trees → List ℕ → List ℕ
rest none y = y
rest (more t ts) y = 44 ∷ 32 ∷ (shown t ++ rest ts y)

abbrev pub join : Trees → List ℕ → List ℕ
join none y = y
join (more t ts) y = shown t ++ rest ts y

rest-listed : (ts : Trees) (y : List ℕ) → listed_rest FormLine ts ++ y ≡ rest ts y
unfolding listed_rest mark_in laid
rest-listed none y = refl
rest-listed (more t ts) y = ap (λ (x : List ℕ). 44 ∷ 32 ∷ x) (append_assoc (shown t) (listed_rest FormLine ts) y ∙ ap (◌++◌ (shown t)) (rest-listed ts y))

pub join-listed : (ts : Trees) (y : List ℕ) → laid_items FormLine ts ++ y ≡ join ts y
unfolding laid_items laid
join-listed none y = refl
join-listed (more t ts) y = append_assoc (shown t) (listed_rest FormLine ts) y ∙ ap (◌++◌ (shown t)) (rest-listed ts y)

-- what is read has the same build
abbrev pub Same : Tree → Tree → Type 0
Same t x = build x ≡ build t

abbrev pub SameAll : Trees → Trees → Type 0
SameAll ts xs = builds xs ≡ builds ts

-- the tokens behind a name by which a binding is no variable
abbrev pub structs : ℕ → Bool
structs k = eqb k LBrace || eqb k Less || eqb k ColonColon

-- a token that neither closes a list nor is a comma
pub record Opens (close : ℕ) (t : Lexeme) : Type 0 where
  pub stays : Stays close t
  pub no_comma : eqb t.kind Comma ≡ false

-- a token of a class
abbrev pub Begins : (ℕ → Bool) → Lexeme → Type 0
Begins F t = F t.kind ≡ true

module _ (es : Editions) where
  -- the line of x reads back, and F holds of its first token
  abbrev pub Reads : Reader → (Lexeme → Type 0) → Tree → Type 0
  Reads item F x = (u : Source) (z : List ℕ) → Near es u (shown x ++ z) → Ends es structs z → Met (λ (a : Lexeme). F a × Gives es (Same x) z (item a)) (lex u)

  -- the items of a list, where neither what closes it nor a comma is of the class of tokens that begin them
  pub opened : (item : Reader) (F : ℕ → Bool) (close : ℕ) → F close ≡ false → F GreaterGreater ≡ false → F Comma ≡ false → (x : Tree) → Reads item (Begins F) x → Reads item (Opens close) x
  opened item F close h i j x d u z n e = met-map (λ t g. (opens t g.0, g.1)) (d u z n e)
    where
      opens : (t : Lexeme) → F t.kind ≡ true → Opens close t
      opens t k =
          record {
            stays = record { no_close = differs F close t.kind h k; no_shift = rw (differs F GreaterGreater t.kind i k) (and-false (eqb close Greater)) };
            no_comma = differs F Comma t.kind j k;
          }

  -- y is a closing mark and z
  pub record Closed (close : ℕ) (y z : List ℕ) : Type 0 where
    pub is_end : Ends es structs y
    pub closes : (u : Source) → Near es u y → Met (Shuts es close z) (lex u)

  pub closed-mark : {S : List ℕ → Type 0} {k : ℕ} {w : List ℕ} → Stands es S k w → eqb k k ≡ true → structs k ≡ false → (z : List ℕ) → S z → Stops extends (w ++ z) → Stops is_equal (w ++ z) → Closed k (w ++ z) z
  unfolding closed when
  closed-mark {S} {k} m e h z s i j = record {
    is_end = ends es structs m z _ s h i j (λ u. at_once);
    closes = λ u n. met-map (λ t d. record { to = after t; rest = d.goes; shuts = λ f g. rw (d.kind, e) }) (m u z n s);
  }

  pub closed-greater : (z : List ℕ) → Stops is_equal z → Closed Greater (62 ∷ z) z
  unfolding closed when
  closed-greater z h = record {
    is_end = ends-greater es structs refl refl z h;
    closes = λ u n. greater es (Shuts es Greater z) u z n h (λ t d. record { to = after t; rest = d.goes; shuts = λ f g. rw d.kind }) λ y t e d.
        record { to = split t; rest = (d.here.0, ap (drop 1) d.here.1 ∙ sym e); shuts = λ f g. rw d.kind };
  }

  module _ (item : Reader) (close : ℕ) (o : Lexeme) (comma_open : eqb Comma close ≡ false) (y z : List ℕ) (cl : Closed close y z) where
    Back : Trees → Type 0
    Back ts = (f : ℕ) (u : Source) → Near es u (join ts y) → length (join ts y) < f → Gives es (SameAll ts) z (list item close o f (lex u))

    rest-ends : (ts : Trees) → Ends es structs (rest ts y)
    unfolding is_name is_letter is_digit in_range
    rest-ends none = cl.is_end
    rest-ends (more t ts) = ends es structs (comma es) _ _ tt refl refl refl (λ u. at_once)

    comma-stays : (t : Lexeme) → t.kind ≡ Comma → Stays close t
    comma-stays t e = record { no_close = rw (e, comma_open); no_shift = rw e (and-false (eqb close Greater)) }

    -- what follows an item
    after-back : (x t : Tree) → build x ≡ build t → (ts : Trees) → Back ts → (f : ℕ) → length (rest ts y) ≤ f → (u : Source) → Rest es u (rest ts y)
        → Gives es (SameAll (more t ts)) z (look (lex u) λ a. closed close a (λ v. ok (more x none) v) λ _. when (eqb a.kind Comma) (λ _. then (list item close o f (lex (after a))) λ xs v. ok (more x xs) v) λ _. no (refused_before ListNotClosed a o))
    unfolding Back builds
    after-back x t e none ih f h u i = gives-look _ (cl.closes u (at_once i)) λ a s. gives-shuts _ _ s (gives _ _ (ap (λ b. bmore b (builds none)) e) s.rest)
    after-back x t e (more t₂ ts) ih f h u i =
        gives-look _ (comma es u _ (at_once i) tt) λ a d. gives-stays close a _ _ (comma-stays a d.kind) (gives-true _ _ _ (rw d.kind)
        (gives_then _ (ih f (after a) (blank d.goes) (omega arith)) λ xs v g j. gives _ _ (ap₂ bmore e g) j))

    list_back : (ts : Trees) → All (Reads item (Opens close)) ts → Back ts
    unfolding Back list builds
    list_back none a zero u n h = absurd (omega arith)
    list_back none a (suc f) u n h = gives-look _ (cl.closes u n) λ t s. gives-shuts _ _ s (gives none _ refl s.rest)
    list_back (more t ts) a zero u n h = absurd (omega arith)
    list_back (more t ts) a (suc f) u n h =
        gives-look _ (a.0 u (rest ts y) n (rest-ends ts)) λ b d.
        gives-stays close b _ _ d.0.stays (gives-false _ _ _ d.0.no_comma
        (gives_then _ d.1 λ x v e i. after-back x t e ts (list_back ts a.1) f (omega (arith, length-append (shown t) (rest ts y))) v i))

    -- the list behind its opening mark
    pub list-reads : (ts : Trees) → All (Reads item (Opens close)) ts → Near es (after o) (join ts y) → Gives es (SameAll ts) z (list_behind item close o)
    unfolding Back list_behind
    list-reads ts a n = list_back ts a (suc (length (after o).rest)) (after o) n (omega (arith, near-long n))
