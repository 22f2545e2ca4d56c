-- Lists, from item to item: one law for each way through the loop of a list, over the reader of its items and for every form.
use mathlib.Core.Path.{◌≡◌, refl, ap, sym, ◌∙◌, subst}
use mathlib.Core.Bool.{Bool, true, false, cond, ◌&&◌}
use mathlib.Core.List.{List, [], ◌++◌}
use Prim.Native.Nat.{ℕ, suc, ◌+◌, ◌-◌, ◌<◌, ◌≤◌, min}
use native.Mathlib.Omega.{arith}
use native.Mathlib.Nat.{add-zero}
use borrow.Author.Tests.{eqb-true}
use lib.Dec.{eqb}
use lib.ListN.{length, length-drop}
use lib.Seq.{sets}
use Rattle.classes.specs.Bytes.{bytes}
use Rattle.classes.proofs.Bools.{and_right}
use Rattle.words.specs.Kinds.{Comma, Greater, GreaterGreater}
use Rattle.tokens.specs.Refusals.{CommaForItem, ListNotClosed}
use Rattle.tokens.specs.Calls.{text_limit, next_token}
use Rattle.tokens.specs.declared.Refusal.{Refusal}
use Rattle.tokens.specs.declared.Token.{Token as Answer}
use Rattle.records.specs.Tree.{Tree, Trees, none, more, joined, behind}
use Rattle.sources.specs.Source.{Source, opened, split, after, lex}
use Rattle.answers.specs.Reading.{Ans, ok, no, then, look, when, closed, refused_before, unexpected, Reader, list, list_behind}
use Rattle.forms.specs.Forms.{laid}
use Rattle.forms.specs.code.Constructs.{mark_in, laid_items}
use Rattle.forms.specs.code.Spots.{last, moved_by, Placed}
use Rattle.forms.specs.declared.Spot.{Spot}
use Rattle.forms.proofs.Placing.{capped, moved_twice, placed-long, placed-as, placed-both}
use Rattle.parts.specs.code.Meets.{Fits, held, followed_by, Contract, ReadsBy}
use Rattle.parts.specs.declared.Part.{Part}
use Rattle.parts.proofs.Held.{past-opened, held_after, Next, next-found, next-refused}
use Rattle.parts.proofs.Contracts.{reads-no, reads-finished, reads-had, reads-goes, reads-not, refuses-look}
use Rattle.lists.specs.code.Lists.{ending_at, before_item, next_item, behind_item, after_item, Itemed, Steps, count_of, one_more, closed_at, part_of, Counts, ListContract}
use Rattle.lists.specs.declared.Turn.{Turn}
use Rattle.lists.specs.declared.Turn.TheVariants.{Item, Closes}
use Rattle.lists.specs.declared.Step.{Step}
use Rattle.lists.specs.declared.Step.TheVariants.{Goes, Last, Closes as Shut}
use Rattle.lists.proofs.Laying.{joined-behind, joined-none, joined-one, listed-behind, count-behind}
use Rattle.lists.specs.declared.Items.{Items}
use Rattle.std.specs.Prelude.{Result, Ok, Err, Option, Some, None, ℕ}

-- a token of a text that closes a list, and one that does not
module _ (ed : ℕ) (text : List ℕ) (close : ℕ) (t : Answer) (fit : Fits text t) where
  abbrev double : Bool
  double = eqb close Greater && eqb t.kind GreaterGreater

  split_at : double ≡ true → split (held ed text t) ≡ opened ed text (min (t.start + 1) t.end)
  split_at h =
      let k = eqb-true t.kind GreaterGreater (and_right (eqb close Greater) (eqb t.kind GreaterGreater) h) in
      past-opened ed text 1 t.start (min (t.start + 1) t.end) (omega (arith, k, fit.1))

  module _ {B : Type 0} (f : Source → Ans B) (g : Unit {0} → Ans B) where
    Closed : Option ℕ → Type 0
    Closed (Some q) = closed close (held ed text t) f g ≡ f (opened ed text q)
    Closed None = closed close (held ed text t) f g ≡ g tt

    closed-by : (b d : Bool) → eqb t.kind close ≡ b → double ≡ d → Closed (cond b (Some t.end) (cond d (Some (min (t.start + 1) t.end)) None))
    unfolding closed when Closed
    closed-by true d h i = rw h (ap f (held_after ed text t fit))
    closed-by false true h i = rw (h, i) (ap f (split_at i))
    closed-by false false h i = rw (h, i)

    closed-as : (e : Option ℕ) → ending_at close t ≡ e → Closed e
    unfolding ending_at
    closed-as e h = subst Closed h (closed-by (eqb t.kind close) double refl refl)

  -- reading goes on in the token or behind it
  Ends : Option ℕ → Type 0
  Ends (Some q) = (t.start ≤ q) × (q ≤ t.end)
  Ends None = Unit {0}

  ends_by : (b d : Bool) → Ends (cond b (Some t.end) (cond d (Some (min (t.start + 1) t.end)) None))
  unfolding Ends
  ends_by true d = (omega (arith, fit.1), omega arith)
  ends_by false true = (omega (arith, fit.1), omega arith)
  ends_by false false = tt

  ending-in : (q : ℕ) → ending_at close t ≡ Some q → (t.start ≤ q) × (q ≤ t.end)
  unfolding ending_at Ends
  ending-in q h = subst Ends h (ends_by (eqb t.kind close) double)

module _ (ed : ℕ) (text : List ℕ) (item : Reader) (close : ℕ) (o : Answer) where
  -- the list from an item on, with fuel for f items behind it; and behind an item
  abbrev onward : ℕ → ℕ → Ans Trees
  onward f at = list item close (held ed text o) (suc f) (lex (opened ed text at))

  abbrev rest : ℕ → Ans Tree → Ans Trees
  rest f a =
      then a λ x u.
      look (lex u) λ t.
      closed close t (λ v. ok (more x none) v) λ _.
      when (eqb t.kind Comma) (λ _. then (list item close (held ed text o) f (lex (after t))) λ xs v. ok (more x xs) v) λ _.
      no (refused_before ListNotClosed t (held ed text o))

  -- what the token before an item says
  Turned : ℕ → Result Turn Refusal → Type 0
  Turned at (Ok (Item a)) = Next ed text at a × ((f : ℕ) → onward f at ≡ rest f (item (held ed text a)))
  Turned at (Ok (Closes q)) = (at ≤ q) × (q ≤ length text) × ((f : ℕ) → onward f at ≡ ok none (opened ed text q))
  Turned at (Err r) = (length text ≤ text_limit → at ≤ length text → (f : ℕ) → onward f at ≡ no r)

  module _ (at : ℕ) (t : Answer) (h : next_token ed text at ≡ Ok t) where
    abbrev found : Next ed text at t
    found = next-found ed text at t h

    onward-found : (f : ℕ) → onward f at ≡ closed close (held ed text t) (λ u. ok none u) (λ _. when (eqb t.kind Comma) (λ _. no (refused_before CommaForItem (held ed text t) (held ed text t))) λ _. rest f (item (held ed text t)))
    unfolding list look
    onward-found f = rw found.is

    turned_by : (e : Option ℕ) (b : Bool) → ending_at close t ≡ e → eqb t.kind Comma ≡ b → Turned at (before_item t e)
    unfolding before_item Turned when Closed
    turned_by (Some q) b g i =
        let z = ending-in ed text close t found.fits q g in
        (omega (arith, found.from, z.0), omega (arith, found.fits.2, z.1), λ f. onward-found f ∙ closed-as ed text close t found.fits _ _ (Some q) g)
    turned_by None true g i = rw i (λ _ _ f. onward-found f ∙ closed-as ed text close t found.fits _ _ None g ∙ rw i)
    turned_by None false g i = rw i (found, λ f. onward-found f ∙ closed-as ed text close t found.fits _ _ None g ∙ rw i)

  turned : (at : ℕ) → Turned at (next_item close (next_token ed text at))
  unfolding next_item Turned list look
  turned at = go (next_token ed text at) refl
    where
      go : (y : Result Answer Refusal) → next_token ed text at ≡ y → Turned at (next_item close y)
      go (Ok t) h = turned_by at t h (ending_at close t) (eqb t.kind Comma) refl refl
      go (Err r) h = λ i j f. rw (next-refused ed text at i j r h)

  -- what the token behind an item says; the item x was laid down from s on
  record Passed (form : ℕ) (x : Ans Tree) (by : ℕ → Tree → Ans Trees) (from : ℕ) (s : Spot) (l : List ℕ) (e : Spot) (q : ℕ) (m : List ℕ) : Type 0 where
    what : Tree
    is : (f : ℕ) → rest f x ≡ by f what
    bytes : Placed l s (laid form what) e m
    after : from ≤ q
    within : q ≤ length text

  abbrev ended : ℕ → ℕ → Tree → Ans Trees
  ended q f x = ok (more x none) (opened ed text q)

  abbrev goes_on : ℕ → ℕ → Tree → Ans Trees
  goes_on q f x = then (list item close (held ed text o) f (lex (opened ed text q))) (λ xs v. ok (more x xs) v)

  module _ (form : ℕ) (x : Ans Tree) (from : ℕ) (s : Spot) (l m : List ℕ) where
    Stepped : Result Step Refusal → Type 0
    Stepped (Ok (Goes e q)) = Passed form x (goes_on q) from s l e q m × (from < q)
    Stepped (Ok (Last e q)) = Passed form x (ended q) from s l e q m
    Stepped (Ok (Shut q)) = ⊥
    Stepped (Err r) = (f : ℕ) → rest f x ≡ no r

    module _ (what : Tree) (p : Part) (y : x ≡ ok what (opened ed text p.end)) (z : Placed l s (laid form what) p.to m) (i : from ≤ p.end) (h : next_token ed text p.end ≡ Ok p.next) where
      abbrev behind-it : Next ed text p.end p.next
      behind-it = next-found ed text p.end p.next h

      rest-found : (f : ℕ) → rest f x ≡ closed close (held ed text p.next) (λ v. ok (more what none) v)
          (λ _. when (eqb p.next.kind Comma) (λ _. then (list item close (held ed text o) f (lex (after (held ed text p.next)))) λ xs v. ok (more what xs) v) λ _. no (refused_before ListNotClosed (held ed text p.next) (held ed text o)))
      unfolding then look
      rest-found f = rw (y, behind-it.is)

      stepped_by : (e : Option ℕ) (b : Bool) → ending_at close p.next ≡ e → eqb p.next.kind Comma ≡ b → Stepped (behind_item o p.to p.next e)
      unfolding behind_item Stepped when Closed
      stepped_by (Some q) b g j =
          let w = ending-in ed text close p.next behind-it.fits q g in
          record {
            what = what;
            is = λ f. rest-found f ∙ closed-as ed text close p.next behind-it.fits _ _ (Some q) g;
            bytes = z;
            after = omega (arith, i, behind-it.from, w.0);
            within = omega (arith, behind-it.fits.2, w.1);
          }
      stepped_by None true g j =
          let k = eqb-true p.next.kind Comma j in
          rw j (
            record {
              what = what;
              is = λ f. rest-found f ∙ closed-as ed text close p.next behind-it.fits _ _ None g ∙ rw (j, held_after ed text p.next behind-it.fits);
              bytes = z;
              after = omega (arith, i, behind-it.from, behind-it.fits.1);
              within = behind-it.fits.2;
            },
            omega (arith, i, k, behind-it.from, behind-it.fits.1),
          )
      stepped_by None false g j = rw j (λ f. rest-found f ∙ closed-as ed text close p.next behind-it.fits _ _ None g ∙ rw j)

    stepped : (fits : Type 0) → fits → (r : Result Part Refusal) → Contract (laid form) ed text fits x from s l r m → Stepped (after_item close o r)
    unfolding after_item Stepped
    stepped fits fit (Ok p) d =
        let w = reads-had d p refl fit in
        let v = reads-goes d p refl in
        stepped_by w.what p w.is w.bytes v.0 v.1 (ending_at close p.next) (eqb p.next.kind Comma) refl refl
    stepped fits fit (Err r) d = λ f. refuses-look x r _ (reads-not d r refl fit)

-- the first token of an item
pub item-there : (ed : ℕ) (text : List ℕ) (close at : ℕ) (a : Answer) → next_item close (next_token ed text at) ≡ Ok (Item a) → Next ed text at a
unfolding Turned
item-there ed text close at a e = (subst (Turned ed text (λ t. unexpected t) close a at) e (turned ed text (λ t. unexpected t) close a at)).0

-- how answers go on
then-none : (a : Ans Trees) → a ≡ then a (λ ts u. ok (joined none ts) u)
unfolding then joined
then-none (ok ts u) = refl
then-none (no r) = refl

then-behind : (us : Trees) (t : Tree) (a : Ans Trees) → then (then a (λ ts u. ok (more t ts) u)) (λ ts u. ok (joined us ts) u) ≡ then a (λ ts u. ok (joined (behind us t) ts) u)
unfolding then
then-behind us t (ok ts u) = ap (λ (x : Trees). ok x u) (sym (joined-behind us ts t))
then-behind us t (no r) = refl

-- the place before which nothing was written
start_none : (l : List ℕ) (s s₀ : Spot) → s₀ ≡ moved_by s 0 → Placed l s₀ [] s₀ l
start_none l s s₀ e = record { ends = e ∙ sym (moved_twice s 0 0) ∙ ap (λ (x : Spot). moved_by x 0) (sym e); holds = refl }

start-placed : (l m xs : List ℕ) (s s₀ r : Spot) → length l ≤ last → s₀ ≡ moved_by s 0 → Placed l s₀ xs r m → Placed l s xs r m
start-placed l m xs s s₀ r h e w =
    record {
      ends = w.ends ∙ ap (λ (x : Spot). moved_by x (length xs)) e ∙ moved_twice s 0 (length xs) ∙ ap (moved_by s) (omega arith);
      holds = w.holds ∙ ap (λ (x : Spot). sets l x.pos xs) e ∙ capped l xs (s.pos + 0) h ∙ ap (λ (x : ℕ). sets l x xs) (add-zero s.pos);
    }

-- a step, by what stands before the item
module _ (form ed : ℕ) (text : List ℕ) (item : Reader) (close : ℕ) (o : Answer) (first : Bool) (s : Spot) (l : List ℕ) (b : Result Turn Refusal) where
  pub steps-refused : (x : Refusal) (r : Result Step Refusal) → b ≡ Err x → r ≡ Err x → Steps form ed text item close o first s l b r l
  unfolding Steps
  steps-refused x r e d = rw e (d, refl)

  pub steps-closes : (q : ℕ) → b ≡ Ok (Closes q) → Steps form ed text item close o first s l b (Ok (Shut q)) l
  unfolding Steps
  steps-closes q e = rw e (refl, refl)

  pub steps-item : (a : Answer) (r : Result Step Refusal) (m : List ℕ) → b ≡ Ok (Item a) → Itemed form ed text item close o first s l a r m → Steps form ed text item close o first s l b r m
  unfolding Steps
  steps-item a r m e d = rw e d

-- whether a step took an item
Took : Result Step Refusal → Type 0
Took (Ok (Goes e q)) = Unit {0}
Took (Ok (Last e q)) = Unit {0}
Took (Ok (Shut q)) = ⊥
Took (Err r) = ⊥

module _ (form ed : ℕ) (text : List ℕ) (item : Reader) (close : ℕ) (o : Answer) where
  abbrev whole : Ans Trees
  whole = list_behind item close (held ed text o)

  -- the list behind the items that were seen, which stand in the buffer from s₀ on; reading goes on at i
  pub record Going (s₀ : Spot) (l₀ : List ℕ) (i : ℕ) (s : Spot) (count : ℕ) (l : List ℕ) : Type 0 where
    pub seen : Trees
    pub fuel : ℕ
    pub enough : length text ≤ fuel + i
    pub is : (Fits text o → whole ≡ then (onward ed text item close o fuel i) (λ ts u. ok (joined seen ts) u))
    pub counts : count ≡ count_of seen
    pub bytes : Placed l₀ s₀ (laid_items form seen) s l
    pub after : o.end ≤ i
    pub within : (Fits text o → i ≤ length text)

  module _ (s s₀ : Spot) (z : s₀ ≡ moved_by s 0) (l₀ : List ℕ) (h : length l₀ ≤ last) where
    pub going-first : Going s₀ l₀ o.end s₀ 0 l₀
    unfolding list_behind count_of laid_items
    going-first =
        record {
          seen = none;
          fuel = length text - o.end;
          enough = omega arith;
          is = λ fit.
              ap (λ (u : Source). list item close (held ed text o) (suc (length u.rest)) (lex u)) (held_after ed text o fit)
              ∙ ap (λ (f : ℕ). onward ed text item close o f o.end) (length-drop o.end text)
              ∙ then-none (onward ed text item close o (length text - o.end) o.end);
          counts = refl;
          bytes = start_none l₀ s s₀ z;
          after = omega arith;
          within = λ fit. fit.2;
        }

    abbrev Answers : Result Items Refusal → List ℕ → Type 0
    Answers r m = ListContract form ed text item close o s l₀ r m

    -- the list closes before q
    closed-part : (q n : ℕ) (w : Spot) (y : Result Answer Refusal) → part_of (closed_at q n w y) ≡ followed_by w q y
    unfolding closed_at part_of followed_by
    closed-part q n w (Ok t) = refl
    closed-part q n w (Err r) = refl

    closed-counts : (x : Ans Trees) (ts : Trees) (v : Source) (q n : ℕ) (w : Spot) (y : Result Answer Refusal) → x ≡ ok ts v → n ≡ count_of ts → Counts x (closed_at q n w y)
    unfolding closed_at Counts
    closed-counts x ts v q n w (Ok t) e c = λ us u d. (let same : ts ≡ us = cc in c ∙ ap count_of same)
    closed-counts x ts v q n w (Err r) e c = tt

    closes_by : (ts : Trees) (q n : ℕ) (w : Spot) (m : List ℕ) (r : Result Items Refusal) → (Fits text o → whole ≡ ok ts (opened ed text q)) → n ≡ count_of ts → Placed l₀ s₀ (laid_items form ts) w m → o.end ≤ q → q ≤ length text
        → r ≡ closed_at q n w (next_token ed text q) → Answers r m
    closes_by ts q n w m r e c b g i x =
        record {
          reads = reads-finished ts q w (part_of r) g (λ fit. (fit.0, i)) e (start-placed l₀ m (laid_items form ts) s s₀ w h z b) (ap part_of x ∙ closed-part q n w (next_token ed text q));
          counts = λ fit. subst (Counts whole) (sym x) (closed-counts whole ts (opened ed text q) q n w (next_token ed text q) (e fit) c);
        }

    -- the list is refused
    stops-by : (m : List ℕ) (r : Refusal) → (Fits text o → whole ≡ no r) → Answers (Err r) m
    unfolding part_of Counts
    stops-by m r e = record { reads = reads-no r e; counts = λ fit. tt }

    module _ (i n : ℕ) (to : Spot) (l : List ℕ) (g : Going s₀ l₀ i to n l) where
      abbrev turn : Result Turn Refusal
      turn = next_item close (next_token ed text i)

      list-refused : (r : Refusal) → turn ≡ Err r → Answers (Err r) l
      unfolding Turned then
      list-refused r e =
          let d = subst (Turned ed text item close o i) e (turned ed text item close o i) in
          stops-by l r (λ fit. g.is fit ∙ rw (d fit.0 (g.within fit) g.fuel))

      list-closes : (q : ℕ) (r : Result Items Refusal) → turn ≡ Ok (Closes q) → r ≡ closed_at q n to (next_token ed text q) → Answers r l
      unfolding Turned then
      list-closes q r e x =
          let d = subst (Turned ed text item close o i) e (turned ed text item close o i) in
          closes_by g.seen q n to l r
          (λ fit. g.is fit ∙ rw (d.2 g.fuel) (ap (λ (ts : Trees). ok ts (opened ed text q)) (joined-none g.seen)))
          g.counts g.bytes (omega (arith, g.after, d.0)) d.1 x

      -- an item, which was laid down behind what parts it from the one before it
      module _ (a : Answer) (e : turn ≡ Ok (Item a)) (p : Spot) (k : List ℕ) (y : Placed l to (cond (eqb n 0) [] (mark_in form (bytes ", "))) p k) (t : Result Part Refusal) (m : List ℕ)
          (w : ReadsBy (laid form) ed text item a p k t m) where
        abbrev item-here : Next ed text i a
        item-here = item-there ed text close i a e

        item-is : (f : ℕ) → onward ed text item close o f i ≡ rest ed text item close o f (item (held ed text a))
        unfolding Turned
        item-is = (subst (Turned ed text item close o i) e (turned ed text item close o i)).1

        abbrev Done : Result Step Refusal → Type 0
        Done = Stepped ed text item close o form (item (held ed text a)) a.end p k m

        done : Done (after_item close o t)
        done = stepped ed text item close o form (item (held ed text a)) a.end p k m (Fits text a) item-here.fits t w

        -- the items with one more
        one_more_lem : (x : Tree) (v : Spot) → Placed k p (laid form x) v m → Placed l₀ s₀ (laid_items form (behind g.seen x)) v m
        one_more_lem x v b =
            let parting = cond (eqb n 0) [] (mark_in form (bytes ", ")) in
            let j = placed-long l₀ l (laid_items form g.seen) s₀ to g.bytes in
            let both = placed-both l k m parting (laid form x) to p v (omega (arith, h, j)) y b in
            placed-as l₀ m (laid_items form g.seen ++ (parting ++ laid form x)) (laid_items form (behind g.seen x)) s₀ v
            (ap (λ (c : ℕ). laid_items form g.seen ++ (cond (eqb c 0) [] (mark_in form (bytes ", ")) ++ laid form x)) g.counts ∙ sym (listed-behind form g.seen x))
            (placed-both l₀ l m (laid_items form g.seen) (parting ++ laid form x) s₀ to v h g.bytes both)

        one-count : (x : Tree) (j : ℕ) → j ≡ one_more n → j ≡ count_of (behind g.seen x)
        one-count x j c = c ∙ ap one_more g.counts ∙ sym (count-behind g.seen x)

        list-stopped : (r : Refusal) → after_item close o t ≡ Err r → Answers (Err r) m
        unfolding Stepped then
        list-stopped r c =
            let d = subst Done c done in
            stops-by m r (λ fit. g.is fit ∙ rw (item-is g.fuel ∙ d g.fuel))

        module _ (v : Spot) (q j : ℕ) (b : j ≡ one_more n) where
          list-last : (r : Result Items Refusal) → after_item close o t ≡ Ok (Last v q) → r ≡ closed_at q j v (next_token ed text q) → Answers r m
          unfolding Stepped then
          list-last r c x =
              let d = subst Done c done in
              closes_by (behind g.seen d.what) q j v m r
              (λ fit. g.is fit ∙ rw (item-is g.fuel ∙ d.is g.fuel) (ap (λ (ts : Trees). ok ts (opened ed text q)) (joined-one g.seen d.what)))
              (one-count d.what j b) (one_more_lem d.what v d.bytes) (omega (arith, g.after, item-here.from, item-here.fits.1, d.after)) d.within x

          list_on : after_item close o t ≡ Ok (Goes v q) → (i < q) × (q ≤ length text)
          unfolding Stepped
          list_on c = let d = subst Done c done in (omega (arith, item-here.from, item-here.fits.1, d.1), d.0.within)

          list-goes : after_item close o t ≡ Ok (Goes v q) → Going s₀ l₀ q v j m
          unfolding Stepped
          list-goes c =
              let d = subst Done c done in
              let u : g.fuel ≡ suc (g.fuel - 1) = omega (arith, g.enough, item-here.from, item-here.fits.1, d.1, d.0.within) in
              record {
                seen = behind g.seen d.0.what;
                fuel = g.fuel - 1;
                enough = omega (arith, g.enough, item-here.from, item-here.fits.1, d.1);
                is = λ fit. g.is fit ∙ rw (item-is g.fuel ∙ d.0.is g.fuel) (then-behind g.seen d.0.what (list item close (held ed text o) g.fuel (lex (opened ed text q))))
                    ∙ ap (λ (x : ℕ). then (list item close (held ed text o) x (lex (opened ed text q))) (λ ts u. ok (joined (behind g.seen d.0.what) ts) u)) u;
                counts = one-count d.0.what j b;
                bytes = one_more_lem d.0.what v d.0.bytes;
                after = omega (arith, g.after, item-here.from, item-here.fits.1, d.1);
                within = λ fit. d.0.within;
              }

      -- a step, by what it gives
      module _ (c : Result Step Refusal) (m : List ℕ) where
        abbrev Is : Result Turn Refusal → Type 0
        Is b = Steps form ed text item close o (eqb n 0) to l b c m

        pub step-stopped : (r : Refusal) → Is turn → c ≡ Err r → Answers (Err r) m
        unfolding Steps
        step-stopped r d e = go turn refl d
          where
            go : (b : Result Turn Refusal) → turn ≡ b → Is b → Answers (Err r) m
            go (Ok (Item a)) k w = list-stopped a k w.from w.parted w.between w.part m w.reads r (sym w.is ∙ e)
            go (Ok (Closes q)) k w = let x : ◌≡◌ {A = Result Step Refusal} (Ok (Shut q)) (Err r) = sym w.0 ∙ e in let y : ◌≡◌ {A = ℕ} 0 1 = cc in absurd (omega arith)
            go (Err x) k w =
                let y : ◌≡◌ {A = Result Step Refusal} (Err x) (Err r) = sym w.0 ∙ e in
                let u : x ≡ r = cc in
                subst (λ (v : List ℕ). Answers (Err r) v) (sym w.1) (list-refused r (k ∙ ap Err u))

        pub step-closes : (q : ℕ) (r : Result Items Refusal) → Is turn → c ≡ Ok (Shut q) → r ≡ closed_at q n to (next_token ed text q) → Answers r m
        unfolding Steps Stepped
        step-closes q r d e x = go turn refl d
          where
            go : (b : Result Turn Refusal) → turn ≡ b → Is b → Answers r m
            go (Ok (Item a)) k w = absurd (subst (Done a k w.from w.parted w.between w.part m w.reads) (sym w.is ∙ e) (done a k w.from w.parted w.between w.part m w.reads))
            go (Ok (Closes q₂)) k w =
                let y : ◌≡◌ {A = Result Step Refusal} (Ok (Shut q₂)) (Ok (Shut q)) = sym w.0 ∙ e in
                let u : q₂ ≡ q = cc in
                subst (λ (v : List ℕ). Answers r v) (sym w.1) (list-closes q r (k ∙ ap (λ (v : ℕ). Ok (Closes v)) u) x)
            go (Err y) k w = let u : ◌≡◌ {A = Result Step Refusal} (Err y) (Ok (Shut q)) = sym w.0 ∙ e in let v : ◌≡◌ {A = ℕ} 0 1 = cc in absurd (omega arith)

        -- an item was read
        record Had (v : Result Step Refusal) : Type 0 where
          a : Answer
          there : turn ≡ Ok (Item a)
          itemed : Itemed form ed text item close o (eqb n 0) to l a c m
          same : after_item close o itemed.part ≡ v

        had : (v : Result Step Refusal) → Took v → Is turn → c ≡ v → Had v
        unfolding Steps Took
        had v t d e = go turn refl d
          where
            go : (b : Result Turn Refusal) → turn ≡ b → Is b → Had v
            go (Ok (Item a)) k w = record { a = a; there = k; itemed = w; same = sym w.is ∙ e }
            go (Ok (Closes q)) k w = absurd (subst Took (sym e ∙ w.0) t)
            go (Err x) k w = absurd (subst Took (sym e ∙ w.0) t)

        module _ (v : Spot) (q j : ℕ) (b : j ≡ one_more n) (d : Is turn) where
          pub step-last : (r : Result Items Refusal) → c ≡ Ok (Last v q) → r ≡ closed_at q j v (next_token ed text q) → Answers r m
          unfolding Took
          step-last r e x =
              let y = had (Ok (Last v q)) tt d e in
              let w = y.itemed in
              list-last y.a y.there w.from w.parted w.between w.part m w.reads v q j b r y.same x

          pub step-on : c ≡ Ok (Goes v q) → (i < q) × (q ≤ length text)
          unfolding Took
          step-on e =
              let y = had (Ok (Goes v q)) tt d e in
              let w = y.itemed in
              list_on y.a y.there w.from w.parted w.between w.part m w.reads v q j b y.same

          pub step-goes : c ≡ Ok (Goes v q) → Going s₀ l₀ q v j m
          unfolding Took
          step-goes e =
              let y = had (Ok (Goes v q)) tt d e in
              let w = y.itemed in
              list-goes y.a y.there w.from w.parted w.between w.part m w.reads v q j b y.same
