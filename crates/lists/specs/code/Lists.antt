-- What the functions of lists answer; and the contract of a function that reads a list.
use Rattle.std.specs.Prelude.{ℕ, ◌+◌, min, ◌≡◌, Bool, cond, ◌&&◌, List, [], eqb, Result, Ok, Err, Option, Some, None}
use Rattle.classes.specs.Bytes.{bytes}
use Rattle.words.specs.Kinds.{Comma, Greater, GreaterGreater}
use Rattle.tokens.specs.Refusals.{CommaForItem, ListNotClosed}
use Rattle.tokens.specs.Answers.{place, refusal}
use Rattle.tokens.specs.Calls.{next_token}
use Rattle.tokens.specs.declared.Refusal.{Refusal}
use Rattle.tokens.specs.declared.Token.{Token as Answer}
use Rattle.records.specs.Tree.{Trees, none, more}
use Rattle.sources.specs.Source.{Source}
use Rattle.answers.specs.Reading.{Ans, ok, Reader, list_behind}
use Rattle.forms.specs.Forms.{laid}
use Rattle.forms.specs.code.Constructs.{mark_in, laid_items}
use Rattle.forms.specs.code.Spots.{Placed}
use Rattle.forms.specs.declared.Spot.{Spot}
use Rattle.parts.specs.code.Meets.{Fits, held, ReadsBy}
use Rattle.parts.specs.declared.Way.{Way}
use Rattle.parts.specs.declared.Part.{Part}
use Rattle.lists.specs.declared.Items.{Items}
use Rattle.lists.specs.declared.Turn.{Turn}
use Rattle.lists.specs.declared.Turn.TheVariants.{Item, Closes}
use Rattle.lists.specs.declared.Step.{Step}
use Rattle.lists.specs.declared.Step.TheVariants.{Goes, Last, Closes as Shut}

-- whether a token closes a list, and where reading goes on: behind it, or behind the first byte of `>>`
unfoldable pub ending_at : ℕ → Answer → Option ℕ
ending_at close t = cond (eqb t.kind close) (Some t.end) (cond (eqb close Greater && eqb t.kind GreaterGreater) (Some (min (t.start + 1) t.end)) None)

-- before an item, by what its token says
unfoldable pub before_item : Answer → Option ℕ → Result Turn Refusal
before_item t (Some q) = Ok (Closes q)
before_item t None = cond (eqb t.kind Comma) (Err (refusal CommaForItem t.start t.start)) (Ok (Item t))

unfoldable pub next_item : ℕ → Result Answer Refusal → Result Turn Refusal
next_item close (Ok t) = before_item t (ending_at close t)
next_item close (Err r) = Err r

-- behind an item, by what the token behind it says
abbrev pub not_closed : Answer → Answer → Refusal
not_closed t o = record { number = ListNotClosed; place = place t.start t.start; second = place o.start o.start }

unfoldable pub behind_item : Answer → Spot → Answer → Option ℕ → Result Step Refusal
behind_item o s t (Some q) = Ok (Last s q)
behind_item o s t None = cond (eqb t.kind Comma) (Ok (Goes s t.end)) (Err (not_closed t o))

unfoldable pub after_item : ℕ → Answer → Result Part Refusal → Result Step Refusal
after_item close o (Ok p) = behind_item o p.to p.next (ending_at close p.next)
after_item close o (Err r) = Err r

-- a step of the list of such items that o opens, in the buffer l from the place s on
module _ (form ed : ℕ) (text : List ℕ) (item : Reader) (close : ℕ) (o : Answer) (first : Bool) (s : Spot) (l : List ℕ) where
  -- the item a, laid down behind what parts it from the one before it; the step is what the token behind it says
  pub record Itemed (a : Answer) (r : Result Step Refusal) (m : List ℕ) : Type 0 where
    pub from : Spot
    pub parted : List ℕ
    pub between : Placed l s (cond first [] (mark_in form (bytes ", "))) from parted
    pub part : Result Part Refusal
    pub reads : ReadsBy (laid form) ed text item a from parted part m
    pub is : r ≡ after_item close o part

  -- by what stands before the item
  unfoldable pub Steps : Result Turn Refusal → Result Step Refusal → List ℕ → Type 0
  Steps (Ok (Item a)) r m = Itemed a r m
  Steps (Ok (Closes q)) r m = (r ≡ Ok (Shut q)) × (m ≡ l)
  Steps (Err x) r m = (r ≡ Err x) × (m ≡ l)

-- the same on the way w: the step where an item is due at the offset `at`, and the one that takes the item whose first token is a
abbrev pub StepsAt : Way → List ℕ → Reader → ℕ → Answer → ℕ → Bool → Spot → List ℕ → Result Step Refusal → List ℕ → Type 0
StepsAt w text item close o at first s l r m = Steps w.form w.edition text item close o first s l (next_item close (next_token w.edition text at)) r m

abbrev pub ItemAt : Way → List ℕ → Reader → ℕ → Answer → Answer → Bool → Spot → List ℕ → Result Step Refusal → List ℕ → Type 0
ItemAt w text item close o a first s l r m = Itemed w.form w.edition text item close o first s l a r m

-- how many items: none, one, or more, which is 2; and one more of them
unfoldable pub count_of : Trees → ℕ
count_of none = 0
count_of (more x none) = 1
count_of (more x (more y xs)) = 2

abbrev pub one_more : ℕ → ℕ
one_more n = cond (eqb n 0) 1 2

-- a list that closes before q
unfoldable pub closed_at : ℕ → ℕ → Spot → Result Answer Refusal → Result Items Refusal
closed_at q n s (Ok t) = Ok (record { part = record { to = s; end = q; next = t }; count = n })
closed_at q n s (Err r) = Err r

-- a list, as a part of a record
unfoldable pub part_of : Result Items Refusal → Result Part Refusal
part_of (Ok n) = Ok n.part
part_of (Err r) = Err r

-- how many items the answer counts: as many as the list has that x says
unfoldable pub Counts : Ans Trees → Result Items Refusal → Type 0
Counts x (Ok n) = (ts : Trees) (u : Source) → x ≡ ok ts u → n.count ≡ count_of ts
Counts x (Err r) = Unit {0}

-- the contract of a function that lays down the items of the list which o opens: that of a part, and beside it how many items there are
pub record ListContract (form ed : ℕ) (text : List ℕ) (item : Reader) (close : ℕ) (o : Answer) (s : Spot) (l : List ℕ) (r : Result Items Refusal) (m : List ℕ) : Type 0 where
  pub reads : ReadsBy (laid_items form) ed text (list_behind item close) o s l (part_of r) m
  pub counts : (Fits text o → Counts (list_behind item close (held ed text o)) r)

-- the same on the way w
abbrev pub ReadsList : Way → List ℕ → Reader → ℕ → Answer → Spot → List ℕ → Result Items Refusal → List ℕ → Type 0
ReadsList w text item close o s l r m = ListContract w.form w.edition text item close o s l r m
