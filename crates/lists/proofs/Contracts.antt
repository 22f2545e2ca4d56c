-- The contract of a list, opened by what the answer is.
use mathlib.Core.Path.{◌≡◌, sym, subst}
use mathlib.Core.List.{List}
use Prim.Native.Nat.{ℕ, ◌≤◌}
use Rattle.tokens.specs.Calls.{next_token}
use Rattle.tokens.specs.declared.Refusal.{Refusal}
use Rattle.tokens.specs.declared.Token.{Token as Answer}
use Rattle.records.specs.Tree.{Trees}
use Rattle.sources.specs.Source.{Source}
use Rattle.answers.specs.Reading.{Ans, ok, Reader, list_behind}
use Rattle.forms.specs.code.Constructs.{laid_items}
use Rattle.forms.specs.declared.Spot.{Spot}
use Rattle.parts.specs.code.Meets.{Fits, held, Refuses, Had}
use Rattle.parts.proofs.Contracts.{handed-on, reads-had, reads-goes, reads-not}
use Rattle.lists.specs.code.Lists.{count_of, part_of, Counts, ListContract}
use Rattle.lists.specs.declared.Items.{Items}
use Rattle.std.specs.Prelude.{Result, Ok, Err, IsErr, IsErrAnd}

module _ (r : Result Items Refusal) where
  pub part-all : (n : Items) → r ≡ Ok n → part_of r ≡ Ok (n.part)
  unfolding part_of
  part-all n e = rw e

  pub part-broken : (q : Refusal) → r ≡ Err q → part_of r ≡ Err q
  unfolding part_of
  part-broken q e = rw e

module _ {form ed : ℕ} {text : List ℕ} {item : Reader} {close : ℕ} {o : Answer} {s : Spot} {l m : List ℕ} {r : Result Items Refusal} (d : ListContract form ed text item close o s l r m) where
  abbrev whole : Ans Trees
  whole = list_behind item close (held ed text o)

  pub all-had : (n : Items) → r ≡ Ok n → Fits text o → Had (laid_items form) ed text whole s l (n.part) m
  all-had n e = reads-had d.reads (n.part) (part-all r n e)

  pub all-goes : (n : Items) → r ≡ Ok n → (o.end ≤ n.part.end) × (next_token ed text n.part.end ≡ Ok n.part.next)
  all-goes n e = reads-goes d.reads (n.part) (part-all r n e)

  pub all-not : (q : Refusal) → r ≡ Err q → Fits text o → Refuses whole q
  all-not q e = reads-not d.reads q (part-broken r q e)

  pub all-counts : (n : Items) → r ≡ Ok n → Fits text o → (ts : Trees) (u : Source) → whole ≡ ok ts u → n.count ≡ count_of ts
  unfolding Counts
  all-counts n e f = subst (Counts whole) e (d.counts f)

-- a list whose refusal `?` hands on
pub list-handed : {form ed : ℕ} {text : List ℕ} {item : Reader} {close : ℕ} {o : Answer} {s : Spot} {l m : List ℕ} (y : Result Items Refusal) (r : Refusal) → IsErr y × IsErrAnd y (λ q. q ≡ r)
    → ListContract form ed text item close o s l (Err r) m → ListContract form ed text item close o s l y m
list-handed {form} {ed} {text} {item} {close} {o} {s} {l} {m} y r h d = subst (λ (z : Result Items Refusal). ListContract form ed text item close o s l z m) (sym (handed-on y r h)) d
