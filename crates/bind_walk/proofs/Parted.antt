-- Contracts of parts: put together, and closed to a record.
use mathlib.Core.Path.{◌≡◌, refl, sym, ◌∙◌, subst}
use mathlib.Core.List.{List, [], ◌∷◌, ◌++◌}
use Prim.Native.Nat.{ℕ, ◌≤◌}
use native.Mathlib.Omega.{arith}
use lib.ListN.{length}
use Rattle.tokens.specs.declared.Refusal.{Refusal}
use Rattle.records.specs.Tree.{Tree}
use Rattle.sources.specs.Source.{Source, opened}
use Rattle.answers.specs.Reading.{Ans, ok, then}
use Rattle.forms.specs.Forms.{laid}
use Rattle.forms.specs.code.Constructs.{mark_in, headed}
use Rattle.forms.specs.code.Spots.{last, inside, sealed, Placed}
use Rattle.forms.specs.declared.Spot.{Spot}
use Rattle.forms.proofs.Placing.{placed-long, placed-as, placed-both, placed-headed}
use Rattle.parts.specs.declared.Part.{Part}
use Rattle.parts.specs.code.Meets.{Refuses, Meets, Follows, Contract}
use Rattle.parts.proofs.Contracts.{refuses-ok}
use Rattle.bind_walk.specs.code.Pieces.{enclosed, ended_by, marked_by, headed_by}
use Rattle.std.specs.Prelude.{Result, Ok, Err}

-- going on after what was read
pub then_ok : {A B : Type 0} (x : Ans A) (g : A → Source → Ans B) (y : A) (u : Source) → x ≡ ok y u → then x g ≡ g y u
unfolding then
then_ok x g y u h = rw h

module _ {A : Type 0} (lay : A → List ℕ) (ed : ℕ) (text : List ℕ) (y : Ans A) where
  -- something stands in front of a part
  pub front : (pre : List ℕ) (i q : Spot) (l l₂ m : List ℕ) (p : Result Part Refusal) → length l ≤ last → Placed l i pre q l₂ → Meets lay ed text y q l₂ p m → Meets (λ t. pre ++ lay t) ed text y i l p m
  unfolding Meets
  front pre i q l l₂ m (Ok p) h g d = record { what = d.what; is = d.is; bytes = placed-both l l₂ m pre (lay d.what) i q p.to h g d.bytes }
  front pre i q l l₂ m (Err r) h g d = d

  -- a mark stands behind it
  pub ended : (f b : ℕ) (s : Spot) (l m₂ m : List ℕ) (p : Result Part Refusal) → length l ≤ last → Meets lay ed text y s l p m₂ → m ≡ marked_by f b p m₂ → Meets (λ t. lay t ++ mark_in f (b ∷ [])) ed text y s l (ended_by f b p) m
  unfolding Meets marked_by ended_by
  ended f b s l m₂ m (Ok p) h d e = record { what = d.what; is = d.is; bytes = placed-both l m₂ m (lay d.what) (mark_in f (b ∷ [])) s p.to _ h d.bytes (record { ends = refl; holds = e }) }
  ended f b s l m₂ m (Err r) h d e = d

  goes-ended : (f b from : ℕ) (p : Result Part Refusal) → Follows ed text from p → Follows ed text from (ended_by f b p)
  unfolding Follows ended_by
  goes-ended f b from (Ok p) h = h
  goes-ended f b from (Err r) h = h

-- marks on both sides
pub marked : {A : Type 0} {lay : A → List ℕ} {ed : ℕ} {text : List ℕ} {fits : Type 0} {y : Ans A} {from : ℕ} {s q : Spot} {l l₂ m₂ m : List ℕ} {p r : Result Part Refusal} (f b : ℕ) (xs : List ℕ) → length l ≤ last
    → Placed l s (mark_in f xs) q l₂ → Contract lay ed text fits y from q l₂ p m₂ → r ≡ ended_by f b p → m ≡ marked_by f b p m₂ → Contract (λ t. enclosed f xs b (lay t)) ed text fits y from s l r m
marked {A} {lay} {ed} {text} {fits} {y} {from} {s} {q} {l} {l₂} {m₂} {m} {p} f b xs h g d e i =
    let n = placed-long l l₂ (mark_in f xs) s q g in
    subst (λ (z : Result Part Refusal). Contract (λ t. enclosed f xs b (lay t)) ed text fits y from s l z m) (sym e)
    (record {
      meets = λ z. front (λ t. lay t ++ mark_in f (b ∷ [])) ed text y (mark_in f xs) s q l l₂ m (ended_by f b p) h g (ended lay ed text y f b q l₂ m₂ m p (omega (arith, n, h)) (d.meets z) i);
      goes = goes-ended lay ed text y f b from p d.goes;
    })

-- a record is closed behind its last part
pub closed-by : {A : Type 0} (lay : A → List ℕ) (f ed : ℕ) (text : List ℕ) (x : Ans Tree) (y : Ans A) (tree : A → ℕ → Tree) (k st : ℕ) (s : Spot) (l m₂ m : List ℕ) (p : Result Part Refusal) → length l ≤ last
    → x ≡ then y (λ t u. ok (tree t u.at) u) → ((t : A) (u : Source) (e : ℕ) → y ≡ ok t u → laid f (tree t e) ≡ headed f k st e (lay t))
    → Meets lay ed text y (inside f s) l p m₂ → m ≡ headed_by f k st s p m₂ → Meets (laid f) ed text x s l p m
unfolding Meets headed_by
closed-by lay f ed text x y tree k st s l m₂ m (Ok p) h e g d w =
    record {
      what = tree d.what p.end;
      is = e ∙ then_ok y (λ t u. ok (tree t u.at) u) d.what (opened ed text p.end) d.is;
      bytes = placed-as l m (headed f k st p.end (lay d.what)) (laid f (tree d.what p.end)) s p.to (sym (g d.what (opened ed text p.end) p.end d.is))
          (placed-headed f k st p.end l m₂ m (lay d.what) s p.to h d.bytes w);
    }
closed-by lay f ed text x y tree k st s l m₂ m (Err r) h e g d w = subst (λ (z : Ans Tree). Refuses z r) (sym e) (refuses-ok y r (λ t u. tree t u.at) d)

-- the same of a contract, where the part stands right behind the head
pub reads-closed : {A : Type 0} {lay : A → List ℕ} {ed : ℕ} {text : List ℕ} {fits : Type 0} {x : Ans Tree} {y : Ans A} {from : ℕ} {s i : Spot} {l m₂ m : List ℕ} {p r : Result Part Refusal} (f : ℕ) (tree : A → ℕ → Tree) (k st : ℕ)
    → length l ≤ last → i ≡ inside f s → Contract lay ed text fits y from i l p m₂ → (fits → x ≡ then y (λ t u. ok (tree t u.at) u))
    → ((t : A) (u : Source) (e : ℕ) → y ≡ ok t u → laid f (tree t e) ≡ headed f k st e (lay t)) → (r ≡ p) × (m ≡ headed_by f k st s p m₂) → Contract (laid f) ed text fits x from s l r m
reads-closed {A} {lay} {ed} {text} {fits} {x} {y} {from} {s} {i} {l} {m₂} {m} {p} f tree k st h j d e g w =
    subst (λ (z : Result Part Refusal). Contract (laid f) ed text fits x from s l z m) (sym w.0)
    (record {
      meets = λ z. closed-by lay f ed text x y tree k st s l m₂ m p h (e z) g (subst (λ (v : Spot). Meets lay ed text y v l p m₂) j (d.meets z)) w.1;
      goes = d.goes;
    })

-- what the small functions answer
module _ (f k st : ℕ) (s : Spot) (l : List ℕ) (p : Result Part Refusal) where
  pub closing-refused : (r : Refusal) → p ≡ Err r → (Err r ≡ p) × (l ≡ headed_by f k st s p l)
  unfolding headed_by
  closing-refused r e = (sym e, rw e)

  pub closing-read : (q : Part) (m : List ℕ) → p ≡ Ok q → m ≡ sealed f k st q.end s q.to l → (Ok q ≡ p) × (m ≡ headed_by f k st s p l)
  unfolding headed_by
  closing-read q m e w = (sym e, rw e w)

module _ (f b : ℕ) (l : List ℕ) (p : Result Part Refusal) where
  pub ending-refused : (r : Refusal) → p ≡ Err r → (Err r ≡ ended_by f b p) × (l ≡ marked_by f b p l)
  unfolding ended_by marked_by
  ending-refused r e = (rw e, rw e)

  pub ending-read : (q : Part) (to : Spot) (m : List ℕ) → p ≡ Ok q → Placed l q.to (mark_in f (b ∷ [])) to m → (Ok (record { to = to; end = q.end; next = q.next }) ≡ ended_by f b p) × (m ≡ marked_by f b p l)
  unfolding ended_by marked_by
  ending-read q to m e w = (rw (e, w.ends), rw e w.holds)

-- the part behind which a mark was written is what `?` went on with
pub ending-as : (f b : ℕ) (l : List ℕ) {m : List ℕ} {c : Result Part Refusal} (p : Result Part Refusal) (q : Part) → p ≡ Ok q → c ≡ ended_by f b (Ok q) → m ≡ marked_by f b (Ok q) l → (c ≡ ended_by f b p) × (m ≡ marked_by f b p l)
ending-as f b l {m} {c} p q e h g = subst (λ (y : Result Part Refusal). (c ≡ ended_by f b y) × (m ≡ marked_by f b y l)) (sym e) (h, g)
