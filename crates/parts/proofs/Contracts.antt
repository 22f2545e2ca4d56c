-- Contracts, put together: one law for each way in which a function of the walk ends.
use mathlib.Core.Path.{◌≡◌, refl, ap, sym, ◌∙◌, subst}
use mathlib.Core.List.{List}
use Prim.Native.Nat.{ℕ, ◌≤◌}
use native.Mathlib.Omega.{arith}
use lib.ListN.{length}
use Rattle.tokens.specs.Answers.{refusal}
use Rattle.tokens.specs.Calls.{text_limit, next_token}
use Rattle.tokens.specs.declared.Refusal.{Refusal}
use Rattle.tokens.specs.declared.Token.{Token as Answer}
use Rattle.sources.specs.Source.{Source, opened, Lexeme, lex}
use Rattle.answers.specs.Reading.{Ans, ok, no, then, look, refused_at}
use Rattle.forms.specs.code.Spots.{Placed}
use Rattle.forms.specs.declared.Spot.{Spot}
use Rattle.parts.specs.declared.Part.{Part}
use Rattle.parts.specs.code.Meets.{Fits, held, refused_token, followed_by, Refuses, Had, Meets, Follows, Contract}
use Rattle.parts.proofs.Held.{token-refused, next-refused}
use Rattle.std.specs.Prelude.{Result, Ok, Err, IsErr, IsErrAnd}

-- what `?` hands on of a refusal
pub handed-on : {A : Type 0} (y : Result A Refusal) (r : Refusal) → IsErr y × IsErrAnd y (λ q. q ≡ r) → y ≡ Err r
handed-on (Ok p) r h = absurd h.1
handed-on (Err q) r h = ap Err h.1

module _ {A : Type 0} {lay : A → List ℕ} {ed : ℕ} {text : List ℕ} {fits : Type 0} {x : Ans A} {from : ℕ} {s : Spot} {l m : List ℕ} where
  -- a refusal that `?` hands on
  pub reads-handed : (y : Result Part Refusal) (r : Refusal) → IsErr y × IsErrAnd y (λ q. q ≡ r) → Contract lay ed text fits x from s l (Err r) m → Contract lay ed text fits x from s l y m
  reads-handed y r h d = subst (λ (z : Result Part Refusal). Contract lay ed text fits x from s l z m) (sym (handed-on y r h)) d

  -- it is refused, or the token behind it is
  pub reads-refused : (r : Refusal) → (fits → Refuses x r) → Contract lay ed text fits x from s l (Err r) m
  unfolding Meets Follows
  reads-refused r h = record { meets = h; goes = tt }

  -- it is refused
  pub reads-no : (r : Refusal) → (fits → x ≡ no r) → Contract lay ed text fits x from s l (Err r) m
  unfolding Refuses
  reads-no r h = reads-refused r (λ f. subst (λ (y : Ans A). Refuses y r) (sym (h f)) refl)

  -- the token c is
  pub reads-token : (n : ℕ) (c : Answer) (r : Result Part Refusal) → (fits → Fits text c) → (fits → x ≡ no (refused_at n (held ed text c))) → r ≡ refused_token n c → Contract lay ed text fits x from s l r m
  reads-token n c r f h e = subst (λ (y : Result Part Refusal). Contract lay ed text fits x from s l y m) (sym e) (reads-no (refusal n c.start c.end) (λ z. h z ∙ ap no (token-refused ed text c (f z) n)))

  -- something was read, and the token behind it
  pub reads-built : (p : Part) → (fits → Had lay ed text x s l p m) → from ≤ p.end → next_token ed text p.end ≡ Ok p.next → Contract lay ed text fits x from s l (Ok p) m
  unfolding Meets Follows
  reads-built p h i e = record { meets = h; goes = (i, e) }

  -- the same, where its bytes are told whether tokens fit or not
  pub reads-read : (what : A) (q : ℕ) (n : Answer) (to : Spot) → from ≤ q → (fits → x ≡ ok what (opened ed text q)) → next_token ed text q ≡ Ok n → Placed l s (lay what) to m
      → Contract lay ed text fits x from s l (Ok (record { to = to; end = q; next = n })) m
  reads-read what q n to h g e b = reads-built _ (λ f. record { what = what; is = g f; bytes = b }) h e

  -- something was read, and the token behind it is read last
  pub reads-finished : (what : A) (q : ℕ) (to : Spot) (r : Result Part Refusal) → from ≤ q → (fits → (length text ≤ text_limit) × (q ≤ length text)) → (fits → x ≡ ok what (opened ed text q)) → Placed l s (lay what) to m
      → r ≡ followed_by to q (next_token ed text q) → Contract lay ed text fits x from s l r m
  unfolding followed_by Refuses
  reads-finished what q to r h i g b e = subst (λ (y : Result Part Refusal). Contract lay ed text fits x from s l y m) (sym e) (go (next_token ed text q) refl)
    where
      go : (y : Result Answer Refusal) → next_token ed text q ≡ y → Contract lay ed text fits x from s l (followed_by to q y) m
      go (Ok n) z = reads-read what q n to h g z b
      go (Err r₂) z = reads-refused r₂ (λ f. subst (λ (y : Ans A). Refuses y r₂) (sym (g f)) (next-refused ed text q (i f).0 (i f).1 r₂ z))

-- reading goes on behind an earlier place too
pub goes-from : (ed : ℕ) (text : List ℕ) (from before : ℕ) (r : Result Part Refusal) → before ≤ from → Follows ed text from r → Follows ed text before r
unfolding Follows
goes-from ed text from before (Ok p) h z = (omega (arith, h, z.0), z.1)
goes-from ed text from before (Err q) h z = tt

-- the contract of another function, handed on
pub reads_as : {A : Type 0} {lay : A → List ℕ} {ed : ℕ} {text : List ℕ} {fits fits₂ : Type 0} {x x₂ : Ans A} {from from₂ : ℕ} {s : Spot} {l m : List ℕ} {r : Result Part Refusal} → from ≤ from₂ → (fits → fits₂) → (fits → x ≡ x₂)
    → Contract lay ed text fits₂ x₂ from₂ s l r m → Contract lay ed text fits x from s l r m
reads_as {A} {lay} {ed} {text} {from = from} {from₂ = from₂} {s = s} {l = l} {m = m} {r = r} h g e d =
    record {
      meets = λ f. subst (λ (y : Ans A). Meets lay ed text y s l r m) (sym (e f)) (d.meets (g f));
      goes = goes-from ed text from₂ from r h d.goes;
    }

-- a contract, opened by what the answer is
module _ {A : Type 0} {lay : A → List ℕ} {ed : ℕ} {text : List ℕ} {fits : Type 0} {x : Ans A} {from : ℕ} {s : Spot} {l m : List ℕ} {r : Result Part Refusal} (d : Contract lay ed text fits x from s l r m) where
  pub reads-had : (p : Part) → r ≡ Ok p → fits → Had lay ed text x s l p m
  unfolding Meets
  reads-had p e f = subst (λ (y : Result Part Refusal). Meets lay ed text x s l y m) e (d.meets f)

  pub reads-goes : (p : Part) → r ≡ Ok p → (from ≤ p.end) × (next_token ed text p.end ≡ Ok p.next)
  unfolding Follows
  reads-goes p e = subst (λ (y : Result Part Refusal). Follows ed text from y) e d.goes

  pub reads-not : (q : Refusal) → r ≡ Err q → fits → Refuses x q
  unfolding Meets
  reads-not q e f = subst (λ (y : Result Part Refusal). Meets lay ed text x s l y m) e (d.meets f)

-- a refusal, handed on: what was read was to stand in something else, or the token behind it was to be looked at
pub refuses-ok : {A B : Type 0} (x : Ans A) (r : Refusal) (g : A → Source → B) → Refuses x r → Refuses (then x (λ y u. ok (g y u) u)) r
unfolding Refuses then
refuses-ok (ok y u) r g h = h
refuses-ok (no q) r g h = h

pub refuses-look : {A B : Type 0} (x : Ans A) (r : Refusal) (g : A → Source → Lexeme → Ans B) → Refuses x r → then x (λ y u. look (lex u) (g y u)) ≡ no r
unfolding Refuses then look
refuses-look (ok y u) r g h = rw h
refuses-look (no q) r g h = ap no h
