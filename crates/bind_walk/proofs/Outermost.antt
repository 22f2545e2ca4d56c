-- The two lists of bindings: one law for each way through the code.
use mathlib.Core.Path.{◌≡◌, ap, sym, ◌∙◌, subst}
use mathlib.Core.Bool.{cond}
use mathlib.Core.List.{List, append-nil}
use Prim.Native.Nat.{ℕ, ◌≤◌}
use borrow.Author.Tests.{eq-eqb, ne_eqb}
use lib.Dec.{eqb}
use lib.ListN.{length}
use Rattle.classes.specs.Bytes.{bytes}
use Rattle.words.specs.Kinds.{LParen, RParen, Pipe}
use Rattle.tokens.specs.Refusals.{UnexpectedToken}
use Rattle.tokens.specs.declared.Refusal.{Refusal}
use Rattle.tokens.specs.declared.Token.{Token as Answer}
use Rattle.records.specs.Kinds.{RecBindList, RecLambdaBindList}
use Rattle.records.specs.Tree.{Tree, node, Trees, none, more}
use Rattle.sources.specs.Source.{opened}
use Rattle.answers.specs.Reading.{Ans, ok, then, list_behind}
use Rattle.grammar.specs.Types.{levels}
use Rattle.grammar.specs.Binds.{read_bind, read_bind_list, read_lambda_list}
use Rattle.forms.specs.Forms.{laid}
use Rattle.forms.specs.code.Constructs.{mark_in, headed, listed_rest, laid_items}
use Rattle.forms.specs.code.Spots.{last, inside, sealed, Placed}
use Rattle.forms.specs.declared.Spot.{Spot}
use Rattle.forms.proofs.Placing.{placed-as}
use Rattle.forms.proofs.Constructs.{laid-bind-list, laid-lambda-list}
use Rattle.parts.specs.code.Meets.{Fits, held, refused_token, Refuses, Contract, ReadsBy}
use Rattle.parts.proofs.Contracts.{reads-refused, reads-token, reads-built, refuses-ok}
use Rattle.lists.specs.declared.Items.{Items}
use Rattle.lists.specs.code.Lists.{part_of, ListContract}
use Rattle.lists.proofs.Laying.{bars-laid}
use Rattle.lists.proofs.Contracts.{all-had, all-goes, all-not, all-counts}
use Rattle.chains.proofs.Names.{placed-parted, when_true, when_false}
use Rattle.bind_walk.specs.code.Pieces.{enclosed, ended_by, marked_by, headed_by}
use Rattle.bind_walk.proofs.Parted.{then_ok, marked, reads-closed}
use Rattle.parts.specs.declared.Part.{Part}
use Rattle.std.specs.Prelude.{Result, Ok, Err}

-- a list of one item
listed-one : (f : ℕ) (t : Tree) → laid_items f (more t none) ≡ laid f t
unfolding laid_items listed_rest
listed-one f t = append-nil (laid f t)

module _ (f ed : ℕ) (text : List ℕ) (a : Answer) (s i : Spot) (l m : List ℕ) (h : length l ≤ last) (j : i ≡ inside f s) where
  abbrev Binds : Result Part Refusal → Type 0
  Binds r = ReadsBy (laid f) ed text read_bind_list a s l r m

  -- one binding alone
  pub binds-one : (a.kind ≡ LParen → ⊥) → (q : Spot) (l₁ l₂ l₃ : List ℕ) (b c r : Result Part Refusal) → Placed l i (mark_in f (bytes "(")) q l₁ → ReadsBy (laid f) ed text (read_bind levels) a q l₁ b l₂
      → (c ≡ ended_by f 41 b) × (l₃ ≡ marked_by f 41 b l₂) → (r ≡ c) × (m ≡ headed_by f RecBindList a.start s c l₃) → Binds r
  unfolding read_bind_list
  binds-one k q l₁ l₂ l₃ b c r g d e w =
      reads-closed f (λ t v. node RecBindList a.start v (more t none)) RecBindList a.start h j (marked f 41 (bytes "(") h g d e.0 e.1)
      (λ _. when_false (eqb a.kind LParen) _ _ (ne_eqb a.kind LParen k))
      (λ t u v _. laid-bind-list f a.start v (more t none) ∙ ap (λ (x : List ℕ). headed f RecBindList a.start v (enclosed f (bytes "(") 41 x)) (listed-one f t)) w

  -- bindings in brackets
  pub binds-many : a.kind ≡ LParen → (q : Spot) (l₁ l₂ l₃ : List ℕ) (t : Result Items Refusal) (p c r : Result Part Refusal) → Placed l i (mark_in f (bytes "(")) q l₁
      → ListContract f ed text (read_bind levels) RParen a q l₁ t l₂ → p ≡ part_of t
      → (c ≡ ended_by f 41 p) × (l₃ ≡ marked_by f 41 p l₂) → (r ≡ c) × (m ≡ headed_by f RecBindList a.start s c l₃) → Binds r
  unfolding read_bind_list
  binds-many k q l₁ l₂ l₃ t p c r g d e v w =
      let items : ReadsBy (laid_items f) ed text (list_behind (read_bind levels) RParen) a q l₁ p l₂ = rw e d.reads in
      reads-closed f (λ xs x. node RecBindList a.start x xs) RecBindList a.start h j (marked f 41 (bytes "(") h g items v.0 v.1)
      (λ _. when_true (eqb a.kind LParen) _ _ (eq-eqb a.kind LParen k)) (λ xs u x _. laid-bind-list f a.start x xs) w

module _ (f ed : ℕ) (text : List ℕ) (a : Answer) (s : Spot) (l : List ℕ) where
  abbrev lambda : Ans Tree
  lambda = read_lambda_list (held ed text a)

  abbrev Lambda : Result Part Refusal → List ℕ → Type 0
  Lambda r m = Contract (laid f) ed text (Fits text a) lambda a.end s l r m

  pub lambda-other : (r : Result Part Refusal) (m : List ℕ) → (a.kind ≡ Pipe → ⊥) → r ≡ refused_token UnexpectedToken a → Lambda r m
  unfolding read_lambda_list
  lambda-other r m k e = reads-token UnexpectedToken a r (λ z. z) (λ _. when_false (eqb a.kind Pipe) _ _ (ne_eqb a.kind Pipe k)) e

  module _ (k : a.kind ≡ Pipe) (q : Spot) (l₁ l₂ : List ℕ) (t : Result Items Refusal) (d : ListContract f ed text (read_bind levels) Pipe a q l₁ t l₂) where
    abbrev binds : Ans Trees
    binds = list_behind (read_bind levels) Pipe (held ed text a)

    in-bars : lambda ≡ then binds (λ xs u. ok (node RecLambdaBindList a.start u.at xs) u)
    unfolding read_lambda_list
    in-bars = when_true (eqb a.kind Pipe) _ _ (eq-eqb a.kind Pipe k)

    pub lambda-refused : (r : Refusal) → t ≡ Err r → Lambda (Err r) l₂
    lambda-refused r e =
        reads-refused r (λ z. subst (λ (y : Ans Tree). Refuses y r) (sym in-bars) (refuses-ok binds r (λ xs u. node RecLambdaBindList a.start u.at xs) (all-not d r e z)))

    -- the bar behind the items is told by how many there are
    pub lambda-read : (i : Spot) → length l ≤ last → i ≡ inside f s → Placed l i (mark_in f (bytes "|")) q l₁ → (n : Items) → t ≡ Ok n → (to : Spot) (l₃ m : List ℕ)
        → Placed l₂ n.part.to (mark_in f (cond (eqb n.count 0) (bytes " |") (bytes "|"))) to l₃ → m ≡ sealed f RecLambdaBindList a.start n.part.end s to l₃ → Lambda (Ok (record { to = to; end = n.part.end; next = n.part.next })) m
    lambda-read i h j g n e to l₃ m b w =
        let goes = all-goes d n e in
        reads-built (record { to = to; end = n.part.end; next = n.part.next })
        (λ z.
        (let x = all-had d n e z in
        let bar = mark_in f (cond (eqb n.count 0) (bytes " |") (bytes "|")) in
        let named = bars-laid f x.what n.count (all-counts d n e z x.what _ x.is) in
        record {
          what = node RecLambdaBindList a.start n.part.end x.what;
          is = in-bars ∙ then_ok binds _ x.what (opened ed text n.part.end) x.is;
          bytes =
              placed-as l m _ (laid f (node RecLambdaBindList a.start n.part.end x.what)) s to (ap (headed f RecLambdaBindList a.start n.part.end) named ∙ sym (laid-lambda-list f a.start n.part.end x.what))
              (placed-parted f RecLambdaBindList a.start n.part.end l l₁ l₂ l₃ m (mark_in f (bytes "|")) (laid_items f x.what) bar s i q n.part.to to h j g x.bytes b w);
        }))
        goes.0 goes.1
