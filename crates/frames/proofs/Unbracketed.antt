-- An instance of the law with other readers on the right: the Rust's. Reading gives their answers once its trees are unbracketed.
use mathlib.Core.Path.{◌≡◌, refl, ap, ap₂, ◌∙◌}
use Prim.Native.Nat.{ℕ, zero, suc}
use Rattle.tokens.specs.Calls.{unless}
use Rattle.records.specs.Tree.{Tree, Trees, none, more, behind, joined}
use Rattle.records.specs.Rust.{in_place, unbracketed, unbracketed_all}
use Rattle.sources.specs.Source.{Source, opened, Lexeme, LexResult, tok, bad, lex}
use Rattle.answers.specs.Reading.{Ans, ok, no, look, Reader}
use Rattle.grammar.specs.Types.{levels, bracketed, type_by}
use Rattle.grammar.specs.Binds.{bind_over, read_field}
use Rattle.grammar.specs.Items.{Item, refused, read_kind, followed, finished, Asked, fault_of, reading, read_item}
use Rattle.grammar.specs.Rust.{rust_bracketed, rust_brackets, rust_over, rust_type, rust_bind, rust_kind, rust_item, unbracketed_item}
use Rattle.frames.specs.code.Related.{Frame, Step, Met, toks, bads, Rel, oks, nos, quit, Lawful, Literal, Short}
use Rattle.frames.proofs.Ways.{near}
use Rattle.frames.proofs.Readers.{wrapped, type_beside, bind_beside, kind-rel}
use Rattle.frames.proofs.Shapes.{kind_fits}
use Rattle.tokens.specs.declared.Refusal.{Refusal}
use Rattle.std.specs.Prelude.{Result, Ok, Err, ⊤}

-- an answer with what was read changed
unfoldable pub mapped : {A B : Type 0} → (A → B) → Ans A → Ans B
mapped h (ok x u) = ok (h x) u
mapped h (no r) = no r

look-mapped : {A B : Type 0} (h : A → B) (l : LexResult) (f : Lexeme → Ans A) (g : Lexeme → Ans B) → ((t : Lexeme) → mapped h (f t) ≡ g t) → mapped h (look l f) ≡ look l g
unfolding look mapped
look-mapped h (tok t) f g x = x t
look-mapped h (bad r) f g x = refl

-- trees put together
bracketed-is : (a : Lexeme) (u : Source) (ts : Trees) → unbracketed (bracketed a u ts) ≡ rust_bracketed a u (unbracketed_all ts)
unfolding bracketed rust_bracketed unbracketed unbracketed_all in_place
bracketed-is a u none = refl
bracketed-is a u (more x none) = refl
bracketed-is a u (more x (more y ts)) = refl

behind-is : (ts : Trees) (t : Tree) → unbracketed_all (behind ts t) ≡ behind (unbracketed_all ts) (unbracketed t)
unfolding behind unbracketed_all
behind-is none t = refl
behind-is (more u ts) t = ap (more (unbracketed u)) (behind-is ts t)

joined_is : (ts us : Trees) → unbracketed_all (joined ts us) ≡ joined (unbracketed_all ts) (unbracketed_all us)
unfolding joined unbracketed_all
joined_is none us = refl
joined_is (more t ts) us = ap (more (unbracketed t)) (joined_is ts us)

abbrev F : Frame
F =
    record {
      source = λ u v. u ≡ v;
      token = λ t t₂. t ≡ t₂;
      refusal = λ r r₂. r ≡ r₂;
      quits = λ _. ⊥;
      wrap = rust_bracketed;
      tree = λ s a a₂ u u₂ x y. unbracketed x ≡ y;
      row = λ r a a₂ u u₂ xs ys. unbracketed_all xs ≡ ys;
      items = λ s c u u₂ v v₂ xs ys. unbracketed_all xs ≡ ys;
    }

token-itself : (t : Lexeme) → Step F t t
token-itself t = record { kind = refl; spelled = refl; good = refl; on = λ _. refl; half = λ _. refl }

itself : (l : LexResult) → Met F l l
itself (tok t) = toks (token-itself t)
itself (bad r) = bads refl

law : Lawful F
unfolding unbracketed unbracketed_all
law =
    record {
      next = λ u u₂ h. rw h (itself (lex u₂));
      refused_at = λ n t t₂ h g d. rw d.good;
      refused_before = λ n t t₂ o o₂ h g d e. rw (d.good, e.good);
      colons_due = λ t t₂ a a₂ d e. rw (d.good, e.good);
      begin = λ x. refl;
      mark = λ k h m. h;
      leaf = λ {xs = xs} l h p f. behind-is xs _ ∙ rw (h, p.step.good);
      one = λ {xs = xs} s h p x. behind-is xs _ ∙ rw (h, x);
      many = λ {xs = xs} s c h i. joined_is xs _ ∙ rw (h, i);
      empty = λ s c p o j. refl;
      last = λ s c p n x q o j. rw x;
      more = λ s c p n x q xs. rw (x, xs);
      lone = λ s l i x f o. rw x.good;
      made = λ s c r i x z h o. rw ((kind_fits i).2, h, x.good, o);
      brackets = λ {a = a} {u = u} {xs = xs} n x k h o. bracketed-is a u xs ∙ rw (h, x.good, o);
    }

-- the readers beside
type-is : (n : ℕ) → type_beside rust_bracketed n ≡ rust_type n
unfolding type_beside rust_type rust_over rust_brackets
type-is zero = refl
type-is (suc n) = ap (λ (item : Reader). λ (a : Lexeme). type_by item (wrapped rust_bracketed item) a) (type-is n)

bind_is : (n : ℕ) → bind_beside rust_bracketed n ≡ rust_bind n
unfolding bind_beside rust_bind
bind_is zero = refl
bind_is (suc n) = ap₂ (λ (type bind : Reader). λ (a : Lexeme). bind_over type (read_field n bind) a) (type-is n) (bind_is n)

literal : Literal F
unfolding unbracketed
literal a a₂ x c o = rw x.good

short : Short F
unfolding unbracketed unbracketed_all
short n a a₂ x k o = rw x.good

answer-is : {m m₂ : ℕ} {a b : Ans Tree} → Rel F m m₂ (λ u u₂ x y. unbracketed x ≡ y) a b → mapped unbracketed a ≡ b
unfolding mapped
answer-is (oks x n) = rw (x, n.good)
answer-is (nos d) = rw d
answer-is (quit d) = absurd d

-- every kind of item
pub kind-rusts : (kind : ℕ) (t : Lexeme) → mapped unbracketed (read_kind kind t) ≡ rust_kind kind t
unfolding rust_kind
kind-rusts kind t = rw (← type-is levels, ← bind_is levels) (answer-is (kind-rel F law short kind (λ _. literal) _ _ t t (near (token-itself t))))

followed-is : (x : Tree) (l : LexResult) → unbracketed_item (followed x l) ≡ followed (unbracketed x) l
unfolding unbracketed_item followed
followed-is x (tok t) = refl
followed-is x (bad r) = refl

finished-is : (a : Ans Tree) → unbracketed_item (finished a) ≡ finished (mapped unbracketed a)
unfolding unbracketed_item finished mapped
finished-is (ok x u) = followed-is x (lex u)
finished-is (no r) = refl

unless-item : (f : Result ⊤ Refusal) (i : Item) → unbracketed_item (unless refused f i) ≡ unless refused f (unbracketed_item i)
unfolding unbracketed_item unless
unless-item (Ok tt) i = refl
unless-item (Err r) i = refl

-- the item is the Rust's once its tree is unbracketed, with the same refusals and the same token behind
pub rust-item : (q : Asked) → unbracketed_item (read_item q) ≡ rust_item q
unfolding read_item rust_item
rust-item q =
    let l = lex (opened q.edition q.text q.at) in
    unless-item (fault_of q) (finished (reading q))
    ∙ ap (unless refused (fault_of q)) (finished-is (reading q) ∙ ap finished (look-mapped unbracketed l (read_kind q.kind) (rust_kind q.kind) (kind-rusts q.kind)))
