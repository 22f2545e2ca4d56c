-- Theorem 1: the count of tokens, and which calls are refused.
use mathlib.Core.Path.{◌≡◌, refl, ap, sym, ◌∙◌, subst}
use mathlib.Core.Bool.{Bool, true, false, cond}
use mathlib.Core.Logic.{◌↔◌}
use mathlib.Core.List.{List, [], ◌∷◌, ◌++◌}
use Prim.Native.Nat.{ℕ, zero, suc, ◌+◌, ◌<◌, ◌≤◌, min}
use native.Mathlib.Omega.{arith}
use borrow.Author.Tests.{eqb-true, eqb-false}
use lib.Dec.{eqb}
use lib.ListN.{length}
use Rattle.classes.proofs.Bools.{false-true, and_left, and_right}
use Rattle.tokens.specs.Calls.{text_limit, call_fault, unless, next_token}
use Rattle.tokens.specs.RefusalSets.{among, lex_refusals, token_refusals}
use Rattle.tokens.specs.Walk.{Listed, eof, refused, next, tokens_at, entries}
use Rattle.tokens.specs.declared.Refusal.{Refusal}
use Rattle.tokens.specs.declared.Token.{Token}
use Rattle.tokens.proofs.Faults.{Each, call-each}
use Rattle.tokens.proofs.RefusalSets.{subset, among-subset, token-text-refusals}
use Rattle.tokens.proofs.Walks.{at_next, at-eof, at-refused}
use Rattle.outline.specs.Entry.{Entry, fitting}
use Rattle.outline.specs.Outline.{declares, handed, pending_after, pending_behind, Portion, Outlined, accepted, rejected, stopped, joined, names, entry_at, stepped, portion, outlined}
use Rattle.outline.specs.Theorems.{tokens_left, numbered, behind_first, EndsRefused, entries_from, start_token, Counts, Count, RefusedExactly, OutlineRefusals}
use Rattle.outline.specs.declared.Pending.{Pending}
use Rattle.outline.proofs.Listing.{Walks, walks}
use Rattle.outline.proofs.Steps.{nothing, both, Closed, step-pass, step-full, step-entry}
use Rattle.outline.proofs.Asked.{fault-place, asks, outlined-each}
use Rattle.outline.proofs.Kept.{keyword-declares}
use Rattle.std.specs.Prelude.{Result, Ok, Err, ⊤}

-- the tokens of a list
pub left-eof : (t : Token) → tokens_left (eof t) ≡ 0
unfolding tokens_left entries
left-eof t = refl

pub left-refused : (r : Refusal) → tokens_left (refused r) ≡ 0
unfolding tokens_left entries
left-refused r = refl

some : (l : Listed) → 0 < entries l
unfolding entries
some (eof t) = omega arith
some (refused r) = omega arith
some (next t l) = omega arith

pub left-next : (t : Token) (l : Listed) → tokens_left (next t l) ≡ suc (tokens_left l)
unfolding tokens_left entries
left-next t l = omega (arith, some l)

-- by what stands in for number 0
numbered-end : (u v : Token) (n : ℕ) (l : Listed) → u.end ≡ v.end → (numbered u n l).end ≡ (numbered v n l).end
unfolding numbered
numbered-end u v zero l e = e
numbered-end u v (suc n) (next t l) e = refl
numbered-end u v (suc n) (eof t) e = e
numbered-end u v (suc n) (refused r) e = e

numbered-kind : (u v : Token) (n : ℕ) (l : Listed) → (declares u.kind ≡ true → declares v.kind ≡ true) → declares (numbered u n l).kind ≡ true → declares (numbered v n l).kind ≡ true
unfolding numbered
numbered-kind u v zero l f h = f h
numbered-kind u v (suc n) (next t l) f h = h
numbered-kind u v (suc n) (eof t) f h = f h
numbered-kind u v (suc n) (refused r) f h = f h

-- one token more in front
next-numbered : (u t : Token) (n : ℕ) (l : Listed) → numbered u (1 + n) (next t l) ≡ numbered t n l
unfolding numbered
next-numbered u t n l = let e : 1 + n ≡ suc n = omega arith in rw e

next-behind : (t : Token) (n : ℕ) (l : Listed) → behind_first (1 + n) (next t l) ≡ behind_first n l
unfolding behind_first
next-behind t n l = let e : 1 + n ≡ suc n = omega arith in rw e

never : {A : Type 0} → true ≡ false → A
never e = false-true _ (sym e)

module _ (ed : ℕ) (text : List ℕ) where
  stops : (at : ℕ) (p : Pending) (k n : ℕ) (l : Listed) → 0 ≡ min n (tokens_left l) → Counts at p k n l (nothing false at p)
  unfolding numbered
  stops at p k n l e =
      record {
        done = λ _. e;
        ends = refl;
        within = λ f. false-true _ f;
        name = λ f. false-true _ f;
        keyword = λ f. false-true _ f;
        no_room = λ f. false-true _ f;
      }

  fills : (at : ℕ) (p : Pending) (n : ℕ) (t : Token) (l : Listed) → names p.keyword t.kind ≡ true → Counts at p 0 (suc n) (next t l) (nothing true at p)
  unfolding numbered behind_first names
  fills at p n t l e =
      record {
        done = λ f. never f;
        ends = refl;
        within = λ _. omega arith;
        name = λ _. (t, l, refl, eqb-true t.kind 4 (and_right (declares p.keyword) (eqb t.kind 4) e));
        keyword = λ _. and_left (declares p.keyword) (eqb t.kind 4) e;
        no_room = λ _. refl;
      }

  goes : (at : ℕ) (p : Pending) (j k n : ℕ) (t : Token) (l : Listed) (es : List Entry) (b : Portion) → ((m : List Entry) → length m ≡ k → length (es ++ m) ≡ j)
      → Counts t.end (pending_behind text at p.comment t) k n l b → Counts at p j (suc n) (next t l) (both 1 es b)
  unfolding pending_after
  goes at p j k n t l es b m c =
      let q = pending_behind text at p.comment t in
      record {
        done = λ f. omega (arith, c.done f, left-next t l);
        ends = c.ends ∙ numbered-end (start_token t.end q) t b.count l refl ∙ ap (λ (u : Token). u.end) (sym (next-numbered (start_token at p) t b.count l));
        within = λ f. omega (arith, c.within f);
        name = λ f. let r = c.name f in (r.0, r.1, next-behind t b.count l ∙ r.2, r.3);
        keyword = λ f. rw (next-numbered (start_token at p) t b.count l) (numbered-kind (start_token t.end q) t b.count l (keyword-declares t.kind) (c.keyword f));
        no_room = λ f. m b.entries (c.no_room f);
      }

  counting : Closed ed text Counts
  counting =
      record {
        none = λ at p k l w. stops at p k 0 l (omega arith);
        over = λ at p k n t w. stops at p k (suc n) (eof t) (omega (arith, left-eof t));
        full = λ at p n t l w e. fills at p n t l e;
        pass = λ at p k n t l b w e ih. goes at p k k n t l [] b (λ m h. h) ih;
        entry = λ at p k n t l b w e ih. goes at p (suc k) k n t l (entry_at text at p t ∷ []) b (λ m h. ap suc h) ih;
      }

pub count : Count
count ed text at limit p room a e = outlined-each ed text at limit p room Counts (counting ed text) a e

-- which portions are refused
module _ (text : List ℕ) (r : Refusal) where
  abbrev Meets : ℕ → Pending → ℕ → ℕ → Listed → Type 0
  Meets at p k n l = EndsRefused r l × (tokens_left l < n) × (length (entries_from text at p l) ≤ k)

  stopped-not : {A : Type 0} (b : Bool) (at : ℕ) (p : Pending) → stopped b at p ≡ rejected r → A
  unfolding stopped
  stopped-not b at p e = let z : ◌≡◌ {A = ℕ} 0 1 = cc in absurd (omega arith)

  joined-refused : (c : ℕ) (es : List Entry) (x : Outlined) → joined c es x ≡ rejected r → x ≡ rejected r
  unfolding joined
  joined-refused c es (accepted a) e = let z : ◌≡◌ {A = ℕ} 0 1 = cc in absurd (omega arith)
  joined-refused c es (rejected q) e = e

  refused-joined : (c : ℕ) (es : List Entry) (x : Outlined) → x ≡ rejected r → joined c es x ≡ rejected r
  unfolding joined
  refused-joined c es x e = rw e

  module _ (at : ℕ) (p : Pending) (n : ℕ) (t : Token) (l : Listed) where
    entries_next : (b : Bool) → names p.keyword t.kind ≡ b
        → length (entries_from text at p (next t l)) ≡ cond b 1 0 + length (entries_from text t.end (pending_behind text at p.comment t) l)
    unfolding entries_from
    entries_next true e = rw e (omega arith)
    entries_next false e = rw e (omega arith)

    meets : (go : ℕ → Outlined) → ((m : ℕ) → go m ≡ rejected r ↔ Meets t.end (pending_behind text at p.comment t) m n l)
        → (b : Bool) → names p.keyword t.kind ≡ b → (k : ℕ) → stepped text at p k t go ≡ rejected r ↔ Meets at p k (suc n) (next t l)
    unfolding EndsRefused
    meets go ih false e k = (
      λ h. let q = (ih k).0 (joined-refused 1 [] (go k) (sym (step-pass text at p t go k e) ∙ h)) in
          (q.0, omega (arith, q.1, left-next t l), omega (arith, q.2, entries_next false e)),
      λ h. step-pass text at p t go k e ∙ refused-joined 1 [] (go k) ((ih k).1 (h.0, omega (arith, h.1, left-next t l), omega (arith, h.2, entries_next false e))),
    )
    meets go ih true e zero =
        (λ h. stopped-not true at p (sym (step-full text at p t go e) ∙ h), λ h. absurd (omega (arith, h.2, entries_next true e)))
    meets go ih true e (suc k) =
        let es = entry_at text at p t ∷ [] in (
          λ h. let q = (ih k).0 (joined-refused 1 es (go k) (sym (step-entry text at p t go k e) ∙ h)) in
              (q.0, omega (arith, q.1, left-next t l), omega (arith, q.2, entries_next true e)),
          λ h. step-entry text at p t go k e ∙ refused-joined 1 es (go k) ((ih k).1 (h.0, omega (arith, h.1, left-next t l), omega (arith, h.2, entries_next true e))),
        )

  refuses : (n : ℕ) (l : Listed) (at : ℕ) (p : Pending) (k : ℕ) → portion text at p k n l ≡ rejected r ↔ Meets at p k n l
  unfolding portion EndsRefused entries_from
  refuses zero l at p k = (λ h. stopped-not false at p h, λ h. absurd (omega (arith, h.1)))
  refuses (suc n) (eof t) at p k = (λ h. stopped-not false at p h, λ h. absurd h.0)
  refuses (suc n) (refused q) at p k =
      (λ h. let z : q ≡ r = cc in (z, omega (arith, left-refused q), omega arith), λ h. ap rejected h.0)
  refuses (suc n) (next t l) at p k =
      meets at p n t l (λ m. portion text t.end (pending_behind text at p.comment t) m n l) (λ m. refuses n l t.end (pending_behind text at p.comment t) m) (names p.keyword t.kind) refl k

pub refused-exactly : RefusedExactly
refused-exactly ed text at limit p room r f =
    let q = refuses text r limit (tokens_at ed text at) at (handed text p) (fitting text room) in
    let e = asks ed text at limit p room f in
    (λ h. q.0 (sym e ∙ h), λ h. e ∙ q.1 h)

-- the refusals that a list ends with are those of a token call
module _ (ed : ℕ) (text : List ℕ) (r : Refusal) (g : length text ≤ text_limit) where
  refusal-at : (at : ℕ) → at ≤ length text → refused r ≡ tokens_at ed text at → among token_refusals r.number ≡ true
  unfolding among subset
  refusal-at at h e = by (next_token ed text at) refl
    where
      kind : (t : Token) (b : Bool) → eqb t.kind 0 ≡ b → next_token ed text at ≡ Ok t → among token_refusals r.number ≡ true
      kind t true z f = let y : refused r ≡ eof t = e ∙ at-eof ed text at h t f (eqb-true t.kind 0 z) in let o : ◌≡◌ {A = ℕ} 0 1 = cc in absurd (omega arith)
      kind t false z f =
          let y : refused r ≡ next t (tokens_at ed text t.end) = e ∙ (at_next ed text at h t f (eqb-false t.kind 0 z)).0 in
          let o : ◌≡◌ {A = ℕ} 0 1 = cc in
          absurd (omega arith)

      by : (x : Result Token Refusal) → next_token ed text at ≡ x → among token_refusals r.number ≡ true
      by (Ok t) f = kind t (eqb t.kind 0) refl f
      by (Err q) f =
          let y : refused r ≡ refused q = e ∙ at-refused ed text at h q f in
          let z : q ≡ r = cc in
          subst (λ (u : Refusal). among token_refusals u.number ≡ true) z
          (among-subset lex_refusals token_refusals refl q.number (token-text-refusals ed text at g h q f))

  list-refusals : (l : Listed) (at : ℕ) → Walks ed text at l → EndsRefused r l → among token_refusals r.number ≡ true
  unfolding EndsRefused
  list-refusals (eof t) at w h = absurd h
  list-refusals (refused q) at w h = refusal-at at w.0 (ap refused (sym h) ∙ w.1)
  list-refusals (next t l) at w h = list-refusals l t.end w.3 h

pub outline-refusals : OutlineRefusals
unfolding among outlined unless
outline-refusals ed text at limit p room r e = go (call_fault ed text at) refl e
  where
    go : (f : Result ⊤ Refusal) → call_fault ed text at ≡ f → unless rejected f (portion text at (handed text p) (fitting text room) limit (tokens_at ed text at)) ≡ rejected r → among token_refusals r.number ≡ true
    go (Err q) i h =
        let z : q ≡ r = cc in
        subst (λ (u : Refusal). among token_refusals u.number ≡ true) z
        (subst (Each (λ (u : Refusal). among token_refusals u.number ≡ true)) i (call-each (λ (u : Refusal). among token_refusals u.number ≡ true) ed text at refl refl refl))
    go (Ok tt) i h =
        let n = fault-place ed text at i in
        list-refusals ed text r n.0 (tokens_at ed text at) at (walks ed text at n.0 n.1) ((refuses text r limit (tokens_at ed text at) at (handed text p) (fitting text room)).0 h).0
