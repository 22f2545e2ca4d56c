-- The steps of a walk, by the token call's answer where one begins.
use mathlib.Core.Path.{◌≡◌, refl, ap, sym, ◌∙◌}
use mathlib.Core.Bool.{Bool, true, false}
use mathlib.Core.List.{List}
use Prim.Native.Nat.{ℕ, ◌<◌, ◌≤◌}
use borrow.Author.Tests.{lt-ltb, le-ltb, eqb-true, eqb-false}
use lib.Dec.{eqb}
use lib.ListN.{length}
use Rattle.words.specs.Kinds.{EOF}
use Rattle.tokens.specs.Calls.{place_fault, next_token}
use Rattle.tokens.specs.Walk.{refused, tokens_at}
use Rattle.tokens.specs.declared.Refusal.{Refusal}
use Rattle.tokens.specs.declared.Token.{Token}
use Rattle.tokens.proofs.Again.{found-fits}
use Rattle.tokens.proofs.Faults.{unless-faulty, in_place_lem}
use Rattle.tokens.proofs.Walks.{at-refused, at-eof, at_next}
use Rattle.starts.specs.code.Step.{step, reached, step_to}
use Rattle.std.specs.Prelude.{Result, Ok, Err, ⊤}

injective : {a b : Refusal} → ◌≡◌ {A = Result Token Refusal} (Err a) (Err b) → a ≡ b
injective p = cc

module _ (ed : ℕ) (text : List ℕ) (at : ℕ) where
  -- refusals 1 and 2 too
  refused-list : (r : Refusal) → next_token ed text at ≡ Err r → tokens_at ed text at ≡ refused r
  unfolding tokens_at next_token
  refused-list r e = go (place_fault text at) refl
    where
      go : (f : Result ⊤ Refusal) → place_fault text at ≡ f → tokens_at ed text at ≡ refused r
      go (Ok tt) i = at-refused ed text at (in_place_lem text at i).1 r e
      go (Err q) i = unless-faulty refused (place_fault text at) _ q i ∙ ap refused (injective (sym (unless-faulty Err (place_fault text at) _ q i) ∙ e))

  module _ (limit : ℕ) where
    pub step-refused : (r : Refusal) → next_token ed text at ≡ Err r → step at (Err r) ≡ step_to ed text at limit
    unfolding step_to reached
    step-refused r e = rw (refused-list r e)

    module _ (t : Token) (e : next_token ed text at ≡ Ok t) where
      pub step-eof : t.kind ≡ EOF → step at (Ok t) ≡ step_to ed text at limit
      unfolding step_to reached
      step-eof z = rw (at-eof ed text at (found-fits ed text at t e).1 t e z)

      pub step-behind : limit < t.end → step at (Ok t) ≡ step_to ed text at limit
      unfolding step_to reached
      step-behind h = go (eqb t.kind EOF) refl
        where
          go : (b : Bool) → eqb t.kind EOF ≡ b → step at (Ok t) ≡ step_to ed text at limit
          go true q = step-eof (eqb-true t.kind EOF q)
          go false q = rw ((at_next ed text at (found-fits ed text at t e).1 t e (eqb-false t.kind EOF q)).0, lt-ltb limit t.end h)

      pub step-on : (t.kind ≡ EOF → ⊥) → t.end ≤ limit
          → (step_to ed text at limit ≡ step_to ed text t.end limit) × (at < t.end) × (t.end ≤ length text)
      unfolding step_to reached
      step-on z h =
          let n = at_next ed text at (found-fits ed text at t e).1 t e z in
          (rw (n.0, le-ltb limit t.end h), n.1, n.2)
