-- The lines of the tokens, one after the other.
use mathlib.Core.Path.{◌≡◌, refl, ◌∙◌}
use mathlib.Core.List.{List, [], ◌++◌, append_assoc}
use Prim.Native.Nat.{ℕ, ◌+◌, ◌*◌, ◌<◌, ◌≤◌}
use native.Mathlib.Omega.{arith}
use lib.ListN.{length}
use Rattle.tokens.specs.Calls.{next_token}
use Rattle.tokens.specs.Walk.{tokens_at, tokens_of}
use Rattle.tokens.specs.declared.Refusal.{Refusal}
use Rattle.tokens.specs.declared.Token.{Token}
use Rattle.std.specs.Prelude.{Ok, Err}
use Rattle.tokens.proofs.Walks.{at-refused, at-eof, at_next}
use Rattle.token_program.specs.Printed.{token_line, refused_line, printed}

-- `lines` has the lines of the tokens before `at`; those from `at` on are still to come
pub record Progress (text : List ℕ) (at : ℕ) (lines : List ℕ) : Type 0 where
  pub inside : at ≤ length text
  pub room : length lines ≤ 18 * at
  pub rest : printed (tokens_of text) ≡ lines ++ printed (tokens_at 1 text at)

pub begun : (text lines : List ℕ) → lines ≡ [] → Progress text 0 lines
unfolding tokens_of
begun text lines e = rw e (record { inside = omega arith; room = omega arith; rest = refl })

module _ (text : List ℕ) (at : ℕ) (lines : List ℕ) (p : Progress text at lines) where
  pub with-refusal : (r : Refusal) → next_token 1 text at ≡ Err r → lines ++ refused_line r ≡ printed (tokens_of text)
  unfolding printed
  with-refusal r e = rw (p.rest, at-refused 1 text at p.inside r e) refl

  module _ (t : Token) (e : next_token 1 text at ≡ Ok t) where
    pub with-eof : t.kind ≡ 0 → lines ++ token_line t ≡ printed (tokens_of text)
    unfolding printed
    with-eof z = rw (p.rest, at-eof 1 text at p.inside t e z) refl

    module _ (n : t.kind ≡ 0 → ⊥) where
      pub goes_on : (at < t.end) × (t.end ≤ length text)
      goes_on = let r = at_next 1 text at p.inside t e n in (r.1, r.2)

      pub with-token : (more : List ℕ) → more ≡ lines ++ token_line t → length more ≤ length lines + 18 → Progress text t.end more
      unfolding printed
      with-token more q h =
          let r = at_next 1 text at p.inside t e n in
          record {
            inside = r.2;
            room = omega (arith, p.room, r.1);
            rest = p.rest ∙ rw (r.0, q, append_assoc lines (token_line t) (printed (tokens_at 1 text t.end))) refl;
          }
