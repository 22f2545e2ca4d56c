use Rattle.std.proofs.Common.{◌≡◌, Result, Ok, Err, MatchResult, IsErrAnd, rules}
use mathlib.Core.Path.{ap, sym, ◌∙◌}
use mathlib.Core.List.{List, [], ◌∷◌}
use mathlib.Core.Bool.{false}
use Prim.Native.Nat.{ℕ, ◌+◌}
use lib.ListN.{drop}
use Rattle.gap.specs.Comments.{inside}
use Rattle.gap.specs.code.Blocks.{depth_at, opener_at}
use Rattle.gap.proofs.Inside.{block_closed, block-open}
use Rattle.gap.proofs.block_at.Goals as goal

module _ (text : List ℕ) (p : ℕ) (Told : ℕ → ℕ → Type 0) (h : (d o : ℕ) → Told d o → o ≡ opener_at d text (p + 2) 1 p) where
  ends : (w r : Result ℕ ℕ) → w ≡ depth_at text (p + 2) 1 → MatchResult w (λ e. r ≡ Ok e) (λ d. IsErrAnd r (Told d)) → r ≡ inside false (p ∷ []) (p + 2) (drop (p + 2) text)
  ends (Ok e) r q k = k ∙ sym (block_closed text p e (sym q))
  ends (Err d) (Err o) q k = ap Err (h d o k) ∙ sym (block-open text p d (sym q))
  ends (Err d) (Ok e) q k = absurd k

pub returns : goal.returns
returns c = ends c.args.text.now c.args.p _ (λ d o t. search rules) c.args.w c.map_err.result c.requires.1 c.map_err.ensures.cases
