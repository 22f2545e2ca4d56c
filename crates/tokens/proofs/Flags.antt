-- The token call's answer, by what the code found: the flag is that of the bytes before the token.
use Rattle.gap.specs.declared.Unclosed.{Unclosed}
use mathlib.Core.Path.{◌≡◌, refl, sym, ◌∙◌}
use mathlib.Core.Bool.{Bool, ◌||◌}
use mathlib.Core.List.{List}
use Prim.Native.Nat.{ℕ, ◌≤◌}
use native.Mathlib.Omega.{arith}
use lib.ListN.{drop}
use Rattle.classes.specs.Class.{is_space}
use Rattle.classes.specs.Run.{run_end}
use Rattle.classes.proofs.Runs.{run-from}
use Rattle.gap.specs.Gap.{End, clear, broken, gap, gap_end_of}
use Rattle.gap.specs.LineFeed.{line_feed, gap_feed}
use Rattle.gap.proofs.Gaps.{Ended, gap-ended}
use Rattle.gap.proofs.LineFeeds.{feed-past}
use Rattle.tokens.specs.Token.{Front, sized, fault}
use Rattle.tokens.specs.Calls.{next_token, line_feed_before, advanced, refused_call}
use Rattle.tokens.specs.code.Found.{lexed_at, flagged}
use Rattle.tokens.specs.declared.Refusal.{Refusal}
use Rattle.tokens.specs.declared.Token.{Token}
use Rattle.std.specs.Prelude.{Result, Err, Ok}

module _ (ed : ℕ) (text : List ℕ) (at : ℕ) where
  pub advanced-refused : (r : Refusal) → Err r ≡ next_token ed text at → refused_call r ≡ advanced ed text at
  unfolding advanced line_feed_before
  advanced-refused r e = rw (← e)

  -- a token that stands at k
  found-by : (k : ℕ) (f : Front) (v : Bool) → lexed_at k f ≡ next_token ed text at → v ≡ line_feed text at k → flagged (lexed_at k f) v ≡ advanced ed text at
  unfolding advanced flagged lexed_at line_feed_before
  found-by k (sized d n) v e h = rw (← e, h)
  found-by k (fault m i j) v e h = rw (← e)

  pub advanced-found : (k : ℕ) (f : Front) (v : Bool) (l : Result Token Refusal) → l ≡ lexed_at k f → lexed_at k f ≡ next_token ed text at → v ≡ line_feed text at k → flagged l v ≡ advanced ed text at
  advanced-found k f v l q e h = rw q (found-by k f v e h)

module _ (text : List ℕ) (at : ℕ) where
  clear-after : (i k : ℕ) (e : End) → Ended text i e → gap_end_of e ≡ Ok k → i ≤ k
  unfolding gap_end_of
  clear-after i k (clear q u) h g = let r : q ≡ k = cc in omega (arith, h.0)
  clear-after i k (broken o q) h g = let z : ◌≡◌ {A = ℕ} 0 1 = cc in absurd (omega arith)

  -- blanks up to i, and from there a gap that ends at k
  pub flag-before : (i k : ℕ) → i ≡ run_end is_space text at → (u : Bool) → u ≡ line_feed text at i → (g : Result ℕ Unclosed) → g ≡ gap_end_of (gap 0 i (drop i text)).last
      → (w : Bool) → w ≡ gap_feed text i g → g ≡ Ok k → u || w ≡ line_feed text at k
  unfolding gap_feed
  flag-before i k q u eu g eg w ew h =
      let a : at ≤ i = omega (arith, q, run-from is_space text at) in
      let b : i ≤ k = clear-after i k (gap 0 i (drop i text)).last (gap-ended text (drop i text) 0 i refl) (sym eg ∙ h) in
      let f : w ≡ line_feed text i k = ew ∙ rw h in
      feed-past text at i u eu a k w f b
