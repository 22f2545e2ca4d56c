-- Words of the private contracts about block comments. The code scans a block comment twice in place of a stack of
-- openers: one scan counts how many comments are open, and, where the comment is not closed, one finds the innermost
-- opener still open. That they agree with `inside` is proved in proofs/Inside.antt.
use Rattle.gap.specs.declared.GapPart.{GapPart}
use Rattle.gap.specs.declared.Unclosed.{Unclosed}
use Rattle.std.specs.Prelude.{ℕ, suc, pred, ◌+◌, Bool, true, false, cond, List, [], ◌∷◌, eqb, leb, drop, get_or, Result, Ok, Err, Option}
use Rattle.gap.specs.Marks.{opens, closes, doc_block}
use Rattle.gap.specs.Comments.{inside, block_comment}

-- the block comment at i of a text
unfoldable pub block_part : List ℕ → ℕ → Result (Option GapPart) Unclosed
block_part text i = block_comment (doc_block (get_or text (i + 2) 0) (get_or text (i + 3) 0)) i (inside false (i ∷ []) (i + 2) (drop (i + 2) text))

-- what a byte at i does where n comments are open
abbrev pub depth_step : Bool → Bool → ℕ → ℕ → (Bool → ℕ → Result ℕ ℕ) → Result ℕ ℕ
depth_step true c n i go = go true (suc n)
depth_step false true n i go = cond (leb n 1) (Ok (i + 2)) (go true (pred n))
depth_step false false n i go = go false n

unfoldable pub depth_scan : Bool → ℕ → ℕ → List ℕ → Result ℕ ℕ
depth_scan b n i [] = Err n
depth_scan true n i (a ∷ s) = depth_scan false n (suc i) s
depth_scan false n i (a ∷ s) = depth_step (opens a (get_or s 0 0)) (closes a (get_or s 0 0)) n i (λ b n. depth_scan b n (suc i) s)

unfoldable pub depth_at : List ℕ → ℕ → ℕ → Result ℕ ℕ
depth_at text i n = depth_scan false n i (drop i text)

-- the last opener that brought the depth to d, p where there is none
abbrev pub opener_step : ℕ → Bool → Bool → ℕ → ℕ → ℕ → (Bool → ℕ → ℕ → ℕ) → ℕ
opener_step d true c n p i go = go true (suc n) (cond (eqb (suc n) d) i p)
opener_step d false true n p i go = go true (pred n) p
opener_step d false false n p i go = go false n p

unfoldable pub opener_scan : ℕ → Bool → ℕ → ℕ → ℕ → List ℕ → ℕ
opener_scan d b n p i [] = p
opener_scan d true n p i (a ∷ s) = opener_scan d false n p (suc i) s
opener_scan d false n p i (a ∷ s) = opener_step d (opens a (get_or s 0 0)) (closes a (get_or s 0 0)) n p i (λ b n p. opener_scan d b n p (suc i) s)

unfoldable pub opener_at : ℕ → List ℕ → ℕ → ℕ → ℕ → ℕ
opener_at d text i n p = opener_scan d false n p i (drop i text)
