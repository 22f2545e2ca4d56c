use Rattle.std.proofs.Common.{◌≡◌, Option, Some, None, Ok, MatchOption, IsSomeAnd, rules}
use mathlib.Core.Path.{ap, sym, ◌∙◌}
use Rattle.gap.specs.declared.GapPart.{GapPart}
use Rattle.gap.specs.declared.GapPart.TheVariants.{Pass, Doc}
use Rattle.gap.specs.code.Ends.{part_end, end_of_part}
use Rattle.gap.proofs.end_of_part.Goals as goal
use Prim.Native.Nat.{ℕ}

pub returns-in_err-p : goal.returns-in_err-p
unfolding end_of_part
returns-in_err-p c = search rules

ends : (Told : GapPart → ℕ → Type 0) → ((g : GapPart) (e : ℕ) → Told g e → e ≡ part_end g) → (p : Option GapPart) (r : Option ℕ)
    → MatchOption p (r ≡ None) (λ g. IsSomeAnd r (Told g)) → Ok r ≡ end_of_part (Ok p)
unfolding end_of_part
ends Told h None r q = ap Ok q
ends Told h (Some (Pass e)) (Some x) q = ap (λ (n : ℕ). Ok (Some n)) (h (Pass e) x q)
ends Told h (Some (Doc d)) (Some x) q = ap (λ (n : ℕ). Ok (Some n)) (h (Doc d) x q)
ends Told h (Some g) None q = absurd q

pub returns : goal.returns
returns c = ends _ (λ g e t. search rules) _ _ c.map.ensures.cases ∙ ap end_of_part (sym c.in_ok-p.was)
