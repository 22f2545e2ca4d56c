use mathlib.Core.Path.{◌∙◌}
use native.Mathlib.Omega.{arith}
use Rattle.words.proofs.Keyword.{other_length, name-found}
use Rattle.words.proofs.name_kind.Goals.{then-m-lt2-via-then-m-lt2, then-m-lt2-via-else-m-lt2+then-m-gt9}
use Rattle.words.proofs.name_kind.Goals as goal

pub returns-then-m-lt2 : goal.returns-then-m-lt2
returns-then-m-lt2 c = other_length c.args.text.now c.args.at c.args.n _ c.clip-m.ensures (λ l u.
    elim c.then-m-lt2.branch [
      | then-m-lt2-via-then-m-lt2 w ↦ absurd (omega arith)
      | then-m-lt2-via-else-m-lt2+then-m-gt9 w ↦ absurd (omega arith)
    ])

pub returns : goal.returns
returns c =
    c.keyword_kind.ensures
    ∙ name-found c.args.text.now c.args.at c.args.n _ c.clip-m.ensures c.if-m-lt2.false
    (λ i. (c.type_inv.text i).fits) _ c.packed_name.ensures
