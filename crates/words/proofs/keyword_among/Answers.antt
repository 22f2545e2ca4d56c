use mathlib.Core.Path.{◌∙◌, sym, refl}
use Rattle.words.proofs.keyword_among.Goals.{else-rows-k-via-then-rows-k+then-packed-v+else-row_len-n, else-rows-k-via-then-rows-k+else-packed-v, else-rows-k-via-else-rows-k}
use Rattle.words.proofs.Rows.{packed-end, packed-hit, packed-off}
use Rattle.words.proofs.keyword_among.Goals as goal

-- `words::keyword_among` meets its contract.

pub loop-k-init : goal.loop-k-init
loop-k-init c = refl

pub returns-then-row_len-n : goal.returns-then-row_len-n
returns-then-row_len-n c =
    sym (c.loop-k.invariant
    ∙ packed-hit _ c.loop-k.k _ _ _ _ _ c.requires.0 c.requires.1 c.requires.2 c.loop-k-test.true
    c.if-rows-k.true (sym c.packed.ensures ∙ c.if-packed-v.true)
    (sym c.row_len.ensures ∙ c.if-row_len-n.true))

pub loop-k-preserved : goal.loop-k-preserved
loop-k-preserved c =
    c.loop-k.invariant
    ∙ packed-off _ c.loop-k.k _ _ _ _ _ c.requires.0 c.requires.1 c.requires.2 c.loop-k-test.true
    (λ p q l.
    elim c.else-rows-k.branch [
      | else-rows-k-via-then-rows-k+then-packed-v+else-row_len-n w ↦ w.if-row_len-n.false (w.row_len.ensures ∙ l)
      | else-rows-k-via-then-rows-k+else-packed-v w ↦ w.if-packed-v.false (w.packed.ensures ∙ q)
      | else-rows-k-via-else-rows-k w ↦ w.if-rows-k.false p
    ])

pub returns : goal.returns
returns c = sym (c.loop-k.invariant ∙ packed-end _ c.loop-k.k _ _ _ c.loop-k-test.false)
