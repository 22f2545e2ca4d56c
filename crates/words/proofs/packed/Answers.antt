use native.Mathlib.Omega.{arith}
use mathlib.Core.Path.{◌≡◌, ◌∙◌}
use Rattle.words.proofs.Numbers.{pack-start, pack-small, pack-step}
use Rattle.words.proofs.packed.Goals as goal

pub loop-j-init : goal.loop-j-init
loop-j-init c = (pack-start c.args.bytes.now c.requires, omega arith)

pub overflow_mul-v : goal.overflow_mul-v
overflow_mul-v c = omega (arith, pack-small c.args.bytes.now c.requires _ _ c.loop-j-test.true c.loop-j.invariant.0 (λ i. (c.type_inv.bytes i).fits))

pub overflow_add-v : goal.overflow_add-v
overflow_add-v c = omega (arith, pack-small c.args.bytes.now c.requires _ _ c.loop-j-test.true c.loop-j.invariant.0 (λ i. (c.type_inv.bytes i).fits))

pub loop-j-preserved : goal.loop-j-preserved
loop-j-preserved c = (pack-step c.args.bytes.now c.requires _ _ c.loop-j-test.true c.loop-j.invariant.0 _ (c.from.ensures ∙ c.byte_at.ensures), omega arith)

pub returns : goal.returns
returns c = c.loop-j.invariant.0 ∙ (let z : c.loop-j.j ≡ 1 = omega arith in rw z)
