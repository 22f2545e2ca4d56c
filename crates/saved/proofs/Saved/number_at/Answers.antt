use mathlib.Core.Path.{◌≡◌}
use Prim.Native.Nat.{suc, ◌+◌, ◌-◌}
use native.Mathlib.Omega.{arith}
use native.Mathlib.Nat.{pow-succ'}
use Rattle.saved.proofs.Heads.{number_step, number-none, pow-few}
use Rattle.saved.proofs.Saved.number_at.Goals as goal

pub loop-i-init : goal.loop-i-init
loop-i-init g c =
    let z : g.row.W - g.row.W ≡ 0 = omega arith in
    record { same = rw (z, number-none); below = rw z (omega arith) }

pub overflow_mul-n : goal.overflow_mul-n
overflow_mul-n g c = omega (arith, pow-few (g.row.W - c.loop-i.i) (omega arith), c.loop-i.invariant.below)

pub overflow_add-n : goal.overflow_add-n
overflow_add-n g c = omega (arith, pow-few (g.row.W - c.loop-i.i) (omega arith), c.loop-i.invariant.below, c.from.ensures)

pub loop-i-preserved : goal.loop-i-preserved
loop-i-preserved g c =
    let tree = c.args.self.now.tree.now in
    let w = g.row.W - c.loop-i.i in
    let q = c.args.p + (c.loop-i.i - 1) in
    let more : g.row.W - (c.loop-i.i - 1) ≡ suc w = omega arith in
    let next : q + 1 ≡ c.args.p + c.loop-i.i = omega arith in
    record {
      same = rw more (omega (arith, c.from.ensures, rw next at (number_step w tree q), c.loop-i.invariant.same));
      below = rw more (omega (arith, c.from.ensures, c.loop-i.invariant.below, pow-succ' 256 w));
    }

pub returns : goal.returns
returns g c =
    let all : g.row.W - c.loop-i.i ≡ g.row.W = omega arith in
    let from : c.args.p + c.loop-i.i ≡ c.args.p = omega arith in
    rw (all, from) at c.loop-i.invariant.same
