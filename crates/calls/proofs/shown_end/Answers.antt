use mathlib.Core.Path.{◌∙◌, sym, ap}
use mathlib.Core.List.{List}
use Prim.Native.Nat.{ℕ}
use native.Mathlib.Omega.{arith}
use lib.ListN.{take}
use lib.Seq.{length-take-le}
use Rattle.calls.proofs.Answers.{take_min}
use Rattle.classes.specs.Class.{in_class, shows}
use Rattle.classes.specs.Run.{run_end}
use Rattle.calls.proofs.shown_end.Goals as goal

pub slice_bounds-run_end-end : goal.slice_bounds-run_end-end
slice_bounds-run_end-end c = sym (length-take-le _ _ (omega (arith, c.min.ensures)))

pub returns : goal.returns
unfolding in_class
returns c = c.run_end.ensures ∙ ap (λ (v : List ℕ). run_end shows v c.args.a.start) (ap (λ (n : ℕ). take n c.args.text.now) c.min.ensures ∙ take_min c.args.a.end c.args.text.now)
