use mathlib.Core.Path.{◌∙◌}
use native.Mathlib.Omega.{arith}
use Rattle.std.proofs.lemmas.Result.{on_ok_weaker}
use Rattle.token_program.proofs.Whole.{passed-on}
use Rattle.token_program.proofs.print_input.Goals as goal

pub returns : goal.returns
returns g c =
    on_ok_weaker c.write_all.result
    (λ a. passed-on _ _ _ _ _ _ (omega arith) c.in_ok-n.ensures.bytes (c.as_bytes.ensures ∙ c.print_tokens.ensures) a)
    c.write_all.ensures.bytes
