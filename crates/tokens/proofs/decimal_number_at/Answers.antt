use mathlib.Core.Path.{◌∙◌}
use native.Mathlib.Omega.{arith}
use Rattle.classes.specs.Class.{is_digit}
use Rattle.tokens.specs.Token.{more_digits}
use Rattle.tokens.proofs.Digits.{digits-by-class}
use Rattle.tokens.proofs.Steps.{number-room, decimal-at}
use borrow.Author.Rules.{rules}
use Rattle.tokens.proofs.decimal_number_at.Goals as goal

pub typed_at-requires : goal.typed_at-requires
typed_at-requires c = let r = number-room _ c.args.text.now c.args.at _ _ c.suffix_len-n.ensures is_digit (more_digits _) (digits-by-class _ _ _ _ _ c.more_digits.ensures c.digits_end-e.ensures) (search rules) in omega arith

pub returns : goal.returns
returns c = c.typed_at.ensures ∙ decimal-at _ _ _ _ _ c.suffix_len-n.ensures (digits-by-class _ _ _ _ _ c.more_digits.ensures c.digits_end-e.ensures)
