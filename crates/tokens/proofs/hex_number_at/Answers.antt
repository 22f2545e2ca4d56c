use mathlib.Core.Path.{◌∙◌}
use native.Mathlib.Omega.{arith}
use Prim.Native.Nat.{◌+◌}
use Rattle.classes.specs.Class.{is_hex}
use Rattle.tokens.specs.Token.{more_hex}
use Rattle.tokens.proofs.Digits.{hex-by-class}
use Rattle.tokens.proofs.Steps.{number-room, hex-zero, hex-number}
use borrow.Author.Rules.{rules}
use Rattle.tokens.proofs.hex_number_at.Goals as goal

pub overflow_add-e : goal.overflow_add-e
overflow_add-e c = let r = number-room _ c.args.text.now (c.args.at + 2) _ _ c.suffix_len-n.ensures is_hex (more_hex _) (hex-by-class _ _ _ _ _ c.more_hex.ensures c.digits_end-e.ensures) (search rules) in omega arith

pub returns-then-e-n : goal.returns-then-e-n
returns-then-e-n c = hex-zero _ _ _ _ _ c.suffix_len-n.ensures (hex-by-class _ _ _ _ _ c.more_hex.ensures c.digits_end-e.ensures) c.if-e-n.true

pub typed_at-requires : goal.typed_at-requires
typed_at-requires c = let r = number-room _ c.args.text.now (c.args.at + 2) _ _ c.suffix_len-n.ensures is_hex (more_hex _) (hex-by-class _ _ _ _ _ c.more_hex.ensures c.digits_end-e.ensures) (search rules) in omega arith

pub returns : goal.returns
returns c = c.typed_at.ensures ∙ hex-number _ _ _ _ _ c.suffix_len-n.ensures (hex-by-class _ _ _ _ _ c.more_hex.ensures c.digits_end-e.ensures) c.if-e-n.false
