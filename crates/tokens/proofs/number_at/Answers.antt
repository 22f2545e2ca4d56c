use mathlib.Core.Path.{◌∙◌}
use Rattle.tokens.proofs.Steps.{number-hex, number-decimal, hex-room}
use Rattle.tokens.proofs.number_at.Goals as goal

pub hex_number_at-requires : goal.hex_number_at-requires
hex_number_at-requires c = hex-room c.args.text.now c.args.at _ c.byte_at-b.ensures _ c.opens_hex.ensures c.if-opens_hex.true

pub returns-then-opens_hex : goal.returns-then-opens_hex
returns-then-opens_hex c = c.hex_number_at.ensures ∙ number-hex _ _ _ c.byte_at-b.ensures _ c.opens_hex.ensures _ c.if-opens_hex.true

pub returns : goal.returns
returns c = c.decimal_number_at.ensures ∙ number-decimal _ _ _ c.byte_at-b.ensures _ c.opens_hex.ensures _ c.if-opens_hex.false
