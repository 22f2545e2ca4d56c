-- Sources and tokens with all places raised by k.
use Rattle.std.specs.Prelude.{ℕ, ◌+◌}
use Rattle.sources.specs.Source.{Source, moved, Lexeme}

abbrev pub raise_source : ℕ → Source → Source
raise_source k u = moved u (k + u.at) u.rest

abbrev pub raise_token : ℕ → Lexeme → Lexeme
raise_token k t = record { kind = t.kind; here = raise_source k t.here; len = t.len }
