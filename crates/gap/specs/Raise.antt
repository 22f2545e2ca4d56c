-- Comments and the end of a gap with all places raised by k.
use Rattle.std.specs.Prelude.{ℕ, ◌+◌, map}
use Rattle.gap.specs.Gap.{End, clear, broken, Gap}
use Rattle.gap.specs.declared.Comment.{Comment}

abbrev pub raise_comment : ℕ → Comment → Comment
raise_comment k c = record { start = k + c.start; end = k + c.end; from = k + c.from; to = k + c.to }

abbrev pub raise_end : ℕ → End → End
raise_end k (clear p s) = clear (k + p) s
raise_end k (broken o e) = broken (k + o) (k + e)

abbrev pub raise_gap : ℕ → Gap → Gap
raise_gap k g = record { docs = map (raise_comment k) g.docs; last = raise_end k g.last }
