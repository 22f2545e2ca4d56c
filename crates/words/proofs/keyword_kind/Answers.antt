use mathlib.Core.Path.{refl}
use Rattle.words.proofs.Rows.{tables}
use Rattle.words.proofs.Keyword.{in-first, in-second, in-third, in-fourth}
use borrow.Author.Rules.{rules}
use Rattle.words.proofs.keyword_kind.Goals as goal

-- `words::keyword_kind` meets its contract.

pub returns-then-first-ne-IDENTIFIER : goal.returns-then-first-ne-IDENTIFIER
returns-then-first-ne-IDENTIFIER c = in-first _ _ _ _ c.keyword_among-first.ensures c.if-first-ne-IDENTIFIER.true

pub returns-then-second-ne-IDENTIFIER : goal.returns-then-second-ne-IDENTIFIER
returns-then-second-ne-IDENTIFIER c =
    in-second _ _ _ _ c.keyword_among-first.ensures c.if-first-ne-IDENTIFIER.false _ c.keyword_among-second.ensures c.if-second-ne-IDENTIFIER.true

pub returns-then-third-ne-IDENTIFIER : goal.returns-then-third-ne-IDENTIFIER
returns-then-third-ne-IDENTIFIER c =
    in-third _ _ _ _ c.keyword_among-first.ensures c.if-first-ne-IDENTIFIER.false _ c.keyword_among-second.ensures c.if-second-ne-IDENTIFIER.false
    _ c.keyword_among-third.ensures c.if-third-ne-IDENTIFIER.true

pub returns : goal.returns
returns c =
    in-fourth _ _ _ _ c.keyword_among-first.ensures c.if-first-ne-IDENTIFIER.false _ c.keyword_among-second.ensures c.if-second-ne-IDENTIFIER.false
    _ c.keyword_among-third.ensures c.if-third-ne-IDENTIFIER.false _ c.keyword_among.ensures

pub keyword_among-first-requires : goal.keyword_among-first-requires
unfolding tables
keyword_among-first-requires c = (refl, refl, search rules)

pub keyword_among-second-requires : goal.keyword_among-second-requires
unfolding tables
keyword_among-second-requires c = (refl, refl, search rules)

pub keyword_among-third-requires : goal.keyword_among-third-requires
unfolding tables
keyword_among-third-requires c = (refl, refl, search rules)

pub keyword_among-requires : goal.keyword_among-requires
unfolding tables
keyword_among-requires c = (refl, refl, search rules)
