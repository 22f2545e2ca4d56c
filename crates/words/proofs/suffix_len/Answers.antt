use mathlib.Core.Path.{sym}
use native.Mathlib.Omega.{arith}
use Rattle.words.proofs.Suffix.{no-suffix, u-inside, suffix-first, suffix-added, suffix-plain}
use Rattle.words.proofs.suffix_len.Goals as goal

pub returns-then-byte_at-ne117 : goal.returns-then-byte_at-ne117
returns-then-byte_at-ne117 c = sym (no-suffix c.args.text.now c.args.at _ _ c.byte_at.ensures c.if-byte_at-ne117.true)

pub overflow_add-at : goal.overflow_add-at
overflow_add-at c = let i = u-inside c.args.text.now c.args.at _ c.byte_at.ensures c.if-byte_at-ne117.false in omega arith

pub overflow_add-at-2 : goal.overflow_add-at-2
overflow_add-at-2 c = let i = u-inside c.args.text.now c.args.at _ c.byte_at.ensures c.if-byte_at-ne117.false in omega arith

pub overflow_add-at-3 : goal.overflow_add-at-3
overflow_add-at-3 c = let i = u-inside c.args.text.now c.args.at _ c.byte_at.ensures c.if-byte_at-ne117.false in omega arith

pub returns-then-n-ne0 : goal.returns-then-n-ne0
returns-then-n-ne0 c = suffix-first c.args.text.now c.args.at _ _ _ _ c.byte_at.ensures c.if-byte_at-ne117.false c.byte_at-b.ensures c.byte_at-c.ensures c.byte_at-d.ensures _ _ c.first_suffix-n.ensures c.if-n-ne0.true

pub returns-then-edition-eq-EDITION_2 : goal.returns-then-edition-eq-EDITION_2
returns-then-edition-eq-EDITION_2 c = suffix-added c.args.text.now c.args.at _ _ _ _ c.byte_at.ensures c.if-byte_at-ne117.false c.byte_at-b.ensures c.byte_at-c.ensures c.byte_at-d.ensures _ _ c.first_suffix-n.ensures c.if-n-ne0.false c.if-edition-eq-EDITION_2.true _ c.added_suffix.ensures

pub returns : goal.returns
returns c = suffix-plain c.args.text.now c.args.at _ _ _ _ c.byte_at.ensures c.if-byte_at-ne117.false c.byte_at-b.ensures c.byte_at-c.ensures c.byte_at-d.ensures _ _ c.first_suffix-n.ensures c.if-n-ne0.false c.if-edition-eq-EDITION_2.false
