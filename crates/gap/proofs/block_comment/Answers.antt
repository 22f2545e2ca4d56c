use mathlib.Core.Bool.{◌&&◌}
use lib.Dec.{eqb}
use mathlib.Core.Path.{◌∙◌, sym}
use native.Mathlib.Omega.{arith}
use Rattle.gap.proofs.Parts.{block-doc, block-plain, closed_after, block-broken, open-within}
use borrow.Author.Rules.{rules}
use Rattle.gap.proofs.block_comment.Goals as goal

pub overflow_sub-result : goal.overflow_sub-result
overflow_sub-result c = let r = closed_after c.args.text.now c.args.i _ _ c.byte_at-a.ensures c.byte_at-b.ensures _ c.block_at.ensures c.in-Ok.e c.in-Ok.is in omega arith

pub returns-then-doc : goal.returns-then-doc
returns-then-doc c = block-doc _ _ _ _ c.byte_at-a.ensures c.byte_at-b.ensures _ c.block_at.ensures _ c.in-Ok.is (sym c.doc_block-doc.ensures ∙ c.if-doc.true)

pub overflow_add-result-in-Err : goal.overflow_add-result-in-Err
overflow_add-result-in-Err c = let r = open-within c.args.text.now c.args.i _ _ c.byte_at-a.ensures c.byte_at-b.ensures _ c.block_at.ensures c.in-Err.o c.in-Err.is (search rules) (c.doc_block-doc.result && eqb c.in-Err.o c.args.i) _ c.opener_len.ensures in omega arith

pub returns-else-doc : goal.returns-else-doc
returns-else-doc c = block-plain _ _ _ _ c.byte_at-a.ensures c.byte_at-b.ensures _ c.block_at.ensures _ c.in-Ok.is (sym c.doc_block-doc.ensures ∙ c.if-doc.false)

pub returns-in-Err : goal.returns-in-Err
returns-in-Err c = block-broken _ _ _ _ c.byte_at-a.ensures c.byte_at-b.ensures _ c.block_at.ensures _ c.in-Err.is _ c.doc_block-doc.ensures _ c.opener_len.ensures
