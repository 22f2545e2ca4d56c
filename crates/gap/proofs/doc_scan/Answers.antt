use mathlib.Core.Path.{◌∙◌, sym, ap, refl}
use native.Mathlib.Omega.{arith}
use Rattle.gap.specs.Gap.{gap_end_of}
use Rattle.gap.specs.code.Ends.{last_doc, doc_scan}
use Rattle.gap.proofs.Gaps.{gap-over, gap-space, gap-plain}
use Rattle.gap.proofs.Spans.{behind-plain, behind-doc, behind-open, behind-none}
use borrow.Author.Rules.{rules}
use Rattle.gap.proofs.doc_scan.Goals as goal

pub loop-i-init : goal.loop-i-init
loop-i-init c = refl

pub loop-i-preserved-then-is : goal.loop-i-preserved-then-is
loop-i-preserved-then-is c = c.loop-i.invariant ∙ ap (doc_scan _ _) (gap-space _ _ (search rules) (sym c.is.ensures ∙ c.if-is.true))

pub loop-i-smaller-in-Ok-Some-Pass : goal.loop-i-smaller-in-Ok-Some-Pass
loop-i-smaller-in-Ok-Some-Pass c =
    let r = behind-plain c.args.text.now c.loop-i.i (search rules) _ c.part_span.ensures c.in-Ok-Some-Pass.e (search rules) in
    omega arith

pub loop-i-preserved-in-Ok-Some-Pass : goal.loop-i-preserved-in-Ok-Some-Pass
loop-i-preserved-in-Ok-Some-Pass c =
    c.loop-i.invariant ∙ ap (doc_scan _ _) (behind-plain _ _ (search rules) _ c.part_span.ensures _ (search rules)).0

pub loop-i-smaller : goal.loop-i-smaller
loop-i-smaller c =
    let r = behind-doc c.args.text.now c.loop-i.i (search rules) _ c.part_span.ensures c.in-Ok-Some-Doc.c (search rules) 0 0 in
    rw c.in-Ok-Some-Doc.c-is (omega arith)

pub loop-i-preserved : goal.loop-i-preserved
loop-i-preserved c =
    rw c.in-Ok-Some-Doc.c-is (c.loop-i.invariant ∙ (behind-doc _ _ (search rules) _ c.part_span.ensures c.in-Ok-Some-Doc.c (search rules) _ _).0)

pub returns-in-Err : goal.returns-in-Err
unfolding doc_scan last_doc gap_end_of
returns-in-Err c =
    sym (c.loop-i.invariant ∙ ap (doc_scan _ _) (behind-open _ _ (search rules) _ c.part_span.ensures _ _ c.in-Err.is))

pub returns-in-Ok-None : goal.returns-in-Ok-None
unfolding doc_scan last_doc gap_end_of
returns-in-Ok-None c =
    sym (c.loop-i.invariant ∙ ap (doc_scan _ _) (behind-none _ _ (search rules) _ c.part_span.ensures (search rules)))

pub returns-else-is-2 : goal.returns-else-is-2
unfolding doc_scan last_doc gap_end_of
returns-else-is-2 c = sym (c.loop-i.invariant ∙ ap (doc_scan _ _) (gap-plain _ _ (search rules) (sym c.is.ensures ∙ c.if-is.false) (sym c.is-else-is.ensures ∙ c.if-is-2.false)))

pub returns : goal.returns
unfolding doc_scan last_doc gap_end_of
returns c = sym (c.loop-i.invariant ∙ ap (doc_scan _ _) (gap-over _ _ (search rules)))
