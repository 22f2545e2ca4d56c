use Rattle.std.specs.Prelude.{Err}
use mathlib.Core.Path.{◌≡◌, ◌∙◌, sym, ap, refl}
use Rattle.gap.specs.Gap.{doc_of, first_doc}
use Rattle.gap.proofs.Gaps.{gap-over, gap-pass, gap-doc, gap-broken, gap-clear}
use Rattle.gap.proofs.Parts.{part-blank}
use native.Mathlib.Omega.{arith}
use Rattle.std.proofs.Common.{rules}
use Rattle.gap.proofs.first_doc.Goals as goal

pub loop-i-init : goal.loop-i-init
loop-i-init c = refl

pub loop-i-smaller : goal.loop-i-smaller
loop-i-smaller c = let r = gap-pass c.args.text.now c.loop-i.i (search rules) c.in-Some-Pass.e (search rules) in omega arith

pub loop-i-preserved-then-is_blank : goal.loop-i-preserved-then-is_blank
loop-i-preserved-then-is_blank c =
    let blank = part-blank _ _ _ c.byte_at-b.ensures (sym c.is_blank.ensures ∙ c.if-is_blank.true) in
    c.loop-i.invariant ∙ ap doc_of (gap-pass _ _ (search rules) _ (sym blank)).0

pub loop-i-preserved : goal.loop-i-preserved
loop-i-preserved c = c.loop-i.invariant ∙ ap doc_of (gap-pass _ _ (search rules) c.in-Some-Pass.e (search rules)).0

pub returns-in_err-e : goal.returns-in_err-e
unfolding doc_of first_doc
returns-in_err-e c =
    let same : c.from_residual.result ≡ Err c.in_err-e.field-0.0 = search rules in
    same ∙ sym (c.loop-i.invariant ∙ ap doc_of (gap-broken _ _ (search rules) _ _ (sym c.part_at.ensures ∙ c.in_err-e.was)))

pub returns-in-Some-Doc : goal.returns-in-Some-Doc
unfolding doc_of first_doc
returns-in-Some-Doc c = sym (c.loop-i.invariant ∙ ap doc_of (gap-doc _ _ (search rules) _ (search rules)).0)

pub returns-in-None : goal.returns-in-None
unfolding doc_of first_doc
returns-in-None c = sym (c.loop-i.invariant ∙ ap doc_of (gap-clear _ _ (search rules) (search rules)))

pub returns : goal.returns
unfolding doc_of first_doc
returns c = sym (c.loop-i.invariant ∙ ap doc_of (gap-over _ _ (search rules)))
