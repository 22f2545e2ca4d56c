use Rattle.chains.proofs.Names.{behind_more, behind-due, behind-one}
use Rattle.chains.proofs.name_behind.Goals as goal

pub returns-then-d-eq-COLON_COLON : goal.returns-then-d-eq-COLON_COLON
returns-then-d-eq-COLON_COLON c =
    let x = c.args in
    behind_more x.w x.text.now x.s x.out.now _ x.a x.d _ c.if-d-eq-COLON_COLON.true c.second_part.ensures

pub returns-then-a-ne-IDENTIFIER : goal.returns-then-a-ne-IDENTIFIER
returns-then-a-ne-IDENTIFIER c =
    let x = c.args in
    behind-due x.w x.text.now x.s x.out.now _ x.a x.d c.if-d-eq-COLON_COLON.false _ c.if-a-ne-IDENTIFIER.true c.colons_due.ensures

pub returns : goal.returns
returns c =
    let x = c.args in
    behind-one x.w x.text.now x.s x.out.now _ x.a x.d c.if-d-eq-COLON_COLON.false _ c.if-a-ne-IDENTIFIER.false c.put_leaf-to.ensures
