use Rattle.grammar.specs.Items.{asked}
use Rattle.calls.proofs.Answers.{read-given}
use Rattle.calls.proofs.read.Goals as goal

pub returns : goal.returns
returns c =
    let x = c.args in
    let whole = read-given (asked x.kind x.edition x.text.now x.at) _ x.out.now _ _ _ c.next_token-first.ensures c.first_form.ensures c.call.ensures in
    record { answer = whole.0; buffer = whole.1 }
