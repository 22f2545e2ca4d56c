use Rattle.tokens.proofs.Documents.{clear-way, broken-way}
use Rattle.tokens.proofs.next_documented.Goals as goal

pub returns-in-Ok : goal.returns-in-Ok
returns-in-Ok c = clear-way _ _ _ _ c.doc_scan-g.ensures _ _ _ c.in-Ok.is c.next_token.ensures c.with_doc.ensures

pub returns-in-Err : goal.returns-in-Err
returns-in-Err c = broken-way _ _ _ _ c.doc_scan-g.ensures _ _ _ _ c.in-Err.is c.next_token-in-Err.ensures c.with_doc-in-Err.ensures
