-- `try_batch` meets its contract.
use Rattle.persistence.proofs.Tried.{try_sits, try_ran}
use Rattle.persistence.proofs.try_batch.Goals as goal

pub prepare_on-answer-requires : goal.prepare_on-answer-requires
prepare_on-answer-requires c =
    let a = c.args in
    try_sits a.state a.store.now a.own _ _ c.entries_at.ensures c.copy_in.ensures _ c.begin-preview.ensures c.requires

pub returns : goal.returns
returns c =
    let a = c.args in
    try_ran a.state a.store.now a.own _ _ c.entries_at.ensures c.copy_in.ensures _ c.begin-preview.ensures a.identity a.batch a.lent.now _ _ c.prepare_on-answer.ensures
