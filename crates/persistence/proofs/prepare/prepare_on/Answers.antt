-- `prepare::prepare_on` meets its contract.
use Rattle.persistence.proofs.Pointed.{prepare_out, prepare_in}
use Rattle.persistence.proofs.prepare.prepare_on.Goals as goal

pub returns-in_err-check_batch : goal.returns-in_err-check_batch
returns-in_err-check_batch c =
    let a = c.args in
    prepare_out a.identity a.batch a.lent.now a.preview.now a.block.now c.check_batch.result c.check_batch.ensures c.in_err-check_batch.was _ c.from_residual.ensures.1

pub returns : goal.returns
returns c =
    let a = c.args in
    prepare_in a.identity a.batch a.lent.now a.preview.now a.block.now c.check_batch.result c.check_batch.ensures c.in_ok-check_batch.was c.apply_batch.ensures
