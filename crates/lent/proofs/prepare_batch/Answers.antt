-- `prepare_batch` meets its contract.
use Rattle.lent.proofs.Prepares.{prepares_list}
use Rattle.lent.proofs.prepare_batch.Goals as goal

pub returns : goal.returns
returns c = prepares_list _ _ _ _ _ c.prepare_batch.ensures
