-- `prepare_batch` meets its contract.
use Rattle.persistence.proofs.Answered.{unsound_refused}
use Rattle.persistence.proofs.prepare_batch.Goals as goal

pub returns-in_err-new : goal.returns-in_err-new
returns-in_err-new c = unsound_refused c.args.batch c.args.lent.now c.new.ensures c.in_err-new.was _ c.from_residual.ensures.1
