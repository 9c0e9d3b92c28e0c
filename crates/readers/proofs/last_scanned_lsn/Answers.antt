-- `last_scanned_lsn` meets its contract.
use Rattle.readers.proofs.Sound.{reads_opened, reads_refused}
use Rattle.readers.proofs.last_scanned_lsn.Goals as goal

pub returns-in_err-new : goal.returns-in_err-new
returns-in_err-new c = reads_refused c.new.ensures c.in_err-new.was _ c.from_residual.ensures.0 c.from_residual.ensures.1 _

pub returns : goal.returns
returns c = reads_opened c.new.ensures c.in_ok-new.was c.last_scanned_lsn.ensures
