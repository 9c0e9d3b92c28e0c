-- `command` meets its contract.
use Rattle.readers.proofs.Sound.{shows_opened, shows_refused}
use Rattle.readers.proofs.command.Goals as goal

pub returns-in-Ok : goal.returns-in-Ok
returns-in-Ok c = shows_opened c.new.ensures c.in-Ok.is c.command.ensures

pub returns-in-Err : goal.returns-in-Err
returns-in-Err c = shows_refused c.new.ensures c.in-Err.is
