-- `previewed_at` meets its contract.
use Rattle.shown.proofs.Answers.{shows_unsound, shows_opened}
use Rattle.shown.proofs.previewed_at.Goals as goal

pub returns-in_default : goal.returns-in_default
returns-in_default c = shows_unsound c.new.ensures c.in_default.is

pub returns : goal.returns
returns c = shows_opened c.new.ensures c.in-Ok.is c.previewed_sound.ensures
