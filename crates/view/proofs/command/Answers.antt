-- `command` meets its contract.
use Rattle.view.proofs.Cells.{normal_small, normal_command}
use Rattle.view.proofs.command.Goals as goal

pub returns-in-Normal : goal.returns-in-Normal
returns-in-Normal c =
    let g = c.in-Normal.is in
    normal_command _ _ _ _ g (normal_small _ _ g c.requires.1)
