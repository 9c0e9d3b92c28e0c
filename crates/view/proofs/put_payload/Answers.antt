-- `put_payload` meets its contract.
use Rattle.view.proofs.Kept.{command_there}
use Rattle.view.proofs.put_payload.Goals as goal

pub put_cell-requires : goal.put_cell-requires
put_cell-requires c = command_there _ _ _ _ _ _ c.requires c.in-Normal.is
