-- `same_payload` meets its contract.
use mathlib.Core.Path.{sym, ◌∙◌}
use Rattle.view.proofs.Kept.{cells_there, cells_same}
use Rattle.view.proofs.same_payload.Goals as goal

pub same_cell-requires : goal.same_cell-requires
same_cell-requires c = cells_there _ _ _ _ _ _ _ _ c.requires c.in-Normal-Normal.is-0 c.in-Normal-Normal.is-1

pub returns-in-Normal-Normal : goal.returns-in-Normal-Normal
returns-in-Normal-Normal c = c.same_cell.ensures ∙ sym (cells_same _ _ _ _ _ _ _ _ c.requires c.in-Normal-Normal.is-0 c.in-Normal-Normal.is-1)
