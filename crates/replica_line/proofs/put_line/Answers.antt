-- `replica_line::put_line` meets its contract: three groups of fields, and the one that ends the line.
use Rattle.replica_line.specs.Lines.{replica_line}
use Rattle.replica_line.proofs.Rows.{group_row}
use Rattle.replica_line.proofs.put_line.Goals as goal

pub returns-clause-text : goal.returns-clause-text
unfolding replica_line
returns-clause-text g c =
    rw (c.put_range.ensures.text, c.put_lsns.ensures.text, c.put_hard_state.ensures.text, c.put_position.ensures.text)
    (group_row _ _ _ _ _ _)
