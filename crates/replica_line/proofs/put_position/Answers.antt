-- `replica_line::put_position` meets its contract: four groups of fields.
use Rattle.replica_line.proofs.Rows.{spaced_groups}
use Rattle.replica_line.proofs.put_position.Goals as goal

pub returns-clause-text : goal.returns-clause-text
returns-clause-text g c =
    rw (c.put_commit.ensures.text, c.put_progress.ensures.text, c.put_boundary.ensures.text, c.put_owner.ensures.text, c.snapshot_boundary.ensures)
    (spaced_groups _ _ _ _ _)
