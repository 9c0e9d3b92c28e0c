-- `state_tables::put_pointer` meets its contract.
use Rattle.std.proofs.Common.{append_assoc}
use Rattle.tables.specs.Tables.{row}
use Rattle.state_tables.proofs.put_pointer.Goals as goal

pub returns-clause-text : goal.returns-clause-text
unfolding row
returns-clause-text c = simp (c.put_checksum.ensures.text, c.put_snapshot.ensures.text, c.put.ensures, append_assoc)
