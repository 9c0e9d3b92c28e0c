-- `state_tables::put_command` meets its contract: as many bytes as the length says, of the 64 of the cell.
use Rattle.std.proofs.Common.{append_assoc}
use Rattle.state_tables.proofs.Cell.{take_min}
use Rattle.tables.specs.Tables.{row}
use Rattle.state_tables.proofs.put_command.Goals as goal

pub returns-clause-text : goal.returns-clause-text
unfolding row
returns-clause-text c = simp (c.put-2.ensures, c.put_hex.ensures.text, c.put.ensures, c.part.ensures.bytes, c.min.ensures, take_min, append_assoc)
