-- `tables::write_tables` meets its contract: the lines of one replica more.
use Rattle.std.proofs.Common.{arith, append_assoc}
use Rattle.tables.proofs.Text.{lines_step}
use Rattle.tables.proofs.write_tables.Goals as goal

pub loop-p-preserved : goal.loop-p-preserved
loop-p-preserved c =
    record { text = rw (lines_step, c.put_log.ensures.text, c.loop-p.invariant.text, append_assoc); short = omega arith }
