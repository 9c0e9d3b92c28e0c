-- `state_tables::Storage::put_entries` meets its contract: one line more.
use Rattle.std.proofs.Common.{arith, append_assoc}
use Rattle.tables.proofs.Text.{lines_step}
use Rattle.state_tables.proofs.Storage.put_entries.Goals as goal

pub loop-q-preserved : goal.loop-q-preserved
loop-q-preserved c =
    record {
      text = rw (lines_step, c.put_entry.ensures.text, c.loop-q.invariant.text, c.saturating_add.ensures, c.base-first.ensures, append_assoc);
      short = omega arith;
    }
