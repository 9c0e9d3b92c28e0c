-- `put_records`: the first records are written.
use Rattle.std.proofs.Common.{◌≡◌, ◌*◌, ◌≤◌, length, get_or}
use Rattle.tables.specs.Model.{lines_to}
use Rattle.batch_tables.specs.Model.{record_text, no_record}
use Rattle.batch_tables.proofs.put_records.Given as goal

abbrev pub invariant-loop-r : goal.invariant-loop-r
invariant-loop-r l =
    record {
      text : l.out ≡ lines_to l.r-index (λ i. record_text (get_or l.records i no_record).body l.given.commands l.given.lent);
      short : length l.out ≤ 256 * l.r-index;
    }
