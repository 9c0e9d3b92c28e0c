-- `batch_tables::put_hex` meets its contract. The invariant: the first bytes are written.
use Rattle.std.proofs.Common.{◌≡◌, ◌++◌, ◌+◌, ◌*◌, ◌≤◌, length, get_or}
use Rattle.tables.specs.Model.{lines_to}
use Rattle.batch_tables.specs.Lines.{hex_pair}
use Rattle.batch_tables.proofs.put_hex.Given as goal

abbrev pub invariant-loop-b : goal.invariant-loop-b
invariant-loop-b g l =
    record {
      text : l.out ≡ l.initial.out ++ lines_to l.b-index (λ i. hex_pair (get_or l.bytes i 0));
      short : length l.out ≤ length l.initial.out + 2 * l.b-index;
    }
