-- `tables::write_tables` meets its contract. The invariant: the entries of the first p replicas are written.
use Rattle.std.proofs.Common.{◌≡◌, ◌++◌, ◌+◌, ◌*◌, ◌≤◌, length}
use Rattle.tables.specs.Model.{lines_to, log_lines}
use Rattle.tables.proofs.write_tables.Given as goal

abbrev pub invariant-loop-p : goal.invariant-loop-p
invariant-loop-p l =
    record {
      text : l.out ≡ l.initial.out ++ lines_to l.p (log_lines l.state);
      short : length l.out ≤ length l.initial.out + 6720 * l.p;
    }
