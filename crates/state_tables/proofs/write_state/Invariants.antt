-- `state_tables::write_state` meets its contract. The invariant: the lines of the first p replicas are written.
use Rattle.std.proofs.Common.{◌≡◌, ◌++◌, ◌+◌, ◌*◌, ◌≤◌, length}
use Rattle.tables.specs.Model.{lines_to}
use Rattle.state_tables.specs.Model.{replica_in}
use Rattle.state_tables.proofs.write_state.Given as goal

abbrev pub invariant-loop-p : goal.invariant-loop-p
invariant-loop-p l =
    record {
      text : l.out ≡ l.initial.out ++ lines_to l.p (replica_in l.state l.store);
      short : length l.out ≤ length l.initial.out + 13618 * l.p;
    }
