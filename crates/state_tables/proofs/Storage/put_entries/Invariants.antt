-- `state_tables::Storage::put_entries` meets its contract. The invariant: the lines of the first q entries are written.
use Rattle.std.proofs.Common.{◌≡◌, ◌++◌, ◌+◌, ◌*◌, ◌≤◌, length}
use Rattle.tables.specs.Model.{lines_to}
use Rattle.state_tables.specs.Model.{place_in}
use Rattle.state_tables.proofs.Storage.put_entries.Given as goal

abbrev pub invariant-loop-q : goal.invariant-loop-q
invariant-loop-q l =
    record {
      text : l.out ≡ l.initial.out ++ lines_to l.q (place_in l.self.state.now l.self.store.now l.p);
      short : length l.out ≤ length l.initial.out + 202 * l.q;
    }
