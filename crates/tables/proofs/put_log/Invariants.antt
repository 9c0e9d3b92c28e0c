-- `tables::put_log` meets its contract. The invariant: the lines of the first q entries are written.
use Rattle.std.proofs.Common.{◌≡◌, ◌++◌, ◌+◌, ◌*◌, ◌≤◌, length, get_or}
use Rattle.view.specs.Meaning.{no_entry}
use Rattle.storage.specs.Model.{head_at}
use Rattle.tables.specs.Model.{lines_to, place_line}
use Rattle.tables.proofs.put_log.Given as goal

abbrev pub invariant-loop-q : goal.invariant-loop-q
invariant-loop-q l =
    record {
      text : l.out ≡ l.initial.out ++ lines_to l.q (λ q. place_line (head_at l.state l.p) (get_or l.state.entries (64 * l.p + q) no_entry) q);
      short : length l.out ≤ length l.initial.out + 105 * l.q;
    }
