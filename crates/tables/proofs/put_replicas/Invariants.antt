-- `tables::put_replicas` meets its contract. The invariant: the lines of the first replicas are written.
use Rattle.std.proofs.Common.{◌≡◌, ◌++◌, ◌+◌, ◌*◌, ◌≤◌, length, get_or}
use Rattle.storage.specs.Model.{no_header}
use Rattle.tables.specs.Model.{lines_to, head_line}
use Rattle.tables.proofs.put_replicas.Given as goal

abbrev pub invariant-loop-h : goal.invariant-loop-h
invariant-loop-h l =
    record {
      text : l.out ≡ l.initial.out ++ lines_to l.h-index (λ p. head_line (get_or l.heads p no_header));
      short : length l.out ≤ length l.initial.out + 147 * l.h-index;
    }
