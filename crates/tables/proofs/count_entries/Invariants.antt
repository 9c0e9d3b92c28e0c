-- `tables::count_entries` meets its contract. The invariant: the entries of the first replicas are counted.
use Rattle.std.proofs.Common.{◌≡◌, ◌*◌, ◌≤◌, get_or}
use Rattle.storage.specs.Model.{no_header}
use Rattle.tables.specs.Model.{sum_to, len_of}
use Rattle.tables.proofs.count_entries.Given as goal

abbrev pub invariant-loop-h : goal.invariant-loop-h
invariant-loop-h l = record { counted : l.n ≡ sum_to l.h-index (λ p. len_of (get_or l.heads p no_header)); few : l.n ≤ 64 * l.h-index }
