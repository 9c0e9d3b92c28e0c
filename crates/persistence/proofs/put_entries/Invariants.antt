-- `put_entries`: the records of the first entries stand behind what there was.
use mathlib.Core.Path.{◌≡◌}
use mathlib.Core.List.{◌++◌}
use lib.ListN.{take}
use Rattle.persistence.specs.Answer.{entry_records}
use Rattle.persistence.proofs.put_entries.Given as goal

abbrev pub invariant-loop-entry : goal.invariant-loop-entry
invariant-loop-entry l = l.records.items ≡ l.initial.records.items ++ entry_records l.identity (take l.entry-index l.entries)
