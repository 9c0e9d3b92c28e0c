-- `observing::observe_records` meets its contract. The invariant: what is asked of the chunk is what is asked of the rest of it.
use mathlib.Core.Path.{◌≡◌}
use Rattle.replay.specs.Plan.{answer_of}
use Rattle.recovery.proofs.Chunking.{Chunking}
use Rattle.recovery.proofs.observing.observe_records.Given as goal

abbrev pub invariant-loop-r : goal.invariant-loop-r
invariant-loop-r l = (l.done.taken ≡ l.r-index) × Chunking l.initial.done.state l.initial.store l.records l.lent l.done.state l.store (answer_of l.done.answer) l.r-index
