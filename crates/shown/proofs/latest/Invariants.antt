-- `latest` meets its contract. The invariant: what the latest of the first entries supplies.
use Rattle.std.proofs.Common.{◌≡◌, ℕ, List, take}
use Rattle.definition.specs.Batch.{supplied}
use Rattle.batches.specs.Meaning.{entries_of}
use Rattle.shown.proofs.latest.Given as goal

abbrev pub invariant-loop-entry : goal.invariant-loop-entry
invariant-loop-entry l = (lent : List ℕ) → l.found ≡ supplied l.index (entries_of (take l.entry-index l.entries) lent)
