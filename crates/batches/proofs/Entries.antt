-- A batch's entries: as many as there are records.
-- Assumes nothing.
use mathlib.Core.Path.{◌≡◌}
use mathlib.Core.List.{List}
use Prim.Native.Nat.{ℕ}
use lib.ListN.{length}
use Rattle.std.proofs.lemmas.List.{length-map}
use Rattle.batches.specs.declared.BatchEntry.{BatchEntry}
use Rattle.batches.specs.Meaning.{entry_of, entries_of}

pub entries_count : (es : List BatchEntry) (lent : List ℕ) → length (entries_of es lent) ≡ length es
unfolding entries_of
entries_count es lent = length-map es (entry_of lent)
