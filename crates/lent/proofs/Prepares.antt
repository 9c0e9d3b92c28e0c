-- A batch by its parts is prepared as the batch is.
-- Assumes nothing.
use Rattle.std.specs.Prelude.{Result, Ok, Err}
use mathlib.Core.Path.{◌≡◌, refl, ◌∙◌}
use mathlib.Core.List.{List}
use Prim.Native.Nat.{ℕ, ◌<◌}
use native.Mathlib.Omega.{arith}
use lib.ListN.{length}
use Rattle.std.proofs.lemmas.List.{length-map}
use Rattle.arrayvec.specs.ArrayVec.{ArrayVec}
use Rattle.ids.specs.declared.RaftReplicaIdentity.{RaftReplicaIdentity}
use Rattle.ids.specs.declared.Refusal.{Refusal}
use Rattle.storage.specs.declared.RecoveredRaftStorage.{RecoveredRaftStorage}
use Rattle.batches.specs.declared.RaftPersistenceBatch.{RaftPersistenceBatch}
use Rattle.persistence.specs.declared.PreparedRecord.{PreparedRecord}
use Rattle.persistence.specs.Answer.{records_in, answer_with, PreparesBatch}
use Rattle.batches.specs.Meaning.{entry_of, entries_of}
use Rattle.lent.specs.Batch.{batch_over, records_over, answer_over, PreparesList}

module _ (s : RecoveredRaftStorage) (st : List ℕ) (d : RaftReplicaIdentity) (b : RaftPersistenceBatch) (lent : List ℕ) where
  -- The definition's batch has as many entries as the list, so more than 32 of these are refused by 43.
  pub long_asked : 32 < length b.entries.now → 32 < length (batch_over b.snapshot b.entries.now b.hard_state lent).entries
  unfolding entries_of
  long_asked l = let q = length-map b.entries.now (entry_of lent) in omega (arith, q)

  answers : (r : Result (ArrayVec PreparedRecord) Refusal) → answer_with r d b ≡ answer_over r d b.snapshot b.entries.now b.hard_state
  unfolding records_in records_over
  answers (Ok l) = refl
  answers (Err why) = refl

  pub prepares_list : {r : Result (ArrayVec PreparedRecord) Refusal} → PreparesBatch s st d b lent r → PreparesList s st d b.snapshot b.entries.now b.hard_state lent r
  prepares_list {r} k = record { means = k.means; refused = k.refused; unsound = k.unsound; places = k.places ∙ answers r }
