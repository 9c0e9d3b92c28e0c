-- A batch tried on what is kept of its replica.
-- Assumes nothing.
use Rattle.std.specs.Prelude.{◌≡◌, List, ℕ, ◌<◌, ◌≤◌, length}
use Rattle.ids.specs.declared.RaftReplicaIdentity.{RaftReplicaIdentity}
use Rattle.storage.specs.declared.RecoveredRaftStorage.{RecoveredRaftStorage}
use Rattle.storage.specs.Model.{entries_in}
use Rattle.readers.specs.declared.Own.{Own}
use Rattle.readers.specs.Own.{block_of}
use Rattle.batches.specs.declared.RaftPersistenceBatch.{RaftPersistenceBatch}
use Rattle.preview.specs.Preview.{Ran, ran_with, Sits}
use Rattle.persistence.specs.declared.TriedBatch.{TriedBatch}
use Rattle.persistence.specs.Prepare.{beginning, prepare_ran, BatchReached}

-- The header, the entries and the block at an own place, which a preview can begin with.
pub record Kept (s : RecoveredRaftStorage) (st : List ℕ) (o : Own) : Type 0 where
  pub low : o.place < 8
  pub short : o.head.len ≤ 64
  pub size : length st ≡ 32768
  pub sits : Sits (beginning o.head (entries_in s o.place)) (block_of st o)

-- What the batch does to them.
unfoldable pub tried_on : RecoveredRaftStorage → List ℕ → RaftReplicaIdentity → RaftPersistenceBatch → List ℕ → Own → Ran
tried_on s st d b lent o = prepare_ran d b lent (beginning o.head (entries_in s o.place)) (block_of st o)

-- What it read of its entries.
abbrev pub TriedReached : RecoveredRaftStorage → List ℕ → RaftReplicaIdentity → RaftPersistenceBatch → List ℕ → Own → Type 0
TriedReached s st d b lent o = BatchReached d b lent (beginning o.head (entries_in s o.place)) (block_of st o)

-- What was tried, with the bytes of the block.
abbrev pub ran_of : TriedBatch → List ℕ → Ran
ran_of d cs = ran_with d.answer d.preview cs
