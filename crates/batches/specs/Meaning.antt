-- What a batch of the code means: the definition's batch.
-- Assumes nothing.
use Rattle.std.specs.Prelude.{ℕ, List, map}
use Rattle.definition.specs.Batch as M
use Rattle.ids.specs.declared.RaftReplicaIdentity.{RaftReplicaIdentity}
use Rattle.codec.specs.declared.DurableRaftEntryPayload.{DurableRaftEntryPayload}
use Rattle.codec.specs.declared.DurableRaftEntryPayload.TheVariants as Y
use Rattle.codec.specs.declared.RaftLogEntryRecord.{RaftLogEntryRecord}
use Rattle.codec.specs.Records.{payload_of, maybe_hard_state_of, maybe_pointer_of}
use Rattle.batches.specs.declared.BatchEntry.{BatchEntry}
use Rattle.batches.specs.declared.RaftPersistenceBatch.{RaftPersistenceBatch}

-- The blank entry, which a read past the end of a list gives too.
abbrev pub blank : BatchEntry
blank = record { index = 0; term = 0; payload = Y.Normal 0 0 }

-- Where a command begins in the lent bytes. Of a change it is its version, at which nothing looks.
abbrev pub from_of : DurableRaftEntryPayload → ℕ
from_of (Y.Normal place len) = place
from_of (Y.Configuration kind version replica) = version

-- An entry, its command in the lent bytes.
abbrev pub entry_of : List ℕ → BatchEntry → M.BatchEntry
entry_of lent e =
    record { log_entry = record { index = e.index; term = e.term; payload = payload_of e.payload lent }; from = from_of e.payload }

unfoldable pub entries_of : List BatchEntry → List ℕ → List M.BatchEntry
entries_of es lent = map (entry_of lent) es

abbrev pub batch_of : RaftPersistenceBatch → List ℕ → M.Batch
batch_of b lent =
    record {
      snapshot = maybe_pointer_of b.snapshot;
      entries = entries_of b.entries.now lent;
      hard_state = maybe_hard_state_of b.hard_state;
    }

-- An entry as a record of the replica, of format version 1.
abbrev pub record_of : RaftReplicaIdentity → BatchEntry → RaftLogEntryRecord
record_of d e = record { format_version = 1; identity = d; index = e.index; term = e.term; payload = e.payload }
