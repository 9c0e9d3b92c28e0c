-- What each decoded record of the code means. A command is a place and a length in the bytes lent beside it.
-- Assumes nothing.
use Rattle.std.specs.Prelude.{ℕ, List, [], ◌∷◌, Option, None, Some}
use Rattle.definition.specs.Table.{Row}
use Rattle.definition.specs.Records as D
use Rattle.definition.specs.Log.{PointerRecord}
use Rattle.ids.specs.Identity.{identity_of}
use Rattle.codec.specs.declared.ConfChangeKind.{ConfChangeKind}
use Rattle.codec.specs.declared.ConfChangeKind.TheVariants as K
use Rattle.codec.specs.declared.DurableRaftEntryPayload.{DurableRaftEntryPayload}
use Rattle.codec.specs.declared.DurableRaftEntryPayload.TheVariants as Y
use Rattle.codec.specs.declared.RaftLogEntryRecord.{RaftLogEntryRecord}
use Rattle.codec.specs.declared.HardState.{HardState}
use Rattle.codec.specs.declared.RaftHardStateRecord.{RaftHardStateRecord}
use Rattle.codec.specs.declared.Checksum.{Checksum}
use Rattle.codec.specs.declared.RaftSnapshotPointerRecord.{RaftSnapshotPointerRecord}
use Rattle.codec.specs.declared.RaftWalRecord.{RaftWalRecord}
use Rattle.codec.specs.declared.RaftWalRecord.TheVariants as W
use Rattle.codec.specs.declared.WalRecord.{WalRecord}
use Rattle.ids.specs.declared.ReplicaId.{ReplicaId}

abbrev pub change_of : ConfChangeKind → D.Change
change_of K.AddLearner = D.addLearner
change_of K.PromoteLearner = D.promoteLearner
change_of K.RemoveReplica = D.removeReplica

abbrev pub payload_of : DurableRaftEntryPayload → List ℕ → D.Payload
payload_of (Y.Normal place len) lent = D.normal (D.command_of lent place len)
payload_of (Y.Configuration kind version replica) lent = D.configuration (change_of kind) version replica.0

abbrev pub log_entry_of : RaftLogEntryRecord → List ℕ → D.LogEntry
log_entry_of r lent = record { index = r.index; term = r.term; payload = payload_of r.payload lent }

abbrev pub vote_of : Option ReplicaId → Option ℕ
vote_of None = None
vote_of (Some r) = Some r.0

abbrev pub hard_state_of : HardState → D.HardState
hard_state_of h = record { current_term = h.current_term; voted_for = vote_of h.voted_for; commit = h.commit }

abbrev pub maybe_hard_state_of : Option HardState → Option D.HardState
maybe_hard_state_of None = None
maybe_hard_state_of (Some h) = Some (hard_state_of h)

abbrev pub checksum_of : Checksum → D.Checksum
checksum_of s = record { a = s.a; b = s.b; c = s.c; d = s.d }

abbrev pub pointer_of : RaftSnapshotPointerRecord → D.Pointer
pointer_of p =
    record {
      version = p.format_version;
      snapshot_id = p.snapshot_id;
      last_included_index = p.last_included_index;
      last_included_term = p.last_included_term;
      applied_index = p.applied_index;
      size_bytes = p.size_bytes;
      rest = p.rest;
      checksum = checksum_of p.checksum;
    }

abbrev pub pointer_record_of : RaftSnapshotPointerRecord → PointerRecord
pointer_record_of p = record { identity = identity_of p.identity; snapshot = pointer_of p }

abbrev pub maybe_pointer_of : Option RaftSnapshotPointerRecord → Option PointerRecord
maybe_pointer_of None = None
maybe_pointer_of (Some p) = Some (pointer_record_of p)

-- Each kind's record, without its identity.
abbrev pub entry_kind_of : RaftLogEntryRecord → List ℕ → D.Kind
entry_kind_of r lent = D.entry r.format_version (log_entry_of r lent)

-- 5 to 9, an entry's rows that look at its numbers alone.
abbrev pub field_rows : RaftLogEntryRecord → List Row
field_rows r =
    D.unsupported_entry_version r.format_version
    ∷ D.zero_raft_group_id (identity_of r.identity)
    ∷ D.zero_replica_id (identity_of r.identity)
    ∷ D.zero_log_index (log_entry_of r [])
    ∷ D.zero_term (log_entry_of r [])
    ∷ []

abbrev pub hard_state_kind_of : RaftHardStateRecord → D.Kind
hard_state_kind_of r = D.hard_state r.format_version (hard_state_of r.hard_state)

abbrev pub pointer_kind_of : RaftSnapshotPointerRecord → D.Kind
pointer_kind_of p = D.pointer (pointer_of p)

abbrev pub kind_of : RaftWalRecord → List ℕ → D.Kind
kind_of (W.Entry r) lent = entry_kind_of r lent
kind_of (W.HardState r) lent = hard_state_kind_of r
kind_of (W.SnapshotPointer p) lent = pointer_kind_of p

-- Whose record it is.
abbrev pub owner_of : RaftWalRecord → D.Identity
owner_of (W.Entry r) = identity_of r.identity
owner_of (W.HardState r) = identity_of r.identity
owner_of (W.SnapshotPointer p) = identity_of p.identity

abbrev pub body_of : Option RaftWalRecord → List ℕ → D.Body
body_of None lent = D.foreign
body_of (Some k) lent = D.raft (owner_of k) (kind_of k lent)

abbrev pub record_of : WalRecord → List ℕ → D.Record
record_of r lent = record { lsn = r.lsn.0; body = body_of r.body lent }
