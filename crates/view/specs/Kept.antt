-- What is kept of a record's entry: its term, its LSN, its payload without the bytes, and the cell of its bytes.
-- Assumes nothing.
use Rattle.std.specs.Prelude.{◌≡◌, List, false, ◌&&◌, ℕ, ◌+◌, ◌-◌, ◌≤◌, length}
use Rattle.definition.specs.Table.{◌=?◌}
use Rattle.definition.specs.Records.{unfit, same_payload}
use Rattle.ids.specs.declared.Lsn.{Lsn}
use Rattle.store.specs.Splice.{part}
use Rattle.store.specs.Zeros.{zeros, padded}
use Rattle.codec.specs.declared.DurableRaftEntryPayload.{DurableRaftEntryPayload}
use Rattle.codec.specs.declared.DurableRaftEntryPayload.TheVariants as Z
use Rattle.codec.specs.declared.RaftLogEntryRecord.{RaftLogEntryRecord}
use Rattle.codec.specs.Records.{payload_of}
use Rattle.view.specs.declared.EntryPayload.{EntryPayload}
use Rattle.view.specs.declared.EntryPayload.TheVariants as Y
use Rattle.view.specs.declared.Existing.{Existing}
use Rattle.view.specs.declared.RecoveredRaftLogEntry.{RecoveredRaftLogEntry}
use Rattle.view.specs.Meaning.{payload_in, size_of}

abbrev pub kept_payload : DurableRaftEntryPayload → EntryPayload
kept_payload (Z.Normal place len) = Y.Normal len
kept_payload (Z.Configuration kind version replica) = Y.Configuration kind version replica

abbrev pub kept_entry : RaftLogEntryRecord → Lsn → RecoveredRaftLogEntry
kept_entry r l = record { term = r.term; lsn = l; payload = kept_payload r.payload }

-- The cell for a payload whose command lies in the lent bytes.
abbrev pub cell_for : DurableRaftEntryPayload → List ℕ → List ℕ
cell_for (Z.Normal place len) lent = padded (part place len lent) (64 - len)
cell_for (Z.Configuration kind version replica) lent = zeros 64

-- A kept payload with its cell at a byte of the store, and a record's payload: what comparing them asks.
pub record Comparable (kept : EntryPayload) (store : List ℕ) (at : ℕ) (payload : DurableRaftEntryPayload) (lent : List ℕ) : Type 0 where
  pub inside : at + 64 ≤ length store
  pub small : size_of kept ≤ 64
  pub fit : unfit (payload_of payload lent) ≡ false

-- What is told of a held entry, its cell and a record: payloads are compared only in the same term.
abbrev pub existing_of : RecoveredRaftLogEntry → List ℕ → RaftLogEntryRecord → List ℕ → Existing
existing_of e cell r lent = record { term = e.term; same_payload = e.term =? r.term && same_payload (payload_in e.payload cell) (payload_of r.payload lent) }

-- What writing a payload's cell at a byte of the store asks.
pub record Writable (store : List ℕ) (at : ℕ) (payload : DurableRaftEntryPayload) (lent : List ℕ) : Type 0 where
  pub inside : at + 64 ≤ length store
  pub fit : unfit (payload_of payload lent) ≡ false
