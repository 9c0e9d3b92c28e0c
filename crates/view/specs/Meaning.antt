-- What a header, its 64 entries and its 4,096 bytes mean: a replica of the definition. The meaning is total.
-- Assumes nothing.
use Rattle.std.specs.Prelude.{◌≡◌, List, ℕ, ◌+◌, ◌*◌, ◌<◌, ◌≤◌, min, length, get_or, take, Option, None, Some}
use Rattle.definition.specs.Table.{u64_max}
use Rattle.definition.specs.Records as D
use Rattle.definition.specs.Log.{Entry, Log}
use Rattle.definition.specs.Recovery.{Held, held, pad_to, command_bytes}
use Rattle.ids.specs.Identity.{identity_of}
use Rattle.store.specs.Splice.{part}
use Rattle.store.specs.Zeros.{zeros}
use Rattle.frontier.specs.Progress.{progress_of}
use Rattle.codec.specs.Records.{change_of, maybe_hard_state_of, pointer_of}
use Rattle.view.specs.declared.EntryPayload.{EntryPayload}
use Rattle.view.specs.declared.EntryPayload.TheVariants as Y
use Rattle.view.specs.declared.RecoveredRaftLogEntry.{RecoveredRaftLogEntry}
use Rattle.view.specs.declared.Header.{Header}
use Rattle.view.specs.Tab.{tab}
use Rattle.ids.specs.declared.Lsn.{Lsn}
use Rattle.codec.specs.declared.RaftSnapshotPointerRecord.{RaftSnapshotPointerRecord}

abbrev pub lsn_of : Option Lsn → Option ℕ
lsn_of None = None
lsn_of (Some l) = Some l.0

-- A kept pointer is its replica's: its identity says nothing.
abbrev pub snapshot_of : Option RaftSnapshotPointerRecord → Option D.Pointer
snapshot_of None = None
snapshot_of (Some p) = Some (pointer_of p)

-- A kept payload; a command's bytes are the first of its cell.
abbrev pub payload_in : EntryPayload → List ℕ → D.Payload
payload_in (Y.Normal n) cell = D.normal (D.inside (take n cell))
payload_in (Y.Configuration kind version replica) cell = D.configuration (change_of kind) version replica.0

abbrev pub entry_of : RecoveredRaftLogEntry → List ℕ → Entry ℕ
entry_of e cell = record { term = e.term; payload = payload_in e.payload cell; lsn = e.lsn.0 }

-- What a read past the end of the entries gives.
abbrev pub no_entry : RecoveredRaftLogEntry
no_entry = record { term = 0; lsn = record { 0 = 0 }; payload = Y.Normal 0 }

abbrev pub cell_at : List ℕ → ℕ → List ℕ
cell_at cs q = part (64 * q) 64 cs

-- The entry at place q.
abbrev pub entry_at : List RecoveredRaftLogEntry → List ℕ → ℕ → Entry ℕ
entry_at es cs q = entry_of (get_or es q no_entry) (cell_at cs q)

abbrev pub log_of : Header → List (Entry ℕ) → Log ℕ
log_of h entries =
    record {
      entries = entries;
      snapshot_index = h.snapshot_index;
      snapshot_term = h.snapshot_term;
      committed_index = h.committed_index;
      last_replayed_lsn = lsn_of h.last_replayed_lsn;
      progress = progress_of h.progress;
      hard_state = maybe_hard_state_of h.hard_state;
      hard_state_lsn = lsn_of h.hard_state_lsn;
      snapshot = snapshot_of h.snapshot;
      snapshot_pointer_lsn = lsn_of h.snapshot_pointer_lsn;
    }

abbrev pub id_of : Header → D.Identity
id_of h = identity_of h.identity

-- The log of a header, its entries and its bytes.
unfoldable pub view_of : Header → List RecoveredRaftLogEntry → List ℕ → Log ℕ
view_of h es cs = log_of h (tab h.len (entry_at es cs))

abbrev pub held_of : Header → List RecoveredRaftLogEntry → List ℕ → Held (Log ℕ)
held_of h es cs = held (id_of h) (view_of h es cs)

-- A log with another commit of the view.
abbrev pub with_committed : ℕ → Log ℕ → Log ℕ
with_committed commit log =
    record {
      entries = log.entries;
      snapshot_index = log.snapshot_index;
      snapshot_term = log.snapshot_term;
      committed_index = commit;
      last_replayed_lsn = log.last_replayed_lsn;
      progress = log.progress;
      hard_state = log.hard_state;
      hard_state_lsn = log.hard_state_lsn;
      snapshot = log.snapshot;
      snapshot_pointer_lsn = log.snapshot_pointer_lsn;
    }

-- What a cell holds for a payload.
abbrev pub cell_of : D.Payload → List ℕ
cell_of x = pad_to 64 (command_bytes x)

-- The bytes of a kept payload.
abbrev pub size_of : EntryPayload → ℕ
size_of (Y.Normal n) = n
size_of (Y.Configuration kind version replica) = 0

-- The index after another, as far as 64 bits go.
abbrev pub after_of : ℕ → ℕ
after_of index = min (index + 1) u64_max

-- The index of entry place 0.
abbrev pub base_of : Header → ℕ
base_of h = after_of h.snapshot_index

-- Counts, lengths and indices keep their limits; the bytes are those of the held commands, and zeros.
pub record Fits (h : Header) (es : List RecoveredRaftLogEntry) (cs : List ℕ) : Type 0 where
  pub short : h.len ≤ 64
  pub indices : base_of h + h.len ≤ u64_max + 1
  pub sizes : (q : ℕ) → q < h.len → size_of (get_or es q no_entry).payload ≤ 64
  pub used : (q : ℕ) → q < h.len → cell_at cs q ≡ cell_of (entry_at es cs q).payload
  pub spare : (q : ℕ) → h.len ≤ q → q < 64 → cell_at cs q ≡ zeros 64

-- c is the cell of e's command.
pub record Cell (e : RecoveredRaftLogEntry) (c : List ℕ) : Type 0 where
  pub size : length c ≡ 64
  pub small : size_of e.payload ≤ 64
  pub holds : c ≡ cell_of (payload_in e.payload c)

-- What a record at an index said that is kept as e and its cell c.
abbrev pub record_at : ℕ → RecoveredRaftLogEntry → List ℕ → D.LogEntry
record_at index e c = record { index = index; term = e.term; payload = payload_in e.payload c }

-- A replica's header, entries and bytes mean a log, and they fit.
pub record Means (h : Header) (es : List RecoveredRaftLogEntry) (cs : List ℕ) (log : Log ℕ) : Type 0 where
  pub view : view_of h es cs ≡ log
  pub fits : Fits h es cs
  pub places : length es ≡ 64
  pub bytes : length cs ≡ 4096
