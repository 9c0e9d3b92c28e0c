-- The model of preparing a batch on a preview: the pointer, the entries, the hard state, and the terms of the whole.
-- Assumes nothing.
use Rattle.std.specs.Prelude.{ℕ, ◌+◌, ◌≡◌, List, get_or, Option, None, Some}
use Rattle.definition.specs.Table.{first_of, or_zero}
use Rattle.definition.specs.Records.{Identity}
use Rattle.definition.specs.Batch.{batch_rows}
use Rattle.ids.specs.declared.RaftReplicaIdentity.{RaftReplicaIdentity}
use Rattle.ids.specs.Identity.{identity_of}
use Rattle.codec.specs.declared.HardState.{HardState}
use Rattle.codec.specs.declared.RaftSnapshotPointerRecord.{RaftSnapshotPointerRecord}
use Rattle.view.specs.declared.Header.{Header}
use Rattle.view.specs.declared.RecoveredRaftLogEntry.{RecoveredRaftLogEntry}
use Rattle.view.specs.Meaning.{no_entry, lsn_of, view_of}
use Rattle.view.specs.Model.{with_hard, with_pointer, covered_by, maximum_term, dropped_entries, dropped_bytes}
use Rattle.view.specs.Readers.{last_of, place_of}
use Rattle.replay.specs.Plan.{look_of, held_term_in}
use Rattle.batches.specs.declared.RaftPersistenceBatch.{RaftPersistenceBatch}
use Rattle.preview.specs.declared.Preview.{Preview}
use Rattle.batches.specs.Checks.{pointer_rows, hard_state_rows, term_rows}
use Rattle.batches.specs.Meaning.{batch_of}
use Rattle.preview.specs.Preview.{Ran, ran, formed_by, onward, extend_over, Reached}

-- The term of the entry that a preview holds at an index.
abbrev pub held_at : Preview → ℕ → Option ℕ
held_at p x = held_term_in (place_of p.head x) (get_or p.entries (look_of p.head x) no_entry).term

-- The first k entries of a preview gone.
abbrev pub moved_down : Preview → ℕ → Preview
moved_down p k = record { head = p.head; entries = dropped_entries p.entries k p.head.len; lsn = p.lsn }

-- A pointer that drops k entries: it takes the next LSN.
abbrev pub pointed_with : Preview → RaftSnapshotPointerRecord → ℕ → List ℕ → Ran
pointed_with p r k cs =
    ran None (record { head = with_pointer p.head r (record { 0 = p.lsn + 1 }) k; entries = dropped_entries p.entries k p.head.len; lsn = p.lsn + 1 })
    (dropped_bytes cs k)

-- The pointer of a batch: refused, or the entries that it covers go.
unfoldable pub point_ran : Identity → Preview → RaftSnapshotPointerRecord → List ℕ → Ran
point_ran i p r cs =
    formed_by (first_of (pointer_rows i p.head p.lsn (held_at p r.last_included_index) r)) p cs
    (pointed_with p r (covered_by p.head r.last_included_index) cs)

-- A preview with another hard state, its LSN untouched.
abbrev pub hard_header : Header → HardState → Header
hard_header h x = with_hard h (Some x)

abbrev pub hardened_with : Preview → HardState → Preview
hardened_with p h = record { head = hard_header p.head h; entries = p.entries; lsn = p.lsn }

-- The hard state of a batch: refused, or it is the preview's.
unfoldable pub harden_ran : Option HardState → Option RaftSnapshotPointerRecord → HardState → Preview → List ℕ → Ran
harden_ran kept snapshot h p cs = formed_by (first_of (hard_state_rows kept snapshot (last_of p.head) h)) p cs (ran None (hardened_with p h) cs)

-- The terms of the whole.
unfoldable pub conclude_ran : Option HardState → Option HardState → Preview → List ℕ → Ran
conclude_ran batch kept p cs = ran (first_of (term_rows batch kept p.head.snapshot_term (maximum_term p.head p.entries))) p cs

-- Both, where the batch may have none.
abbrev pub point_in : Identity → Preview → Option RaftSnapshotPointerRecord → List ℕ → Ran
point_in i p None cs = ran None p cs
point_in i p (Some r) cs = point_ran i p r cs

abbrev pub harden_in : Option HardState → Option RaftSnapshotPointerRecord → Option HardState → Preview → List ℕ → Ran
harden_in kept snapshot None p cs = ran None p cs
harden_in kept snapshot (Some h) p cs = harden_ran kept snapshot h p cs

-- A refusal ends it, else the rest follows on what is left.
abbrev pub followed : Ran → (Preview → List ℕ → Ran) → Ran
followed x rest = onward x.refused x (rest x.preview x.bytes)

unfoldable pub lastly_ran : Option RaftSnapshotPointerRecord → Option HardState → Option HardState → Preview → List ℕ → Ran
lastly_ran snapshot hard kept p cs = followed (harden_in kept snapshot hard p cs) (conclude_ran hard kept)

unfoldable pub entries_ran : RaftReplicaIdentity → RaftPersistenceBatch → Option HardState → List ℕ → Preview → List ℕ → Ran
entries_ran d b kept lent p cs = followed (extend_over d b.entries.now lent p cs) (lastly_ran b.snapshot b.hard_state kept)

unfoldable pub pointed_ran : RaftReplicaIdentity → RaftPersistenceBatch → Option HardState → List ℕ → Preview → List ℕ → Ran
pointed_ran d b kept lent p cs = followed (point_in (identity_of d) p b.snapshot cs) (entries_ran d b kept lent)

-- The preview begins at the last replayed LSN (none is zero).
abbrev pub beginning : Header → List RecoveredRaftLogEntry → Preview
beginning h es = record { head = h; entries = es; lsn = or_zero (λ t. t) (lsn_of h.last_replayed_lsn) }

-- The whole preparation: 33 to 36 and 50 look at the hard state that was kept before it.
unfoldable pub prepare_ran : RaftReplicaIdentity → RaftPersistenceBatch → List ℕ → Preview → List ℕ → Ran
prepare_ran d b lent p cs =
    formed_by (first_of (batch_rows (identity_of d) (batch_of b lent) (view_of p.head p.entries cs))) p cs (pointed_ran d b p.head.hard_state lent p cs)

-- What is read of a batch's entries, on the preview that its pointer leaves ..
abbrev pub PointedReached : RaftReplicaIdentity → RaftPersistenceBatch → List ℕ → Preview → Option RaftSnapshotPointerRecord → List ℕ → Type 0
PointedReached d b lent p s cs =
    (point_in (identity_of d) p s cs).refused ≡ None
    → Reached d b.entries.now lent (point_in (identity_of d) p s cs).preview (point_in (identity_of d) p s cs).bytes

-- .. where the batch as a whole is not refused.
abbrev pub BatchReached : RaftReplicaIdentity → RaftPersistenceBatch → List ℕ → Preview → List ℕ → Type 0
BatchReached d b lent p cs =
    first_of (batch_rows (identity_of d) (batch_of b lent) (view_of p.head p.entries cs)) ≡ None → PointedReached d b lent p b.snapshot cs
