-- Each change of one replica on the declared types: its header, its 64 entries, its 4,096 bytes. What is not said stays.
-- Assumes nothing.
use Rattle.std.specs.Prelude.{cond, List, [], ◌∷◌, ◌++◌, ℕ, ◌-◌, ◌*◌, max, min, ltb, eqb, set, take, Option, None, Some}
use Rattle.ids.specs.declared.Lsn.{Lsn}
use Rattle.ids.specs.declared.RaftReplicaIdentity.{RaftReplicaIdentity}
use Rattle.store.specs.Splice.{splice, part}
use Rattle.store.specs.Zeros.{zeros, padded}
use Rattle.codec.specs.declared.HardState.{HardState}
use Rattle.codec.specs.declared.RaftSnapshotPointerRecord.{RaftSnapshotPointerRecord}
use Rattle.view.specs.declared.RecoveredRaftLogEntry.{RecoveredRaftLogEntry}
use Rattle.view.specs.declared.Header.{Header}
use Rattle.view.specs.Meaning.{after_of, base_of}

-- The header of a replica that holds nothing.
abbrev pub empty_header : RaftReplicaIdentity → Header
empty_header i =
    record {
      identity = i;
      len = 0;
      snapshot_index = 0;
      snapshot_term = 0;
      committed_index = 0;
      last_replayed_lsn = None;
      hard_state = None;
      hard_state_lsn = None;
      snapshot = None;
      snapshot_pointer_lsn = None;
      progress = record { truncated_through_index = 0; truncated_through_term = 0; applied_index = 0 };
    }

-- An entry was accepted at LSN l; n are held now.
abbrev pub with_entry : Header → ℕ → Lsn → Header
with_entry h n l =
    record {
      identity = h.identity;
      len = n;
      snapshot_index = h.snapshot_index;
      snapshot_term = h.snapshot_term;
      committed_index = h.committed_index;
      last_replayed_lsn = Some l;
      hard_state = h.hard_state;
      hard_state_lsn = h.hard_state_lsn;
      snapshot = h.snapshot;
      snapshot_pointer_lsn = h.snapshot_pointer_lsn;
      progress = h.progress;
    }

-- The view's commit.
abbrev pub with_commit : Header → ℕ → Header
with_commit h commit =
    record {
      identity = h.identity;
      len = h.len;
      snapshot_index = h.snapshot_index;
      snapshot_term = h.snapshot_term;
      committed_index = commit;
      last_replayed_lsn = h.last_replayed_lsn;
      hard_state = h.hard_state;
      hard_state_lsn = h.hard_state_lsn;
      snapshot = h.snapshot;
      snapshot_pointer_lsn = h.snapshot_pointer_lsn;
      progress = h.progress;
    }

-- Another hard state and another LSN of it.
abbrev pub with_hard_at : Header → Option HardState → Option Lsn → Header
with_hard_at h x l =
    record {
      identity = h.identity;
      len = h.len;
      snapshot_index = h.snapshot_index;
      snapshot_term = h.snapshot_term;
      committed_index = h.committed_index;
      last_replayed_lsn = h.last_replayed_lsn;
      hard_state = x;
      hard_state_lsn = l;
      snapshot = h.snapshot;
      snapshot_pointer_lsn = h.snapshot_pointer_lsn;
      progress = h.progress;
    }

-- A hard state was accepted at LSN l.
abbrev pub with_hard_state : Header → HardState → Lsn → Header
with_hard_state h x l = with_hard_at (with_commit h x.commit) (Some x) (Some l)

-- A hard state, its LSN untouched.
abbrev pub with_hard : Header → Option HardState → Header
with_hard h x = with_hard_at h x h.hard_state_lsn

-- A hard state of a term, no vote and a commit.
abbrev pub unvoted_hard : ℕ → ℕ → HardState
unvoted_hard term commit = record { current_term = term; voted_for = None; commit = commit }

-- The hard state after a pointer.
abbrev pub raised_from : RaftSnapshotPointerRecord → HardState → HardState
raised_from p o =
    cond (ltb o.current_term p.last_included_term) (unvoted_hard p.last_included_term p.last_included_index)
    (record { current_term = o.current_term; voted_for = o.voted_for; commit = max o.commit p.last_included_index })

abbrev pub raised_hard : RaftSnapshotPointerRecord → Option HardState → HardState
raised_hard p None = unvoted_hard p.last_included_term p.last_included_index
raised_hard p (Some o) = raised_from p o

-- The entries that a pointer at an index drops.
abbrev pub covered_by : Header → ℕ → ℕ
covered_by h index = min h.len (after_of index - base_of h)

-- A pointer was accepted at LSN l, which drops k entries.
abbrev pub with_pointer : Header → RaftSnapshotPointerRecord → Lsn → ℕ → Header
with_pointer h p l k =
    record {
      identity = h.identity;
      len = h.len - k;
      snapshot_index = p.last_included_index;
      snapshot_term = p.last_included_term;
      committed_index = max h.committed_index p.last_included_index;
      last_replayed_lsn = Some l;
      hard_state = Some (raised_hard p h.hard_state);
      hard_state_lsn = h.hard_state_lsn;
      snapshot = Some p;
      snapshot_pointer_lsn = Some l;
      progress = record { truncated_through_index = p.last_included_index; truncated_through_term = p.last_included_term; applied_index = p.last_included_index };
    }

-- The largest of the boundary's term and the terms of the held entries.
abbrev pub largest_of : List RecoveredRaftLogEntry → ℕ
largest_of [] = 0
largest_of (e ∷ es) = max e.term (largest_of es)

abbrev pub maximum_term : Header → List RecoveredRaftLogEntry → ℕ
maximum_term h es = max h.snapshot_term (largest_of (take h.len es))

-- The hard state after finishing, m the largest term.
abbrev pub normalized_from : ℕ → HardState → HardState
normalized_from m o = cond (ltb o.current_term m) (unvoted_hard m o.commit) o

abbrev pub normalized_hard : ℕ → ℕ → Option HardState → HardState
normalized_hard m committed None = unvoted_hard m committed
normalized_hard m committed (Some o) = normalized_from m o

abbrev pub finished : Header → ℕ → Header
finished h m = with_hard h (cond (eqb m 0) h.hard_state (Some (normalized_hard m h.committed_index h.hard_state)))

-- The entries and bytes of one block.
-- An entry at place q, appended or in the place of another, or renewed.
abbrev pub placed_entries : List RecoveredRaftLogEntry → ℕ → RecoveredRaftLogEntry → List RecoveredRaftLogEntry
placed_entries es q e = set es q e

-- A held entry, supplied again at LSN l.
abbrev pub renewed_entry : RecoveredRaftLogEntry → Lsn → RecoveredRaftLogEntry
renewed_entry e l = record { term = e.term; lsn = l; payload = e.payload }

-- Its cell c, and zeros in the m cells after it: none for an append, the rest of the block for a cut.
abbrev pub placed_bytes : List ℕ → ℕ → List ℕ → ℕ → List ℕ
placed_bytes cs q c m = splice cs (64 * q) (c ++ zeros (64 * m))

abbrev pub appended_bytes : List ℕ → ℕ → List ℕ → List ℕ
appended_bytes cs q c = splice cs (64 * q) c

-- The first k of the n held go, the others move down; the bytes of the whole block move, and zeros stand after them.
abbrev pub dropped_entries : List RecoveredRaftLogEntry → ℕ → ℕ → List RecoveredRaftLogEntry
dropped_entries es k n = splice es 0 (part k (n - k) es)

abbrev pub dropped_bytes : List ℕ → ℕ → List ℕ
dropped_bytes cs k = padded (part (64 * k) (4096 - 64 * k) cs) (64 * k)
