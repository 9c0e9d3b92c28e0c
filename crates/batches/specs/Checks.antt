-- The tables of the checks on a batch's parts, on a header and small values, in document 01's batch order. Rows under the definition's
-- names where these look at no log; the others as view has them.
-- Assumes nothing.
use Rattle.std.specs.Prelude.{ℕ, max, List, [], ◌∷◌, ◌++◌, Option, None}
use Rattle.definition.specs.Table.{◌<?◌, ◌≤?◌, Row, ◌when◌, u64_max}
use Rattle.definition.specs.Records as D
use Rattle.definition.specs.Log.{PointerRecord, hard_state_successor_rows}
use Rattle.definition.specs.Batch.{Batch, snapshot_identity_mismatch, hard_state_before_snapshot_term, hard_state_before_snapshot_commit, term_of}
use Rattle.codec.specs.declared.HardState.{HardState}
use Rattle.codec.specs.declared.RaftSnapshotPointerRecord.{RaftSnapshotPointerRecord}
use Rattle.codec.specs.Records.{hard_state_of, maybe_hard_state_of, pointer_record_of, maybe_pointer_of}
use Rattle.view.specs.declared.Header.{Header}
use Rattle.view.specs.Decisions.{successor_rows_of, install_rows_of}

-- 46, on the preview's LSN alone.
abbrev pub lsn_exhausted : ℕ → Row
lsn_exhausted lsn = 46 when u64_max ≤? lsn

-- 18, 16, 17, 19 to 22.
abbrev pub pointer_form_rows : PointerRecord → List Row
pointer_form_rows p =
    D.unsupported_snapshot_version p.snapshot
    ∷ D.zero_snapshot_group_id p.identity
    ∷ D.zero_snapshot_replica_id p.identity
    ∷ D.zero_snapshot_id p.snapshot
    ∷ D.invalid_snapshot_boundary p.snapshot
    ∷ D.snapshot_applied_index_mismatch p.snapshot
    ∷ D.invalid_snapshot_file_metadata p.snapshot
    ∷ []

-- A pointer of the replica i beside what is kept: 39, 40, 46, 41, 42.
abbrev pub placed_rows : D.Identity → Header → ℕ → Option ℕ → RaftSnapshotPointerRecord → List Row
placed_rows i h lsn held p = successor_rows_of i h.snapshot p ++ lsn_exhausted lsn ∷ install_rows_of h p held

-- The pointer of a batch of the replica i: 18, 16, 17, 19 to 22, 45, 39, 40, 46, 41, 42.
abbrev pub pointer_rows : D.Identity → Header → ℕ → Option ℕ → RaftSnapshotPointerRecord → List Row
pointer_rows i h lsn held p = pointer_form_rows (pointer_record_of p) ++ snapshot_identity_mismatch i (pointer_record_of p) ∷ placed_rows i h lsn held p

-- 46, 3, 8, 9, 4, 10.
abbrev pub entry_form_rows : ℕ → D.LogEntry → List Row
entry_form_rows lsn e =
    lsn_exhausted lsn
    ∷ D.zero_configuration_replica_id e
    ∷ D.zero_log_index e
    ∷ D.zero_term e
    ∷ D.zero_configuration_version e
    ∷ D.command_unfit e
    ∷ []

-- 25.
abbrev pub boundary_rows : Header → ℕ → List Row
boundary_rows h index = (25 when index ≤? h.snapshot_index) ∷ []

-- A batch with a pointer and nothing else: 47 and 48 look at its pointer alone.
abbrev pub pointer_batch : Option PointerRecord → Batch
pointer_batch p = record { snapshot = p; entries = []; hard_state = None }

-- 47, 48.
abbrev pub beyond_pointer_rows : Option PointerRecord → HardState → List Row
beyond_pointer_rows p h = hard_state_before_snapshot_term (hard_state_of h) (pointer_batch p) ∷ hard_state_before_snapshot_commit (hard_state_of h) (pointer_batch p) ∷ []

-- 13, 15, 33 to 36, 47, 48, 49.
abbrev pub hard_state_rows : Option HardState → Option RaftSnapshotPointerRecord → ℕ → HardState → List Row
hard_state_rows kept snapshot last h =
    D.zero_voted_for_replica_id (hard_state_of h)
    ∷ D.zero_current_term (hard_state_of h)
    ∷ hard_state_successor_rows (hard_state_of h) (maybe_hard_state_of kept)
    ++ (beyond_pointer_rows (maybe_pointer_of snapshot) h ++ (49 when last <? h.commit) ∷ [])

-- 50.
abbrev pub term_rows : Option HardState → Option HardState → ℕ → ℕ → List Row
term_rows batch kept boundary largest = (50 when max (term_of (maybe_hard_state_of batch) (maybe_hard_state_of kept)) boundary <? largest) ∷ []
