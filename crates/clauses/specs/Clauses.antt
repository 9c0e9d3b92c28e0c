-- The clauses of soundness of one header, and of one held entry and its cell.
-- Assumes nothing.
use Rattle.std.specs.Prelude.{Bool, ◌&&◌, ◌||◌, List, [], ◌∷◌, ℕ, ◌+◌, drop, Option}
use Rattle.definition.specs.Table.{◌=?◌, ◌≤?◌, every, all_of, present, u64_max}
use Rattle.definition.specs.Recovery.{nonzero_identity, whole_boundary, pointers_boundary, boundarys_progress, nonzero_vote, reached_by}
use Rattle.store.specs.Zeros.{all_zero}
use Rattle.view.specs.declared.Header.{Header}
use Rattle.view.specs.declared.RecoveredRaftLogEntry.{RecoveredRaftLogEntry}
use Rattle.view.specs.Meaning.{lsn_of, size_of, log_of, id_of}
use Rattle.ids.specs.declared.Lsn.{Lsn}

-- No kept LSN exceeds the last scanned.
abbrev pub lsn_ok : Option ℕ → Option Lsn → Bool
lsn_ok last l = every (reached_by last) (present (lsn_of l))

-- Each clause that looks at a header alone.
unfoldable pub head_clauses : Option ℕ → Header → List Bool
head_clauses last h =
    nonzero_identity (id_of h)
    ∷ (h.len ≤? 64)
    ∷ whole_boundary (log_of h [])
    ∷ pointers_boundary (log_of h [])
    ∷ boundarys_progress (log_of h [])
    ∷ (h.snapshot_index + h.len ≤? u64_max || (h.snapshot_index =? u64_max && h.len ≤? 1))
    ∷ nonzero_vote (log_of h [])
    ∷ lsn_ok last h.snapshot_pointer_lsn
    ∷ lsn_ok last h.hard_state_lsn
    ∷ lsn_ok last h.last_replayed_lsn
    ∷ []

abbrev pub head_ok : Option ℕ → Header → Bool
head_ok last h = all_of (head_clauses last h)

-- A held entry and its cell: the bytes after the command are zero.
unfoldable pub entry_clauses : Option ℕ → RecoveredRaftLogEntry → List ℕ → List Bool
entry_clauses last e c = (size_of e.payload ≤? 64) ∷ reached_by last e.lsn.0 ∷ all_zero (drop (size_of e.payload) c) ∷ []

abbrev pub entry_ok : Option ℕ → RecoveredRaftLogEntry → List ℕ → Bool
entry_ok last e c = all_of (entry_clauses last e c)

-- Clauses of a header that the code tests together.
-- Each held entry has an index.
abbrev pub fit_of : Header → Bool
fit_of h = h.snapshot_index + h.len ≤? u64_max || (h.snapshot_index =? u64_max && h.len ≤? 1)

-- The three LSNs of a header.
abbrev pub lsns_of : Option ℕ → Header → Bool
lsns_of last h =
    all_of (lsn_ok last h.snapshot_pointer_lsn ∷ lsn_ok last h.hard_state_lsn ∷ lsn_ok last h.last_replayed_lsn ∷ [])
