-- The commit of a lent header is advanced (the Rust's RaftReplicaLogView::advance_commit).
-- Assumes nothing.
use Rattle.std.specs.Prelude.{◌≡◌, cond, List, [], ◌∷◌, ℕ, ltb, None, Some, Result}
use Rattle.definition.specs.Table.{Row, first_of}
use Rattle.definition.specs.Records.{HardState}
use Rattle.definition.specs.Log.{view_commit_regression}
use Rattle.ids.specs.Refusal.{checked_of}
use Rattle.view.specs.declared.Header.{Header}
use Rattle.view.specs.declared.RecoveredRaftLogEntry.{RecoveredRaftLogEntry}
use Rattle.view.specs.Meaning.{log_of, view_of, with_committed}
use Rattle.view.specs.Model.{with_commit}
use Rattle.ids.specs.declared.Refusal.{Refusal}

-- 38, which looks at no entry.
abbrev pub commit_row : Header → ℕ → Row
commit_row h commit = view_commit_regression (record { current_term = 0; voted_for = None; commit = commit }) (log_of h [])

-- The header with that commit; as it was where it is refused.
abbrev pub advanced_to : Header → ℕ → Header
advanced_to h commit = cond (ltb commit h.committed_index) h (with_commit h commit)

-- Every field but the commit is the same.
pub record SameButCommit (h h' : Header) : Type 0 where
  pub identity : h'.identity ≡ h.identity
  pub len : h'.len ≡ h.len
  pub snapshot_index : h'.snapshot_index ≡ h.snapshot_index
  pub snapshot_term : h'.snapshot_term ≡ h.snapshot_term
  pub last_replayed_lsn : h'.last_replayed_lsn ≡ h.last_replayed_lsn
  pub hard_state : h'.hard_state ≡ h.hard_state
  pub hard_state_lsn : h'.hard_state_lsn ≡ h.hard_state_lsn
  pub snapshot : h'.snapshot ≡ h.snapshot
  pub snapshot_pointer_lsn : h'.snapshot_pointer_lsn ≡ h.snapshot_pointer_lsn
  pub progress : h'.progress ≡ h.progress

-- The header h becomes h'.
pub record AdvancesCommit (h : Header) (commit : ℕ) (r : Result (Unit {0}) Refusal) (h' : Header) : Type 0 where
  -- 38 of any hard state with that commit, on what the header means with any entries and bytes
  pub answer : (x : HardState) → x.commit ≡ commit → (es : List RecoveredRaftLogEntry) (cs : List ℕ) → checked_of r ≡ first_of (view_commit_regression x (view_of h es cs) ∷ [])
  pub accepted : checked_of r ≡ None → h' ≡ with_commit h commit
  pub refused : (n : ℕ) → checked_of r ≡ Some n → h' ≡ h
  -- accepted, the log means the same with that commit
  pub means : checked_of r ≡ None → (es : List RecoveredRaftLogEntry) (cs : List ℕ) → view_of h' es cs ≡ with_committed commit (view_of h es cs)
  pub others : SameButCommit h h'
