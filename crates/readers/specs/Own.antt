-- Where a replica stands in the state, and its header.
-- Assumes nothing.
use Rattle.std.specs.Prelude.{◌≡◌, Bool, List, ℕ, ◌*◌, length, Option, None, Some, Result, Ok, Err}
use Rattle.definition.specs.Recovery.{least}
use Rattle.ids.specs.Identity.{identity_of}
use Rattle.ids.specs.declared.RaftReplicaIdentity.{RaftReplicaIdentity}
use Rattle.store.specs.Splice.{part, splice}
use Rattle.store.specs.Zeros.{zeros}
use Rattle.view.specs.declared.Header.{Header}
use Rattle.view.specs.declared.RecoveredRaftLogEntry.{RecoveredRaftLogEntry}
use Rattle.view.specs.Meaning.{lsn_of}
use Rattle.view.specs.Model.{empty_header}
use Rattle.view.specs.Readers.{first_retained_of}
use Rattle.storage.specs.declared.RecoveredRaftStorage.{RecoveredRaftStorage}
use Rattle.storage.specs.Model.{head_at}
use Rattle.storage.specs.Finding.{found_at}
use Rattle.soundness.specs.Sound.{sound_test}
use Rattle.readers.specs.declared.Own.{Own}

-- The test of soundness, and the lengths of the state's arrays.
pub record Passes (s : RecoveredRaftStorage) (st : List ℕ) (b : Bool) : Type 0 where
  pub test : b ≡ sound_test s st
  pub eight : length s.heads ≡ 8
  pub all : length s.entries ≡ 512

-- By the place of a replica; an empty header where it has none.
abbrev pub own_in : RecoveredRaftStorage → RaftReplicaIdentity → Option ℕ → Own
own_in s i None = record { place = 0; head = empty_header i }
own_in s i (Some p) = record { place = p; head = head_at s p }

abbrev pub found_place : Result ℕ ℕ → Option ℕ
found_place (Ok p) = Some p
found_place (Err p) = None

abbrev pub own_for : RecoveredRaftStorage → RaftReplicaIdentity → Own
own_for s i = own_in s i (found_place (found_at s (identity_of i)))

-- The block of a replica's commands: its held cells, and zeros behind them.
abbrev pub block_of : List ℕ → Own → List ℕ
block_of st o = splice (zeros 4096) 0 (part (4096 * o.place) (64 * o.head.len) st)

-- The least present of pointer LSN, hard-state LSN and the first held entry's LSN, `first` the entry at place 0.
abbrev pub minimum_of : Header → RecoveredRaftLogEntry → Option ℕ
minimum_of h first = least (lsn_of h.snapshot_pointer_lsn) (least (lsn_of h.hard_state_lsn) (lsn_of (first_retained_of h first)))
