-- What finding a replica's place answers.
-- Assumes nothing.
use Rattle.std.specs.Prelude.{cond, List, ℕ, leb, get_or, Result, Ok, Err}
use Rattle.definition.specs.Records.{Identity, same}
use Rattle.ids.specs.declared.RaftReplicaIdentity.{RaftReplicaIdentity}
use Rattle.ids.specs.Identity.{identity_of}
use Rattle.storage.specs.declared.RecoveredRaftStorage.{RecoveredRaftStorage}
use Rattle.storage.specs.Place.{owners_of, no_owner, stands_at}

-- Held at p, or it would be opened there.
abbrev pub found_from : List RaftReplicaIdentity → ℕ → Identity → ℕ → Result ℕ ℕ
found_from os held i p = cond (leb held p) (Err p) (cond (same i (identity_of (get_or os p no_owner))) (Ok p) (Err p))

abbrev pub found_in : List RaftReplicaIdentity → ℕ → Identity → Result ℕ ℕ
found_in os held i = found_from os held i (stands_at i held os)

abbrev pub found_at : RecoveredRaftStorage → Identity → Result ℕ ℕ
found_at s i = found_in (owners_of s.heads) s.held i
