-- Where a replica stands, or would: after the held places whose identities are before its own.
-- Assumes nothing.
use Rattle.std.specs.Prelude.{◌≡◌, true, false, List, map, ℕ, zero, suc, ◌<◌, ◌≤◌, get_or, drop, if◌then◌else◌}
use Rattle.definition.specs.Records.{Identity, before}
use Rattle.ids.specs.declared.RaftReplicaIdentity.{RaftReplicaIdentity}
use Rattle.ids.specs.Identity.{identity_of}
use Rattle.view.specs.declared.Header.{Header}
use Rattle.view.specs.Meaning.{id_of}
use Rattle.storage.specs.declared.RecoveredRaftStorage.{RecoveredRaftStorage}
use Rattle.storage.specs.Model.{no_header, head_at}

-- The identities that stand in headers.
abbrev pub owners_of : List Header → List RaftReplicaIdentity
owners_of hs = map (λ h. h.identity) hs

abbrev pub no_owner : RaftReplicaIdentity
no_owner = no_header.identity

-- How many of the first n identities come before i, up to the first that does not.
unfoldable pub stands_at : Identity → ℕ → List RaftReplicaIdentity → ℕ
stands_at i zero os = 0
stands_at i (suc n) os = if before (identity_of (get_or os 0 no_owner)) i then suc (stands_at i n (drop 1 os)) else 0

pub record Stands (s : RecoveredRaftStorage) (i : Identity) (p : ℕ) : Type 0 where
  pub low : (j : ℕ) → j < p → before (id_of (head_at s j)) i ≡ true
  pub within : p ≤ s.held
  pub stop : p < s.held → before (id_of (head_at s p)) i ≡ false
