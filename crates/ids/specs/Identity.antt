-- What an identity of the code means.
-- Assumes nothing.
use Rattle.definition.specs.Records.{Identity}
use Rattle.ids.specs.declared.RaftReplicaIdentity.{RaftReplicaIdentity}

abbrev pub identity_of : RaftReplicaIdentity → Identity
identity_of i = record { group = i.raft_group_id.0; replica = i.replica_id.0 }
