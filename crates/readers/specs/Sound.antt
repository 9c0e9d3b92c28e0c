-- A sound state and its store: where they are opened, and what they mean.
-- Assumes nothing.
use Rattle.std.specs.Prelude.{List, ℕ, if◌then◌else◌, Result, Ok, Err}
use Rattle.definition.specs.Log.{Log}
use Rattle.definition.specs.Recovery.{State, replica_of}
use Rattle.ids.specs.Identity.{identity_of}
use Rattle.ids.specs.declared.Refusal.{Refusal}
use Rattle.ids.specs.declared.Refusal.TheVariants as W
use Rattle.ids.specs.declared.RaftReplicaIdentity.{RaftReplicaIdentity}
use Rattle.storage.specs.declared.RecoveredRaftStorage.{RecoveredRaftStorage}
use Rattle.storage.specs.Meaning.{meaning}
use Rattle.soundness.specs.Sound.{sound_test}
use Rattle.readers.specs.declared.SoundStorage.{SoundStorage}

-- The state and the store that are held, or the refusal.
abbrev pub opened_of : Result SoundStorage Refusal → Result (RecoveredRaftStorage × List ℕ) Refusal
opened_of (Ok h) = Ok (h.state.now, h.store.now)
opened_of (Err w) = Err w

abbrev pub opens : RecoveredRaftStorage → List ℕ → Result (RecoveredRaftStorage × List ℕ) Refusal
opens s st = if sound_test s st then Ok (s, st) else Err W.Unsound

abbrev pub state_in : SoundStorage → State
state_in h = meaning h.state.now h.store.now

-- What is held of a replica.
abbrev pub log_for : SoundStorage → RaftReplicaIdentity → Log ℕ
log_for h i = replica_of (identity_of i) (state_in h)
