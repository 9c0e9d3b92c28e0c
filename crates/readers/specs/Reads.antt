-- What a reader answers, and what its answer means.
-- Assumes nothing.
use Rattle.std.specs.Prelude.{◌≡◌, true, false, List, [], ℕ, if◌then◌else◌, Option, None, Some, unwrap_or, option_map, Result, Ok, Err}
use Rattle.definition.specs.Table.{◌<?◌}
use Rattle.definition.specs.Records as D
use Rattle.definition.specs.Log.{Entry, Log, place, at}
use Rattle.definition.specs.Recovery.{Held, State, sound, ask, place_of, replica_of, replica_at, pad_to, command_bytes}
use Rattle.ids.specs.Identity.{identity_of}
use Rattle.ids.specs.Refusal.{result_of}
use Rattle.ids.specs.declared.RaftReplicaIdentity.{RaftReplicaIdentity}
use Rattle.codec.specs.Records.{change_of}
use Rattle.view.specs.declared.EntryPayload.{EntryPayload}
use Rattle.view.specs.declared.EntryPayload.TheVariants as Y
use Rattle.view.specs.declared.RecoveredRaftLogEntry.{RecoveredRaftLogEntry}
use Rattle.view.specs.Meaning.{cell_at, view_of, held_of}
use Rattle.storage.specs.declared.RecoveredRaftStorage.{RecoveredRaftStorage}
use Rattle.storage.specs.Model.{head_at, entries_in, bytes_in}
use Rattle.storage.specs.Meaning.{meaning, recovery_of}
use Rattle.soundness.specs.Sound.{sound_test}
use Rattle.readers.specs.Own.{own_in}
use Rattle.view.specs.declared.Header.{Header}
use Rattle.ids.specs.declared.Refusal.{Refusal}

-- A reader f of the definition, and the meaning r of what the code answers.
pub record Reads {A : Type 0} (s : RecoveredRaftStorage) (st : List ℕ) (f : State → A) (r : Result A ℕ) : Type 0 where
  -- where state and store are sound: the definition's
  pub means : sound_test s st ≡ true → ask f (recovery_of s st) ≡ r
  -- where they are not: refused by 1
  pub refused : sound_test s st ≡ false → r ≡ Err 1
  -- what means no sound state is among these: the definition refuses it too
  pub unsound : sound (recovery_of s st) ≡ false → ask f (recovery_of s st) ≡ r

-- A header, with the entries and the bytes of its place.
abbrev pub read_replica_of : RecoveredRaftStorage → List ℕ → ℕ → Result Header Refusal → Result (Log ℕ) ℕ
read_replica_of s st p = result_of (λ h. view_of h (entries_in s p) (bytes_in st p))

abbrev pub read_place_of : RecoveredRaftStorage → List ℕ → ℕ → Result (Option Header) Refusal → Result (Option (Held (Log ℕ))) ℕ
read_place_of s st p = result_of (option_map (λ h. held_of h (entries_in s p) (bytes_in st p)))

-- An entry, with the cell of its command: of n bytes the first n of the cell, and zeros past its end.
abbrev pub payload_with : EntryPayload → List ℕ → D.Payload
payload_with (Y.Normal n) cell = D.normal (D.inside (pad_to n cell))
payload_with (Y.Configuration kind version replica) cell = D.configuration (change_of kind) version replica.0

abbrev pub entry_with : RecoveredRaftLogEntry → List ℕ → Entry ℕ
entry_with e cell = record { term = e.term; payload = payload_with e.payload cell; lsn = e.lsn.0 }

abbrev pub read_entry_of : List ℕ → Result (Option RecoveredRaftLogEntry) Refusal → Result (Option (Entry ℕ)) ℕ
read_entry_of cell = result_of (option_map (λ e. entry_with e cell))

-- The cell at an entry place of a replica, and at an index. A replica that is not held has none: any will do.
abbrev pub place_in : RecoveredRaftStorage → List ℕ → D.Identity → ℕ
place_in s st i = unwrap_or (place_of i (meaning s st).replicas) 0

abbrev pub cell_in : RecoveredRaftStorage → List ℕ → D.Identity → ℕ → List ℕ
cell_in s st i q = cell_at (bytes_in st (place_in s st i)) q

abbrev pub cell_for : RecoveredRaftStorage → List ℕ → D.Identity → ℕ → List ℕ
cell_for s st i index = cell_in s st i (place (replica_of i (meaning s st)) index)

-- A pointer is kept with an identity that no meaning tells: a header is the one that stands at its replica's place.
pub record ReadsReplica (s : RecoveredRaftStorage) (st : List ℕ) (i : RaftReplicaIdentity) (r : Result Header Refusal) : Type 0 where
  pub reads : Reads s st (replica_of (identity_of i)) (read_replica_of s st (place_in s st (identity_of i)) r)
  pub own : sound_test s st ≡ true → r ≡ Ok (own_in s i (place_of (identity_of i) (meaning s st).replicas)).head

pub record ReadsPlace (s : RecoveredRaftStorage) (st : List ℕ) (p : ℕ) (r : Result (Option Header) Refusal) : Type 0 where
  pub reads : Reads s st (replica_at p) (read_place_of s st p r)
  pub own : sound_test s st ≡ true → r ≡ (if p <? s.held then Ok (Some (head_at s p)) else (Ok None))

-- The command of what is held at an index.
abbrev pub command_of : Option (Entry ℕ) → List ℕ
command_of None = []
command_of (Some e) = command_bytes e.payload

abbrev pub command_at : D.Identity → ℕ → State → List ℕ
command_at i index t = command_of (at (replica_of i t) index)

pub record Shows (s : RecoveredRaftStorage) (st : List ℕ) (i : D.Identity) (index : ℕ) (shown : List ℕ) : Type 0 where
  -- where state and store are sound: the definition's
  pub means : sound_test s st ≡ true → ask (command_at i index) (recovery_of s st) ≡ Ok shown
  -- where they are not: nothing
  pub nothing : sound_test s st ≡ false → shown ≡ []
  -- what means no sound state is among these: the definition refuses it by 1
  pub unsound : sound (recovery_of s st) ≡ false → ask (command_at i index) (recovery_of s st) ≡ Err 1
