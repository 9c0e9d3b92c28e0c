-- What prepare_batch answers to a batch by its parts, whose entries are a lent list.
-- Assumes nothing.
use Rattle.std.specs.Prelude.{◌≡◌, true, false, List, ◌++◌, ℕ, Option, Result, Ok, Err}
use Rattle.definition.specs.Recovery.{sound}
use Rattle.definition.specs.Batch as M
use Rattle.arrayvec.specs.ArrayVec.{ArrayVec}
use Rattle.ids.specs.declared.RaftReplicaIdentity.{RaftReplicaIdentity}
use Rattle.ids.specs.Identity.{identity_of}
use Rattle.codec.specs.Records.{maybe_hard_state_of, maybe_pointer_of}
use Rattle.storage.specs.declared.RecoveredRaftStorage.{RecoveredRaftStorage}
use Rattle.storage.specs.Meaning.{recovery_of}
use Rattle.soundness.specs.Sound.{sound_test}
use Rattle.batches.specs.declared.BatchEntry.{BatchEntry}
use Rattle.batches.specs.Meaning.{entries_of}
use Rattle.persistence.specs.declared.PreparedRecord.{PreparedRecord}
use Rattle.persistence.specs.Answer.{pointer_records, entry_records, hard_state_records, answer_of, bodies_in}
use Rattle.codec.specs.declared.HardState.{HardState}
use Rattle.codec.specs.declared.RaftSnapshotPointerRecord.{RaftSnapshotPointerRecord}
use Rattle.ids.specs.declared.Refusal.{Refusal}

abbrev pub batch_over : Option RaftSnapshotPointerRecord → List BatchEntry → Option HardState → List ℕ → M.Batch
batch_over snapshot es hard lent =
    record { snapshot = maybe_pointer_of snapshot; entries = entries_of es lent; hard_state = maybe_hard_state_of hard }

-- The records of the batch: the pointer as it came, each entry and the hard state with the identity and version 1.
unfoldable pub records_over : RaftReplicaIdentity → Option RaftSnapshotPointerRecord → List BatchEntry → Option HardState → List PreparedRecord
records_over d snapshot es hard = (pointer_records snapshot ++ entry_records d es) ++ hard_state_records d hard

-- The answer, by what it says.
abbrev pub answer_over : Result (ArrayVec PreparedRecord) Refusal → RaftReplicaIdentity → Option RaftSnapshotPointerRecord → List BatchEntry → Option HardState
    → Result (ArrayVec PreparedRecord) Refusal
answer_over (Ok l) d snapshot es hard = Ok (record { items = records_over d snapshot es hard })
answer_over (Err why) d snapshot es hard = Err why

pub record PreparesList (s : RecoveredRaftStorage) (st : List ℕ) (d : RaftReplicaIdentity) (snapshot : Option RaftSnapshotPointerRecord) (es : List BatchEntry) (hard : Option HardState) (lent : List ℕ)
    (r : Result (ArrayVec PreparedRecord) Refusal) : Type 0 where
  -- where state and store are sound: the definition's
  pub means : sound_test s st ≡ true → answer_of lent r ≡ bodies_in (M.prepare (recovery_of s st) (identity_of d) (batch_over snapshot es hard lent))
  -- where they are not: refused by 1
  pub refused : sound_test s st ≡ false → answer_of lent r ≡ Err 1
  -- what means no sound state is among these: the definition refuses it too
  pub unsound : sound (recovery_of s st) ≡ false → answer_of lent r ≡ bodies_in (M.prepare (recovery_of s st) (identity_of d) (batch_over snapshot es hard lent))
  -- every record of the answer
  pub places : r ≡ answer_over r d snapshot es hard
