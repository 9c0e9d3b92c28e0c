-- What prepare_batch answers, and what its answer means.
-- Assumes nothing.
use Rattle.ids.specs.Refusal.{result_of}
use Rattle.std.specs.Prelude.{◌≡◌, true, false, List, [], ◌∷◌, ◌++◌, map, ℕ, Option, None, Some, Result, Ok, Err}
use Rattle.definition.specs.Records as D
use Rattle.definition.specs.Recovery.{sound}
use Rattle.definition.specs.Batch as M
use Rattle.ids.specs.declared.RaftReplicaIdentity.{RaftReplicaIdentity}
use Rattle.ids.specs.declared.Refusal.{Refusal}
use Rattle.ids.specs.Identity.{identity_of}
use Rattle.codec.specs.declared.RaftWalRecord.{RaftWalRecord}
use Rattle.codec.specs.declared.RaftWalRecord.TheVariants as W
use Rattle.codec.specs.Records.{body_of}
use Rattle.storage.specs.declared.RecoveredRaftStorage.{RecoveredRaftStorage}
use Rattle.storage.specs.Meaning.{recovery_of}
use Rattle.soundness.specs.Sound.{sound_test}
use Rattle.arrayvec.specs.ArrayVec.{ArrayVec}
use Rattle.batches.specs.declared.BatchEntry.{BatchEntry}
use Rattle.batches.specs.declared.RaftPersistenceBatch.{RaftPersistenceBatch}
use Rattle.batches.specs.Meaning.{record_of, batch_of}
use Rattle.persistence.specs.declared.PreparedRecord.{PreparedRecord}
use Rattle.codec.specs.declared.HardState.{HardState}
use Rattle.codec.specs.declared.RaftSnapshotPointerRecord.{RaftSnapshotPointerRecord}

abbrev pub record_with : RaftWalRecord → PreparedRecord
record_with r = record { body = Some r }

-- The records of a batch: the pointer as it came, each entry and the hard state with the identity and version 1.
abbrev pub pointer_records : Option RaftSnapshotPointerRecord → List PreparedRecord
pointer_records None = []
pointer_records (Some p) = record_with (W.SnapshotPointer p) ∷ []

abbrev pub entry_record : RaftReplicaIdentity → BatchEntry → PreparedRecord
entry_record d e = record_with (W.Entry (record_of d e))

abbrev pub entry_records : RaftReplicaIdentity → List BatchEntry → List PreparedRecord
entry_records d es = map (entry_record d) es

abbrev pub hard_state_records : RaftReplicaIdentity → Option HardState → List PreparedRecord
hard_state_records d None = []
hard_state_records d (Some h) = record_with (W.HardState (record { format_version = 1; identity = d; hard_state = h })) ∷ []

unfoldable pub records_in : RaftReplicaIdentity → RaftPersistenceBatch → List PreparedRecord
records_in d b = (pointer_records b.snapshot ++ entry_records d b.entries.now) ++ hard_state_records d b.hard_state

-- The answer to a batch, by what it says.
abbrev pub answer_with : Result (ArrayVec PreparedRecord) Refusal → RaftReplicaIdentity → RaftPersistenceBatch → Result (ArrayVec PreparedRecord) Refusal
answer_with (Ok l) d b = Ok (record { items = records_in d b })
answer_with (Err why) d b = Err why

-- What an answer means, with the lent bytes: a refusal, or the records.
abbrev pub bodies_of : List ℕ → List PreparedRecord → List D.Body
bodies_of lent l = map (λ r. body_of r.body lent) l

unfoldable pub answer_of : List ℕ → Result (ArrayVec PreparedRecord) Refusal → Result (List D.Body) ℕ
answer_of lent r = result_of (λ l. bodies_of lent l.items) r

-- The definition's: its refusal, or its records.
abbrev pub said_by : M.Prepared → List D.Body
said_by l = map (λ x. D.raft x.0 x.1) l

abbrev pub bodies_in : Result M.Preview ℕ → Result (List D.Body) ℕ
bodies_in (Ok v) = Ok (said_by v.records)
bodies_in (Err n) = Err n

pub record PreparesBatch (s : RecoveredRaftStorage) (st : List ℕ) (d : RaftReplicaIdentity) (b : RaftPersistenceBatch) (lent : List ℕ) (r : Result (ArrayVec PreparedRecord) Refusal) : Type 0 where
  -- where state and store are sound: the definition's
  pub means : sound_test s st ≡ true → answer_of lent r ≡ bodies_in (M.prepare (recovery_of s st) (identity_of d) (batch_of b lent))
  -- where they are not: refused by 1
  pub refused : sound_test s st ≡ false → answer_of lent r ≡ Err 1
  -- what means no sound state is among these: the definition refuses it too
  pub unsound : sound (recovery_of s st) ≡ false → answer_of lent r ≡ bodies_in (M.prepare (recovery_of s st) (identity_of d) (batch_of b lent))
  -- every record of the answer
  pub places : r ≡ answer_with r d b
