-- What `prepare_batch` says can be written and read back by `observe_records`, wherever the power is cut (document 02, Q-14): the claim
-- of definition's specs/ReadBack, of the program.
-- Assumes nothing.
use Rattle.std.specs.Prelude.{ℕ, ◌<◌, ◌≡◌, ◌⊎◌, true, List, map, length, take, None, Ok}
use Rattle.definition.specs.Table.{u64_max}
use Rattle.definition.specs.Records.{Identity}
use Rattle.definition.specs.Recovery.{finish, refusal_of}
use Rattle.definition.specs.Batch as M
use Rattle.definition.specs.ReadBack.{Admits, Left}
use Rattle.ids.specs.declared.RaftReplicaIdentity.{RaftReplicaIdentity}
use Rattle.ids.specs.Identity.{identity_of}
use Rattle.codec.specs.declared.WalRecord.{WalRecord}
use Rattle.codec.specs.Records.{body_of}
use Rattle.store.specs.Zeros.{zeros}
use Rattle.storage.specs.declared.RecoveredRaftStorage.{RecoveredRaftStorage}
use Rattle.storage.specs.Model.{fresh_storage}
use Rattle.storage.specs.Meaning.{meaning, recovery_of}
use Rattle.soundness.specs.Sound.{sound_test}
use Rattle.replay.specs.Plan.{answer_of}
use Rattle.finishing.specs.declared.Finished.{Finished}
use Rattle.finishing.specs.Finishes.{Finishes}
use Rattle.routing.specs.Observe.{journal_of}
use Rattle.recovery.specs.declared.observing.ObservedChunk.{ObservedChunk}
use Rattle.recovery.specs.Runs.{Runs}
use Rattle.recovery.specs.Program.{Call, Kept, records_of, state_after_calls, store_after_calls}
use Rattle.arrayvec.specs.ArrayVec.{ArrayVec}
use Rattle.batches.specs.declared.RaftPersistenceBatch.{RaftPersistenceBatch}
use Rattle.batches.specs.Meaning.{batch_of}
use Rattle.persistence.specs.declared.PreparedRecord.{PreparedRecord}
use Rattle.persistence.specs.Answer.{bodies_of, PreparesBatch}

-- A batch: whose it is, itself, and the bytes that its commands stand in.
pub record Asked : Type 0 where
  pub owner : RaftReplicaIdentity
  pub batch : RaftPersistenceBatch
  pub lent : List ℕ

abbrev pub owner_of : Asked → Identity
owner_of a = identity_of a.owner

abbrev pub batch_in : Asked → M.Batch
batch_in a = batch_of a.batch a.lent

-- Records read from a journal, with the bytes that their commands stand in, which need not be the batch's.
pub record Journal : Type 0 where
  pub records : List WalRecord
  pub lent : List ℕ

-- `prepare_batch` answered l, on a state and a store that mean what s and st mean, or when `finish` had been called on such.
pub data Prepared (s : RecoveredRaftStorage) (st : List ℕ) (a : Asked) (l : ArrayVec PreparedRecord) : Type 0 where
  unfinished :
      (p : RecoveredRaftStorage) (pst : List ℕ) → recovery_of p pst ≡ recovery_of s st → PreparesBatch p pst a.owner a.batch a.lent (Ok l)
      → Prepared s st a l
  finished :
      (p : RecoveredRaftStorage) (pst : List ℕ) (f : Finished) → recovery_of p pst ≡ recovery_of s st → Finishes p pst f
      → PreparesBatch f.state pst a.owner a.batch a.lent (Ok l)
      → Prepared s st a l

-- The journal j goes on with the first k records of the answer.
pub record Written (s : RecoveredRaftStorage) (st : List ℕ) (a : Asked) (l : ArrayVec PreparedRecord) (k : ℕ) (j : Journal) : Type 0 where
  pub accepted : Prepared s st a l
  pub admitted : Admits (recovery_of s st) (owner_of a) (batch_in a) (journal_of j.records j.lent)
  pub first_k : map (λ r. body_of r.body j.lent) j.records ≡ take k (bodies_of a.lent l.items)

-- `observe_records` answers c and leaves the store st': all are accepted, and what is left is as the definition's `Left` says of the
-- batch's preview.
pub record ReadsBack (s : RecoveredRaftStorage) (st : List ℕ) (a : Asked) (l : ArrayVec PreparedRecord) (k : ℕ) (j : Journal)
    (c : ObservedChunk) (st' : List ℕ)
    : Type 0 where
  pub taken : c.taken ≡ length j.records
  pub accepted : refusal_of (answer_of c.answer) ≡ None
  pub preview : M.Preview
  pub comes :
      (M.prepare (recovery_of s st) (owner_of a) (batch_in a) ≡ Ok preview)
      ⊎ (M.prepare (finish (recovery_of s st)).next (owner_of a) (batch_in a) ≡ Ok preview)
  pub as_many : length l.items ≡ length preview.records
  pub left : Left (meaning s st) (meaning c.state st') (owner_of a) (batch_in a) preview k

-- On a state and a store that are sound ..
abbrev pub ProgramReadBack : Type 0
ProgramReadBack =
    (s : RecoveredRaftStorage) (st : List ℕ) (a : Asked) (l : ArrayVec PreparedRecord) (k : ℕ) (j : Journal) (c : ObservedChunk) (st' : List ℕ)
    → sound_test s st ≡ true → Written s st a l k j → Runs s st j.records j.lent c st'
    → ReadsBack s st a l k j c st'

-- .. such as calls leave that began with a fresh state and a zeroed store.
abbrev pub ProgramReadBackFromEmpty : Type 0
ProgramReadBackFromEmpty =
    (cs : List Call) → Kept fresh_storage (zeros 32768) cs → length (records_of cs) < u64_max
    → let s = state_after_calls fresh_storage cs in
    let st = store_after_calls (zeros 32768) cs in
    (a : Asked) (l : ArrayVec PreparedRecord) (k : ℕ) (j : Journal) (c : ObservedChunk) (st' : List ℕ)
    → Written s st a l k j → Runs s st j.records j.lent c st'
    → ReadsBack s st a l k j c st'
