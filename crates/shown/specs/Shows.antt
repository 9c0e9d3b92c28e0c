-- What is shown of a previewed index, and what it means.
-- Assumes nothing.
use Rattle.std.specs.Prelude.{◌≡◌, true, false, List, ℕ, ◌+◌, ◌*◌, min, length, get_or, Option, None, Some}
use Rattle.definition.specs.Recovery.{sound}
use Rattle.definition.specs.Batch as M
use Rattle.ids.specs.declared.RaftReplicaIdentity.{RaftReplicaIdentity}
use Rattle.ids.specs.Identity.{identity_of}
use Rattle.view.specs.declared.EntryPayload.{EntryPayload}
use Rattle.view.specs.declared.EntryPayload.TheVariants as Y
use Rattle.view.specs.Meaning.{no_entry}
use Rattle.view.specs.Readers.{place_of}
use Rattle.replay.specs.Plan.{look_of}
use Rattle.storage.specs.declared.RecoveredRaftStorage.{RecoveredRaftStorage}
use Rattle.storage.specs.Meaning.{recovery_of}
use Rattle.soundness.specs.Sound.{sound_test}
use Rattle.readers.specs.declared.Own.{Own}
use Rattle.batches.specs.declared.RaftPersistenceBatch.{RaftPersistenceBatch}
use Rattle.batches.specs.Meaning.{batch_of}
use Rattle.preview.specs.declared.Preview.{Preview}
use Rattle.shown.specs.declared.Shown.{Shown}
use Rattle.shown.specs.declared.Shown.TheVariants as S

abbrev pub shown_of : Option Shown → M.Shown
shown_of None = M.nothing
shown_of (Some (S.OfLog place len)) = M.of_log place len
shown_of (Some (S.OfBatch place len)) = M.of_batch place len

-- f of what is shown of an index, where a batch is tried on a state and its store: what the code answers is r.
pub record ShowsAt {A : Type 0} (s : RecoveredRaftStorage) (st : List ℕ) (i : RaftReplicaIdentity) (b : RaftPersistenceBatch) (lent : List ℕ) (index : ℕ) (f : M.Shown → A) (r : A) : Type 0 where
  -- where state and store are sound: the definition's
  pub means : sound_test s st ≡ true → r ≡ f (M.previewed_at (recovery_of s st) (identity_of i) (batch_of b lent) index)
  -- where they are not: nothing
  pub refused : sound_test s st ≡ false → r ≡ f M.nothing
  -- what means no sound state is among these: the definition shows nothing either
  pub unsound : sound (recovery_of s st) ≡ false → r ≡ f (M.previewed_at (recovery_of s st) (identity_of i) (batch_of b lent) index)

-- Where a part of some bytes begins, as far as they reach: an address is a block of memory and a place in it.
abbrev pub address_at : ℕ × ℕ → List ℕ → ℕ → ℕ × ℕ
address_at address bytes at = (address.0, address.1 + min at (length bytes))

-- Where what is shown begins: in the store, at its front where nothing is shown, or in the bytes lent with the batch.
abbrev pub shown_address : ℕ × ℕ → List ℕ → ℕ × ℕ → List ℕ → M.Shown → ℕ × ℕ
shown_address store st lent bytes M.nothing = store
shown_address store st lent bytes (M.of_log place len) = address_at store st place
shown_address store st lent bytes (M.of_batch place len) = address_at lent bytes place

-- The model. A command of the preview, by where the batch supplied the index and where the replica stands.
abbrev pub command_shown : Own → Option ℕ → ℕ → ℕ → Option Shown
command_shown o (Some first) n index = Some (S.OfBatch first n)
command_shown o None n index = Some (S.OfLog (4096 * o.place + 64 * look_of o.head index) n)

abbrev pub payload_shown : Own → Option ℕ → EntryPayload → ℕ → Option Shown
payload_shown o from (Y.Normal n) index = command_shown o from n index
payload_shown o from (Y.Configuration kind version replica) index = None

abbrev pub place_shown : Option ℕ → Option Shown → Option Shown
place_shown None x = None
place_shown (Some q) x = x

abbrev pub shown_by : Own → Preview → Option ℕ → ℕ → Option Shown
shown_by o p from index = place_shown (place_of p.head index) (payload_shown o from (get_or p.entries (look_of p.head index) no_entry).payload index)
