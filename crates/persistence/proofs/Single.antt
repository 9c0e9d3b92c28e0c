-- The contract of prepare_batch leaves one answer for each input.
-- Assumes nothing.
use Rattle.std.specs.Prelude.{Result, Ok, Err}
use mathlib.Core.Path.{◌≡◌, refl, sym, ap, ◌∙◌}
use mathlib.Core.Bool.{Bool, true, false}
use mathlib.Core.List.{List}
use Prim.Native.Nat.{ℕ}
use Rattle.arrayvec.specs.ArrayVec.{ArrayVec}
use Rattle.ids.specs.declared.RaftReplicaIdentity.{RaftReplicaIdentity}
use Rattle.ids.specs.declared.Refusal.{Refusal}
use Rattle.ids.specs.Refusal.{number_of}
use Rattle.ids.proofs.Numbers.{number_of_injective}
use Rattle.storage.specs.declared.RecoveredRaftStorage.{RecoveredRaftStorage}
use Rattle.soundness.specs.Sound.{sound_test}
use Rattle.batches.specs.declared.RaftPersistenceBatch.{RaftPersistenceBatch}
use Rattle.persistence.specs.declared.PreparedRecord.{PreparedRecord}
use Rattle.persistence.specs.Answer.{answer_with, answer_of, PreparesBatch}

-- Two answers that mean the same are one, where their records are the batch's.
told : (d : RaftReplicaIdentity) (b : RaftPersistenceBatch) (lent : List ℕ) (r r' : Result (ArrayVec PreparedRecord) Refusal) → answer_of lent r ≡ answer_of lent r' → answer_with r d b ≡ answer_with r' d b
unfolding answer_of
told d b lent (Ok l) (Ok l') e = refl
told d b lent (Ok l) (Err w) e = cc
told d b lent (Err v) (Ok l') e = cc
told d b lent (Err v) (Err w) e = let n : number_of v ≡ number_of w = cc in ap Err (number_of_injective v w n)

module _ {s : RecoveredRaftStorage} {st : List ℕ} {d : RaftReplicaIdentity} {b : RaftPersistenceBatch} {lent : List ℕ} (r r' : Result (ArrayVec PreparedRecord) Refusal)
    (k : PreparesBatch s st d b lent r) (k' : PreparesBatch s st d b lent r') where
  same_meaning : (t : Bool) → sound_test s st ≡ t → answer_of lent r ≡ answer_of lent r'
  same_meaning true e = k.means e ∙ sym (k'.means e)
  same_meaning false e = k.refused e ∙ sym (k'.refused e)

  pub one_answer : r ≡ r'
  one_answer = k.places ∙ told d b lent r r' (same_meaning (sound_test s st) refl) ∙ sym k'.places
