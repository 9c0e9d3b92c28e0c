-- What finishing answers and leaves.
-- Assumes nothing.
use Rattle.std.specs.Prelude.{◌≡◌, true, false, cond, List, ℕ, Result, Ok, Err}
use Rattle.definition.specs.Log as D
use Rattle.definition.specs.Recovery.{out, sound, finish}
use Rattle.ids.specs.declared.Refusal.{Refusal}
use Rattle.ids.specs.declared.Refusal.TheVariants as R
use Rattle.ids.specs.Refusal.{number_of}
use Rattle.storage.specs.declared.RecoveredRaftStorage.{RecoveredRaftStorage}
use Rattle.finishing.specs.declared.Finished.{Finished}
use Rattle.storage.specs.Model.{finished_storage}
use Rattle.storage.specs.Meaning.{recovery_of}
use Rattle.soundness.specs.Sound.{sound_test}

-- What an answer says.
abbrev pub finished_of : Result (Unit {0}) Refusal → D.Answer
finished_of (Ok v) = D.finished
finished_of (Err why) = D.refused (number_of why)

-- Every held replica is finished.
abbrev pub finished_done : RecoveredRaftStorage → Finished
finished_done s = record { answer = (Ok tt); state = finished_storage s }

-- 1: what is not sound stays as it is.
abbrev pub unsound_done : RecoveredRaftStorage → Finished
unsound_done s = record { answer = Err R.Unsound; state = s }

pub record Finishes (s : RecoveredRaftStorage) (st : List ℕ) (d : Finished) : Type 0 where
  pub model : d ≡ cond (sound_test s st) (finished_done s) (unsound_done s)
  -- where state and store are sound: the definition's, and sound again
  pub means : sound_test s st ≡ true → finish (recovery_of s st) ≡ out (finished_of d.answer) (recovery_of d.state st)
  pub stays : sound_test s st ≡ true → sound_test d.state st ≡ true
  -- where they are not: refused, and nothing changed
  pub refused : sound_test s st ≡ false → d.answer ≡ Err R.Unsound
  pub kept : sound_test s st ≡ false → d.state ≡ s
  -- what means no sound state is among these: the definition refuses it by 1
  pub unsound : sound (recovery_of s st) ≡ false → finish (recovery_of s st) ≡ out (finished_of d.answer) (recovery_of d.state st)

-- "finishing a recovery twice equals finishing it once" (document 02, Q-5), sound or not: a second call, handed the state that the first
-- left and the same store, of which `finish` writes no byte, answers and leaves the same.
abbrev pub FinishesTwice : Type 0
FinishesTwice = (s : RecoveredRaftStorage) (st : List ℕ) (d e : Finished) → Finishes s st d → Finishes d.state st e → e ≡ d
