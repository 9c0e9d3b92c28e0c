-- What observing answers and leaves.
-- Assumes nothing.
use Rattle.std.specs.Prelude.{◌≡◌, true, false, List, ℕ, ◌<◌, take}
use Rattle.definition.specs.Table.{every, u64_max}
use Rattle.definition.specs.Records.{Record}
use Rattle.definition.specs.Log as D
use Rattle.definition.specs.Recovery.{out, sound, observe, refusal_of, Chunk, spent, observe_until_refused}
use Rattle.definition.specs.Two.{fits}
use Rattle.codec.specs.declared.WalRecord.{WalRecord}
use Rattle.codec.specs.Records.{record_of}
use Rattle.replay.specs.Plan.{answer_of}
use Rattle.storage.specs.declared.RecoveredRaftStorage.{RecoveredRaftStorage}
use Rattle.storage.specs.Meaning.{recovery_of}
use Rattle.soundness.specs.Sound.{sound_test}
use Rattle.recovery.specs.declared.observing.ObservedChunk.{ObservedChunk}
use Rattle.recovery.specs.declared.observing.Observed.{Observed}
use Rattle.routing.specs.Observe.{Stepped, observed_of, Ran, run_of, last_answer, journal_of}

-- What the code's answers are, with the store that they leave.
abbrev pub ran_of : ObservedChunk → List ℕ → Ran
ran_of d st = record { taken = d.taken; answer = answer_of d.answer; state = d.state; store = st }

abbrev pub chunk_of : ObservedChunk → List ℕ → Chunk
chunk_of d st = record { taken = d.taken; ended = refusal_of (answer_of d.answer); left = recovery_of d.state st }

-- The records of a chunk that were observed.
abbrev pub chunk_records : List WalRecord → List ℕ → ObservedChunk → List ℕ → List Record
chunk_records rs lent d st' = take (spent (chunk_of d st')) (journal_of rs lent)

abbrev pub step_of : Observed → List ℕ → Stepped
step_of d st = record { answer = answer_of d.answer; state = d.state; store = st }

-- A chunk: its records in turn, until the first refusal.
pub record Runs (s : RecoveredRaftStorage) (st : List ℕ) (rs : List WalRecord) (lent : List ℕ) (d : ObservedChunk) (st' : List ℕ) : Type 0 where
  pub model : ran_of d st' ≡ run_of s st rs lent
  -- where state and store are sound: the definition's chunk, and its last answer
  pub means : sound_test s st ≡ true → observe_until_refused (recovery_of s st) (journal_of rs lent) ≡ chunk_of d st'
  pub last : sound_test s st ≡ true → last_answer D.counted (recovery_of s st) (journal_of rs lent) ≡ answer_of d.answer
  -- the records that were observed are a machine's, by their types
  pub machine : sound_test s st ≡ true → every fits (chunk_records rs lent d st') ≡ true
  -- and sound again, unless the count of scanned records is at its end
  pub stays : sound_test s st ≡ true → d.state.scan.scanned_records < u64_max → sound_test d.state st' ≡ true
  -- where they are not: refused by 1, and nothing changed; what means no sound state is among these
  pub refused : sound_test s st ≡ false → ran_of d st' ≡ record { taken = 0; answer = D.refused 1; state = s; store = st }
  pub unsound : sound (recovery_of s st) ≡ false → sound_test s st ≡ false

-- One record.
pub record Observing (s : RecoveredRaftStorage) (st : List ℕ) (r : WalRecord) (lent : List ℕ) (d : Observed) (st' : List ℕ) : Type 0 where
  pub model : step_of d st' ≡ observed_of s st r lent
  pub means : sound_test s st ≡ true → observe (recovery_of s st) (record_of r lent) ≡ out (answer_of d.answer) (recovery_of d.state st')
  pub machine : sound_test s st ≡ true → fits (record_of r lent) ≡ true
  pub stays : sound_test s st ≡ true → d.state.scan.scanned_records < u64_max → sound_test d.state st' ≡ true
  pub refused : sound_test s st ≡ false → step_of d st' ≡ record { answer = D.refused 1; state = s; store = st }
  pub unsound : sound (recovery_of s st) ≡ false → observe (recovery_of s st) (record_of r lent) ≡ out (answer_of d.answer) (recovery_of d.state st')
