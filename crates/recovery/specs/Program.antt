-- Runs of calls: each call gets the state and store that the one before left, written by nobody else (demand 3).
-- Assumes nothing.
use Rattle.std.specs.Prelude.{◌≡◌, ◌<◌, true, List, [], ◌∷◌, ◌++◌, map, ℕ, length, take, None, Some}
use Rattle.definition.specs.Table.{present, every, u64_max}
use Rattle.definition.specs.Records.{Identity, Record}
use Rattle.definition.specs.Log as D
use Rattle.definition.specs.Recovery.{Recovery, lookup, answers, refusal_of, is_accepted}
use Rattle.definition.specs.Two.{Recoveries, Outcome, Agreement}
use Rattle.definition.specs.Healthy.{low_pointer, Guaranteed}
use Rattle.definition.specs.Commits.{WithinView}
use Rattle.store.specs.Zeros.{zeros}
use Rattle.codec.specs.declared.WalRecord.{WalRecord}
use Rattle.codec.specs.Records.{record_of}
use Rattle.replay.specs.Plan.{answer_of}
use Rattle.storage.specs.declared.RecoveredRaftStorage.{RecoveredRaftStorage}
use Rattle.storage.specs.Model.{fresh_storage}
use Rattle.storage.specs.Meaning.{meaning, recovery_of}
use Rattle.soundness.specs.Sound.{sound_test}
use Rattle.finishing.specs.declared.Finished.{Finished}
use Rattle.recovery.specs.declared.observing.ObservedChunk.{ObservedChunk}
use Rattle.recovery.specs.declared.observing.Observed.{Observed}
use Rattle.finishing.specs.Finishes.{finished_of, Finishes}
use Rattle.routing.specs.Observe.{last_answer, journal_of}
use Rattle.recovery.specs.Runs.{chunk_records, Runs, Observing}

-- A call, by what it was handed and what it left: one record, or a chunk.
pub data Call : Type 0 where
  one : WalRecord → List ℕ → Observed → List ℕ → Call
  chunk : List WalRecord → List ℕ → ObservedChunk → List ℕ → Call

-- Each call kept its contract, from s and st on.
abbrev pub Kept : RecoveredRaftStorage → List ℕ → List Call → Type 0
Kept s st [] = Unit {0}
Kept s st (one r lent d st₁ ∷ cs) = Observing s st r lent d st₁ × Kept d.state st₁ cs
Kept s st (chunk ws lent d st₁ ∷ cs) = Runs s st ws lent d st₁ × Kept d.state st₁ cs

-- The records that were observed: of a chunk those that it took, and the one that ended it.
abbrev pub records_of : List Call → List Record
records_of [] = []
records_of (one r lent d st₁ ∷ cs) = record_of r lent ∷ records_of cs
records_of (chunk ws lent d st₁ ∷ cs) = chunk_records ws lent d st₁ ++ records_of cs

-- The answers: a call of one record gives its answer; a chunk's records have the definition's, of which it tells what `ChunkTells` says.
abbrev pub answers_of : RecoveredRaftStorage → List ℕ → List Call → List D.Answer
answers_of s st [] = []
answers_of s st (one r lent d st₁ ∷ cs) = answer_of d.answer ∷ answers_of d.state st₁ cs
answers_of s st (chunk ws lent d st₁ ∷ cs) = answers (recovery_of s st) (chunk_records ws lent d st₁) ++ answers_of d.state st₁ cs

-- The state and the store that the last call left.
abbrev pub state_after_calls : RecoveredRaftStorage → List Call → RecoveredRaftStorage
state_after_calls s [] = s
state_after_calls s (one r lent d st₁ ∷ cs) = state_after_calls d.state cs
state_after_calls s (chunk ws lent d st₁ ∷ cs) = state_after_calls d.state cs

abbrev pub store_after_calls : List ℕ → List Call → List ℕ
store_after_calls st [] = st
store_after_calls st (one r lent d st₁ ∷ cs) = store_after_calls st₁ cs
store_after_calls st (chunk ws lent d st₁ ∷ cs) = store_after_calls st₁ cs

-- From a fresh state over a zeroed store, then finished.
pub record Recovers (cs : List Call) (d : Finished) : Type 0 where
  pub kept : Kept fresh_storage (zeros 32768) cs
  pub finishes : Finishes (state_after_calls fresh_storage cs) (store_after_calls (zeros 32768) cs) d

-- What a run comes to.
abbrev pub outcome_of : List Call → Finished → Outcome
outcome_of cs d =
    record {
      records = records_of cs;
      answered = answers_of fresh_storage (zeros 32768) cs;
      finishing = finished_of d.answer;
      replicas = (meaning d.state (store_after_calls (zeros 32768) cs)).replicas;
      store = store_after_calls (zeros 32768) cs;
    }

-- The claim on two recoveries (demand 3), of two runs of the program.
abbrev pub ProgramAgrees : Type 0
ProgramAgrees =
    (A B : List Call) (d e : Finished) → Recoveries (records_of A) (records_of B) → Recovers A d → Recovers B e
    → Agreement (outcome_of A d) (outcome_of B e)

-- What a chunk tells of its records' answers: how many were accepted, the refusal behind them if one ended it, and the last answer.
pub record Tells (w : Recovery) (ws : List WalRecord) (lent : List ℕ) (d : ObservedChunk) (st' : List ℕ) : Type 0 where
  pub accepted : every is_accepted (answers w (take d.taken (journal_of ws lent))) ≡ true
  pub ended :
      answers w (chunk_records ws lent d st') ≡ answers w (take d.taken (journal_of ws lent)) ++ map D.refused (present (refusal_of (answer_of d.answer)))
  pub whole : refusal_of (answer_of d.answer) ≡ None → d.taken ≡ length ws
  pub last : last_answer D.counted w (journal_of ws lent) ≡ answer_of d.answer

abbrev pub ChunkTells : Type 0
ChunkTells =
    (s : RecoveredRaftStorage) (st : List ℕ) (ws : List WalRecord) (lent : List ℕ) (d : ObservedChunk) (st' : List ℕ) → sound_test s st ≡ true
    → Runs s st ws lent d st'
    → Tells (recovery_of s st) ws lent d st'

-- Each replica of a run has a log of which P holds: after the last call, and after finishing.
pub record EachOfRun (cs : List Call) (d : Finished) (P : Identity → D.Log ℕ → Type 0) : Type 0 where
  pub after_the_last :
      (i : Identity) (log : D.Log ℕ) → lookup i (meaning (state_after_calls fresh_storage cs) (store_after_calls (zeros 32768) cs)).replicas ≡ Some log → P i log
  pub after_finishing : (i : Identity) (log : D.Log ℕ) → lookup i (meaning d.state (store_after_calls (zeros 32768) cs)).replicas ≡ Some log → P i log

-- What any healthy journal guarantees (document 02, Q-2), of a run of the program.
abbrev pub ProgramGuarantees : Type 0
ProgramGuarantees =
    (cs : List Call) (d : Finished) → length (records_of cs) < u64_max → every low_pointer (records_of cs) ≡ true
    → Recovers cs d → EachOfRun cs d (Guaranteed (records_of cs))

-- Of a replica's two commits the view's is the larger (document 02, Q-3), of a run of the program.
abbrev pub ProgramViewsIsLarger : Type 0
ProgramViewsIsLarger = (cs : List Call) (d : Finished) → length (records_of cs) < u64_max → Recovers cs d → EachOfRun cs d (λ i log. WithinView log)
