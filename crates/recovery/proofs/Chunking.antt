-- The turns of observing a chunk: each keeps what the loop says, or ends it as the contract says.
-- Assumes nothing.
use Rattle.std.specs.Prelude.{None, Result, Ok, Err}
use Rattle.std.specs.Result.{is_err}
use mathlib.Core.Path.{◌≡◌, refl, sym}
use mathlib.Core.Bool.{true, false, true≢false}
use mathlib.Core.List.{List}
use Prim.Native.Nat.{ℕ, ◌+◌, ◌<◌, ◌≤◌}
use lib.ListN.{length, get_or}
use Rattle.definition.specs.Log as D
use Rattle.definition.specs.Recovery.{out, observe, refusal_of}
use Rattle.definition.specs.Two.{fits}
use Rattle.ids.specs.declared.Refusal.{Refusal}
use Rattle.ids.specs.Refusal.{number_of}
use Rattle.codec.specs.declared.WalRecord.{WalRecord}
use Rattle.codec.specs.Records.{record_of}
use Rattle.replay.specs.declared.Observation.{Observation}
use Rattle.replay.specs.declared.Observation.TheVariants as O
use Rattle.replay.specs.Plan.{answer_of}
use Rattle.storage.specs.declared.RecoveredRaftStorage.{RecoveredRaftStorage}
use Rattle.storage.specs.Meaning.{recovery_of}
use Rattle.routing.specs.Observe.{Stepped, stepped}
use Rattle.soundness.specs.Sound.{sound_test}
use Rattle.recovery.specs.Runs.{Runs}
use Rattle.routing.specs.Admits.{index_in}
use Rattle.routing.proofs.Ready.{Ready, test_ready}
use Rattle.recovery.proofs.Running.{Running, running_start, running_takes, running_refused, running_end}
use Rattle.recovery.proofs.Turn.{fits_record}
use Rattle.recovery.proofs.One.{step_means, step_ready}

-- i records were taken, all accepted; t and u are the state and the store then, a the last answer.
pub record Chunking (s : RecoveredRaftStorage) (st : List ℕ) (rs : List WalRecord) (lent : List ℕ) (t : RecoveredRaftStorage) (u : List ℕ) (a : D.Answer) (i : ℕ) : Type 0 where
  pub eight : length s.heads ≡ 8
  pub all : length s.entries ≡ 512
  pub sound : sound_test s st ≡ true
  pub running : Running s st rs lent t u a i
  pub accepted : refusal_of a ≡ None

pub chunk_start : (s : RecoveredRaftStorage) (st : List ℕ) (rs : List WalRecord) (lent : List ℕ) → length s.heads ≡ 8 → length s.entries ≡ 512 → sound_test s st ≡ true
    → Chunking s st rs lent s st D.counted 0
chunk_start s st rs lent eight all f =
    record { eight = eight; all = all; sound = f; running = running_start s st rs lent (test_ready s st eight all f); accepted = refl }

-- An answer that is a refusal, and one that is none.
refused_answer : (b : Result Observation Refusal) → true ≡ is_err b → (n : ℕ) × (answer_of b ≡ D.refused n)
refused_answer (Ok v) e = absurd (true≢false e)
refused_answer (Err w) e = (number_of w, refl)

pub not_refused : (b : Result Observation Refusal) → false ≡ is_err b → refusal_of (answer_of b) ≡ None
not_refused (Ok O.Counted) e = refl
not_refused (Ok O.Appended) e = refl
not_refused (Ok O.IdempotentReplay) e = refl
not_refused (Ok (O.ReplacedSuffix r)) e = refl
not_refused (Ok O.HardStateKept) e = refl
not_refused (Ok (O.PointerKept n)) e = refl
not_refused (Err w) e = absurd (true≢false (sym e))

module _ (s : RecoveredRaftStorage) (st : List ℕ) (rs : List WalRecord) (lent : List ℕ) (t : RecoveredRaftStorage) (u : List ℕ) (b : Result Observation Refusal) (i : ℕ) (k : Chunking s st rs lent t u (answer_of b) i) where
  pub chunk_end : length rs ≤ i → Runs s st rs lent (record { taken = i; answer = b; state = t }) u
  chunk_end l = running_end s st rs lent k.eight k.all k.sound t u (answer_of b) i k.running l k.accepted (record { taken = i; answer = b; state = t }) u refl

  -- The record at i, and what its step leaves.
  module _ (lt : i < length rs) (z : WalRecord) (b' : Result Observation Refusal) (t' : RecoveredRaftStorage) (u' : List ℕ) (m : index_in (get_or rs i z).body < 18446744073709551616) (x : stepped t u (get_or rs i z) lent ≡ record { answer = answer_of b'; state = t'; store = u' }) where
    abbrev r : WalRecord
    r = get_or rs i z

    abbrev next : Stepped
    next = record { answer = answer_of b'; state = t'; store = u' }

    means : observe (recovery_of t u) (record_of r lent) ≡ out (answer_of b') (recovery_of t' u')
    means = step_means t u r lent k.running.ready b' t' u' m x

    ready : Ready t' u'
    ready = step_ready t u r lent k.running.ready b' t' u' m x

    machine : fits (record_of r lent) ≡ true
    machine = fits_record r lent m

    pub chunk_takes : false ≡ is_err b' → Chunking s st rs lent t' u' (answer_of b') (i + 1)
    chunk_takes e =
        record {
          eight = k.eight;
          all = k.all;
          sound = k.sound;
          running = running_takes s st rs lent t u (answer_of b) i k.running z r lt refl next x means machine (not_refused b' e) ready;
          accepted = not_refused b' e;
        }

    pub chunk_refused : true ≡ is_err b' → Runs s st rs lent (record { taken = i; answer = b'; state = t' }) u'
    chunk_refused e =
        let y = refused_answer b' e in
        running_refused s st rs lent t u (answer_of b) i k.running z r lt refl next x means machine k.eight k.all k.sound y.0 y.1 ready
        (record { taken = i; answer = b'; state = t' }) u' refl
