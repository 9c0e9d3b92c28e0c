-- A chunk of records more, without a refusal.
-- Assumes nothing.
use Rattle.std.specs.Prelude.{None, Result, Ok, Err}
use mathlib.Core.Path.{◌≡◌, refl, sym, ap, subst, ◌∙◌}
use mathlib.Core.Bool.{true}
use mathlib.Core.List.{List, [], ◌++◌}
use Prim.Native.Nat.{ℕ, ◌+◌, ◌≤◌, ◌<◌}
use native.Mathlib.Omega.{arith}
use lib.ListN.{length, take, length-append, length-map}
use lib.Seq.{take-length}
use Rattle.definition.specs.Table.{every, u64_max}
use Rattle.definition.specs.Records.{Record}
use Rattle.definition.specs.Recovery.{spent, Recovery, fresh, fresh_state, answers, observed, refusal_of, is_accepted}
use Rattle.definition.specs.Two.{fits}
use Rattle.definition.proofs.Laws.{and_i, every_append}
use Rattle.definition.proofs.Chunk.{Cut, cut, spent_all, answers_append, observed_append}
use Rattle.store.specs.Zeros.{zeros}
use Rattle.codec.specs.declared.WalRecord.{WalRecord}
use Rattle.codec.specs.Records.{record_of}
use Rattle.ids.specs.declared.Refusal.{Refusal}
use Rattle.replay.specs.declared.Observation.{Observation}
use Rattle.replay.specs.declared.Observation.TheVariants as O
use Rattle.replay.specs.Plan.{answer_of}
use Rattle.storage.specs.declared.RecoveredRaftStorage.{RecoveredRaftStorage}
use Rattle.storage.specs.Model.{fresh_storage}
use Rattle.storage.specs.Meaning.{recovery_of}
use Rattle.soundness.specs.Sound.{sound_test}
use Rattle.soundness.proofs.Fresh.{fresh_recovery, fresh_test}
use Rattle.routing.specs.Observe.{journal_of}
use Rattle.recovery.specs.declared.observing.ObservedChunk.{ObservedChunk}
use Rattle.recovery.specs.Runs.{chunk_of, Runs}
use Rattle.recovery.proofs.Program.{scanned, observed_scanned, counted, count_is}
use Rattle.journal.specs.Recovered.{Follows}

pub follows_none : (st : List ℕ) → st ≡ zeros 32768 → Follows 0 fresh_storage st
unfolding answers observed
follows_none st e =
    record {
      records = [];
      count = refl;
      machine = refl;
      accepted = refl;
      left = ap (recovery_of fresh_storage) e ∙ fresh_recovery;
      sound = ap (sound_test fresh_storage) e ∙ fresh_test;
    }

-- An answer that is no refusal.
pub accepted_answer : (a : Result Observation Refusal) → ((w : Refusal) → a ≡ Err w → ⊥) → refusal_of (answer_of a) ≡ None
accepted_answer (Ok O.Counted) f = refl
accepted_answer (Ok O.Appended) f = refl
accepted_answer (Ok O.IdempotentReplay) f = refl
accepted_answer (Ok (O.ReplacedSuffix r)) f = refl
accepted_answer (Ok O.HardStateKept) f = refl
accepted_answer (Ok (O.PointerKept n)) f = refl
accepted_answer (Err w) f = absurd (f w refl)

module _ (n : ℕ) (s : RecoveredRaftStorage) (st : List ℕ) (k : Follows n s st) (ws : List WalRecord) (lent : List ℕ) (d : ObservedChunk) (st' : List ℕ)
    (r : Runs s st ws lent d st') (e : refusal_of (answer_of d.answer) ≡ None)
  where
    abbrev w : Recovery
    w = recovery_of s st

    abbrev xs : List Record
    xs = journal_of ws lent

    whole : Cut w xs (chunk_of d st')
    whole = subst (Cut w xs) (r.means k.sound) (cut w xs)

    all : take (spent (chunk_of d st')) xs ≡ xs
    all = spent_all w xs (chunk_of d st') whole e

    abbrev more : List Record
    more = k.records ++ xs

    left_is : recovery_of d.state st' ≡ observed fresh more
    left_is =
        whole.left
        ∙ ap (observed w) all
        ∙ ap (λ (v : Recovery). observed v xs) k.left
        ∙ sym (observed_append fresh k.records xs)

    answered : answers fresh more ≡ answers fresh k.records ++ answers w xs
    answered =
        answers_append fresh k.records xs
        ∙ ap (λ (v : Recovery). answers fresh k.records ++ answers v xs) (sym k.left)

    taken : take d.taken xs ≡ xs
    taken = ap (λ (m : ℕ). take m xs) (whole.all e) ∙ take-length xs

    accepted : every is_accepted (answers w xs) ≡ true
    accepted = sym (ap (λ (l : List Record). every is_accepted (answers w l)) taken) ∙ whole.accepted

    count_is_more : length more ≡ n + length ws
    count_is_more = length-append k.records xs ∙ (λ i. k.count i + length-map ws (λ x. record_of x lent) i)

    few : n + length ws < u64_max → d.state.scan.scanned_records < u64_max
    unfolding fresh fresh_state
    few l =
        let z : scanned fresh ≡ 0 = refl in
        let a : counted d.state ≡ scanned (observed fresh more) = count_is d.state st' (observed fresh more) left_is in
        let b : scanned (observed fresh more) ≤ scanned fresh + length more = observed_scanned fresh more in
        omega (arith, a, b, z, count_is_more)

    pub follows_more : n + length ws < u64_max → Follows (n + length ws) d.state st'
    follows_more l =
        record {
          records = more;
          count = count_is_more;
          machine =
              every_append fits k.records xs
              ∙ and_i (every fits k.records) (every fits xs) k.machine (sym (ap (every fits) all) ∙ r.machine k.sound);
          accepted =
              ap (every is_accepted) answered
              ∙ every_append is_accepted (answers fresh k.records) (answers w xs)
              ∙ and_i (every is_accepted (answers fresh k.records)) (every is_accepted (answers w xs)) k.accepted accepted;
          left = left_is;
          sound = r.stays k.sound (few l);
        }
