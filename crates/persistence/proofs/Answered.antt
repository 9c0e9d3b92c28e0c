-- The answer to a batch is the definition's.
-- Assumes nothing.
use Rattle.std.specs.Prelude.{Option, None, Some, Result, Ok, Err}
use mathlib.Core.Path.{◌≡◌, refl, sym, ap, subst, ◌∙◌}
use mathlib.Core.Bool.{false, true≢false}
use mathlib.Core.Logic.{inl, inr}
use mathlib.Core.List.{List, [], ◌∷◌, ◌++◌, append_assoc, map-append}
use Prim.Native.Nat.{ℕ}
use Rattle.definition.specs.Records as D
use Rattle.definition.specs.Log.{Log}
use Rattle.definition.specs.Recovery.{replica_of}
use Rattle.definition.specs.Batch as M
use Rattle.definition.proofs.Laws.{none_some}
use Rattle.definition.proofs.Prepared as R
use Rattle.definition.proofs.Prepared.{prepare_sound, prepare_unsound}
use Rattle.ids.specs.declared.RaftReplicaIdentity.{RaftReplicaIdentity}
use Rattle.ids.specs.declared.Refusal.{Refusal}
use Rattle.ids.specs.declared.Refusal.TheVariants as W
use Rattle.ids.specs.Identity.{identity_of}
use Rattle.ids.specs.Refusal.{number_of, checked_of}
use Rattle.persistence.specs.declared.PreparedRecord.{PreparedRecord}
use Rattle.codec.specs.Records.{body_of, maybe_pointer_of, maybe_hard_state_of}
use Rattle.storage.specs.declared.RecoveredRaftStorage.{RecoveredRaftStorage}
use Rattle.storage.specs.Meaning.{meaning, recovery_of}
use Rattle.readers.specs.declared.Own.{Own}
use Rattle.std.specs.Result.{IsErrAnd}
use Rattle.std.proofs.lemmas.Result.{err_from_is_err_and}
use Rattle.soundness.specs.Sound.{sound_test}
use Rattle.readers.specs.declared.SoundStorage.{SoundStorage}
use Rattle.readers.specs.Sound.{opened_of, opens}
use Rattle.readers.proofs.Sound.{Parts, refused_parts, opened_is}
use Rattle.readers.proofs.Owns.{Owns}
use Rattle.arrayvec.specs.ArrayVec.{ArrayVec}
use Rattle.batches.specs.declared.BatchEntry.{BatchEntry}
use Rattle.batches.specs.declared.RaftPersistenceBatch.{RaftPersistenceBatch}
use Rattle.batches.specs.Meaning.{entries_of, batch_of}
use Rattle.persistence.specs.declared.TriedBatch.{TriedBatch}
use Rattle.preview.specs.Preview.{Ran}
use Rattle.persistence.specs.Prepares.{Prepares}
use Rattle.persistence.specs.Tries.{ran_of, tried_on, TriedReached}
use Rattle.persistence.specs.Answer.{pointer_records, hard_state_records, entry_record, entry_records, records_in, answer_with, bodies_of, answer_of, said_by, bodies_in, PreparesBatch}
use Rattle.persistence.proofs.Tried.{tried}
use Rattle.codec.specs.declared.HardState.{HardState}
use Rattle.codec.specs.declared.RaftSnapshotPointerRecord.{RaftSnapshotPointerRecord}

-- The records mean the definition's.
entries_mean : (lent : List ℕ) (d : RaftReplicaIdentity) (es : List BatchEntry) → bodies_of lent (entry_records d es) ≡ said_by (R.entry_records (identity_of d) (entries_of es lent))
unfolding entries_of
entries_mean lent d [] = refl
entries_mean lent d (e ∷ es) = ap (λ (l : List D.Body). body_of (entry_record d e).body lent ∷ l) (entries_mean lent d es)

pointer_means : (lent : List ℕ) (s : Option RaftSnapshotPointerRecord) → bodies_of lent (pointer_records s) ≡ said_by (R.pointer_records (maybe_pointer_of s))
pointer_means lent None = refl
pointer_means lent (Some p) = refl

hard_state_means : (lent : List ℕ) (d : RaftReplicaIdentity) (h : Option HardState) → bodies_of lent (hard_state_records d h) ≡ said_by (R.hard_state_records (identity_of d) (maybe_hard_state_of h))
hard_state_means lent d None = refl
hard_state_means lent d (Some h) = refl

module _ (d : RaftReplicaIdentity) (b : RaftPersistenceBatch) (lent : List ℕ) where
  abbrev means : PreparedRecord → D.Body
  means r = body_of r.body lent

  abbrev says : D.Identity × D.Kind → D.Body
  says x = D.raft x.0 x.1

  abbrev own : List PreparedRecord
  own = entry_records d b.entries.now

  pub records_mean : bodies_of lent (records_in d b) ≡ said_by (R.batch_records (identity_of d) (batch_of b lent))
  unfolding records_in
  records_mean =
      ap (bodies_of lent) (append_assoc (pointer_records b.snapshot) own (hard_state_records d b.hard_state))
      ∙ map-append means (pointer_records b.snapshot) (own ++ hard_state_records d b.hard_state)
      ∙ ap (λ (x : List D.Body). bodies_of lent (pointer_records b.snapshot) ++ x) (map-append means own (hard_state_records d b.hard_state))
      ∙ (λ x. pointer_means lent b.snapshot x ++ (entries_mean lent d b.entries.now x ++ hard_state_means lent d b.hard_state x))
      ∙ ap (λ (x : List D.Body). said_by (R.pointer_records (maybe_pointer_of b.snapshot)) ++ x)
      (sym (map-append says (R.entry_records (identity_of d) (entries_of b.entries.now lent)) (R.hard_state_records (identity_of d) (maybe_hard_state_of b.hard_state))))
      ∙ sym (map-append says (R.pointer_records (maybe_pointer_of b.snapshot)) (R.later_records (identity_of d) (batch_of b lent)))

-- What the preparation says, where it is refused and where it is not.
refusal_says : {x : Ran} {whole : Result M.Preview ℕ} {n : ℕ} → Prepares x whole → x.refused ≡ Some n → whole ≡ Err n
refusal_says {n = n} (inl a) e = a.says ∙ ap Err (let z : a.number ≡ n = cc (sym a.refused ∙ e) in z)
refusal_says (inr a) e = absurd (none_some (sym a.refused ∙ e))

ready_says : {x : Ran} (i : D.Identity) (b : M.Batch) (was : Log ℕ) → Prepares x (M.prepare_on i b was) → x.refused ≡ None
    → bodies_in (M.prepare_on i b was) ≡ Ok (said_by (R.batch_records i b))
ready_says i b was (inl a) e = absurd (none_some (sym e ∙ a.refused))
ready_says i b was (inr a) e = ap bodies_in a.says ∙ ap (λ (y : M.Prepared). Ok (said_by y)) (R.take_apart i b was a.next a.says).records

module _ {s : RecoveredRaftStorage} {st : List ℕ} {d : RaftReplicaIdentity} (b : RaftPersistenceBatch) (lent : List ℕ) where
  answers_unsound : sound_test s st ≡ false → PreparesBatch s st d b lent (Err W.Unsound)
  unfolding answer_of
  answers_unsound t =
      record {
        means = λ u. absurd (true≢false (sym u ∙ t));
        refused = λ u. refl;
        unsound = λ u. sym (ap bodies_in (prepare_unsound (recovery_of s st) (identity_of d) (batch_of b lent) u));
        places = refl;
      }

  module _ {r : Result SoundStorage Refusal} (e : opened_of r ≡ opens s st) where
    -- Not sound.
    pub unsound_refused : {w : Refusal} → r ≡ Err w → (q : Result (ArrayVec PreparedRecord) Refusal) → IsErrAnd q (λ v. v ≡ w) → PreparesBatch s st d b lent q
    unsound_refused o q a =
        let p = err_from_is_err_and q a in
        let k = refused_parts s st e o in
        subst (PreparesBatch s st d b lent) (sym (p.1 ∙ ap Err (p.2 ∙ k.1))) (answers_unsound k.0)

    -- Sound: what the tested ones answer.
    pub sound_prepared : {h : SoundStorage} → r ≡ Ok h → {q : Result (ArrayVec PreparedRecord) Refusal} → PreparesBatch h.state.now h.store.now d b lent q → PreparesBatch s st d b lent q
    sound_prepared o {q = q} k = opened_is e o (λ (p : Parts). PreparesBatch p.0 p.1 d b lent q) k

  -- Sound, and tried.
  module _ {o : Own} (w : Owns s st d o) (reached : TriedReached s st d b lent o) where
    abbrev ran : Ran
    ran = tried_on s st d b lent o

    abbrev whole : Result M.Preview ℕ
    whole = M.prepare_on (identity_of d) (batch_of b lent) (replica_of (identity_of d) (meaning s st))

    sound_answer : (r : Result (ArrayVec PreparedRecord) Refusal) → answer_of lent r ≡ bodies_in whole → r ≡ answer_with r d b → PreparesBatch s st d b lent r
    sound_answer r e p =
        record {
          means = λ u. e ∙ sym (ap bodies_in (prepare_sound (recovery_of s st) (identity_of d) (batch_of b lent) w.whole));
          refused = λ u. absurd (true≢false (sym w.test ∙ u));
          unsound = λ u. absurd (true≢false (sym w.whole ∙ u));
          places = p;
        }

    pub answers_refused : (why : Refusal) → ran.refused ≡ Some (number_of why) → PreparesBatch s st d b lent (Err why)
    unfolding answer_of
    answers_refused why q = sound_answer (Err why) (sym (ap bodies_in (refusal_says (tried w b lent reached) q))) refl

    pub answers_ready : (l : ArrayVec PreparedRecord) → ran.refused ≡ None → l.items ≡ records_in d b → PreparesBatch s st d b lent (Ok l)
    unfolding answer_of
    answers_ready l q e =
        sound_answer (Ok l) (ap (λ (x : List PreparedRecord). Ok (bodies_of lent x)) e ∙ ap Ok (records_mean d b lent) ∙ sym (ready_says (identity_of d) (batch_of b lent) (replica_of (identity_of d) (meaning s st)) (tried w b lent reached) q))
        (ap (λ (x : List PreparedRecord). Ok (record { items = x })) e)

-- What was tried is told by the answer.
pub told_refused : (r : TriedBatch) (x : Ran) (a : Result (Unit {0}) Refusal) → ran_of r x.bytes ≡ x → r.answer ≡ a → x.refused ≡ checked_of a
told_refused r x a e q = sym (ap (λ (y : Ran). y.refused) e) ∙ ap checked_of q
